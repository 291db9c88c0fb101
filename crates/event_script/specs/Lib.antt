pub mod Scripts
pub mod Taking
pub mod Notes
pub mod Leading
pub mod Writing
