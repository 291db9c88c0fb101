pub mod Clocks
pub mod Growing
pub mod Writing
pub mod Leading
