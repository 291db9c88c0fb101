pub mod Readings
pub mod Rules
pub mod Logs
pub mod Seating
