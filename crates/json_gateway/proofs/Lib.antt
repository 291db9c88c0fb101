pub mod Accepted
pub mod Deliveries
pub mod Events
pub mod First
pub mod Keeps
pub mod Settling
pub mod Sinks
pub mod Trims
