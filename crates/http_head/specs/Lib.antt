pub mod Heads
pub mod Looks
pub mod Requests
