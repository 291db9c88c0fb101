pub mod Sweeping
pub mod Order
