pub mod Fields
pub mod Parts
pub mod Extremes
pub mod Orders
pub mod Exchanging
pub mod Ranked
pub mod Listing
