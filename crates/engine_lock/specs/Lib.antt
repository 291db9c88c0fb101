pub mod Copied
pub mod Entering
pub mod Fits
pub mod Lending
pub mod Locked
pub mod Makings
pub mod Readings
pub mod Takings
