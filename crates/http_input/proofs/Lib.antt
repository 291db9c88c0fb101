pub mod Rooms
pub mod Taking
pub mod Told
pub mod Whole
