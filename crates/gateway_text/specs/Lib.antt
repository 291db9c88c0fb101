pub mod Tokens
pub mod Views
pub mod Rooms
pub mod Bare
pub mod Lengths
pub mod RangeParts
