pub mod Lengths
pub mod Objects
pub mod Responses
pub mod ResponseLengths
pub mod Rooms
pub mod Bare
pub mod RangeParts
