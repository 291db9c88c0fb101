pub mod Ends
pub mod Lines
pub mod Lives
pub mod Sets
pub mod Streams
pub mod Turns
