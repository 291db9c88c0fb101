pub mod Background
pub mod Closed
pub mod Ends
