pub mod Swept
pub mod Walks
pub mod Ends
