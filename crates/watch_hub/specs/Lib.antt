pub mod Hub
pub mod Guards
pub mod Entries
pub mod Views
pub mod Delivering
pub mod Messages
pub mod Walks
