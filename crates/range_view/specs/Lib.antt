pub mod Replies
pub mod Selecting
pub mod Stored
pub mod OneKey
