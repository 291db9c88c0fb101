pub mod Counts
pub mod Fronts
pub mod Replies
pub mod Sends
