pub mod Growing
pub mod Live
pub mod OneKey
pub mod Orders
pub mod Selecting
pub mod Sorting
pub mod Walking
pub mod TakingBack
