pub mod Prefixes
pub mod Adding
pub mod Counting
pub mod Histories
pub mod Giving
pub mod Publishing
pub mod Raising
