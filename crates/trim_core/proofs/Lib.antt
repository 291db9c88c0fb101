pub mod Stepping
pub mod Oldest
pub mod Fewer
