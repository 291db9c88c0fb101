pub mod Outcomes
pub mod Endings
pub mod Runs
pub mod Steps
