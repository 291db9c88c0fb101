pub mod Shown
pub mod Best
