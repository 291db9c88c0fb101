pub mod Texts
pub mod Lines
pub mod Reading
pub mod Walking
pub mod Fields
pub mod Outcomes
