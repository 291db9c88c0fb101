pub mod Fronts
pub mod Lines
pub mod Numbers
pub mod Reading
pub mod Writing
pub mod Verdicts
pub mod Orders
pub mod Played
