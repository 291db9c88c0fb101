pub mod Writing
pub mod State
pub mod Answers
pub mod Refusing
pub mod Commands
pub mod Apart
