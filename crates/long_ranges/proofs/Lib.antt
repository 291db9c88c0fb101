pub mod Keys
pub mod Wholes
pub mod Later
pub mod Answers
