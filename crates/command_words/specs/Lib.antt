pub mod Advice
pub mod Arguments
