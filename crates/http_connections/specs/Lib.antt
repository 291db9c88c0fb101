pub mod Engines
pub mod Handing
pub mod Lines
