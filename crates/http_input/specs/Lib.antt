pub mod Buffers
pub mod Inputs
pub mod Parts
pub mod Spares
