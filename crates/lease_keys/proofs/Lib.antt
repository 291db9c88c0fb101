pub mod Sets
pub mod Pairs
pub mod Holding
pub mod Just
pub mod Live
