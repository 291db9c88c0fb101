pub mod Pairs
pub mod Paged
