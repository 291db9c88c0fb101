pub mod Reads
pub mod Sent
