pub mod Seen
pub mod Walks
pub mod Faults
pub mod Standing
pub mod Making
pub mod Older
