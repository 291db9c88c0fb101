pub mod KeyRevisions
pub mod Index
pub mod Agrees
pub mod Lent
pub mod Held
pub mod Taken
