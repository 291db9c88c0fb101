pub mod Walking
pub mod Following
pub mod Passing
pub mod Faulty
pub mod Kept
pub mod Either
