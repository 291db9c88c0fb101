pub mod Firsts
pub mod Giving
pub mod Going
pub mod Handed
pub mod Lives
pub mod Readings
pub mod Talks
pub mod Trimmings
