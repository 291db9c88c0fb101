pub mod Cuts
pub mod Digits
pub mod Laid
pub mod Refused
