pub mod OnePut
pub mod Behind
