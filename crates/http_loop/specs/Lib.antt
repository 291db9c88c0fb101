pub mod Answered
pub mod Connections
pub mod Laws
pub mod Served
pub mod Stepped
pub mod Texts
pub mod Turned
