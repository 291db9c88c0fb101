pub mod Words
pub mod Pairs
pub mod Places
pub mod Pages
pub mod PageChanges
