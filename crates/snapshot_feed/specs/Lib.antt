pub mod Showing
pub mod Shown
pub mod States
pub mod Seats
pub mod Answers
pub mod Lending
