pub mod Beginning
pub mod Closing
pub mod ReadBack
pub mod Recorded
