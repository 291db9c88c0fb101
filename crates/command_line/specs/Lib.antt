pub mod Histories
pub mod Serving
pub mod Controls
pub mod ReadBack
pub mod From
