pub mod Exact
pub mod Lives
pub mod Standing
pub mod Tests
