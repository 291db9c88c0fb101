pub mod CommandLine
pub mod FirstOutside
pub mod Options
pub mod ReplayOptions
