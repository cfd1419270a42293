pub mod Limits
pub mod Samples
