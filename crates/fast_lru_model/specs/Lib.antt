pub mod Model
pub mod Samples
