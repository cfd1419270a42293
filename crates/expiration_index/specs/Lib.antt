pub mod Model
pub mod Answers
pub mod Index
pub mod Calls
pub mod Samples
