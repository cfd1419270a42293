pub mod Answers
pub mod Session
pub mod Lines
