pub mod Answers
pub mod Steps
pub mod Numbers
pub mod Laws
