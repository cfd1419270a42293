pub mod Answers
pub mod Laws
pub mod Numbers
pub mod Steps
