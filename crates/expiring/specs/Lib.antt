pub mod Book
pub mod Calls
pub mod Steps
pub mod Numbers
pub mod Changes
pub mod Runs
