pub mod Words
pub mod Valid
pub mod Heap
pub mod Answers
pub mod Steps
pub mod Calls
pub mod Walks
