pub mod Refusals
pub mod Lru
pub mod Calls
pub mod Steps
