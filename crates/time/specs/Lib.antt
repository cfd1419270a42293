pub mod Refusal
pub mod Duration
pub mod Deadline
pub mod Clock
pub mod Samples
