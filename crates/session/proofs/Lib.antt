pub mod Printing
pub mod Stepping
pub mod Blocks
