pub mod Model
pub mod Discards
pub mod Lists
pub mod Samples
