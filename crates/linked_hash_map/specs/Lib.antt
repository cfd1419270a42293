pub mod Words
pub mod Model
pub mod Map
pub mod Numbers
pub mod Checks
pub mod Calls
