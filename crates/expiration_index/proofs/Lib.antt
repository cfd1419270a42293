pub mod Pairs
pub mod Expired
pub mod Nexts
pub mod Calling
pub mod Laws
pub mod Samples
