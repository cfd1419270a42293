pub mod Packing
pub mod Clearing
pub mod Probing
pub mod Lists
pub mod Held
pub mod Indexing
pub mod Exact
pub mod Same
