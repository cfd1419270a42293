pub mod Order
pub mod Entries
pub mod Heap
pub mod Sifts
pub mod Least
pub mod Calls
