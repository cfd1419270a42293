pub mod Lists
pub mod Items
pub mod Limits
pub mod Slots
pub mod Placing
pub mod Ranks
pub mod Changing
pub mod Laws
