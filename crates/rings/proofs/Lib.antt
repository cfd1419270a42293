pub mod Links
pub mod Counts
pub mod Rings
pub mod Two
pub mod Fill
pub mod Walks
