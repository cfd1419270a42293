pub mod Wholes
pub mod Pieces
pub mod Formats
pub mod Texts
pub mod Spellings
pub mod Samples
