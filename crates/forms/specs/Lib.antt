pub mod Forms
pub mod Reading
