pub mod Cells
pub mod Probe
pub mod Index
