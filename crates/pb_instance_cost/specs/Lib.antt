pub mod Extents
pub mod Shown
pub mod Parts
pub mod Costs
