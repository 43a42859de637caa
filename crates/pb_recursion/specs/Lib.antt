pub mod Shapes
pub mod Plans
pub mod Depths
pub mod Counts
pub mod Ordered
