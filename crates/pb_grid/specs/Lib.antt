pub mod Lists
pub mod Cuts
pub mod Segments
pub mod Gaps
pub mod Crossings
pub mod Grids
pub mod Places
