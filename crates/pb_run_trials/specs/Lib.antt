pub mod Sums
pub mod Given
