pub mod Steps
pub mod Unrolled
pub mod Matrices
pub mod Placed
pub mod Right
pub mod Laws
pub mod Tallied
pub mod Handed
