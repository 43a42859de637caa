pub mod Links
pub mod Owners
pub mod Spots
pub mod Turned
pub mod Indexed
