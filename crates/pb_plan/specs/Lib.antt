pub mod Boxes
pub mod Made
pub mod Laid
pub mod Planned
pub mod Tasks
