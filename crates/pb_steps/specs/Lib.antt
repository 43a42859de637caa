pub mod Values
pub mod Runs
pub mod Stands
pub mod Rules
pub mod Handed
