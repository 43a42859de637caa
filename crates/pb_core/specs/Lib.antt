pub mod States
pub mod Events
pub mod Sound
pub mod Snapshots
pub mod Cores
pub mod Runs
pub mod Listed
