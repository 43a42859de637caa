pub mod Calls
pub mod Known
pub mod Planned
pub mod Costs
pub mod Linked
