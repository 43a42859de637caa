pub mod Dims
pub mod Leads
