pub mod Systems
pub mod Reach
