pub mod Lists
pub mod Jobs
pub mod Steps
pub mod Links
pub mod Products
pub mod Rolls
pub mod Counts
pub mod Found
