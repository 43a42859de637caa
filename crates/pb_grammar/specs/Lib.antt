pub mod Meaning
pub mod Next
pub mod Reading
pub mod Starts
pub mod Want
