pub mod Tables
pub mod Driven
