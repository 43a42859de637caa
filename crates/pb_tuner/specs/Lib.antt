pub mod Judged
pub mod Tuned
