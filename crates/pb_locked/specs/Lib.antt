pub mod Boards
pub mod Jobs
pub mod Places
pub mod Ready
pub mod Turns
