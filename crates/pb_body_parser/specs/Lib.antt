pub mod Bare
pub mod Bodies
