pub mod Deques
pub mod Hands
pub mod Turns
pub mod Crews
