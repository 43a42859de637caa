pub mod Linking
pub mod Ready
pub mod Handed
