pub mod Examples
pub mod Stream
pub mod Texts
