pub mod Reading
pub mod Lexing
