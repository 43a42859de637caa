pub mod Cuts
pub mod Digits
pub mod Header
pub mod Reading
pub mod Spelling
pub mod Text
pub mod Value
pub mod Words
