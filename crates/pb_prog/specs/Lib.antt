pub mod Canonical
pub mod FormText
pub mod Spelling
pub mod Writing
