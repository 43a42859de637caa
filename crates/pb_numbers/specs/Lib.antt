pub mod KindWords
pub mod Deciding
