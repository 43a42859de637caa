-- what a reader of the top call's clause must believe, from the bottom up
pub mod Sinks
pub mod Texts
pub mod Reply
pub mod Steps
pub mod Check
pub mod Runs
pub mod Tunes
pub mod Demos
pub mod Answer
pub mod Ends
pub mod Statuses
-- what only proofs use: the contracts of the private functions on the way
pub mod Working
