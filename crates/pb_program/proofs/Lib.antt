pub mod Kept
pub mod UnplacedLists
pub mod SyncLemmas
