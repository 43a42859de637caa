pub mod ListLemmas
pub mod SystemLemmas
pub mod ReachLemmas
pub mod WayLemmas
pub mod RankLemmas
