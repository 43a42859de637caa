pub mod SameLemmas
pub mod InsideLemmas
pub mod BeforeLemmas
pub mod SettledLemmas
pub mod SideLemmas
pub mod Handed
