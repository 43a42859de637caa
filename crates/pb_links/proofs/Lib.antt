pub mod HitLemmas
pub mod LawLemmas
pub mod RisingLemmas
pub mod TableLemmas
pub mod TurnLemmas
mod IndexLemmas
