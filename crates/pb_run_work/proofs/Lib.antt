pub mod SeatLemmas
pub mod TrapLemmas
pub mod CopyLemmas
pub mod PlacedLemmas
pub mod ReadyLemmas
pub mod LinkedLemmas
pub mod StopLemmas
pub mod BlockLemmas
pub mod WholeLemmas
pub mod SeenLemmas
pub mod WatchedLemmas
mod BeginLemmas
mod CountLemmas
mod HoldLemmas
mod InputLemmas
mod MakeLemmas
mod PieceLemmas
mod RunningLemmas
mod StartLemmas
pub mod Handed
