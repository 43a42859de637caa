pub mod Traps
pub mod Running
pub mod Sums
pub mod CanRun
pub mod Formulas
pub mod Terms
pub mod FirstCells
pub mod Moving
