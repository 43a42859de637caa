pub mod SeatLemmas
pub mod CellLemmas
pub mod HullLemmas
pub mod LayoutLemmas
pub mod WindowLemmas
