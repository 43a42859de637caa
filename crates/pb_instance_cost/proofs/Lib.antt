mod CellLemmas
pub mod CostLemmas
mod ExtentLemmas
mod ListLemmas
mod PartLemmas
mod RowLemmas
mod TopLemmas
