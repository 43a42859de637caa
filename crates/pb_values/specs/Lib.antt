pub mod Cells
pub mod Checked
pub mod Name
pub mod Views
