pub mod Cells
pub mod Lawful
pub mod Chosen
pub mod Grids
pub mod Bodies
pub mod Equations
pub mod Calls
