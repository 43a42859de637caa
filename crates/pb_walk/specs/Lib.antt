pub mod Axes
pub mod Cursors
pub mod Orders
pub mod Sweeps
pub mod Walks
pub mod Stretches
