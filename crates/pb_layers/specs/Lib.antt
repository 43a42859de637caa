pub mod Orders
pub mod Graphs
pub mod Components
pub mod Walks
pub mod Lists
pub mod Layers
pub mod Numbers
