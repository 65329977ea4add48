pub mod Graphs
pub mod Limits
pub mod Edges
