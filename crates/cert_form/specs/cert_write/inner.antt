-- Words of private calls.
pub mod Nodes
