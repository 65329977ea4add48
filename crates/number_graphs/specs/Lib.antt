pub mod Graphs
pub mod Lists
pub mod Marking
pub mod Laws
