pub mod Answering
pub mod Excluding
pub mod Following
pub mod Matching
pub mod Naming
pub mod OneGraph
pub mod OneNode
