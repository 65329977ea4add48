-- what the calls answer, and how many ids a child may have
pub mod Answers
pub mod Counts
-- the children of a split, of a write, and of new objects
pub mod Refining
pub mod Writing
pub mod Given
pub mod Names
-- what holds of the children
pub mod Laws
-- the words of private calls
pub mod inner
-- libraries below, given again for the crates above
pub use Rattle.term_graph.specs as term_graph
