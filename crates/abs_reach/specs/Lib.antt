-- the closures of ids over known cells, which lie in abs_cells
pub use Rattle.abs_cells.specs.Closures
-- what sets of ids lead to, and the ids that are reached
pub mod Known
pub mod Reached
-- when an abstract state is an instance of another one
pub mod Instances
-- what holds of closures and the regions of heaps
pub mod Ways
pub mod Laws
-- lists whose keys rise
pub mod Keys
-- the words of private calls
pub mod inner
pub mod abs_sound
pub mod abs_equal
-- files of crates below, given again for the crates above
pub use Rattle.jvm_heaps.specs.AcyclicTerms as JvmHeapsAcyclicTerms
pub use Rattle.jvm_heaps.specs.Marks as JvmHeapsMarks
