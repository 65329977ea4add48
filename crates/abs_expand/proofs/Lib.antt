pub mod Acting
pub mod CellLists
pub mod Changing
pub mod ChildLists
pub mod GoingTo
pub mod HeapChildren
pub mod Placed
pub mod SplitChildren
pub mod SplitCounts
pub mod TurnChildren
pub mod ZipLists
-- files of crates below, given again for the crates above
pub use Rattle.abs_heap.proofs.Placing as AbsHeapPlacing
pub use Rattle.abs_reach.proofs.Restricting as AbsReachRestricting
pub use Rattle.abs_reach.proofs.Same as AbsReachSame
pub use Rattle.abs_reach.proofs.Walks as AbsReachWalks
