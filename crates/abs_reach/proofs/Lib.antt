pub mod Answering
pub mod AnsweringSets
pub mod Beginning
pub mod Dropped
pub mod DroppedSizes
pub mod Finding
pub mod HeadLists
pub mod Keys
pub mod Restricting
pub mod Room
pub mod Searching
pub mod Sound
pub mod Walked
pub mod Walks
pub mod Cells
pub mod Thrown
pub mod Zipped
pub mod Lists
pub mod Same
-- files of crates below, given again for the crates above
pub use Rattle.jvm_heaps.proofs.DagPaths as JvmHeapsDagPaths
pub use Rattle.jvm_heaps.proofs.MarkLaws as JvmHeapsMarkLaws
pub use Rattle.jvm_heaps.proofs.MarkTurns as JvmHeapsMarkTurns
pub use Rattle.jvm_heaps.proofs.TermLaws as JvmHeapsTermLaws
