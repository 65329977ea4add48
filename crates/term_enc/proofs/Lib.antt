pub mod Counted
pub mod Levels
pub mod Shallow
pub mod Built
pub mod Encoded
pub mod OneTerm
pub mod Fillings
pub mod Unfolded
pub mod Variables
pub mod Summed
pub mod Weighed
pub mod Described
-- files of crates below, given again for the crates above
pub use Rattle.abs_reach.proofs.JvmHeapsDagPaths
pub use Rattle.abs_reach.proofs.JvmHeapsMarkLaws
pub use Rattle.abs_reach.proofs.JvmHeapsMarkTurns
pub use Rattle.abs_reach.proofs.JvmHeapsTermLaws
