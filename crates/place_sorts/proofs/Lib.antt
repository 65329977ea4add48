pub mod ArrayRoots
pub mod CallRows
pub mod Dropping
pub mod Following
pub mod FormTable
pub mod IntCases
pub mod IntRows
pub mod Keeping
pub mod Landing
pub mod MoveRows
pub mod ObjectRows
pub mod ReturnRows
pub mod SortLists
pub mod Spots
pub mod Throwing
pub mod Turns
pub mod Waiting
-- files of crates below, given again for the crates above
pub use Rattle.abs_expand.proofs.Acting as AbsExpandActing
pub use Rattle.abs_expand.proofs.Changing as AbsExpandChanging
pub use Rattle.abs_expand.proofs.GoingTo as AbsExpandGoingTo
pub use Rattle.abs_expand.proofs.HeapChildren as AbsExpandHeapChildren
pub use Rattle.abs_expand.proofs.abs_plans.GoodPlans as AbsPlansGoodPlans
pub use Rattle.abs_expand.proofs.abs_plans.WellFormed as AbsPlansWellFormed
pub use Rattle.abs_turns.proofs.SoundCells as AbsTurnsSoundCells
pub use Rattle.jvm_run.proofs.Lists as JvmRunLists
pub use Rattle.jvm_run.proofs.Named as JvmRunNamed
pub use Rattle.jvm_run.proofs.Placed as JvmRunPlaced
pub use Rattle.jvm_run.proofs.Stepping as JvmRunStepping
pub use Rattle.jvm_run.proofs.TypedRuns as JvmRunTypedRuns
pub use Rattle.op_forms.proofs.Widths as OpFormsWidths
