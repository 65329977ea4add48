pub mod Growing
pub mod Laws
-- files of crates below, given again for the crates above
pub use Rattle.abs_expand.specs.BadStates as AbsExpandBadStates
pub use Rattle.abs_expand.specs.Children as AbsExpandChildren
pub use Rattle.abs_expand.specs.Expansions as AbsExpandExpansions
pub use Rattle.abs_expand.specs.abs_plans.Planning as AbsPlansPlanning
pub use Rattle.abs_expand.specs.inner.Making as AbsExpandMaking
pub use Rattle.abs_turns.specs.GoodPlans as AbsTurnsGoodPlans
pub use Rattle.abs_turns.specs.Plans as AbsTurnsPlans
pub use Rattle.abs_turns.specs.Table as AbsTurnsTable
pub use Rattle.abs_turns.specs.Throwing as AbsTurnsThrowing
pub use Rattle.abs_turns.specs.Turns as AbsTurnsTurns
pub use Rattle.op_forms.specs.Forms as OpFormsForms
