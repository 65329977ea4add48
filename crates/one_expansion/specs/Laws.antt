-- What becomes of an abstract state is one: its plan has one list of children.
use Rattle.std.specs.Prelude.{◌≡◌, ◌≢◌, ℕ, List, Option, Result, Err}
use Rattle.abs_cells.specs.AbstractStates.{AbstractState}
use Rattle.abs_expand.specs.ClassWorldWorldTypes.{types_of}
use Rattle.abs_expand.specs.ClassProgramPrograms.{Program}
use Rattle.abs_expand.specs.FrameTypesTables.{CodeTypes}
use Rattle.abs_expand.specs.TermGraphGraphs.{GraphChild}
use Rattle.abs_expand.specs.Answers.{Answers}
use Rattle.abs_expand.specs.Expansions.{plan_of, AreExpanded}
use Rattle.abs_expand.specs.declared.fault.ExpandFault.{ExpandFault}
use Rattle.abs_expand.specs.declared.fault.ExpandFault.TheVariants.{Memory}

-- A state has one list of children: each child's state and its link are determined, of every program and state. Renamings, fresh ids and
-- the lists of cells and pairs are no choice.
abbrev pub ChildrenAreOne : Type 0
ChildrenAreOne =
    (p : Program) (typing : ℕ → CodeTypes) (state : AbstractState) (children others : List GraphChild)
    → AreExpanded (types_of p.world) state (plan_of p typing state) children
    → AreExpanded (types_of p.world) state (plan_of p typing state) others → children ≡ others

-- An expansion has one answer, but for want of memory. It never has two of these: an end, children, a clause that the state breaks, and a
-- child with too many ids; and of each it has one alone.
abbrev pub AnswersAreOne : Type 0
AnswersAreOne =
    (p : Program) (typing : ℕ → CodeTypes) (state : AbstractState) (one other : Result (Option (List GraphChild)) ExpandFault)
    → Answers p typing state one → Answers p typing state other → one ≢ Err Memory → other ≢ Err Memory → one ≡ other
