-- What expansion promises, of closed programs whose instructions hold numbers of their fields' widths: a state of the machine that fits
-- and is typed ends with its next step where the expansion says so, and else fits a child, by an edge.
use Rattle.std.specs.Prelude.{◌≡◌, ℕ, Bool, true, false, List, Some, slice_get}
use Rattle.jvm_values.specs.States.{MachineState}
use Rattle.abs_cells.specs.AbstractStates.{AbstractState}
use Rattle.abs_cells.specs.Fits.{Meaning, Fits}
use Rattle.class_program.specs.class_world.WorldTypes.{types_of}
use Rattle.class_program.specs.Programs.{Program, IsClosed}
use Rattle.class_program.specs.Good.{IsGood}
use Rattle.abs_plans.specs.FrameTypesTables.{CodeTypes}
use Rattle.abs_plans.specs.abs_turns.code_verify.Typings.{IsTypingOf}
use Rattle.abs_plans.specs.abs_turns.code_verify.TypedStates.{IsTypedState}
use Rattle.abs_plans.specs.abs_turns.jvm_step.Running.{step, IsEnd}
use Rattle.abs_plans.specs.abs_turns.jvm_step.Running.Step.{Going}
use Rattle.term_graph.specs.Graphs.{GraphChild}
use Rattle.term_graph.specs.Edges.{Edge}
use Rattle.abs_plans.specs.abs_turns.Plans.{ends}
use Rattle.abs_expand.specs.BadStates.{IsGoodState}
use Rattle.class_program.specs.Widths.{HasWidths}
use Rattle.abs_expand.specs.Expansions.{plan_of, AreExpanded}

-- the machine's state at a child: as it was where the child's link is no step of the machine, else the one after the machine's step
abbrev pub IsAfter : Program → Bool → MachineState → MachineState → Type 0
IsAfter p false machine after = after ≡ machine
IsAfter p true machine after = step p machine ≡ Going after

-- one of some children fits the machine's state there, with a meaning of its ids, and its edge holds
pub record GoesToChild (p : Program) (state : AbstractState) (machine : MachineState) (meaning : Meaning)
    (children : List GraphChild) : Type 0 where
  pub n : ℕ
  pub child : GraphChild
  pub is : slice_get children n ≡ Some child
  pub after : MachineState
  pub is_after : IsAfter p child.link.step machine after
  pub meaning_after : Meaning
  pub fits : Fits (types_of p.world) child.state after meaning_after
  pub edge : Edge state machine meaning child.link child.state after meaning_after

-- a state of the machine is met by an abstract one: the program is good, the typing is the program's, the abstract state is good, and the
-- machine's state is typed and fits it
pub record IsMet (p : Program) (typing : ℕ → CodeTypes) (state : AbstractState) (machine : MachineState) (meaning : Meaning) : Type 0 where
  pub program : IsGood p
  pub typing_is : IsTypingOf p typing
  pub good : IsGoodState p typing state
  pub typed : IsTypedState p typing machine
  pub fits : Fits (types_of p.world) state machine meaning

-- A run ends with the machine's next step where the plan of an abstract state that fits says so, in every closed program whose
-- instructions hold numbers of their fields' widths.
abbrev pub EndsEnd : Type 0
EndsEnd =
    (p : Program) (typing : ℕ → CodeTypes) (state : AbstractState) (machine : MachineState) (meaning : Meaning)
    → IsClosed p → HasWidths p → IsMet p typing state machine meaning → plan_of p typing state ≡ ends → IsEnd (step p machine)

-- A state of the machine that fits an abstract one fits a child of it, by an edge: as it is where the abstract state is split, else after
-- the machine's step; in every closed program whose instructions hold numbers of their fields' widths.
abbrev pub StepsFitChildren : Type 0
StepsFitChildren =
    (p : Program) (typing : ℕ → CodeTypes) (state : AbstractState) (machine : MachineState) (meaning : Meaning)
    (children : List GraphChild)
    → IsClosed p → HasWidths p → IsMet p typing state machine meaning
    → AreExpanded (types_of p.world) state (plan_of p typing state) children → GoesToChild p state machine meaning children
