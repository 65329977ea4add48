-- What the links of an expansion are: such as the rules of paths take.
use Rattle.std.specs.Prelude.{ℕ, List}
use Rattle.std.specs.List.{AllByRecursion}
use Rattle.abs_cells.specs.AbstractStates.{AbstractState}
use Rattle.class_program.specs.class_world.WorldTypes.{types_of}
use Rattle.class_program.specs.Programs.{Program}
use Rattle.class_program.specs.Widths.{HasWidths}
use Rattle.frame_types.specs.Tables.{CodeTypes}
use Rattle.jvm_run.specs.code_verify.Typings.{IsTypingOf}
use Rattle.term_graph.specs.Graphs.{GraphChild}
use Rattle.path_rules.specs.Conditions.{IsLinkBetween}
use Rattle.abs_expand.specs.BadStates.{IsGoodState}
use Rattle.abs_expand.specs.Expansions.{plan_of, AreExpanded}

-- the link from a state to one of its children is such as the rules of paths take
abbrev pub FitsRules : AbstractState → GraphChild → Type 0
FitsRules state child = IsLinkBetween state child.state child.link

-- The links from a good state to all its children are such as the rules of paths take, whatever its plan is, in a program whose numbers
-- are of their fields' widths, with the program's typing.
abbrev pub LinksFit : Type 0
LinksFit =
    (p : Program) (typing : ℕ → CodeTypes) (state : AbstractState) (children : List GraphChild)
    → HasWidths p → IsTypingOf p typing → IsGoodState p typing state
    → AreExpanded (types_of p.world) state (plan_of p typing state) children
    → AllByRecursion (FitsRules state) children
