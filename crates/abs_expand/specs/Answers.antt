-- What the expansion of a state answers.
use Rattle.std.specs.Prelude.{◌≡◌, ℕ, List, Option, Some, None, Result, Ok, Err}
use Rattle.abs_cells.specs.AbstractStates.{AbstractState}
use Rattle.class_program.specs.class_world.WorldTypes.{types_of}
use Rattle.class_program.specs.Programs.{Program}
use Rattle.abs_plans.specs.FrameTypesTables.{CodeTypes}
use Rattle.term_graph.specs.Graphs.{GraphChild}
use Rattle.jvm_values.specs.TypedHeaps.{WorldTypes}
use Rattle.abs_plans.specs.abs_turns.Plans.{Plan, ends}
use Rattle.abs_expand.specs.BadStates.{IsGoodState, IsBadState}
use Rattle.abs_expand.specs.Expansions.{plan_of, counts_of, IsFirstTooMany, AreExpanded}
use Rattle.abs_expand.specs.declared.fault.ExpandFault.{ExpandFault}
use Rattle.abs_expand.specs.declared.fault.ExpandFault.TheVariants.{BadState, TooManyIds, Memory}

-- what the expansion of an abstract state answers. None: the state is good, and the run ends with the machine's next step. Children: the
-- state is good, and these are its children; no children at all say that no state of the machine fits it. A bad state: the first clause
-- that it breaks. Too many ids: the first child that would have too many. Want of memory says nothing
abbrev pub Answers : Program → (ℕ → CodeTypes) → AbstractState → Result (Option (List GraphChild)) ExpandFault → Type 0
Answers p typing state (Ok None) = IsGoodState p typing state × (plan_of p typing state ≡ ends)
Answers p typing state (Ok (Some children)) = IsGoodState p typing state × AreExpanded (types_of p.world) state
    (plan_of p typing state) children
Answers p typing state (Err (BadState clause)) = IsBadState p typing state clause
Answers p typing state (Err (TooManyIds child)) = IsGoodState p typing state
    × IsFirstTooMany (counts_of (types_of p.world) state (plan_of p typing state)) child
Answers p typing state (Err Memory) = Unit {0}

-- what an expansion answers of a good state with a plan with which the run doesn't end: its children, or the first of them that has too
-- many ids, or want of memory, which says nothing
abbrev pub HasPlanChildren : WorldTypes → AbstractState → Plan → Result (Option (List GraphChild)) ExpandFault → Type 0
HasPlanChildren types state plan (Ok None) = ⊥
HasPlanChildren types state plan (Ok (Some children)) = AreExpanded types state plan children
HasPlanChildren types state plan (Err (TooManyIds child)) = IsFirstTooMany (counts_of types state plan) child
HasPlanChildren types state plan (Err (BadState clause)) = ⊥
HasPlanChildren types state plan (Err Memory) = Unit {0}
