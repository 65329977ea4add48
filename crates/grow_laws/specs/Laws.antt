-- What the children, the widenings and the roots of graphs are: states from which a graph grows.
use Rattle.std.specs.Prelude.{ℕ, List, ◌≡◌, map}
use Rattle.std.specs.List.{AllByRecursion}
use Rattle.abs_cells.specs.AbstractStates.{AbstractState}
use Rattle.class_world.specs.WorldTypes.{types_of}
use Rattle.class_program.specs.Programs.{Program, IsClosed}
use Rattle.class_program.specs.Widths.{HasWidths}
use Rattle.frame_types.specs.Tables.{CodeTypes}
use Rattle.code_verify.specs.Typings.{IsTypingOf}
use Rattle.term_graph.specs.Graphs.{GraphChild}
use Rattle.place_sorts.specs.AbsExpandExpansions.{plan_of, AreExpanded}
use Rattle.place_sorts.specs.Growing.{IsGrowing}
use Rattle.abs_reach.specs.Instances.{head_of, is_thrown}
use Rattle.abs_widen.specs.Widening.{AreAlike, IsWidening}
use Rattle.input_desc.specs.declared.desc.Desc.{Desc}
use Rattle.input_desc.specs.Descs.{IsOwnDesc}
use Rattle.input_desc.specs.Initial.{initial_of}

-- The children of a growing state of a closed program, without the ids that nothing reaches, are growing states: they
-- have an expansion, their frames wait for those above them, and all their ids are reached.
abbrev pub GrowingChildren : Type 0
GrowingChildren =
    (p : Program) (typing : ℕ → CodeTypes) (state : AbstractState) (children : List GraphChild) → IsClosed p → HasWidths p
    → IsTypingOf p typing → IsGrowing p typing state
    → AreExpanded (types_of p.world) state (plan_of p typing state) children
    → AllByRecursion (λ (child : GraphChild). IsGrowing p typing child.state) children

-- Two growing states of a typing whose frames have the same methods, places and depths of stacks stand alike, as
-- widening asks, where an object is thrown in both or in neither.
abbrev pub GrowingStatesStandAlike : Type 0
GrowingStatesStandAlike =
    (p : Program) (typing : ℕ → CodeTypes) (a b : AbstractState) → IsTypingOf p typing → IsGrowing p typing a → IsGrowing p typing b
    → map head_of a.frames ≡ map head_of b.frames → is_thrown a.throwing ≡ is_thrown b.throwing → AreAlike a b

-- A widening of two growing states is a growing state.
abbrev pub GrowingWidenings : Type 0
GrowingWidenings =
    (p : Program) (typing : ℕ → CodeTypes) (a b result : AbstractState) → IsClosed p → IsGrowing p typing a → IsGrowing p typing b
    → AreAlike a b
    → IsWidening (types_of p.world) a b result → IsGrowing p typing result

-- The state that a program's own description begins with is a growing state.
abbrev pub GrowingRoots : Type 0
GrowingRoots = (p : Program) (typing : ℕ → CodeTypes) (desc : Desc) → IsClosed p → IsTypingOf p typing → IsOwnDesc p desc
    → IsGrowing p typing (initial_of p desc)
