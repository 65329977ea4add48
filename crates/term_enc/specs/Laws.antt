-- Laws about the terms and sizes of sized ids, for states that describe a state of the machine.
use Rattle.std.specs.Prelude.{◌≡◌, ℕ, ℤ, pos, ◌+ℤ◌, ◌≤ℤ◌, List, All, Some, slice_index}
use Rattle.lin_core.specs.Rows.{value_of_terms, Holds}
use Rattle.lin_core.specs.Weights.{row_under}
use Rattle.jvm_values.specs.States.{MachineState}
use Rattle.jvm_values.specs.Terms.{HeapTerm, IsTerm, size_of}
use Rattle.jvm_values.specs.TypedHeaps.{WorldTypes}
use Rattle.abs_cells.specs.AbstractStates.{AbstractState}
use Rattle.abs_cells.specs.Cells.{HasCell}
use Rattle.abs_cells.specs.Sound.{IsWellFormed}
use Rattle.abs_cells.specs.Fits.{Meaning, Fits, IsClosedState}
use Rattle.abs_cells.specs.Patterns.{Pattern, variable, IsPattern, IsSized}
use Rattle.abs_reach.specs.Instances.{image_in}
use Rattle.term_graph.specs.declared.links.Link.{Link}
use Rattle.term_graph.specs.Edges.{is_size_variable, id_after, Edge, InstanceEdge}
use Rattle.term_enc.specs.Filling.{HasTermByPattern}
use Rattle.term_enc.specs.Sizes.{weight_of, Weighs, variables_in, size_terms, size_weights, size_row}

-- a well-formed abstract state describes a state of the machine, which has no reference past its heap's end
pub record IsDescribed (types : WorldTypes) (state : AbstractState) (machine : MachineState) (meaning : Meaning) : Type 0 where
  pub good : IsWellFormed state
  pub fits : Fits types state machine meaning
  pub closed : IsClosedState machine state meaning

-- an id is sized, and this is its pattern
pub record IsSizedBy (state : AbstractState) (id : ℕ) (pattern : Pattern) : Type 0 where
  pub sized : IsSized state id
  pub is : IsPattern state id pattern

-- the number of each variable of a pattern is what the term of the variable's value weighs
abbrev pub HaveWeights : (ℕ → ℤ) → MachineState → Meaning → (ℕ → ℤ) → (ℕ → ℕ) → Pattern → Type 0
HaveWeights weigh machine meaning numbers place pattern = All
    (λ (id : ℕ). Weighs weigh machine.heap (meaning id) (numbers (place id))) (variables_in pattern)

-- no class weighs less than 0
abbrev pub IsWeighing : (ℕ → ℤ) → Type 0
IsWeighing weigh = (class : ℕ) → pos 0 ≤ℤ weigh class

-- An id whose size is a variable is sized, and its pattern is that variable.
abbrev pub SizeVariablesAreSized : Type 0
SizeVariablesAreSized = (state : AbstractState) (id : ℕ) → HasCell is_size_variable state id → IsSizedBy state id (variable id)

-- What a sized id stands for has a term, and that is its pattern with each variable replaced by its value's term.
abbrev pub TermsFillPatterns : Type 0
TermsFillPatterns =
    (types : WorldTypes) (state : AbstractState) (machine : MachineState) (meaning : Meaning)
    → IsDescribed types state machine meaning
    → (id : ℕ) (pattern : Pattern) → IsSizedBy state id pattern → HasTermByPattern machine.heap meaning id pattern

-- What the term of a sized id weighs is the size of the id's pattern, whatever the classes weigh.
abbrev pub SizesAreOfPatterns : Type 0
SizesAreOfPatterns =
    (types : WorldTypes) (state : AbstractState) (machine : MachineState) (meaning : Meaning)
    → IsDescribed types state machine meaning
    → (id : ℕ) (pattern : Pattern) → IsSizedBy state id pattern
    → (weigh numbers : ℕ → ℤ) (place : ℕ → ℕ) → HaveWeights weigh machine meaning numbers place pattern
    → (term : HeapTerm) → IsTerm machine.heap (meaning id) term
    → weight_of weigh term ≡ value_of_terms numbers (size_terms place pattern) +ℤ value_of_terms weigh (size_weights pattern)

-- The size of a term by a list of weights is what it weighs by them.
abbrev pub SizesAreWeights : Type 0
SizesAreWeights = (weights : List ℕ) (term : HeapTerm)
    → pos (size_of weights term) ≡ weight_of (λ (class : ℕ). pos (slice_index weights class)) term

-- Over an edge to a child, a variable that is the size of an id is the size of the pattern of the id that stands for it in the child:
-- the row holds, whatever the classes weigh.
abbrev pub EdgeSizesAreRows : Type 0
EdgeSizesAreRows =
    (types : WorldTypes) (state child : AbstractState) (machine after : MachineState) (meaning meaning_after : Meaning) (link : Link)
    → Edge state machine meaning link child after meaning_after → IsDescribed types child after meaning_after
    → (id : ℕ) (pattern : Pattern) → HasCell is_size_variable state id → IsSizedBy child (id_after link.merged id) pattern
    → (weigh numbers : ℕ → ℤ) (v : ℕ) (place : ℕ → ℕ) → IsWeighing weigh
    → Weighs weigh machine.heap (meaning id) (numbers v) → HaveWeights weigh after meaning_after numbers place pattern
    → Holds numbers (row_under weigh (size_row v place pattern))

-- Over an edge to the state of which one is an instance, a variable that is the size of an id there is the size of the pattern of its
-- image: the row holds.
abbrev pub InstanceSizesAreRows : Type 0
InstanceSizesAreRows =
    (types : WorldTypes) (state : AbstractState) (entries : List (ℕ × ℕ)) (machine after : MachineState) (meaning meaning_after : Meaning)
    → InstanceEdge entries machine meaning after meaning_after → IsDescribed types state machine meaning
    → (id image : ℕ) (pattern : Pattern) → image_in entries id ≡ Some image → IsSizedBy state image pattern
    → (weigh numbers : ℕ → ℤ) (v : ℕ) (place : ℕ → ℕ)
    → Weighs weigh after.heap (meaning_after id) (numbers v) → HaveWeights weigh machine meaning numbers place pattern
    → Holds numbers (row_under weigh (size_row v place pattern))
