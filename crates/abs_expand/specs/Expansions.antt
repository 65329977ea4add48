-- The expansion of an abstract state: the children of its plan, without the ids that nothing reaches (Otto, Brockschmidt, von Essen,
-- Giesl 2010).
use Rattle.std.specs.Prelude.{ℕ, ◌+◌, ◌-◌, if◌then◌else◌, List, [], ◌∷◌, map, length, Option, Some}
use Rattle.std.specs.List.{AllZip}
use Rattle.jvm_values.specs.declared.types.Ty.{Ty}
use Rattle.jvm_values.specs.TypedHeaps.{WorldTypes}
use Rattle.abs_cells.specs.declared.cells.Cell.{Cell}
use Rattle.abs_cells.specs.declared.cells.Cell.TheVariants as cells
use Rattle.abs_cells.specs.AbstractStates.{AbstractState}
use Rattle.abs_cells.specs.Cells.{cell_at, are_compatible}
use Rattle.term_graph.specs.Graphs.{GraphChild}
use Rattle.abs_heap.specs.Refining.{cases_of}
use Rattle.abs_heap.specs.Counts.{case_counts}
pub use Rattle.abs_heap.specs.Counts.{AreFew, IsFirstTooMany}
use Rattle.abs_heap.specs.Answers.{AreNullChildren, AreClassChildren, AreEqualAnswers}
use Rattle.abs_plans.specs.abs_turns.Plans.{Turn, Plan, ends, steps, by_null, by_class, by_equal, ids_made}
pub use Rattle.abs_plans.specs.Planning.{plan_here, plan_in, plan_of}
use Rattle.abs_expand.specs.Children.{IsTurnChild, IsLean}

-- ---- the children of a plan

-- the children of a plan in their order, before ids are dropped: one for each step; or those of a split by null of an id that may be
-- null, by class of an object of unknown class, or by whether two ids are one object, as the abstract heap splits them
abbrev pub AreChildren : WorldTypes → AbstractState → Plan → List GraphChild → Type 0
AreChildren types state ends children = ⊥
AreChildren types state (steps turns) children = AllZip (IsTurnChild types state) turns children
AreChildren types state (by_null x) children = AreNullChildren state x children
AreChildren types state (by_class x wanted) children = AreClassChildren types state x wanted children
AreChildren types state (by_equal x y) children = AreEqualAnswers types.sub state x y children

-- ---- too many ids

-- how many ids each child of a split by class has before ids are dropped; an id whose class isn't open has no such children
abbrev pub class_counts : WorldTypes → AbstractState → Ty → Option Cell → List ℕ
class_counts types state wanted (Some (cells.Unk bound nullable shape)) = case_counts types state (cases_of types bound wanted)
class_counts types state wanted _ = []

-- how many ids each child has of a split by whether two ids are one object: one less where they are, if their cells can be of one object,
-- and all where they are not
abbrev pub equal_counts : WorldTypes → AbstractState → Option Cell → Option Cell → List ℕ
equal_counts types state (Some c) (Some d) = if are_compatible types.sub c d then (length state.cells - 1) ∷ length state.cells
    ∷ [] else length state.cells ∷ []
equal_counts types state _ _ = []

-- how many ids each child of a plan has before ids are dropped
abbrev pub counts_of : WorldTypes → AbstractState → Plan → List ℕ
counts_of types state ends = []
counts_of types state (steps turns) = map (λ (turn : Turn). length state.cells + ids_made types turn.act) turns
counts_of types state (by_null x) = length state.cells ∷ length state.cells ∷ []
counts_of types state (by_class x wanted) = class_counts types state wanted (cell_at state x)
counts_of types state (by_equal x y) = equal_counts types state (cell_at state x) (cell_at state y)

-- ---- the expansion

-- the children of a state by its plan, without the ids that nothing reaches, none of which has too many ids before that
pub record AreExpanded (types : WorldTypes) (state : AbstractState) (plan : Plan) (children : List GraphChild) : Type 0 where
  pub few : AreFew (counts_of types state plan)
  pub wholes : List GraphChild
  pub are : AreChildren types state plan wholes
  pub lean : AllZip IsLean wholes children
