-- The variables of the pattern of a sized id are ids whose size is a variable.
use Rattle.std.proofs.Common.{◌≡◌, ℕ, zero, suc, List, [], ◌∷◌, Option, Some, None, refl, sym, ap, subst, ◌∙◌}
use Rattle.std.specs.Prelude.{slice_get}
use Rattle.std.specs.List.{AllByRecursion}
use Rattle.std.specs.Option.{option_and_then}
use Rattle.std.proofs.lemmas.Option.{none-some}
use Rattle.list_views.proofs.Options.{map_some, then_some}
use Rattle.list_views.proofs.Quantified.{all_joined}
use Rattle.jvm_values.proofs.Options.{some_is}
use Rattle.jvm_values.proofs.PathLaws.{here, onward, one_more}
use Rattle.jvm_values.specs.declared.shape.Shape.{Shape}
use Rattle.jvm_values.specs.declared.shape.Shape.TheVariants.{Tree, Dag, Any}
use Rattle.abs_cells.specs.declared.cells.Cell.{Cell}
use Rattle.abs_cells.specs.declared.cells.Cell.TheVariants.{Int, Null, Obj, Nums, Refs, Unk}
use Rattle.abs_cells.specs.AbstractStates.{AbstractState}
use Rattle.abs_cells.specs.Cells.{ids_of, cell_at, HasCell}
use Rattle.abs_cells.specs.Closures.{cell_steps, KnownFrom, IsFiniteId}
use Rattle.abs_cells.specs.Patterns.{Pattern, Patterns, node, patterns_by, pattern_of_cell}
use Rattle.abs_cells.specs.Patterns.{pattern_within}
use Rattle.term_graph.specs.Edges.{is_size_variable}
use Rattle.term_enc.specs.Laws.{IsSizedBy}
use Rattle.term_enc.specs.Sizes.{variables_in, variables_among}
use Rattle.term_enc.proofs.Levels.{put, split}

module _ (state : AbstractState) where
  abbrev pub AreSizeVariables : List ℕ → Type 0
  AreSizeVariables ids = AllByRecursion (HasCell is_size_variable state) ids

  abbrev given_variables : Option Pattern → List ℕ
  given_variables None = []
  given_variables (Some pattern) = variables_in pattern

  put_variables : (given : Option Pattern) (rest : Patterns) → AreSizeVariables (given_variables given)
      → AreSizeVariables (variables_among rest) → AreSizeVariables (variables_among (put given rest))
  unfolding put
  put_variables None rest a b = b
  put_variables (Some pattern) rest a b = all_joined (HasCell is_size_variable state) (variables_in pattern) (variables_among rest) a b

  -- of ids that are named, each by its step
  among : (f : ℕ → Option (Option Pattern)) (ids : List ℕ) (all : Patterns) → patterns_by f ids ≡ Some all
      → ((i c : ℕ) (given : Option Pattern) → slice_get ids i ≡ Some c → f c ≡ Some given
      → AreSizeVariables (given_variables given)) → AreSizeVariables (variables_among all)
  among f [] all e h = subst (λ (ps : Patterns). AreSizeVariables (variables_among ps)) (some_is e) tt
  among f (id ∷ ids) all e h =
      let s = split (f id) (patterns_by f ids) all e in
      subst (λ (ps : Patterns). AreSizeVariables (variables_among ps)) (sym s.all_is)
      (put_variables s.given s.others (h zero id s.given refl s.first_is)
      (among f ids s.others s.rest_is (λ i c given k. h (suc i) c given k)))

  tame_variable : (id : ℕ) (bound : _) (nullable : _) (shape : Shape) → cell_at state id ≡ Some (Unk bound nullable shape)
      → (Some shape ≡ Some Any → ⊥) → HasCell is_size_variable state id
  tame_variable id bound nullable Tree e tame = record { cell = Unk bound nullable Tree; is = e; sort_is = refl }
  tame_variable id bound nullable Dag e tame = record { cell = Unk bound nullable Dag; is = e; sort_is = refl }
  tame_variable id bound nullable Any e tame = absurd (tame refl)

  step_on : (x y i c : ℕ) (cell : Cell) → KnownFrom state x y → cell_at state y ≡ Some cell → slice_get (ids_of cell) i ≡ Some c
      → KnownFrom state x c
  step_on x y i c cell k e n =
      onward (cell_steps state) x y c k
      (one_more (cell_steps state) y i c c (ap (option_and_then (λ (d : Cell). slice_get (ids_of d) i)) e ∙ n)
      (here (cell_steps state) c c refl))

  module _ (x : ℕ) (finite : IsFiniteId state x) where
    -- what is given of the ids that are known from one
    abbrev Gives : (ℕ → Option (Option Pattern)) → Type 0
    Gives f = (id : ℕ) (given : Option Pattern) → KnownFrom state x id → f id ≡ Some given → AreSizeVariables (given_variables given)

    of_cell : (f : ℕ → Option (Option Pattern)) → Gives f → (id : ℕ) (cell : Cell) (given : Option Pattern) → KnownFrom state x id
        → cell_at state id ≡ Some cell → pattern_of_cell f id cell ≡ Some given → AreSizeVariables (given_variables given)
    of_cell f h id (Int interval) given k e p = subst (λ (o : Option Pattern). AreSizeVariables (given_variables o)) (some_is p) tt
    of_cell f h id Null given k e p = subst (λ (o : Option Pattern). AreSizeVariables (given_variables o)) (some_is p) tt
    of_cell f h id (Obj class ids) given k e p =
        let m = map_some (λ (children : Patterns). Some (node class children)) (patterns_by f ids) given p in
        subst (λ (o : Option Pattern). AreSizeVariables (given_variables o)) m.1.1
        (among f ids m.0 m.1.0 (λ i c inner n g. h c inner (step_on x id i c (Obj class ids) k e n) g))
    of_cell f h id (Nums kind len) given k e p = subst (λ (o : Option Pattern). AreSizeVariables (given_variables o)) (some_is p) tt
    of_cell f h id (Refs element len shape) given k e p = subst (λ (o : Option Pattern). AreSizeVariables (given_variables o))
        (some_is p) tt
    of_cell f h id (Unk bound nullable shape) given k e p =
        subst (λ (o : Option Pattern). AreSizeVariables (given_variables o)) (some_is p)
        (tame_variable id bound nullable shape e (finite.hazy id (Unk bound nullable shape) k e), tt)

    within : (depth : ℕ) → Gives (pattern_within depth state)
    within zero id given k e = absurd (none-some given e)
    within (suc depth) id given k e =
        let c = then_some (pattern_of_cell (pattern_within depth state) id) (cell_at state id) given e in
        of_cell (pattern_within depth state) (within depth) id c.0 given k c.1.0 c.1.1

pub pattern_variables : (state : AbstractState) (id : ℕ) (pattern : Pattern) → IsSizedBy state id pattern
    → AllByRecursion (HasCell is_size_variable state) (variables_in pattern)
pattern_variables state id pattern s = within state id s.sized.finite s.is.depth id (Some pattern)
    (here (cell_steps state) id id refl) s.is.is
