-- An id whose size is a variable is sized: nothing leads on from it, and its pattern is that variable.
use Rattle.std.proofs.Common.{◌≡◌, ℕ, zero, suc, true, List, [], ◌∷◌, Option, Some, None, refl, sym, ap, subst, ◌∙◌, arith}
use Rattle.std.specs.Prelude.{slice_get}
use Rattle.std.specs.Option.{option_and_then}
use Rattle.std.proofs.lemmas.Option.{none-some}
use Rattle.std.proofs.lemmas.Bool.{false≢true}
use Rattle.list_views.proofs.Options.{one_answer}
use Rattle.jvm_values.specs.declared.shape.Shape.TheVariants.{Tree, Dag, Any}
use Rattle.jvm_values.specs.Paths.{Steps, follow}
use Rattle.jvm_values.proofs.Options.{some_is}
use Rattle.abs_cells.specs.declared.cells.Cell.{Cell}
use Rattle.abs_cells.specs.declared.cells.Cell.TheVariants.{Int, Null, Obj, Nums, Refs, Unk}
use Rattle.abs_cells.specs.AbstractStates.{AbstractState}
use Rattle.abs_cells.specs.Cells.{ids_of, shape_of, cell_at, HasCell}
use Rattle.abs_cells.specs.Closures.{cell_steps, counted, counted_steps, IsFiniteId}
use Rattle.abs_cells.specs.Patterns.{Pattern, variable, pattern_of_cell, pattern_within, IsPattern}
use Rattle.term_graph.specs.Edges.{is_size_variable}
use Rattle.term_enc.specs.Laws.{SizeVariablesAreSized}

-- ---- cells whose size is a variable

names_nothing : (cell : Cell) → is_size_variable cell ≡ true → ids_of cell ≡ []
names_nothing (Int interval) e = absurd (false≢true e)
names_nothing Null e = absurd (false≢true e)
names_nothing (Obj class ids) e = absurd (false≢true e)
names_nothing (Nums kind len) e = absurd (false≢true e)
names_nothing (Refs element len shape) e = absurd (false≢true e)
names_nothing (Unk bound nullable shape) e = refl

is_tame : (cell : Cell) → is_size_variable cell ≡ true → shape_of cell ≡ Some Any → ⊥
is_tame (Int interval) e s = false≢true e
is_tame Null e s = false≢true e
is_tame (Obj class ids) e s = false≢true e
is_tame (Nums kind len) e s = false≢true e
is_tame (Refs element len shape) e s = false≢true e
is_tame (Unk bound nullable Tree) e s = cc
is_tame (Unk bound nullable Dag) e s = cc
is_tame (Unk bound nullable Any) e s = false≢true e

is_variable : (f : ℕ → Option (Option Pattern)) (id : ℕ) (cell : Cell) → is_size_variable cell ≡ true
    → pattern_of_cell f id cell ≡ Some (Some (variable id))
is_variable f id (Int interval) e = absurd (false≢true e)
is_variable f id Null e = absurd (false≢true e)
is_variable f id (Obj class ids) e = absurd (false≢true e)
is_variable f id (Nums kind len) e = absurd (false≢true e)
is_variable f id (Refs element len shape) e = absurd (false≢true e)
is_variable f id (Unk bound nullable shape) e = refl

-- ---- paths where no step leads on

stays : (steps : Steps) (a : ℕ) → ((i : ℕ) → steps a i ≡ None) → (path : List ℕ) (b : ℕ) → follow steps path a ≡ Some b
    → (path ≡ []) × (a ≡ b)
stays steps a h [] b e = (refl, some_is e)
stays steps a h (i ∷ path) b e = absurd (none-some b (sym (ap (option_and_then (follow steps path)) (h i)) ∙ e))

module _ (state : AbstractState) (id : ℕ) (h : HasCell is_size_variable state id) where
  no_step : (i : ℕ) → cell_steps state id i ≡ None
  no_step i = ap (option_and_then (λ (cell : Cell). slice_get (ids_of cell) i)) h.is
      ∙ ap (λ (ids : List ℕ). slice_get ids i) (names_nothing h.cell h.sort_is)

  no_counted : (i : ℕ) → counted_steps state id i ≡ None
  no_counted i = ap (option_and_then (counted state)) (no_step i)

  finite : IsFiniteId state id
  finite = record {
    acyclic = λ p b e q f.
        (stays (counted_steps state) id no_counted q b
        (subst (λ (x : ℕ). follow (counted_steps state) q x ≡ Some b) (sym (stays (counted_steps state) id no_counted p b e).1) f)).0;
    hazy = λ q cell k c s.
        let at = (stays (cell_steps state) id no_step k.path q k.leads).1 in
        let same = one_answer (cell_at state q) h.cell cell (subst (λ (x : ℕ). cell_at state x ≡ Some h.cell) at h.is) c in
        is_tame h.cell h.sort_is (ap shape_of same ∙ s);
  }

  pattern : IsPattern state id (variable id)
  pattern = record {
    depth = suc zero;
    is = ap (option_and_then (pattern_of_cell (pattern_within zero state) id)) h.is
        ∙ is_variable (pattern_within zero state) id h.cell h.sort_is;
  }

pub variables_sized : SizeVariablesAreSized
variables_sized state id h = record {
  sized = record { finite = finite state id h; pattern = variable id; is = pattern state id h; small = omega arith };
  is = pattern state id h;
}
