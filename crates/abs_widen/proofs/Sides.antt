-- The cells of a pair of two sound states.
use Rattle.std.proofs.Common.{◌≡◌, ◌∙◌, ℕ, Bool, cond, List, length, Some, None, sym, ap, subst, inl, inr, eq-eqb}
use Rattle.std.proofs.lemmas.Bool.{cases_eq, ne_eqb}
use Rattle.std.proofs.lemmas.Slice.Zip.{AllZip-long}
use Rattle.std.proofs.lemmas.Option.{none-some}
use Rattle.jvm_values.proofs.Options.{some_is}
use Rattle.jvm_values.specs.TypedHeaps.{WorldTypes}
use Rattle.abs_cells.specs.declared.cells.Cell.{Cell}
use Rattle.abs_cells.specs.declared.cells.Cell.TheVariants.{Int, Null, Obj, Nums, Refs, Unk}
use Rattle.abs_cells.specs.AbstractStates.{AbstractState}
use Rattle.abs_cells.specs.Sound.{IsSoundCell, IsOfSlot}
use Rattle.abs_widen.specs.Rows.{fields_in}
use Rattle.abs_widen.specs.inner.Visiting.{AreCellsOf}

-- an instance of the class
pub field_cell : (class : ℕ) (q : Cell) (more : List ℕ) → fields_in class q ≡ Some more → q ≡ Obj class more
field_cell class (Int i) more e = absurd (none-some more e)
field_cell class Null more e = absurd (none-some more e)
field_cell class (Obj other ids) more e = elim (cases_eq class other) [
  | inl same ↦
      let is : ids ≡ more = some_is (ap (λ (t : Bool). cond t (Some ids) None) (sym (eq-eqb class other same)) ∙ e) in
      ap (λ (c : ℕ). Obj c ids) (sym same) ∙ ap (Obj class) is
  | inr differ ↦ absurd (none-some more (ap (λ (t : Bool). cond t (Some ids) None) (sym (ne_eqb class other differ)) ∙ e))
]
field_cell class (Nums kind len) more e = absurd (none-some more e)
field_cell class (Refs element len shape) more e = absurd (none-some more e)
field_cell class (Unk bound nullable shape) more e = absurd (none-some more e)

module _ (types : WorldTypes) (a b : AbstractState) (pair : ℕ × ℕ) (p q : Cell) (of : AreCellsOf types a b pair p q) where
  -- two instances of one class have as many fields
  pub fields_long : (class : ℕ) (ids : List ℕ) → p ≡ Obj class ids → (more : List ℕ) → fields_in class q ≡ Some more
      → length ids ≡ length more
  fields_long class ids e more f =
      let first = subst (IsSoundCell types a) e of.first_sound in
      let second = subst (IsSoundCell types b) (field_cell class q more f) of.second_sound in
      AllZip-long (IsOfSlot a) (types.fields class) ids first.1.1 ∙ sym (AllZip-long (IsOfSlot b) (types.fields class) more second.1.1)
