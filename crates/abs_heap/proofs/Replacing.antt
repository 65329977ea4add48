-- A state in which one id's cell tells less, or that the value is null.
use Rattle.std.proofs.Common.{◌≡◌, ℕ, true, false, [], ◌∷◌, Option, Some, None, ◌⊎◌, inl, inr, refl, sym, ap, subst, ◌∙◌}
use Rattle.std.proofs.lemmas.Bool.{false≢true, cases_eq}
use Rattle.std.proofs.lemmas.Option.{none-some}
use Rattle.jvm_values.specs.declared.shape.Shape.{Shape}
use Rattle.jvm_values.specs.States.{MachineState}
use Rattle.jvm_values.specs.TypedHeaps.{WorldTypes}
use Rattle.jvm_values.proofs.Options.{some_is}
use Rattle.abs_cells.specs.declared.cells.Cell.{Cell}
use Rattle.abs_cells.specs.declared.cells.Cell.TheVariants as cells
use Rattle.abs_cells.specs.AbstractStates.{AbstractState}
use Rattle.abs_cells.specs.Cells.{is_known, is_hazy, shape_of, cell_at, AreEqual, Share}
use Rattle.abs_cells.specs.Sound.{IsWellFormed}
use Rattle.abs_cells.specs.Fits.{Meaning, Describes, Fits}
use Rattle.abs_heap.specs.Given.{first_cell, with_cells}
use Rattle.abs_heap.specs.Refining.{IsWithCell}
use Rattle.abs_heap.specs.Laws.{plain_link, Goes, NullSplits}
use Rattle.abs_heap.proofs.Carrying.{IsCarriedCell, own_cell, same_kept, fits_carried, same_edge}
use Rattle.abs_heap.proofs.Placing.{cell_here, cell_later}
use Rattle.abs_heap.proofs.Fitted.{FitsBy, fits_given}

-- the cell of an id is the new one, or as it was
pub replaced_cases : (state : AbstractState) (x : ℕ) (new : Cell) (id : ℕ) (c : Cell) → with_cells ((x, new) ∷ []) state id ≡ Some c
    → ((id ≡ x) × (c ≡ new)) ⊎ ((id ≡ x → ⊥) × (cell_at state id ≡ Some c))
replaced_cases state x new id c e = elim (cases_eq x id) [
  | inl s ↦ inl (sym s, some_is (sym e ∙ ap (λ (o : Option Cell). first_cell o (cell_at state id)) (cell_here (x, new) [] id s)))
  | inr s ↦ inr (λ t. s (sym t), ap (λ (o : Option Cell). first_cell o (cell_at state id)) (sym (cell_later (x, new) [] id s)) ∙ e)
]

module _ (types : WorldTypes) (state : AbstractState) (machine : MachineState) (m : Meaning) (good : IsWellFormed state)
    (h : Fits types state machine m) (x : ℕ) (old new : Cell) (at : cell_at state x ≡ Some old) (unknown : is_known new ≡ false)
    (hazy : is_hazy new ≡ true → is_hazy old ≡ true) (shaped : (s : Shape) → shape_of new ≡ Some s → shape_of old ≡ Some s)
    (described : Describes types machine.heap m new (m x)) where
  carried : (id : ℕ) (c : Cell) → with_cells ((x, new) ∷ []) state id ≡ Some c → IsCarriedCell state id c
  carried id c e = elim (replaced_cases state x new id c e) [
    | inl s ↦ subst (λ (d : Cell). IsCarriedCell state id d) (sym s.1)
        (record {
          old = old;
          old_is = ap (cell_at state) s.0 ∙ at;
          known = λ k. absurd (false≢true (sym unknown ∙ k));
          hazy = hazy;
          shaped = shaped;
        })
    | inr s ↦ own_cell state id c s.1
  ]

  described_there : (id : ℕ) (c : Cell) → with_cells ((x, new) ∷ []) state id ≡ Some c → Describes types machine.heap m c (m id)
  described_there id c e = elim (replaced_cases state x new id c e) [
    | inl s ↦ subst (λ (i : ℕ). Describes types machine.heap m c (m i)) (sym s.0)
        (subst (λ (d : Cell). Describes types machine.heap m d (m x)) (sym s.1) described)
    | inr s ↦ h.cells id c s.1
  ]

  replaced : FitsBy types state.frames state.throwing (with_cells ((x, new) ∷ []) state) (AreEqual state) (Share state) machine m
  replaced = fits_carried types state machine m good h state.frames state.throwing (with_cells ((x, new) ∷ []) state) machine
      (same_kept machine.heap) h.positions h.mode carried described_there

  pub replaced_goes : (child : AbstractState) → IsWithCell state x new child
      → Goes types state machine m (plain_link false None) child machine
  replaced_goes child g = record {
    meaning_after = m;
    fits = fits_given types state.frames state.throwing (with_cells ((x, new) ∷ []) state) (AreEqual state) (Share state) machine m
        replaced child g;
    edge = same_edge state machine m false child;
  }

pub null_splits : NullSplits
null_splits types state first second machine m x bound shape good h at one two = elim (h.cells x (cells.Unk bound true shape) at) [
  | inl d ↦ inl (replaced_goes types state machine m good h x (cells.Unk bound true shape) cells.Null at refl
      (λ e. absurd (false≢true e)) (λ s e. absurd (none-some s e)) d.1 first one)
  | inr d ↦ inr (replaced_goes types state machine m good h x (cells.Unk bound true shape) (cells.Unk bound false shape) at refl
      (λ e. e) (λ s e. e) (inr d) second two)
]
