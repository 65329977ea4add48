-- The children of splits are well-formed, and how many ids each has.
use Rattle.std.proofs.Common.{◌≢◌, ◌∙◌, inl, inr, ℕ, Bool, true, false, List, [], ◌∷◌, Option, None, sym, subst}
use Rattle.std.specs.List.{AllByRecursion, AllZip}
use Rattle.list_views.proofs.Quantified.{all_mapped}
use Rattle.jvm_values.specs.declared.types.Ty.{Ty}
use Rattle.jvm_values.specs.declared.shape.Shape.{Shape}
use Rattle.jvm_values.specs.TypedHeaps.{WorldTypes}
use Rattle.abs_cells.specs.declared.cells.Cell.TheVariants as cells
use Rattle.abs_cells.specs.AbstractStates.{AbstractState}
use Rattle.abs_cells.specs.Sound.{IsWellFormed}
use Rattle.abs_heap.specs.Answers.{AreNullChildren, AreClassChildren, AreEqualAnswers}
use Rattle.abs_heap.specs.Laws.{plain_link}
use Rattle.abs_heap.specs.Names.{IsPairOf}
use Rattle.abs_heap.specs.Refining.{Case, IsCase, IsEqualChild}
use Rattle.abs_heap.specs.Refining.IsEqualChild.{both, alone}
use Rattle.term_graph.specs.Graphs.{GraphChild}
use Rattle.abs_expand.proofs.HeapChildren.{well_with_cell, well_case, well_merged, well_apart}

abbrev pub AreWell : List GraphChild → Type 0
AreWell children = AllByRecursion (λ (child : GraphChild). IsWellFormed child.state) children

module _ (state : AbstractState) (good : IsWellFormed state) where
  pub null_well : (x : ℕ) (children : List GraphChild) → AreNullChildren state x children → AreWell children
  null_well x children h =
      subst AreWell (sym h.are) (
        well_with_cell state good x cells.Null h.null h.null_is tt,
        (well_with_cell state good x (cells.Unk h.bound false h.shape) h.other h.other_is tt, tt),
      )

  cases_well : (types : WorldTypes) (x : ℕ) (shape : Shape) (cases : List Case) (states : List AbstractState)
      → AllZip (IsCase types state x shape) cases states → AllByRecursion IsWellFormed states
  cases_well types x shape [] [] h = tt
  cases_well types x shape [] (s ∷ states) h = absurd h
  cases_well types x shape (case ∷ cases) [] h = absurd h
  cases_well types x shape (case ∷ cases) (s ∷ states) h = (
    well_case state good types x shape case s h.0,
    cases_well types x shape cases states h.1,
  )

  pub class_well : (types : WorldTypes) (x : ℕ) (wanted : Ty) (children : List GraphChild)
      → AreClassChildren types state x wanted children → AreWell children
  class_well types x wanted children h =
      subst AreWell (sym h.is) (all_mapped (λ (child : GraphChild). IsWellFormed child.state)
      (λ (s : AbstractState). record { state = s; link = plain_link false None }) h.states
      (cases_well types x h.shape _ h.states h.are))

  apart_ids : (x y stays goes : ℕ) → x ≢ y → IsPairOf x y stays goes → stays ≢ goes
  apart_ids x y stays goes n p same = elim p [
    | inl e ↦ n (sym e.0 ∙ same ∙ e.1)
    | inr e ↦ n (sym e.1 ∙ sym same ∙ e.0)
  ]

  equal_states_well : (sub : Ty → Ty → Bool) (x y : ℕ) → x ≢ y → (b : Bool) (pairs : List (Option (ℕ × ℕ) × AbstractState))
      → IsEqualChild sub state x y b pairs
      → AllByRecursion (λ (p : Option (ℕ × ℕ) × AbstractState). IsWellFormed p.1) pairs
  equal_states_well sub x y n true _ (both stays goes merged apart p s m a) =
      (well_merged sub state good stays goes (apart_ids x y stays goes n p) merged m, (well_apart state good x y apart a, tt))
  equal_states_well sub x y n false _ (alone apart a) = (well_apart state good x y apart a, tt)

  pub equal_well : (sub : Ty → Ty → Bool) (x y : ℕ) → x ≢ y → (children : List GraphChild) → AreEqualAnswers sub state x y children
      → AreWell children
  equal_well sub x y n children h =
      subst AreWell (sym h.is) (all_mapped (λ (child : GraphChild). IsWellFormed child.state) (λ (p : Option (ℕ × ℕ) × AbstractState).
      record { state = p.1; link = plain_link false p.0 })
      h.pairs (equal_states_well sub x y n _ h.pairs h.are.are))
