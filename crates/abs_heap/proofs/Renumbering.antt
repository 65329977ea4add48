-- Items of an array of numbers that change: the ids keep their values.
use Rattle.std.proofs.Common.{◌≡◌, ℕ, true, List, length, map, Some, inl, inr, refl, sym, ap, subst, ◌∙◌}
use Rattle.std.specs.Prelude.{slice_get, slice_set}
use Rattle.std.proofs.lemmas.Bool.{cases_eq}
use Rattle.list_views.proofs.Items.{get_set}
use Rattle.jvm_values.specs.declared.heap.Value.{Value}
use Rattle.jvm_values.specs.declared.heap.Object.{Object}
use Rattle.jvm_values.specs.declared.heap.Object.TheVariants as objects
use Rattle.jvm_values.specs.declared.heap.Heap.{Heap}
use Rattle.jvm_values.specs.States.{MachineState}
use Rattle.jvm_values.specs.Heaps.{target}
use Rattle.jvm_values.specs.TypedHeaps.{WorldTypes, type_of}
use Rattle.jvm_values.specs.Writes.{IsKept, AreRenumbered}
use Rattle.jvm_values.proofs.IntWrites.{number_writes}
use Rattle.jvm_values.proofs.Lists.{get_set_other}
use Rattle.jvm_values.proofs.Options.{some_is}
use Rattle.abs_cells.specs.declared.cells.Cell.{Cell}
use Rattle.abs_cells.specs.declared.cells.Cell.TheVariants as cells
use Rattle.abs_cells.specs.AbstractStates.{AbstractState}
use Rattle.abs_cells.specs.Cells.{cell_at}
use Rattle.abs_cells.specs.Sound.{IsWellFormed}
use Rattle.abs_cells.specs.Fits.{Meaning, Describes, Fits}
use Rattle.abs_heap.specs.Laws.{with_heap, GoesAlike, NumberWritesGoOn}
use Rattle.abs_heap.proofs.Carrying.{own_cell, fits_carried, fits_other, kept_edge}
use Rattle.abs_heap.proofs.NumberWrites.{IsArrayAlike, StandsAlike, own_array, described_alike}

module _ (types : WorldTypes) (state : AbstractState) (machine : MachineState) (m : Meaning) (o : ℕ) (heap : Heap)
    (good : IsWellFormed state) (h : Fits types state machine m)
    (w : AreRenumbered machine.heap o heap) (same : length w.after ≡ length w.before) where
  abbrev after : MachineState
  after = with_heap machine heap

  kept : (x : Value) → IsKept machine.heap heap x
  kept = number_writes machine.heap heap o w

  abbrev now : Object
  now = objects.Nums w.kind w.after

  alike : (r : ℕ) (object : Object) → slice_get machine.heap.objects r ≡ Some object → StandsAlike heap r object
  alike r object e = elim (cases_eq r o) [
    | inl s ↦
        let is : objects.Nums w.kind w.before ≡ object = some_is (sym w.stands ∙ ap (slice_get machine.heap.objects) (sym s) ∙ e) in
        record {
          now = now;
          stands = ap (λ (xs : List Object). slice_get xs r) w.objects ∙ ap (slice_get (slice_set machine.heap.objects o now)) s
              ∙ get_set machine.heap.objects o now (objects.Nums w.kind w.before) w.stands;
          typed = ap type_of is;
          alike = subst (λ (ob : Object). IsArrayAlike ob now) is (w.after, (refl, same));
        }
    | inr n ↦ record {
      now = object;
      stands = ap (λ (xs : List Object). slice_get xs r) w.objects
          ∙ get_set_other machine.heap.objects o r now n ∙ e;
      typed = refl;
      alike = own_array object;
    }
  ]

  -- an instance is no array
  never : (class : ℕ) (fields : List Value) → objects.Nums w.kind w.before ≡ objects.Instance class fields → ⊥
  never class fields e = cc

  elsewhere : (v : Value) (class : ℕ) (ids : List ℕ) → Describes types machine.heap m (cells.Obj class ids) v → (r : ℕ)
      → target v ≡ Some r → r ≡ o → ⊥
  elsewhere v class ids d r t s =
      let at : d.place ≡ o = some_is (sym (ap target d.names) ∙ t) ∙ s in
      never class (map m ids) (some_is (sym w.stands ∙ ap (slice_get machine.heap.objects) (sym at) ∙ d.stands ∙ ap Some d.holds))

  described : (id : ℕ) (c : Cell) → cell_at state id ≡ Some c → Describes types heap m c (m id)
  described id c e = described_alike types machine.heap heap m c (m id) alike
      (λ class ids is r t. ap (λ (xs : List Object). slice_get xs r) w.objects
      ∙ get_set_other machine.heap.objects o r now
      (elsewhere (m id) class ids (subst (λ (d : Cell). Describes types machine.heap m d (m id)) is (h.cells id c e)) r t))
      (h.cells id c e)

  number_write_goes : GoesAlike types state machine m state (with_heap machine heap)
  number_write_goes = record {
    fits = fits_other types state state (cell_at state) after m
        (fits_carried types state machine m good h state.frames state.throwing (cell_at state) after kept h.positions h.mode
        (λ id c e. own_cell state id c e) described)
        (record { frames_are = refl; throwing_is = refl; eq_is = refl; share_is = refl; cells = λ id. refl });
    edge = kept_edge state machine m true state after kept;
  }

pub number_writes_go_on : NumberWritesGoOn
number_writes_go_on types state machine m o heap good h w same = number_write_goes types state machine m o heap good h w same
