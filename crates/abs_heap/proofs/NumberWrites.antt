-- An int written into a field: the ids keep their values. And what cells describe where arrays have other items.
use Rattle.std.proofs.Common.{◌≡◌, ◌≢◌, ℕ, zero, suc, ℤ, pos, true, false, List, [], ◌∷◌, length, map, Option, Some, inl, inr, refl}
use Rattle.std.proofs.Common.{sym, ap, subst, ◌∙◌, IsTrue}
use Rattle.std.specs.Prelude.{slice_get, slice_set}
use Rattle.std.specs.Option.{option_and_then}
use Rattle.std.proofs.lemmas.Bool.{false≢true}
use Rattle.std.proofs.lemmas.Option.{none-some}
use Rattle.list_views.proofs.Items.{length_set}
use Rattle.jvm_values.specs.declared.types.Ty.{Ty}
use Rattle.jvm_values.specs.declared.heap.Value.{Value}
use Rattle.jvm_values.specs.declared.heap.Value.TheVariants as values
use Rattle.jvm_values.specs.declared.heap.Object.{Object}
use Rattle.jvm_values.specs.declared.heap.Object.TheVariants as objects
use Rattle.jvm_values.specs.declared.heap.Heap.{Heap}
use Rattle.jvm_values.specs.States.{MachineState}
use Rattle.jvm_values.specs.Heaps.{target, values_of, value_at}
use Rattle.jvm_values.specs.TypedHeaps.{WorldTypes, type_of}
use Rattle.jvm_values.specs.Writes.{IsWritten, with_value, IsKept}
use Rattle.jvm_values.proofs.IntWrites.{int_writes}
use Rattle.jvm_values.proofs.Lists.{get_set_other}
use Rattle.jvm_values.proofs.Options.{some_is}
use Rattle.abs_cells.specs.declared.cells.Cell.{Cell}
use Rattle.abs_cells.specs.declared.cells.Cell.TheVariants as cells
use Rattle.abs_cells.specs.AbstractStates.{AbstractState}
use Rattle.abs_cells.specs.Cells.{is_int, cell_at, HasCell}
use Rattle.abs_cells.specs.Sound.{IsWellFormed}
use Rattle.abs_cells.specs.Fits.{Meaning, IsObject, Describes, Fits}
use Rattle.abs_cells.proofs.Fitting.{known_apart}
use Rattle.abs_heap.specs.Given.{with_cells}
use Rattle.abs_heap.specs.Laws.{with_heap, HasOtherCells, GoesAlike, IntWritesGoOn}
use Rattle.abs_heap.proofs.Carrying.{IsCarriedCell, own_cell, fits_carried, fits_other, kept_edge}
use Rattle.abs_heap.proofs.Renamed.{mapped_set}
use Rattle.abs_heap.proofs.Replacing.{replaced_cases}
use Rattle.abs_heap.proofs.ChangedCells.{object_after, type_after}

-- ---- objects that change in numbers

-- an array has as many items as another one, of the same type
abbrev pub IsArrayAlike : Object → Object → Type 0
IsArrayAlike (objects.Instance class fields) now = Unit {0}
IsArrayAlike (objects.Nums kind items) now = (after : List ℤ) × ((now ≡ objects.Nums kind after) × (length after ≡ length items))
IsArrayAlike (objects.Refs element items) now = (after : List Value) × ((now ≡ objects.Refs element after) × (length after ≡ length items))

-- an object of the old heap stands in the new one with the same type, and with as many items
pub record StandsAlike (after : Heap) (r : ℕ) (object : Object) : Type 0 where
  pub now : Object
  pub stands : slice_get after.objects r ≡ Some now
  pub typed : type_of now ≡ type_of object
  pub alike : IsArrayAlike object now

pub own_array : (object : Object) → IsArrayAlike object object
own_array (objects.Instance class fields) = tt
own_array (objects.Nums kind items) = (items, (refl, refl))
own_array (objects.Refs element items) = (items, (refl, refl))

-- what a cell describes it describes still; an instance, whose fields it tells, stands as it stood
pub described_alike : (types : WorldTypes) (heap after : Heap) (m : Meaning) (c : Cell) (v : Value)
    → ((r : ℕ) (object : Object) → slice_get heap.objects r ≡ Some object → StandsAlike after r object)
    → ((class : ℕ) (ids : List ℕ) → c ≡ cells.Obj class ids → (r : ℕ) → target v ≡ Some r
    → slice_get after.objects r ≡ slice_get heap.objects r)
    → Describes types heap m c v → Describes types after m c v
described_alike types heap after m (cells.Int interval) v alike same d = d
described_alike types heap after m cells.Null v alike same d = d
described_alike types heap after m (cells.Obj class ids) v alike same d =
    record {
      place = d.place;
      object = d.object;
      names = d.names;
      stands = same class ids refl d.place (ap target d.names)
          ∙ d.stands;
      holds = d.holds;
    }
described_alike types heap after m (cells.Nums kind len) v alike same d =
    let k = alike d.place d.object d.stands in
    let p : IsArrayAlike (objects.Nums kind d.holds.items) k.now = subst (λ (ob : Object). IsArrayAlike ob k.now) d.holds.is k.alike in
    record {
      place = d.place;
      object = k.now;
      names = d.names;
      stands = k.stands;
      holds = record
          { items = p.0; is = p.1.0; length_is = d.holds.length_is ∙ ap (λ (l : ℕ). values.Int (pos l)) (sym p.1.1) };
    }
described_alike types heap after m (cells.Refs element len shape) v alike same d =
    let k = alike d.place d.object d.stands in
    let p : IsArrayAlike (objects.Refs d.holds.item d.holds.items) k.now = subst (λ (ob : Object). IsArrayAlike ob k.now) d.holds.is
    k.alike in
    record {
      place = d.place;
      object = k.now;
      names = d.names;
      stands = k.stands;
      holds = record {
        item = d.holds.item;
        items = p.0;
        is = p.1.0;
        below = d.holds.below;
        length_is = d.holds.length_is
            ∙ ap (λ (l : ℕ). values.Int (pos l)) (sym p.1.1);
      };
    }
described_alike types heap after m (cells.Unk bound nullable shape) v alike same (inl d) = inl d
described_alike types heap after m (cells.Unk bound nullable shape) v alike same (inr d) =
    let k = alike d.place d.object d.stands in
    inr (record {
      place = d.place;
      object = k.now;
      names = d.names;
      stands = k.stands;
      holds = subst
          (λ (t : Ty). IsTrue (types.sub t bound)) (sym k.typed) d.holds;
    })

-- ---- fields

with_value_array : (place : ℕ) (value : Value) (object : Object) → IsArrayAlike object (with_value place value object)
with_value_array place value (objects.Instance class fields) = tt
with_value_array place value (objects.Nums kind items) = (items, (refl, refl))
with_value_array place value (objects.Refs element items) = (slice_set items place value, (refl, length_set items place value))

-- the value of an id of an int is a number
number_is : (types : WorldTypes) (heap : Heap) (m : Meaning) (c : Cell) (v : Value) → is_int c ≡ true → Describes types heap m c v
    → (n : ℤ) × (v ≡ values.Int n)
number_is types heap m (cells.Int interval) v i d = (d.0, d.1.0)
number_is types heap m cells.Null v i d = absurd (false≢true i)
number_is types heap m (cells.Obj class ids) v i d = absurd (false≢true i)
number_is types heap m (cells.Nums kind len) v i d = absurd (false≢true i)
number_is types heap m (cells.Refs element len shape) v i d = absurd (false≢true i)
number_is types heap m (cells.Unk bound nullable shape) v i d = absurd (false≢true i)

mapped_there : (m : Meaning) (ids : List ℕ) (k id : ℕ) → slice_get ids k ≡ Some id → slice_get (map m ids) k ≡ Some (m id)
mapped_there m [] k id e = absurd (none-some id e)
mapped_there m (x ∷ ids) zero id e = ap (λ (y : ℕ). Some (m y)) (some_is e)
mapped_there m (x ∷ ids) (suc k) id e = mapped_there m ids k id e

module _ (types : WorldTypes) (state child : AbstractState) (machine : MachineState) (m : Meaning) (k class place old value o : ℕ)
    (ids : List ℕ) (heap : Heap) (good : IsWellFormed state) (h : Fits types state machine m)
    (at : cell_at state k ≡ Some (cells.Obj class ids)) (got : slice_get ids place ≡ Some old)
    (is_int_old : HasCell is_int state old) (is_int_value : HasCell is_int state value) (names : target (m k) ≡ Some o)
    (w : IsWritten machine.heap o place (m value) heap)
    (is : HasOtherCells state (with_cells ((k, cells.Obj class (slice_set ids place value)) ∷ []) state) child) where
  abbrev after : MachineState
  after = with_heap machine heap

  abbrev new : Cell
  new = cells.Obj class (slice_set ids place value)

  abbrev cell : ℕ → Option Cell
  cell = with_cells ((k, new) ∷ []) state

  instance : IsObject machine.heap (m k) (λ (object : Object). object ≡ objects.Instance class (map m ids))
  instance = h.cells k (cells.Obj class ids) at

  place_is : instance.place ≡ o
  place_is = some_is (sym (ap target instance.names) ∙ names)

  stands : slice_get machine.heap.objects o ≡ Some (objects.Instance class (map m ids))
  stands = ap (slice_get machine.heap.objects) (sym place_is) ∙ instance.stands ∙ ap Some instance.holds

  before_is : (n : ℤ) × (m old ≡ values.Int n)
  before_is = number_is types machine.heap m is_int_old.cell (m old) is_int_old.sort_is (h.cells old is_int_old.cell is_int_old.is)

  value_is : (n : ℤ) × (m value ≡ values.Int n)
  value_is = number_is types machine.heap m is_int_value.cell (m value) is_int_value.sort_is
      (h.cells value is_int_value.cell is_int_value.is)

  held : value_at machine.heap o place ≡ Some (values.Int before_is.0)
  held = ap (option_and_then (λ (ob : Object). slice_get (values_of ob) place)) stands ∙ mapped_there m ids place old got
      ∙ ap Some before_is.1

  kept : (x : Value) → IsKept machine.heap heap x
  kept = int_writes machine.heap heap o place before_is.0 value_is.0
      (subst (λ (v : Value). IsWritten machine.heap o place v heap) value_is.1 w) held

  alike : (r : ℕ) (object : Object) → slice_get machine.heap.objects r ≡ Some object → StandsAlike heap r object
  alike r object e = elim (object_after machine.heap heap o place (m value) w r object e) [
    | inl s ↦ record { now = object; stands = s.1; typed = refl; alike = own_array object }
    | inr s ↦ record {
      now = with_value place (m value) object;
      stands = s.1.1;
      typed = type_after place (m value) object;
      alike =
          with_value_array place (m value) object;
    }
  ]

  carried : (id : ℕ) (c : Cell) → cell id ≡ Some c → IsCarriedCell state id c
  carried id c e = elim (replaced_cases state k new id c e) [
    | inl s ↦ subst (λ (d : Cell). IsCarriedCell state id d) (sym s.1)
        (record { old = cells.Obj class ids; old_is = ap (cell_at state) s.0 ∙ at; known = λ q. refl; hazy = λ q. q; shaped = λ t q. q })
    | inr s ↦ own_cell state id c s.1
  ]

  written : Describes types heap m new (m k)
  written = elim (object_after machine.heap heap o place (m value) w o (objects.Instance class (map m ids)) stands) [
    | inl s ↦ absurd (s.0 refl)
    | inr s ↦ record {
      place = o;
      object = objects.Instance class (slice_set (map m ids) place (m value));
      names = instance.names ∙ ap values.Ref place_is;
      stands = s.1.1;
      holds = ap (objects.Instance class) (sym (mapped_set m ids place value));
    }
  ]

  described : (id : ℕ) (c : Cell) → cell id ≡ Some c → Describes types heap m c (m id)
  described id c e = elim (replaced_cases state k new id c e) [
    | inl s ↦ subst (λ (i : ℕ). Describes types heap m c (m i)) (sym s.0)
        (subst (λ (d : Cell). Describes types heap m d (m k)) (sym s.1) written)
    | inr s ↦ described_alike types machine.heap heap m c (m id) alike
        (λ class_there ids_there is_instance r t. other id c s.0 s.1 class_there ids_there is_instance r t) (h.cells id c s.1)
  ]
    where
      other : (id : ℕ) (c : Cell) → (id ≡ k → ⊥) → cell_at state id ≡ Some c → (class_there : ℕ) (ids_there : List ℕ)
          → c ≡ cells.Obj class_there ids_there → (r : ℕ) → target (m id) ≡ Some r
          → slice_get heap.objects r ≡ slice_get machine.heap.objects r
      other id c n e class_there ids_there is_instance r t =
          ap (λ (xs : List Object). slice_get xs r) w.objects
          ∙ get_set_other machine.heap.objects o r (with_value place (m value) w.object)
          (λ s. known_apart types state machine m good h id k o
          (record { cell = cells.Obj class_there ids_there; is = e ∙ ap Some is_instance; sort_is = refl })
          (record { cell = cells.Obj class ids; is = at; sort_is = refl }) n (t ∙ ap Some s) names)

  int_write_goes : GoesAlike types state machine m child (with_heap machine heap)
  int_write_goes = record {
    fits = fits_other types state child cell after m
        (fits_carried types state machine m good h state.frames state.throwing cell after kept h.positions h.mode carried described) is;
    edge = kept_edge state machine m true child after kept;
  }

pub int_writes_go_on : IntWritesGoOn
int_writes_go_on types state child machine m k class place old value o ids heap good h at got is_int_old is_int_value names w is =
    int_write_goes types state child machine m k class place old value o ids heap good h at got is_int_old is_int_value names w is
