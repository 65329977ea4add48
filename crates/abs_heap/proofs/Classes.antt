-- A split by class: what the object is, among the cases in order.
use Rattle.std.proofs.Common.{◌≡◌, ◌≢◌, ℕ, suc, ◌-◌, true, false, List, [], ◌∷◌, length, map}
use Rattle.std.proofs.Common.{Option, Some, None, ◌⊎◌, inl, inr, refl, sym, ap, subst, ◌∙◌, arith, IsTrue, pos}
use Rattle.std.specs.Prelude.{slice_get, zip}
use Rattle.std.specs.List.{AllZip}
use Rattle.std.proofs.lemmas.Bool.{false≢true, cases_Bool, cond-true, cond-false, cases_eq}
use Rattle.std.proofs.lemmas.Int.{ints}
use Rattle.std.proofs.lemmas.List.Elements.{All-nil}
use Rattle.std.proofs.lemmas.Slice.Zip.{AllZip-long}
use Rattle.std.proofs.lemmas.Option.{none-some}
use Rattle.list_views.proofs.Zipped.{zip_left}
use Rattle.list_views.proofs.Quantified.{all_at}
use Rattle.jvm_values.specs.declared.types.Ty.{Ty}
use Rattle.jvm_values.specs.declared.types.Slot.{Slot}
use Rattle.jvm_values.specs.declared.types.Slot.TheVariants as slots
use Rattle.jvm_values.specs.declared.heap.Value.{Value}
use Rattle.jvm_values.specs.declared.heap.Value.TheVariants as values
use Rattle.jvm_values.specs.declared.heap.Object.{Object}
use Rattle.jvm_values.specs.declared.heap.Object.TheVariants as objects
use Rattle.jvm_values.specs.declared.heap.Heap.{Heap}
use Rattle.jvm_values.specs.declared.shape.Shape.{Shape}
use Rattle.jvm_values.specs.declared.shape.Shape.TheVariants.{Tree, Dag, Any}
use Rattle.jvm_values.specs.States.{MachineState}
use Rattle.jvm_values.specs.Heaps.{target, values_of, Region, HasShape}
use Rattle.jvm_values.specs.Subtyping.{class_type, IsSlot}
use Rattle.jvm_values.specs.TypedHeaps.{WorldTypes, AreLawful, HasType, Holds, IsTypedHeap, IsTypedObject, type_of}
use Rattle.jvm_values.proofs.Options.{some_is}
use Rattle.jvm_values.proofs.Ranges.{kind_ints}
use Rattle.abs_cells.specs.declared.cells.Cell.{Cell}
use Rattle.abs_cells.specs.declared.cells.Cell.TheVariants as cells
use Rattle.abs_cells.specs.AbstractStates.{AbstractState}
use Rattle.abs_cells.specs.Cells.{is_known, is_hazy, is_reference, is_comparable, shape_of, cell_in, cell_at, HasCell, AreEqual, Share}
use Rattle.abs_cells.specs.Sound.{IsSound, IsSoundCell}
use Rattle.abs_cells.specs.Fits.{Meaning, Describes, Fits, with_statics}
use Rattle.abs_cells.proofs.Fitting.{known_apart}
use Rattle.abs_cells.proofs.PairLaws.{has_swapped}
use Rattle.abs_reach.proofs.Walks.{some_cell}
use Rattle.term_graph.specs.Edges.{HoldsBetween}
use Rattle.abs_heap.specs.Given.{first_cell, with_cells, MayBeOne}
use Rattle.abs_heap.specs.Refining.{Case, instance, numbers, references, lower_of, cell_of_slot, IsReferenceField}
use Rattle.abs_heap.specs.Refining.{JoinsFields, IsInstanceChild, IsCase}
use Rattle.abs_heap.specs.Refining.{cases_below, cases_of}
use Rattle.abs_heap.specs.Laws.{plain_link, Goes, GoesToCase, ClassesSplit}
use Rattle.abs_heap.proofs.Placing.{cell_here, cell_later}
use Rattle.abs_heap.proofs.Fitted.{FitsBy, fits_given, names_reference}
use Rattle.abs_heap.proofs.SameTerms.{same_size}
use Rattle.abs_heap.proofs.Carried.{Agrees, positions_carried, mode_carried, cell_carried}
use Rattle.abs_heap.proofs.NewThings.{with_values, kept_others, valued_here, valued_later, values_are}
use Rattle.abs_heap.proofs.Telling.{Tells, tells, told_compatible, sound_at, array_reference}
use Rattle.abs_heap.proofs.OneObject.{object_at, ref_of}
use Rattle.abs_heap.proofs.Loading.{held_path, held_region, held_shape, held_itself, known_or_hazy}
use Rattle.abs_heap.proofs.ArrayCases.{array_goes, Stands, instance_stands, numbers_stand, listed_stands, element_stands, itself}

-- ---- an instance

-- an id that a field of the object has
field_pair : (ids : List ℕ) (ss : List Slot) (g : Slot → Cell) (vs : List Value) (m : Meaning) (i : ℕ) (c : Cell)
    → cell_in (zip ids (map g ss)) i ≡ Some c → length ids ≡ length vs
    → (place : ℕ) × ((slot : Slot)
    × ((value : Value) × ((slice_get ids place ≡ Some i)
    × ((slice_get ss place ≡ Some slot)
    × ((slice_get vs place ≡ Some value) × ((g slot ≡ c) × (with_values (zip ids vs) m i ≡ value)))))))
field_pair [] ss g vs m i c e l = absurd (none-some c e)
field_pair (y ∷ ids) [] g vs m i c e l = absurd (none-some c e)
field_pair (y ∷ ids) (s ∷ ss) g [] m i c e l = absurd (omega (arith, l))
field_pair (y ∷ ids) (s ∷ ss) g (v ∷ vs) m i c e l = elim (cases_eq y i) [
  | inl f ↦ (
    0,
    (
      s,
      (
        v,
        (
          ap Some f,
          (
            refl,
            (
              refl,
              (
                some_is (sym (cell_here (y, g s) (zip ids (map g ss)) i f) ∙ e),
                valued_here (y, v)
                    (zip ids vs) m i f,
              ),
            ),
          ),
        ),
      ),
    ),
  )
  | inr f ↦
      let r = field_pair ids ss g vs m i c (sym (cell_later (y, g s) (zip ids (map g ss)) i f) ∙ e) (omega (arith, l)) in (
        suc r.0,
        (
          r.1.0,
          (
            r.1.1.0,
            (r.1.1.1.0, (r.1.1.1.1.0, (r.1.1.1.1.1.0, (r.1.1.1.1.1.1.0, valued_later (y, v) (zip ids vs) m i f ∙ r.1.1.1.1.1.1.1)))),
          ),
        ),
      )
]

held_at : (types : WorldTypes) (heap : Heap) (ss : List Slot) (vs : List Value) (n : ℕ) (slot : Slot) (value : Value)
    → AllZip (Holds types heap) ss vs → slice_get ss n ≡ Some slot → slice_get vs n ≡ Some value → Holds types heap slot value
held_at types heap ss vs n slot value z e f =
    let r = zip_left (Holds types heap) ss vs n slot z e in
    subst (Holds types heap slot) (some_is (sym r.1.0 ∙ f)) r.1.1

-- an object that reaches itself through a value that it holds has a region of any shape
module _ (heap : Heap) (holder value : Value) (o n : ℕ) (object : Object) (names : target holder ≡ Some o)
    (stands : slice_get heap.objects o ≡ Some object) (got : slice_get (values_of object) n ≡ Some value) where
  never_empty : (p : List ℕ) → n ∷ p ≡ [] → ⊥
  never_empty p e = cc

  pub held_cycle : (shape : Shape) → HasShape shape heap holder → Region heap value o → shape ≡ Any
  held_cycle Tree s r = absurd
      (never_empty r.reaches.path
      (s o names (n ∷ r.reaches.path) [] o (held_path heap holder value o n object names stands got r.start o r.reaches.path
      r.names r.reaches.leads) refl))
  held_cycle Dag s r = absurd
      (never_empty r.reaches.path
      (s o names [] o refl (n ∷ r.reaches.path) (held_path heap holder value o n object names stands got r.start o r.reaches.path
      r.names r.reaches.leads)))
  held_cycle Any s r = refl

abbrev first_of : List ℕ → ℕ
first_of [] = 0
first_of (x ∷ xs) = x

module _ (types : WorldTypes) (state child : AbstractState) (machine : MachineState) (m : Meaning) (laws : AreLawful types)
    (sound : IsSound types state) (typed : IsTypedHeap types machine.heap) (h : Fits types state machine m)
    (x : ℕ) (bound : Ty) (shape : Shape) (at : cell_at state x ≡ Some (cells.Unk bound false shape)) (unknown : (k : ℕ)
    → HasCell is_known state k → AreEqual state x k → ⊥)
    (o class : ℕ) (fields : List Value) (names : target (m x) ≡ Some o)
    (stands : slice_get machine.heap.objects o ≡ Some (objects.Instance class fields))
    (object_typed : IsTypedObject types machine.heap (objects.Instance class fields))
    (is : IsInstanceChild types state x shape class child) where
  abbrev heap : Heap
  heap = machine.heap

  abbrev ss : List Slot
  ss = types.fields class

  abbrev ids : List ℕ
  ids = is.ids

  abbrev thing : Cell
  thing = cells.Obj class is.ids

  abbrev filled : Slot → Cell
  filled = cell_of_slot types.erase shape

  abbrev inow : Meaning
  inow = with_values (zip is.ids fields) m

  abbrev joins : ℕ → ℕ → Type 0
  joins = JoinsFields (types.fields class) is.ids state x shape

  abbrev wants_one : ℕ → ℕ → Type 0
  wants_one a b = AreEqual state a b ⊎ MayBeOne types.sub (JoinsFields (types.fields class) is.ids state x shape) child.cells a b

  abbrev wants_share : ℕ → ℕ → Type 0
  wants_share a b = Share state a b ⊎ JoinsFields (types.fields class) is.ids state x shape a b

  ihazy_x : HasCell is_hazy state x
  ihazy_x = record { cell = cells.Unk bound false shape; is = at; sort_is = refl }

  iany_x : HasCell (λ _. true) state x
  iany_x = record { cell = cells.Unk bound false shape; is = at; sort_is = refl }

  iagrees : Agrees state m inow
  iagrees = kept_others state m is.ids fields is.fresh.free

  long : length is.ids ≡ length fields
  long = is.count ∙ sym (AllZip-long (Holds types heap) (types.fields class) fields object_typed.1.1)

  iitself : (v : Value) (p : ℕ) → target v ≡ Some p → Region heap v p
  iitself v p t = record { start = p; names = t; reaches = record { path = []; leads = refl } }

  -- a field's id: its place, and what stands there
  record Field (i : ℕ) (c : Cell) : Type 0 where
    place : ℕ
    slot : Slot
    value : Value
    id_is : slice_get is.ids place ≡ Some i
    slot_is : slice_get (types.fields class) place ≡ Some slot
    value_is : slice_get fields place ≡ Some value
    cell_is : cell_of_slot types.erase shape slot ≡ c
    now_is : with_values (zip is.ids fields) m i ≡ value

  data ISort (i : ℕ) (c : Cell) : Type 0 where
    iold : cell_at state i ≡ Some c → with_values (zip is.ids fields) m i ≡ m i → (x ≡ i → ⊥) → ISort i c
    isplit : x ≡ i → cells.Obj class is.ids ≡ c → ISort i c
    ifield : Field i c → (x ≡ i → ⊥) → ISort i c

  now_x : with_values (zip is.ids fields) m x ≡ m x
  now_x = iagrees x iany_x

  isort_of : (i : ℕ) (c : Cell)
      → with_cells ((x, cells.Obj class is.ids) ∷ zip is.ids (map (cell_of_slot types.erase shape) (types.fields class))) state i
      ≡ Some c → ISort i c
  isort_of i c e = elim (cases_eq x i) [
    | inl f ↦ isplit f (some_is
        (sym (ap (λ (y : Option Cell). first_cell y (cell_at state i))
        (cell_here (x, cells.Obj class is.ids) (zip is.ids (map (cell_of_slot types.erase shape) (types.fields class))) i f)) ∙ e))
    | inr f ↦ later f (cell_in (zip is.ids (map (cell_of_slot types.erase shape) (types.fields class))) i) refl
        (sym (ap (λ (y : Option Cell). first_cell y (cell_at state i))
        (cell_later (x, cells.Obj class is.ids) (zip is.ids (map (cell_of_slot types.erase shape) (types.fields class))) i f)) ∙ e)
  ]
    where
      later : (x ≡ i → ⊥) → (q : Option Cell) → cell_in (zip is.ids (map (cell_of_slot types.erase shape) (types.fields class))) i
          ≡ q → first_cell (cell_in (zip is.ids (map (cell_of_slot types.erase shape) (types.fields class))) i) (cell_at state i)
          ≡ Some c → ISort i c
      later f None g k =
          let there : cell_at state i ≡ Some c = ap (λ (y : Option Cell). first_cell y (cell_at state i)) (sym g) ∙ k in
          iold there (iagrees i (record { cell = c; is = there; sort_is = refl })) f
      later f (Some d) g k =
          let same : d ≡ c = some_is (ap (λ (y : Option Cell). first_cell y (cell_at state i)) (sym g) ∙ k) in
          let r = field_pair is.ids (types.fields class) (cell_of_slot types.erase shape) fields m i c (g ∙ ap Some same) long in
          ifield (record {
            place = r.0;
            slot = r.1.0;
            value = r.1.1.0;
            id_is = r.1.1.1.0;
            slot_is = r.1.1.1.1.0;
            value_is =
                r.1.1.1.1.1.0;
            cell_is = r.1.1.1.1.1.1.0;
            now_is = r.1.1.1.1.1.1.1;
          }) f

  -- what a field's cell tells
  slot_described : (s : Slot) (v : Value) → Holds types heap s v → Describes types heap inow (cell_of_slot types.erase shape s) v
  slot_described (slots.Num kind) (values.Int n) t = (n, (refl, t))
  slot_described (slots.Num kind) values.Null t = absurd t
  slot_described (slots.Num kind) (values.Ref r) t = absurd t
  slot_described (slots.Ref y) (values.Int n) t = absurd t
  slot_described (slots.Ref y) values.Null t = inl (refl, refl)
  slot_described (slots.Ref y) (values.Ref r) t = inr (record { place = r; object = t.0; names = refl; stands = t.1.0; holds = t.1.1 })

  field_holds : (i : ℕ) (c : Cell) (f : Field i c) → Holds types heap f.slot f.value
  field_holds i c f = held_at types heap (types.fields class) fields f.place f.slot f.value object_typed.1.1 f.slot_is f.value_is

  field_described : (i : ℕ) (c : Cell) (f : Field i c) → Describes types heap inow c f.value
  field_described i c f = subst (λ (d : Cell). Describes types heap inow d f.value) f.cell_is
      (slot_described f.slot f.value (field_holds i c f))

  -- a field that names an object holds a reference
  slot_sound : (s : Slot) → IsSlot types.classes s → IsSoundCell types state (cell_of_slot types.erase shape s)
  slot_sound (slots.Num kind) r = kind_ints kind
  slot_sound (slots.Ref y) r = ((laws.of_world y (types.erase y) (laws.erase_up y r)).1, laws.erase_erased y r)

  field_sound : (i : ℕ) (c : Cell) (f : Field i c) → IsSoundCell types state c
  field_sound i c f = subst (λ (d : Cell). IsSoundCell types state d) f.cell_is
      (slot_sound f.slot (all_at (IsSlot types.classes) (types.fields class) f.place f.slot
      (laws.slots_of_world class object_typed.0) f.slot_is))

  reference_slot : (s : Slot) (v : Value) (p : ℕ) → Holds types heap s v → target v ≡ Some p → (y : Ty) × (s ≡ slots.Ref y)
  reference_slot (slots.Num kind) (values.Int n) p t e = absurd (none-some p e)
  reference_slot (slots.Num kind) values.Null p t e = absurd t
  reference_slot (slots.Num kind) (values.Ref r) p t e = absurd t
  reference_slot (slots.Ref y) v p t e = (y, refl)

  is_field : (i : ℕ) (c : Cell) (f : Field i c) (p : ℕ) → target f.value ≡ Some p → IsReferenceField (types.fields class) is.ids i
  is_field i c f p t =
      let y = reference_slot f.slot f.value p (field_holds i c f) t in
      record { place = f.place; t = y.0; slot_is = f.slot_is ∙ ap Some y.1; id_is = f.id_is }

  hazy_slot : (s : Slot) → is_hazy (cell_of_slot types.erase shape s) ≡ true → (y : Ty) × (s ≡ slots.Ref y)
  hazy_slot (slots.Num kind) e = absurd (false≢true e)
  hazy_slot (slots.Ref y) e = (y, refl)

  hazy_field : (i : ℕ) (c : Cell) (f : Field i c) → is_hazy c ≡ true → IsReferenceField (types.fields class) is.ids i
  hazy_field i c f z =
      let y = hazy_slot f.slot (ap is_hazy f.cell_is ∙ z) in
      record { place = f.place; t = y.0; slot_is = f.slot_is ∙ ap Some y.1; id_is = f.id_is }

  unknown_slot : (s : Slot) → is_known (cell_of_slot types.erase shape s) ≡ false
  unknown_slot (slots.Num kind) = refl
  unknown_slot (slots.Ref y) = refl

  unknown_field : (i : ℕ) (c : Cell) (f : Field i c) → is_known c ≡ true → ⊥
  unknown_field i c f k = false≢true (sym (unknown_slot f.slot) ∙ ap is_known f.cell_is ∙ k)

  -- regions
  in_object : (i : ℕ) (c : Cell) (f : Field i c) (p : ℕ) → Region heap f.value p → Region heap (m x) p
  in_object i c f p r = held_region heap (m x) f.value o f.place (objects.Instance class fields) names stands f.value_is p r

  shape_x : HasShape shape heap (m x)
  shape_x = h.shapes x (cells.Unk bound false shape) shape at refl

  -- two fields whose regions meet are in no tree
  no_tree : (i j : ℕ) (c d : Cell) (f : Field i c) (g : Field j d) (p : ℕ) → i ≢ j → Region heap f.value p → Region heap g.value p
      → shape ≡ Tree → ⊥
  no_tree i j c d f g p differ ra rb s =
      let tree : HasShape Tree heap (m x) = subst (λ (y : Shape). HasShape y heap (m x)) s shape_x in
      let one = held_path heap (m x) f.value o f.place (objects.Instance class fields) names stands f.value_is ra.start p
      ra.reaches.path ra.names ra.reaches.leads in
      let other = held_path heap (m x) g.value o g.place (objects.Instance class fields) names stands g.value_is rb.start p
      rb.reaches.path rb.names rb.reaches.leads in
      let same : f.place ≡ g.place = ap first_of (tree o names (f.place ∷ ra.reaches.path) (g.place ∷ rb.reaches.path) p one other) in
      differ (some_is (sym f.id_is ∙ ap (slice_get is.ids) same ∙ g.id_is))

  itarget : (i p : ℕ) (v : Value) → with_values (zip is.ids fields) m i ≡ v → target (with_values (zip is.ids fields) m i) ≡ Some p
      → target v ≡ Some p
  itarget i p v e t = ap target (sym e) ∙ t

  iregion : (i p : ℕ) (v : Value) → with_values (zip is.ids fields) m i ≡ v → Region heap (with_values (zip is.ids fields) m i) p
      → Region heap v p
  iregion i p v e r = subst (λ (u : Value). Region heap u p) e r

  at_x : (i p : ℕ) → x ≡ i → target (with_values (zip is.ids fields) m i) ≡ Some p → target (m x) ≡ Some p
  at_x i p f t = ap target (sym now_x) ∙ ap (λ (j : ℕ). target (with_values (zip is.ids fields) m j)) f ∙ t

  -- ---- pairs
  child_cell : (i : ℕ) (c : Cell)
      → with_cells ((x, cells.Obj class is.ids) ∷ zip is.ids (map (cell_of_slot types.erase shape) (types.fields class))) state i
      ≡ Some c → cell_in child.cells i ≡ Some c
  child_cell i c e = is.is.cells i ∙ e

  instance_cell : with_cells ((x, cells.Obj class is.ids) ∷ zip is.ids (map (cell_of_slot types.erase shape) (types.fields class)))
      state x ≡ Some (cells.Obj class is.ids)
  instance_cell = ap (λ (y : Option Cell). first_cell y (cell_at state x))
      (cell_here (x, cells.Obj class is.ids) (zip is.ids (map (cell_of_slot types.erase shape) (types.fields class))) x refl)

  -- a hazy or known id that stands for something in a field's region shares with x
  shares_x : (b p : ℕ) (d : Cell) → cell_at state b ≡ Some d → (x ≡ b → ⊥) → is_reference d ≡ true → target (m b) ≡ Some p
      → Region heap (m x) p → Share state x b
  shares_x b p d e n r t region = elim (known_or_hazy d r) [
    | inl k ↦ has_swapped b x state.share ∙ h.inside b x p (record { cell = d; is = e; sort_is = k }) ihazy_x t region
    | inr z ↦ h.meeting x b p ihazy_x (record { cell = d; is = e; sort_is = z }) n region (iitself (m b) p t)
  ]

  one_object : (i b p : ℕ) (c d : Cell) (f : Field i c)
      → with_cells ((x, cells.Obj class is.ids) ∷ zip is.ids (map (cell_of_slot types.erase shape) (types.fields class))) state i ≡ Some c
      → with_cells ((x, cells.Obj class is.ids) ∷ zip is.ids (map (cell_of_slot types.erase shape) (types.fields class))) state b ≡ Some d
      → target f.value ≡ Some p → ((ob : Object) → slice_get heap.objects p ≡ Some ob → Tells types d ob)
      → JoinsFields (types.fields class) is.ids state x shape i b
      → MayBeOne types.sub (JoinsFields (types.fields class) is.ids state x shape) child.cells i b
  one_object i b p c d f ec ed tf td j =
      let ob = object_at types heap inow c f.value p (field_described i c f) tf in
      record {
        joins = j;
        left = c;
        left_is = child_cell i c ec;
        right = d;
        right_is = child_cell b d ed;
        compatible = told_compatible types laws c d ob.0
            (tells types state heap inow laws typed c f.value p ob.0 (field_sound i c f) (field_described i c f) tf ob.1)
            (td ob.0 ob.1);
      }

  old_tells : (b p : ℕ) (d : Cell) → cell_at state b ≡ Some d → target (m b) ≡ Some p → (ob : Object)
      → slice_get heap.objects p ≡ Some ob → Tells types d ob
  old_tells b p d e t ob s = tells types state heap m laws typed d (m b) p ob (sound_at types state b d sound e) (h.cells b d e) t s

  x_tells : (p : ℕ) → target (m x) ≡ Some p → (ob : Object) → slice_get heap.objects p ≡ Some ob → Tells types (cells.Obj class is.ids) ob
  x_tells p t ob s =
      let place : p ≡ o = some_is (sym t ∙ names) in
      let same : objects.Instance class fields ≡ ob = some_is (sym stands ∙ ap (slice_get heap.objects) (sym place) ∙ s) in
      let own : class_type class ≡ type_of ob = ap type_of same in
      record {
        t = class_type class;
        is = refl;
        above = subst (λ (y : Ty). IsTrue (types.sub y (class_type class))) own
            (laws.reflexive (class_type class) (omega arith, object_typed.0));
        erased = laws.made_is_erased class object_typed.0 object_typed.1.0;
        exact = λ k. own;
      }

  field_tells : (j p : ℕ) (d : Cell) (g : Field j d) → target g.value ≡ Some p → (ob : Object) → slice_get heap.objects p ≡ Some ob
      → Tells types d ob
  field_tells j p d g t ob s = tells types state heap inow laws typed d g.value p ob (field_sound j d g) (field_described j d g) t s

  -- a field and another id, in this order
  field_with : (i b p : ℕ) (c d : Cell) (f : Field i c) → ISort b d
      → with_cells ((x, cells.Obj class is.ids) ∷ zip is.ids (map (cell_of_slot types.erase shape) (types.fields class))) state i ≡ Some c
      → with_cells ((x, cells.Obj class is.ids) ∷ zip is.ids (map (cell_of_slot types.erase shape) (types.fields class))) state b ≡ Some d
      → i ≢ b → target f.value ≡ Some p → target (with_values (zip is.ids fields) m b) ≡ Some p → wants_one i b
  field_with i b p c d f (iold e s n) ec ed differ tf tb =
      let t = itarget b p (m b) s tb in
      let why = shares_x b p d e n (names_reference types machine m d (m b) p (h.cells b d e) t) t
      (in_object i c f p (iitself f.value p tf)) in
      inr (one_object i b p c d f ec ed tf (old_tells b p d e t) (record { is_field = is_field i c f p tf; why = inl why }))
  field_with i b p c d f (isplit g k) ec ed differ tf tb =
      let t = at_x b p g tb in
      let there : target f.value ≡ Some o = tf ∙ sym t ∙ names in
      let any : shape ≡ Any = held_itself heap (m x) f.value o f.place (objects.Instance class fields) names stands f.value_is shape
      shape_x there in
      inr (one_object i b p c d f ec ed tf (λ ob s. subst (λ (y : Cell). Tells types y ob) k (x_tells p t ob s))
      (record { is_field = is_field i c f p tf; why = inr (inr (any, sym g)) }))
  field_with i b p c d f (ifield g n) ec ed differ tf tb =
      let t = itarget b p g.value g.now_is tb in
      inr (one_object i b p c d f ec ed tf (field_tells b p d g t)
      (record {
        is_field = is_field i c f p tf;
        why = inr
            (inl (no_tree i b c d f g p differ (iitself f.value p tf) (iitself g.value p t), is_field b d g p t));
      }))

  ialiases : (a b p : ℕ) (c d : Cell) → ISort a c → ISort b d
      → with_cells ((x, cells.Obj class is.ids) ∷ zip is.ids (map (cell_of_slot types.erase shape) (types.fields class))) state a ≡ Some c
      → with_cells ((x, cells.Obj class is.ids) ∷ zip is.ids (map (cell_of_slot types.erase shape) (types.fields class))) state b ≡ Some d
      → a ≢ b → target (with_values (zip is.ids fields) m a) ≡ Some p → target (with_values (zip is.ids fields) m b) ≡ Some p
      → wants_one a b ⊎ wants_one b a
  ialiases a b p c d (ifield f n) y ec ed differ ta tb = inl (field_with a b p c d f y ec ed differ (itarget a p f.value f.now_is ta) tb)
  ialiases a b p c d (iold e s n) (ifield g q) ec ed differ ta tb = inr
      (field_with b a p d c g (iold e s n) ed ec (λ w. differ (sym w)) (itarget b p g.value g.now_is tb) ta)
  ialiases a b p c d (isplit e s) (ifield g q) ec ed differ ta tb = inr
      (field_with b a p d c g (isplit e s) ed ec (λ w. differ (sym w)) (itarget b p g.value g.now_is tb) ta)
  ialiases a b p c d (iold e s n) (iold f t q) ec ed differ ta tb = inl
      (inl (h.aliases a b p (record { cell = c; is = e; sort_is = refl }) (record { cell = d; is = f; sort_is = refl }) differ
      (itarget a p (m a) s ta) (itarget b p (m b) t tb)))
  ialiases a b p c d (iold e s n) (isplit f t) ec ed differ ta tb = inl
      (inl (subst (λ (j : ℕ). AreEqual state a j) f
      (h.aliases a x p (record { cell = c; is = e; sort_is = refl }) iany_x (λ w. n (sym w)) (itarget a p (m a) s ta)
      (at_x b p f tb))))
  ialiases a b p c d (isplit e s) (iold f t n) ec ed differ ta tb = inl
      (inl (subst (λ (j : ℕ). AreEqual state j b) e
      (h.aliases x b p iany_x (record { cell = d; is = f; sort_is = refl }) n (at_x a p e ta) (itarget b p (m b) t tb))))
  ialiases a b p c d (isplit e s) (isplit f t) ec ed differ ta tb = absurd (differ (sym e ∙ f))

  iapart : (a b p : ℕ) (c d : Cell) → ISort a c → ISort b d → is_known c ≡ true → is_known d ≡ true → a ≢ b
      → target (with_values (zip is.ids fields) m a) ≡ Some p → target (with_values (zip is.ids fields) m b) ≡ Some p → ⊥
  iapart a b p c d (ifield f n) y k l differ ta tb = unknown_field a c f k
  iapart a b p c d (iold e s n) (ifield g q) k l differ ta tb = unknown_field b d g l
  iapart a b p c d (isplit e s) (ifield g q) k l differ ta tb = unknown_field b d g l
  iapart a b p c d (iold e s n) (iold f t q) k l differ ta tb = known_apart types state machine m sound.well_formed h a b p
      (record { cell = c; is = e; sort_is = k }) (record { cell = d; is = f; sort_is = l }) differ (itarget a p (m a) s ta)
      (itarget b p (m b) t tb)
  iapart a b p c d (iold e s n) (isplit f t) k l differ ta tb = unknown a (record { cell = c; is = e; sort_is = k })
      (h.aliases x a p iany_x (record { cell = c; is = e; sort_is = refl }) n (at_x b p f tb) (itarget a p (m a) s ta))
  iapart a b p c d (isplit e s) (iold f t n) k l differ ta tb = unknown b (record { cell = d; is = f; sort_is = l })
      (h.aliases x b p iany_x (record { cell = d; is = f; sort_is = refl }) n (at_x a p e ta) (itarget b p (m b) t tb))
  iapart a b p c d (isplit e s) (isplit f t) k l differ ta tb = differ (sym e ∙ f)

  field_meets : (i b p : ℕ) (c d : Cell) (f : Field i c) → ISort b d → is_hazy c ≡ true → is_hazy d ≡ true → i ≢ b
      → Region heap f.value p → Region heap (with_values (zip is.ids fields) m b) p → wants_share i b
  field_meets i b p c d f (iold e s n) k l differ ra rb = inr
      (record {
        is_field = hazy_field i c f k;
        why = inl
            (h.meeting x b p ihazy_x (record { cell = d; is = e; sort_is = l }) n (in_object i c f p ra) (iregion b p (m b) s rb));
      })
  field_meets i b p c d f (isplit g t) k l differ ra rb = absurd (false≢true (ap is_hazy t ∙ l))
  field_meets i b p c d f (ifield g n) k l differ ra rb = inr
      (record {
        is_field = hazy_field i c f k;
        why = inr
            (inl (no_tree i b c d f g p differ ra (iregion b p g.value g.now_is rb), hazy_field b d g l));
      })

  imeeting : (a b p : ℕ) (c d : Cell) → ISort a c → ISort b d → is_hazy c ≡ true → is_hazy d ≡ true → a ≢ b
      → Region heap (with_values (zip is.ids fields) m a) p → Region heap (with_values (zip is.ids fields) m b) p
      → wants_share a b ⊎ wants_share b a
  imeeting a b p c d (ifield f n) y k l differ ra rb = inl (field_meets a b p c d f y k l differ (iregion a p f.value f.now_is ra) rb)
  imeeting a b p c d (isplit e s) y k l differ ra rb = absurd (false≢true (ap is_hazy s ∙ k))
  imeeting a b p c d (iold e s n) (ifield g q) k l differ ra rb = inr
      (field_meets b a p d c g (iold e s n) l k (λ w. differ (sym w)) (iregion b p g.value g.now_is rb) ra)
  imeeting a b p c d (iold e s n) (isplit f t) k l differ ra rb = absurd (false≢true (ap is_hazy t ∙ l))
  imeeting a b p c d (iold e s n) (iold f t q) k l differ ra rb = inl
      (inl (h.meeting a b p (record { cell = c; is = e; sort_is = k }) (record { cell = d; is = f; sort_is = l }) differ
      (iregion a p (m a) s ra) (iregion b p (m b) t rb)))

  iinside : (a b p : ℕ) (c d : Cell) → ISort a c → ISort b d → is_known c ≡ true → is_hazy d ≡ true
      → target (with_values (zip is.ids fields) m a) ≡ Some p → Region heap (with_values (zip is.ids fields) m b) p
      → wants_share a b ⊎ wants_share b a
  iinside a b p c d (ifield f n) y k l ta rb = absurd (unknown_field a c f k)
  iinside a b p c d (iold e s n) (iold f t q) k l ta rb = inl
      (inl (h.inside a b p (record { cell = c; is = e; sort_is = k }) (record { cell = d; is = f; sort_is = l })
      (itarget a p (m a) s ta) (iregion b p (m b) t rb)))
  iinside a b p c d (iold e s n) (isplit f t) k l ta rb = absurd (false≢true (ap is_hazy t ∙ l))
  iinside a b p c d (iold e s n) (ifield g q) k l ta rb =
      let share = h.inside a x p (record { cell = c; is = e; sort_is = k }) ihazy_x (itarget a p (m a) s ta)
      (in_object b d g p (iregion b p g.value g.now_is rb)) in
      inr (inr (record { is_field = hazy_field b d g l; why = inl (has_swapped a x state.share ∙ share) }))
  iinside a b p c d (isplit e s) (iold f t n) k l ta rb = inl
      (inl (subst (λ (j : ℕ). Share state j b) e
      (h.meeting x b p ihazy_x (record { cell = d; is = f; sort_is = l }) n (iitself (m x) p (at_x a p e ta))
      (iregion b p (m b) t rb))))
  iinside a b p c d (isplit e s) (isplit f t) k l ta rb = absurd (false≢true (ap is_hazy t ∙ l))
  iinside a b p c d (isplit e s) (ifield g q) k l ta rb =
      let place : p ≡ o = some_is (sym (at_x a p e ta) ∙ names) in
      let cycle : Region heap g.value o = subst (λ (y : ℕ). Region heap g.value y) place (iregion b p g.value g.now_is rb) in
      let any : shape ≡ Any = held_cycle heap (m x) g.value o g.place (objects.Instance class fields) names stands g.value_is shape
      shape_x cycle in
      inr (inr (record { is_field = hazy_field b d g l; why = inr (inr (any, sym e)) }))

  icells : (i : ℕ) (c : Cell) → ISort i c → Describes types heap inow c (with_values (zip is.ids fields) m i)
  icells i c (iold e s n) = cell_carried types state heap heap m inow sound.well_formed iagrees (λ r ob f. f) i c e (h.cells i c e)
  icells i c (isplit f g) = subst (λ (j : ℕ). Describes types heap inow c (with_values (zip is.ids fields) m j)) f
      (subst (λ (d : Cell). Describes types heap inow d (with_values (zip is.ids fields) m x)) g (record {
        place = o;
        object = objects.Instance class fields;
        names = now_x ∙ ref_of (m x) o names;
        stands = stands;
        holds = ap (objects.Instance class) (sym (values_are m is.ids fields is.fresh.rise long));
      }))
  icells i c (ifield f n) = subst (λ (v : Value). Describes types heap inow c v) (sym f.now_is) (field_described i c f)

  slot_shape : (s : Slot) (t : Shape) → shape_of (cell_of_slot types.erase shape s) ≡ Some t → t ≡ shape
  slot_shape (slots.Num kind) t e = absurd (none-some t e)
  slot_shape (slots.Ref y) t e = sym (some_is e)

  ishapes : (i : ℕ) (c : Cell) (s : Shape) → ISort i c → shape_of c ≡ Some s → HasShape s heap (with_values (zip is.ids fields) m i)
  ishapes i c s (iold e t n) g = subst (λ (v : Value). HasShape s heap v) (sym t) (h.shapes i c s e g)
  ishapes i c s (isplit f t) g = absurd (none-some s (ap shape_of t ∙ g))
  ishapes i c s (ifield f n) g =
      let same : s ≡ shape = slot_shape f.slot s (ap shape_of f.cell_is ∙ g) in
      subst (λ (v : Value). HasShape s heap v) (sym f.now_is)
      (subst (λ (y : Shape). HasShape y heap f.value) (sym same)
      (held_shape heap (m x) f.value o f.place (objects.Instance class fields) names stands f.value_is shape shape_x))

  instance_fits : FitsBy types state.frames state.throwing
      (with_cells ((x, cells.Obj class is.ids) ∷ zip is.ids (map (cell_of_slot types.erase shape) (types.fields class))) state)
      (λ a b. AreEqual state a b ⊎ MayBeOne types.sub (JoinsFields (types.fields class) is.ids state x shape) child.cells a b)
      (λ a b. Share state a b ⊎ JoinsFields (types.fields class) is.ids state x shape a b) machine (with_values (zip is.ids fields) m)
  instance_fits = record {
    positions = positions_carried state m inow (with_statics machine.statics machine.frames) sound.well_formed iagrees h.positions;
    mode = mode_carried state m inow machine.mode sound.well_formed iagrees h.mode;
    cells = λ i c e. icells i c (isort_of i c e);
    aliases = λ a b p c d e f n ta tb. ialiases a b p c d (isort_of a c e) (isort_of b d f) e f n ta tb;
    apart = λ a b p c d e f k l n ta tb. iapart a b p c d (isort_of a c e) (isort_of b d f) k l n ta tb;
    meeting = λ a b p c d e f k l n ra rb. imeeting a b p c d (isort_of a c e) (isort_of b d f) k l n ra rb;
    inside = λ a b p c d e f k l ta rb. iinside a b p c d (isort_of a c e) (isort_of b d f) k l ta rb;
    shapes = λ i c s e f. ishapes i c s (isort_of i c e) f;
  }

  pub instance_goes : Goes types state machine m (plain_link false None) child machine
  instance_goes = record {
    meaning_after = inow;
    fits = fits_given types state.frames state.throwing
        (with_cells ((x, cells.Obj class is.ids) ∷ zip is.ids (map (cell_of_slot types.erase shape) (types.fields class))) state)
        (λ a b. AreEqual state a b ⊎ MayBeOne types.sub (JoinsFields (types.fields class) is.ids state x shape) child.cells a b)
        (λ a b. Share state a b ⊎ JoinsFields (types.fields class) is.ids state x shape a b) machine inow instance_fits child is.is;
    edge = record {
      ints = λ i k l. iagrees i (some_cell state i k);
      rows = All-nil (HoldsBetween m inow);
      sizes = λ i k s. same_size heap (m i) (inow i) (iagrees i (some_cell state i k));
    };
  }

-- ---- the whole split

pub classes_split : ClassesSplit
classes_split types state children machine m x bound wanted shape laws sound typed closed h at comparable has unknown zip_is = elim
    (h.cells x (cells.Unk bound false shape) at) [
      | inl d ↦ absurd (false≢true d.0)
      | inr d ↦ by_object d.place d.object (ap target d.names) d.stands d.holds (wanted_below d.place d.object d.names d.stands)
    ]
  where
    cases_are : cases_of types bound wanted ≡ cases_below types (lower_of types.sub bound wanted)
    cases_are = cond-true (is_comparable types.sub bound wanted) (cases_below types (lower_of types.sub bound wanted)) [] comparable

    wanted_below : (o : ℕ) (ob : Object) → m x ≡ values.Ref o → slice_get machine.heap.objects o ≡ Some ob
        → IsTrue (types.sub (type_of ob) wanted)
    wanted_below o ob e s =
        let t : HasType types machine.heap (values.Ref o) wanted = subst (λ (v : Value). HasType types machine.heap v wanted) e has in
        subst (λ (y : Object). IsTrue (types.sub (type_of y) wanted)) (some_is (sym t.1.0 ∙ s)) t.1.1

    low_below : (ob : Object) → IsTrue (types.sub (type_of ob) bound) → IsTrue (types.sub (type_of ob) wanted)
        → IsTrue (types.sub (type_of ob) (lower_of types.sub bound wanted))
    low_below ob a b = elim (cases_Bool (types.sub bound wanted)) [
      | inl e ↦ subst (λ (t : Ty). IsTrue (types.sub (type_of ob) t)) (sym (cond-true (types.sub bound wanted) bound wanted e)) a
      | inr e ↦ subst (λ (t : Ty). IsTrue (types.sub (type_of ob) t)) (sym (cond-false (types.sub bound wanted) bound wanted e)) b
    ]

    child_at : (case : Case) → Stands (cases_below types (lower_of types.sub bound wanted)) case
        → (n : ℕ) × ((child : AbstractState) × ((slice_get children n ≡ Some child) × IsCase types state x shape case child))
    child_at case s =
        let r = zip_left (IsCase types state x shape) (cases_of types bound wanted) children s.0 case zip_is
        (ap (λ (cs : List Case). slice_get cs s.0) cases_are ∙ s.1) in
        (s.0, (r.0, r.1))

    by_object : (o : ℕ) (ob : Object) → target (m x) ≡ Some o → slice_get machine.heap.objects o ≡ Some ob
        → IsTrue (types.sub (type_of ob) bound) → IsTrue (types.sub (type_of ob) wanted) → GoesToCase types state machine m children
    by_object o (objects.Instance class fields) t s a b =
        let object_typed = all_at (IsTypedObject types machine.heap) machine.heap.objects o (objects.Instance class fields) typed s in
        let c = child_at (instance class) (instance_stands types laws (lower_of types.sub bound wanted) class object_typed.0
        object_typed.1.0 (low_below (objects.Instance class fields) a b)) in
        record {
          n = c.0;
          child = c.1.0;
          is = c.1.1.0;
          goes = instance_goes types state c.1.0 machine m laws sound typed h x bound
              shape at unknown o class fields t s object_typed c.1.1.1;
        }
    by_object o (objects.Nums kind items) t s a b =
        let object_typed = all_at (IsTypedObject types machine.heap) machine.heap.objects o (objects.Nums kind items) typed s in
        let c = child_at (numbers kind)
        (numbers_stand types laws (lower_of types.sub bound wanted) kind (low_below (objects.Nums kind items) a b)) in
        record {
          n = c.0;
          child = c.1.0;
          is = c.1.1.0;
          goes = array_goes types state machine m sound.well_formed h x bound shape at unknown c.1.1.1.len (length items)
              (cells.Nums kind c.1.1.1.len) c.1.1.1.fresh object_typed.0
              (record {
                place = o;
                object = objects.Nums kind items;
                names = ref_of (m x) o t;
                stands = s;
                holds = record {
                  items = items;
                  is = refl;
                  length_is = valued_here (c.1.1.1.len, values.Int (pos (length items))) [] m
                      c.1.1.1.len refl;
                };
              })
              (λ y e. absurd (none-some y e)) c.1.0 c.1.1.1.is;
        }
    by_object o (objects.Refs item items) t s a b =
        let object_typed = all_at (IsTypedObject types machine.heap) machine.heap.objects o (objects.Refs item items) typed s in
        let e = element_stands types laws (lower_of types.sub bound wanted) item
        (array_reference types item object_typed.1.0 object_typed.1.1.0) object_typed.1.1.0
        (low_below (objects.Refs item items) a b) in
        let c = child_at (references e.0) (listed_stands types laws (lower_of types.sub bound wanted) e.0 e.1.0) in
        record {
          n = c.0;
          child = c.1.0;
          is = c.1.1.0;
          goes = array_goes types state machine m sound.well_formed h x bound shape at unknown c.1.1.1.len (length items)
              (cells.Refs e.0 c.1.1.1.len shape) c.1.1.1.fresh object_typed.0
              (record {
                place = o;
                object = objects.Refs item items;
                names = ref_of (m x) o t;
                stands = s;
                holds = record {
                  item = item;
                  items = items;
                  is = refl;
                  below = e.1.1;
                  length_is = valued_here
                      (c.1.1.1.len, values.Int (pos (length items))) [] m c.1.1.1.len refl;
                };
              })
              (λ y f. subst (λ (z : Shape). HasShape z machine.heap (m x)) (some_is f)
              (h.shapes x (cells.Unk bound false shape) shape at refl)) c.1.0 c.1.1.1.is;
        }
