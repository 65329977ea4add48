-- Two ids that may stand for one object: one, or two.
use Rattle.std.proofs.Common.{◌≡◌, ◌≢◌, ℕ, zero, suc, ◌+◌, Bool, true, false, eqb, if◌then◌else◌, ◌==◌, List, [], ◌∷◌, map, Option}
use Rattle.std.proofs.Common.{Some, None, ◌⊎◌, inl, inr, refl, sym, ap, subst, ◌∙◌, arith, IsTrue, eq-eqb, ne_eqb}
use Rattle.std.specs.Prelude.{slice_get}
use Rattle.std.specs.List.{AllZip}
use Rattle.std.specs.Option.{option_map}
use Rattle.std.proofs.lemmas.Bool.{false≢true, cases_Bool, cond-true, cond-false, cases_eq}
use Rattle.std.proofs.lemmas.List.Elements.{All-nil}
use Rattle.std.proofs.lemmas.Option.{none-some}
use Rattle.jvm_values.specs.declared.heap.Value.{Value}
use Rattle.jvm_values.specs.declared.heap.Value.TheVariants as values
use Rattle.jvm_values.specs.declared.heap.Object.{Object}
use Rattle.jvm_values.specs.declared.heap.Object.TheVariants as objects
use Rattle.jvm_values.specs.declared.heap.Heap.{Heap}
use Rattle.jvm_values.specs.declared.state.Mode.{Mode}
use Rattle.jvm_values.specs.declared.state.Mode.TheVariants.{Normal, Throwing}
use Rattle.jvm_values.specs.declared.types.Ty.{Ty}
use Rattle.jvm_values.specs.declared.shape.Shape.{Shape}
use Rattle.jvm_values.specs.declared.shape.Shape.TheVariants.{Tree, Dag, Any}
use Rattle.jvm_values.specs.States.{MachineFrame, MachineState}
use Rattle.jvm_values.specs.Subtyping.{array_of, object_type, IsReference}
use Rattle.jvm_values.specs.Heaps.{target, HasShape}
use Rattle.jvm_values.specs.TypedHeaps.{WorldTypes, AreLawful, IsTypedHeap, type_of}
use Rattle.jvm_values.proofs.Joining.{array_of_item, array_inside, no_dims}
use Rattle.jvm_values.proofs.Options.{some_is}
use Rattle.abs_cells.specs.declared.cells.Cell.{Cell}
use Rattle.abs_cells.specs.declared.cells.Cell.TheVariants as cells
use Rattle.abs_cells.specs.AbstractStates.{AbstractFrame, AbstractState}
use Rattle.abs_cells.specs.Cells.{is_known, is_hazy, shape_of, type_of_cell, cell_in, cell_at, AreEqual, Share, are_compatible}
use Rattle.abs_cells.specs.Sound.{IsSound}
use Rattle.abs_cells.specs.Fits.{Meaning, FitsFrame, FitsMode, Describes, Fits, with_statics}
use Rattle.abs_cells.proofs.Fitting.{known_apart}
use Rattle.term_graph.specs.Edges.{HoldsBetween, id_after}
use Rattle.abs_heap.specs.Given.{IsGiven}
use Rattle.abs_heap.specs.Names.{one_name, frame_named, cell_named, IsImage, IsPairOf}
use Rattle.abs_heap.specs.Refining.{better, better_of, element_told, lower_element, lower_bound, merged_cell, IsApartChild}
use Rattle.abs_heap.specs.Refining.{IsEqualChild, both, alone, AreEqualChildren}
use Rattle.abs_heap.specs.Laws.{plain_link, Goes, GoesToMerged, EqualSplits}
use Rattle.abs_heap.proofs.Placing.{cell_here, cell_later}
use Rattle.abs_heap.proofs.Fitted.{FitsBy, fits_given}
use Rattle.abs_heap.proofs.SameTerms.{same_size}
use Rattle.abs_heap.proofs.Carrying.{same_edge}
use Rattle.abs_heap.proofs.Telling.{Tells, tells, told_compatible, sound_at, array_typed}
use Rattle.abs_heap.proofs.ChangedCells.{known_named, hazy_named, shape_named}

-- ---- values that name one object

pub ref_of : (v : Value) (o : ℕ) → target v ≡ Some o → v ≡ values.Ref o
ref_of (values.Int n) o t = absurd (none-some o t)
ref_of values.Null o t = absurd (none-some o t)
ref_of (values.Ref r) o t = ap values.Ref (some_is t)

-- two values name one object, or no object is named by both
one_or_two : (v w : Value) → ((o : ℕ) × ((target v ≡ Some o) × (target w ≡ Some o)))
    ⊎ ((o : ℕ) → target v ≡ Some o → target w ≡ Some o → ⊥)
one_or_two (values.Int n) w = inr (λ o t u. none-some o t)
one_or_two values.Null w = inr (λ o t u. none-some o t)
one_or_two (values.Ref r) (values.Int n) = inr (λ o t u. none-some o u)
one_or_two (values.Ref r) values.Null = inr (λ o t u. none-some o u)
one_or_two (values.Ref r) (values.Ref s) = elim (cases_eq r s) [
  | inl e ↦ inl (r, (refl, ap Some (sym e)))
  | inr n ↦ inr (λ o t u. n (some_is t ∙ sym (some_is u)))
]

pub object_at : (types : WorldTypes) (heap : Heap) (m : Meaning) (c : Cell) (v : Value) (b : ℕ) → Describes types heap m c v
    → target v ≡ Some b → (object : Object) × (slice_get heap.objects b ≡ Some object)
object_at types heap m (cells.Int interval) v b d t = absurd (none-some b (ap target (sym d.1.0) ∙ t))
object_at types heap m cells.Null v b d t = absurd (none-some b (ap target (sym d) ∙ t))
object_at types heap m (cells.Obj class ids) v b d t =
    (d.object, ap (slice_get heap.objects) (sym (some_is (sym (ap target d.names) ∙ t))) ∙ d.stands)
object_at types heap m (cells.Nums kind l) v b d t =
    (d.object, ap (slice_get heap.objects) (sym (some_is (sym (ap target d.names) ∙ t))) ∙ d.stands)
object_at types heap m (cells.Refs e l s) v b d t =
    (d.object, ap (slice_get heap.objects) (sym (some_is (sym (ap target d.names) ∙ t))) ∙ d.stands)
object_at types heap m (cells.Unk e l s) v b (inl d) t = absurd (none-some b (ap target (sym d.1) ∙ t))
object_at types heap m (cells.Unk e l s) v b (inr d) t =
    (d.object, ap (slice_get heap.objects) (sym (some_is (sym (ap target d.names) ∙ t))) ∙ d.stands)

-- ---- the better shape

better_holds : (s t : Shape) (heap : Heap) (v : Value) → HasShape s heap v → HasShape t heap v → HasShape (better s t) heap v
better_holds Tree t heap v a b = a
better_holds Dag Tree heap v a b = b
better_holds Dag Dag heap v a b = a
better_holds Dag Any heap v a b = a
better_holds Any t heap v a b = b

better_of_holds : (s : Shape) (o : Option Shape) (heap : Heap) (v : Value) → HasShape s heap v
    → ((t : Shape) → o ≡ Some t → HasShape t heap v) → HasShape (better_of s o) heap v
better_of_holds s None heap v a b = a
better_of_holds s (Some t) heap v a b = better_holds s t heap v a (b t refl)

-- ---- names that keep values

module _ (m : Meaning) (f : ℕ → ℕ) (keeps : (n : ℕ) → m (f n) ≡ m n) where
  pub values_named : (ids : List ℕ) → map m (map f ids) ≡ map m ids
  values_named [] = refl
  values_named (id ∷ ids) = ap (λ (v : Value). v ∷ map m (map f ids)) (keeps id) ∙ ap (λ (vs : List Value). m id ∷ vs) (values_named ids)

  local_named : (locals : List (Option ℕ)) (n id : ℕ) → slice_get (map (option_map f) locals) n ≡ Some (Some id)
      → (old : ℕ) × ((slice_get locals n ≡ Some (Some old)) × (f old ≡ id))
  local_named [] n id e = absurd (none-some (Some id) e)
  local_named (None ∷ locals) zero id e = absurd (none-some id (some_is e))
  local_named (Some x ∷ locals) zero id e = (x, (refl, some_is (some_is e)))
  local_named (o ∷ locals) (suc n) id e = local_named locals n id e

  frame_fits : (frame : AbstractFrame) (mf : MachineFrame) → FitsFrame m frame mf → FitsFrame m (frame_named f frame) mf
  frame_fits frame mf h = record {
    method = h.method;
    pc = h.pc;
    locals = λ n id e. let o = local_named frame.locals n id e in h.locals n o.0 o.1.0
        ∙ ap (λ (v : Value). Some (Some v)) (sym (keeps o.0) ∙ ap m o.1.1);
    stack = h.stack ∙ sym (values_named frame.stack);
  }

  pub frames_fit : (frames : List AbstractFrame) (mfs : List MachineFrame) → AllZip (FitsFrame m) frames mfs
      → AllZip (FitsFrame m) (map (frame_named f) frames) mfs
  frames_fit [] [] z = z
  frames_fit [] (mf ∷ mfs) z = z
  frames_fit (frame ∷ frames) [] z = z
  frames_fit (frame ∷ frames) (mf ∷ mfs) z = (frame_fits frame mf z.0, frames_fit frames mfs z.1)

  pub mode_fits : (throwing : Option ℕ) (mode : Mode) → FitsMode m throwing mode → FitsMode m (option_map f throwing) mode
  mode_fits None Normal h = h
  mode_fits None (Throwing r) h = h
  mode_fits (Some id) Normal h = h
  mode_fits (Some id) (Throwing r) h = keeps id ∙ h

  pub described_named : (types : WorldTypes) (heap : Heap) (c : Cell) (v : Value) → Describes types heap m c v
      → Describes types heap m (cell_named f c) v
  described_named types heap (cells.Int interval) v d = d
  described_named types heap cells.Null v d = d
  described_named types heap (cells.Obj class ids) v d = record {
    place = d.place;
    object = d.object;
    names = d.names;
    stands = d.stands;
    holds = d.holds
        ∙ ap (objects.Instance class) (sym (values_named ids));
  }
  described_named types heap (cells.Nums kind len) v d = record {
    place = d.place;
    object = d.object;
    names = d.names;
    stands = d.stands;
    holds = record
        { items = d.holds.items; is = d.holds.is; length_is = keeps len ∙ d.holds.length_is };
  }
  described_named types heap (cells.Refs element len shape) v d = record {
    place = d.place;
    object = d.object;
    names = d.names;
    stands = d.stands;
    holds = record
        { item = d.holds.item; items = d.holds.items; is = d.holds.is; below = d.holds.below; length_is = keeps len ∙ d.holds.length_is };
  }
  described_named types heap (cells.Unk bound nullable shape) v d = d

-- ---- the cell of the id that stays

known_merged : (sub : Ty → Ty → Bool) (c d : Cell) → is_known (merged_cell sub c d) ≡ is_known c
known_merged sub (cells.Int interval) d = refl
known_merged sub cells.Null d = refl
known_merged sub (cells.Obj class ids) d = refl
known_merged sub (cells.Nums kind len) d = refl
known_merged sub (cells.Refs element len shape) d = refl
known_merged sub (cells.Unk bound nullable shape) d = refl

hazy_merged : (sub : Ty → Ty → Bool) (c d : Cell) → is_hazy (merged_cell sub c d) ≡ is_hazy c
hazy_merged sub (cells.Int interval) d = refl
hazy_merged sub cells.Null d = refl
hazy_merged sub (cells.Obj class ids) d = refl
hazy_merged sub (cells.Nums kind len) d = refl
hazy_merged sub (cells.Refs element len shape) d = refl
hazy_merged sub (cells.Unk bound nullable shape) d = refl

shape_merged : (sub : Ty → Ty → Bool) (c d : Cell) (heap : Heap) (v : Value)
    → ((s : Shape) → shape_of c ≡ Some s → HasShape s heap v) → ((s : Shape) → shape_of d ≡ Some s → HasShape s heap v)
    → (s : Shape) → shape_of (merged_cell sub c d) ≡ Some s → HasShape s heap v
shape_merged sub (cells.Int interval) d heap v a b s e = absurd (none-some s e)
shape_merged sub cells.Null d heap v a b s e = absurd (none-some s e)
shape_merged sub (cells.Obj class ids) d heap v a b s e = absurd (none-some s e)
shape_merged sub (cells.Nums kind len) d heap v a b s e = absurd (none-some s e)
shape_merged sub (cells.Refs element len shape) d heap v a b s e = subst (λ (x : Shape). HasShape x heap v) (some_is e)
    (better_of_holds shape (shape_of d) heap v (a shape refl) b)
shape_merged sub (cells.Unk bound nullable shape) d heap v a b s e = subst (λ (x : Shape). HasShape x heap v) (some_is e)
    (better_of_holds shape (shape_of d) heap v (a shape refl) b)

module _ (types : WorldTypes) (state : AbstractState) (machine : MachineState) (m : Meaning) (laws : AreLawful types)
    (sound : IsSound types state) (typed : IsTypedHeap types machine.heap) (h : Fits types state machine m) where
  abbrev heap : Heap
  heap = machine.heap

  told : (id : ℕ) (c : Cell) (o : ℕ) (object : Object) → cell_at state id ≡ Some c → target (m id) ≡ Some o
      → slice_get heap.objects o ≡ Some object → Tells types c object
  told id c o object e t s = tells types state heap m laws typed c (m id) o object (sound_at types state id c sound e) (h.cells id c e) t s

  -- an array's own element type is below what another cell tells of it
  below_told : (id : ℕ) (c : Cell) (o : ℕ) (item t : Ty) (items : List Value) → cell_at state id ≡ Some c → target (m id) ≡ Some o
      → slice_get heap.objects o ≡ Some (objects.Refs item items) → element_told c ≡ Some t → IsTrue (types.sub item t)
  below_told id (cells.Int interval) o item t items e n s f = absurd (none-some t f)
  below_told id cells.Null o item t items e n s f = absurd (none-some t f)
  below_told id (cells.Obj class ids) o item t items e n s f = absurd (none-some t f)
  below_told id (cells.Nums kind len) o item t items e n s f = absurd (none-some t f)
  below_told id (cells.Refs element len shape) o item t items e n s f =
      let d = h.cells id (cells.Refs element len shape) e in
      let place : d.place ≡ o = some_is (sym (ap target d.names) ∙ n) in
      let same : objects.Refs d.holds.item d.holds.items ≡ objects.Refs item items = some_is
      (ap Some (sym d.holds.is) ∙ sym d.stands ∙ ap (slice_get heap.objects) place ∙ s) in
      subst (λ (x : Ty). IsTrue (types.sub item x)) (some_is f)
      (subst (λ (x : Ty). IsTrue (types.sub x element)) (ap item_type same) d.holds.below)
    where
      item_type : Object → Ty
      item_type (objects.Instance class fields) = item
      item_type (objects.Nums kind numbers) = item
      item_type (objects.Refs x list) = x
  below_told id (cells.Unk bound nullable shape) o item t items e n s f =
      let told_is = told id (cells.Unk bound nullable shape) o (objects.Refs item items) e n s in
      let up : IsTrue (types.sub (array_of item) bound) = subst (λ (x : Ty). IsTrue (types.sub (array_of item) x))
      (sym (some_is told_is.is)) told_is.above in
      let array : bound ≡ array_of t = array_of_item bound t f in
      elim (laws.array_below item bound (own_reference o item items s) up) [
        | inl top ↦ absurd (no_dims object_type t refl (sym top ∙ array))
        | inr above ↦ subst (λ (x : Ty). IsTrue (types.sub item x)) (array_inside above.0 t (sym above.3 ∙ array)) above.2
      ]
    where
      own_reference : (o : ℕ) (item : Ty) (items : List Value) → slice_get heap.objects o ≡ Some (objects.Refs item items)
          → IsReference types.classes item
      own_reference o item items s = (array_typed types heap o item items typed s).1.1.0

  -- the merged cell describes what both did
  merged_described : (stays goes o : ℕ) (c d : Cell) → cell_at state stays ≡ Some c → cell_at state goes ≡ Some d
      → target (m stays) ≡ Some o → target (m goes) ≡ Some o → Describes types heap m (merged_cell types.sub c d) (m stays)
  merged_described stays goes o (cells.Int interval) d e f t u = h.cells stays (cells.Int interval) e
  merged_described stays goes o cells.Null d e f t u = h.cells stays cells.Null e
  merged_described stays goes o (cells.Obj class ids) d e f t u = h.cells stays (cells.Obj class ids) e
  merged_described stays goes o (cells.Nums kind len) d e f t u = h.cells stays (cells.Nums kind len) e
  merged_described stays goes o (cells.Refs element len shape) d e f t u =
      let k = h.cells stays (cells.Refs element len shape) e in
      let place : k.place ≡ o = some_is (sym (ap target k.names) ∙ t) in
      let there : slice_get heap.objects o ≡ Some (objects.Refs k.holds.item k.holds.items) = ap (slice_get heap.objects)
      (sym place) ∙ k.stands ∙ ap Some k.holds.is in
      record {
        place = k.place;
        object = k.object;
        names = k.names;
        stands = k.stands;
        holds = record {
          item = k.holds.item;
          items = k.holds.items;
          is = k.holds.is;
          length_is = k.holds.length_is;
          below = lower (element_told d) k.holds.below (λ x g. below_told goes d o k.holds.item x k.holds.items f u there g);
        };
      }
    where
      lower : {item : Ty} (told_by : Option Ty) → IsTrue (types.sub item element)
          → ((x : Ty) → told_by ≡ Some x → IsTrue (types.sub item x)) → IsTrue (types.sub item (lower_element types.sub element told_by))
      lower {item} None a b = a
      lower {item} (Some x) a b = elim (cases_Bool (types.sub x element)) [
        | inl p ↦ subst (λ (y : Ty). IsTrue (types.sub item y)) (sym (cond-true (types.sub x element) x element p)) (b x refl)
        | inr p ↦ subst (λ (y : Ty). IsTrue (types.sub item y)) (sym (cond-false (types.sub x element) x element p)) a
      ]
  merged_described stays goes o (cells.Unk bound nullable shape) d e f t u =
      let ob = object_at types heap m (cells.Unk bound nullable shape) (m stays) o (h.cells stays (cells.Unk bound nullable shape) e) t in
      let one = told stays (cells.Unk bound nullable shape) o ob.0 e t ob.1 in
      let other = told goes d o ob.0 f u ob.1 in
      let up : IsTrue (types.sub (type_of ob.0) bound) = subst (λ (x : Ty). IsTrue (types.sub (type_of ob.0) x))
      (sym (some_is one.is)) one.above in
      inr (record {
        place = o;
        object = ob.0;
        names = ref_of (m stays) o t;
        stands = ob.1;
        holds = lower (type_of_cell d) up
            (λ x g. subst (λ (y : Ty). IsTrue (types.sub (type_of ob.0) y)) (some_is (sym other.is ∙ g)) other.above);
      })
    where
      lower : {own : Ty} (told_by : Option Ty) → IsTrue (types.sub own bound)
          → ((x : Ty) → told_by ≡ Some x → IsTrue (types.sub own x)) → IsTrue (types.sub own (lower_bound types.sub bound told_by))
      lower {own} None a b = a
      lower {own} (Some x) a b = elim (cases_Bool (types.sub bound x)) [
        | inl p ↦ subst (λ (y : Ty). IsTrue (types.sub own y)) (sym (cond-true (types.sub bound x) bound x p)) a
        | inr p ↦ subst (λ (y : Ty). IsTrue (types.sub own y)) (sym (cond-false (types.sub bound x) bound x p)) (b x refl)
      ]

  -- ---- they are one
  module _ (stays goes o : ℕ) (t : target (m stays) ≡ Some o) (u : target (m goes) ≡ Some o) (left right : Cell)
      (left_is : cell_at state stays ≡ Some left) (right_is : cell_at state goes ≡ Some right) (differ : stays ≢ goes) where
    abbrev name : ℕ → ℕ
    name = one_name goes stays

    abbrev merged : Cell
    merged = merged_cell types.sub left right

    keeps : (n : ℕ) → m (one_name goes stays n) ≡ m n
    keeps n = elim (cases_eq n goes) [
      | inl e ↦ ap m (cond-true (eqb n goes) stays n (eq-eqb n goes e)) ∙ ref_of (m stays) o t ∙ sym (ref_of (m goes) o u) ∙ ap m (sym e)
      | inr e ↦ ap m (cond-false (eqb n goes) stays n (ne_eqb n goes e))
    ]

    abbrev now : ℕ → Option Cell
    now id = if id == goes then None else option_map (cell_named (one_name goes stays))
        (cell_in ((stays, merged_cell types.sub left right) ∷ state.cells) id)

    -- an id of the child is one of the state, with its cell under the name, or the one that stays
    record Was (id : ℕ) (c : Cell) : Type 0 where
      old : Cell
      old_is : cell_at state id ≡ Some old
      here : id ≡ goes → ⊥
      known : is_known c ≡ is_known old
      hazy : is_hazy c ≡ is_hazy old
      described : Describes types heap m c (m id)
      shaped : (s : Shape) → shape_of c ≡ Some s → HasShape s heap (m id)

    mapped : (x : Option Cell) (c : Cell) → option_map (cell_named (one_name goes stays)) x ≡ Some c
        → (d : Cell) × ((x ≡ Some d) × (cell_named (one_name goes stays) d ≡ c))
    mapped None c e = absurd (none-some c e)
    mapped (Some d) c e = (d, (refl, some_is e))

    was : (id : ℕ) (c : Cell) → now id ≡ Some c → Was id c
    was id c e = elim (cases_eq id goes) [
      | inl g ↦ absurd (none-some c (sym (cond-true (eqb id goes) None _ (eq-eqb id goes g)) ∙ e))
      | inr g ↦
          let p = mapped (cell_in ((stays, merged_cell types.sub left right) ∷ state.cells) id) c
          (sym (cond-false (eqb id goes) None _ (ne_eqb id goes g)) ∙ e) in
          elim (cases_eq stays id) [
            | inl s ↦
                let is : merged_cell types.sub left right ≡ p.0 = some_is
                (sym (cell_here (stays, merged_cell types.sub left right) state.cells id s) ∙ p.1.0) in
                let named : cell_named (one_name goes stays) (merged_cell types.sub left right) ≡ c = ap
                (cell_named (one_name goes stays)) is ∙ p.1.1 in
                record {
                  old = left;
                  old_is = ap (cell_at state) (sym s) ∙ left_is;
                  here = g;
                  known = ap is_known (sym named) ∙ known_named (one_name goes stays) (merged_cell types.sub left right)
                      ∙ known_merged types.sub left right;
                  hazy = ap is_hazy (sym named) ∙ hazy_named (one_name goes stays) (merged_cell types.sub left right)
                      ∙ hazy_merged types.sub left right;
                  described = subst (λ (i : ℕ). Describes types heap m c (m i)) s
                      (subst (λ (x : Cell). Describes types heap m x (m stays)) named
                      (described_named m (one_name goes stays) keeps types heap (merged_cell types.sub left right) (m stays)
                      (merged_described stays goes o left right left_is right_is t u)));
                  shaped = λ shape k. subst (λ (i : ℕ). HasShape shape heap (m i)) s
                      (shape_merged types.sub left right heap (m stays) (λ x f. h.shapes stays left x left_is f)
                      (λ x f. subst (λ (v : Value). HasShape x heap v) (ref_of (m goes) o u ∙ sym (ref_of (m stays) o t))
                      (h.shapes goes right x right_is f))
                      shape (sym (shape_named (one_name goes stays) (merged_cell types.sub left right)) ∙ ap shape_of named ∙ k));
                }
            | inr s ↦
                let at : cell_at state id ≡ Some p.0 = sym (cell_later (stays, merged_cell types.sub left right) state.cells id s)
                ∙ p.1.0 in
                record {
                  old = p.0;
                  old_is = at;
                  here = g;
                  known = ap is_known (sym p.1.1) ∙ known_named (one_name goes stays) p.0;
                  hazy = ap is_hazy (sym p.1.1) ∙ hazy_named (one_name goes stays) p.0;
                  described = subst (λ (x : Cell). Describes types heap m x (m id)) p.1.1
                      (described_named m (one_name goes stays) keeps types heap p.0 (m id) (h.cells id p.0 at));
                  shaped = λ shape k. h.shapes id p.0 shape at (sym (shape_named (one_name goes stays) p.0) ∙ ap shape_of p.1.1 ∙ k);
                }
          ]
    ]

    image_of : (pairs : ℕ → ℕ → Type 0) (a b : ℕ) → (a ≡ goes → ⊥) → (b ≡ goes → ⊥) → pairs a b → IsImage (one_name goes stays) pairs a b
    image_of pairs a b p q w = record {
      x = a;
      y = b;
      were = w;
      left = cond-false (eqb a goes) stays a (ne_eqb a goes p);
      right =
          cond-false (eqb b goes) stays b (ne_eqb b goes q);
    }

    merged_fits : FitsBy types (map (frame_named (one_name goes stays)) state.frames) (option_map (one_name goes stays) state.throwing)
        (λ id. if id == goes then None else option_map (cell_named (one_name goes stays))
        (cell_in ((stays, merged_cell types.sub left right) ∷ state.cells) id))
        (λ a b. IsImage (one_name goes stays) (AreEqual state) a b) (λ a b. IsImage (one_name goes stays) (Share state) a b) machine m
    merged_fits = record {
      positions = frames_fit m (one_name goes stays) keeps state.frames (with_statics machine.statics machine.frames) h.positions;
      mode = mode_fits m (one_name goes stays) keeps state.throwing machine.mode h.mode;
      cells = λ id c e. (was id c e).described;
      aliases = λ a b p c d e f n ta tb.
          let x = was a c e in
          let y = was b d f in
          inl (image_of (AreEqual state) a b x.here y.here
          (h.aliases a b p (record { cell = x.old; is = x.old_is; sort_is = refl })
          (record { cell = y.old; is = y.old_is; sort_is = refl }) n ta tb));
      apart = λ a b p c d e f k l n ta tb.
          let x = was a c e in
          let y = was b d f in
          known_apart types state machine m sound.well_formed h a b p
          (record { cell = x.old; is = x.old_is; sort_is = sym x.known ∙ k })
          (record { cell = y.old; is = y.old_is; sort_is = sym y.known ∙ l }) n ta tb;
      meeting = λ a b p c d e f k l n ra rb.
          let x = was a c e in
          let y = was b d f in
          inl (image_of (Share state) a b x.here y.here
          (h.meeting a b p (record { cell = x.old; is = x.old_is; sort_is = sym x.hazy ∙ k })
          (record { cell = y.old; is = y.old_is; sort_is = sym y.hazy ∙ l }) n ra rb));
      inside = λ a b p c d e f k l ta rb.
          let x = was a c e in
          let y = was b d f in
          inl (image_of (Share state) a b x.here y.here
          (h.inside a b p (record { cell = x.old; is = x.old_is; sort_is = sym x.known ∙ k })
          (record { cell = y.old; is = y.old_is; sort_is = sym y.hazy ∙ l }) ta rb));
      shapes = λ id c shape e k. (was id c e).shaped shape k;
    }

    after_is : (id : ℕ) → m (id_after (Some (goes, stays)) id) ≡ m id
    after_is id = elim (cases_eq goes id) [
      | inl e ↦ ap m (cond-true (eqb goes id) stays id (eq-eqb goes id e)) ∙ ref_of (m stays) o t ∙ sym (ref_of (m goes) o u) ∙ ap m e
      | inr e ↦ ap m (cond-false (eqb goes id) stays id (ne_eqb goes id e))
    ]

    pub merged_goes : (child : AbstractState)
        → IsGiven (map (frame_named (one_name goes stays)) state.frames) (option_map (one_name goes stays) state.throwing)
        (λ id. if id == goes then None else option_map (cell_named (one_name goes stays))
        (cell_in ((stays, merged_cell types.sub left right) ∷ state.cells) id))
        (λ a b. IsImage (one_name goes stays) (AreEqual state) a b) (λ a b. IsImage (one_name goes stays) (Share state) a b) child
        → Goes types state machine m (plain_link false (Some (goes, stays))) child machine
    merged_goes child g = record {
      meaning_after = m;
      fits = fits_given types _ _ _ _ _ machine m merged_fits child g;
      edge = record {
        ints = λ id k l. refl;
        rows = All-nil (HoldsBetween m m);
        sizes = λ id k s. same_size heap (m id) (m (id_after (Some (goes, stays)) id)) (after_is id);
      };
    }

  -- ---- they are two
  apart_fits : (x y : ℕ) → ((o : ℕ) → target (m x) ≡ Some o → target (m y) ≡ Some o → ⊥)
      → FitsBy types state.frames state.throwing (cell_at state) (λ a b. AreEqual state a b × (IsPairOf x y a b → ⊥)) (Share state)
      machine m
  apart_fits x y two = record {
    positions = h.positions;
    mode = h.mode;
    cells = h.cells;
    aliases = λ a b o c d e f n ta tb. inl (
      h.aliases a b o (record { cell = c; is = e; sort_is = refl }) (record { cell = d; is = f; sort_is = refl }) n ta tb,
      never
          a b o ta tb,
    );
    apart = λ a b o c d e f k l n ta tb. known_apart types state machine m sound.well_formed h a b o
        (record { cell = c; is = e; sort_is = k }) (record { cell = d; is = f; sort_is = l }) n ta tb;
    meeting = λ a b o c d e f k l n ra rb. inl
        (h.meeting a b o (record { cell = c; is = e; sort_is = k }) (record { cell = d; is = f; sort_is = l }) n ra rb);
    inside = λ a b o c d e f k l ta rb. inl
        (h.inside a b o (record { cell = c; is = e; sort_is = k }) (record { cell = d; is = f; sort_is = l }) ta rb);
    shapes = h.shapes;
  }
    where
      never : (a b o : ℕ) → target (m a) ≡ Some o → target (m b) ≡ Some o → IsPairOf x y a b → ⊥
      never a b o ta tb (inl p) = two o (ap (λ (i : ℕ). target (m i)) (sym p.0) ∙ ta) (ap (λ (i : ℕ). target (m i)) (sym p.1) ∙ tb)
      never a b o ta tb (inr p) = two o (ap (λ (i : ℕ). target (m i)) (sym p.1) ∙ tb) (ap (λ (i : ℕ). target (m i)) (sym p.0) ∙ ta)

  apart_goes : (x y : ℕ) (child : AbstractState) → ((o : ℕ) → target (m x) ≡ Some o → target (m y) ≡ Some o → ⊥)
      → IsApartChild state x y child → Goes types state machine m (plain_link false None) child machine
  apart_goes x y child two g = record {
    meaning_after = m;
    fits = fits_given types state.frames state.throwing (cell_at state) (λ a b. AreEqual state a b × (IsPairOf x y a b → ⊥))
        (Share state) machine m (apart_fits x y two) child g;
    edge = same_edge state machine m false child;
  }

  -- where both stand for one object, it is the merged child; else the other
  one_goes : (x y o : ℕ) (b : Bool) (children : List (Option (ℕ × ℕ) × AbstractState)) → x ≢ y → b ≡ true → target (m x) ≡ Some o
      → target (m y) ≡ Some o → IsEqualChild types.sub state x y b children → GoesToMerged types state machine m children
  one_goes x y o true children n e t u (both stays goes merged apart pair stay is other) = record {
    n = 0;
    merged = Some (goes, stays);
    child = merged;
    is = refl;
    goes = merged_goes stays goes o (first pair) (second pair) is.left is.right is.left_is is.right_is (differs pair) merged is.is;
  }
    where
      first : IsPairOf x y stays goes → target (m stays) ≡ Some o
      first (inl p) = ap (λ (i : ℕ). target (m i)) p.0 ∙ t
      first (inr p) = ap (λ (i : ℕ). target (m i)) p.0 ∙ u

      second : IsPairOf x y stays goes → target (m goes) ≡ Some o
      second (inl p) = ap (λ (i : ℕ). target (m i)) p.1 ∙ u
      second (inr p) = ap (λ (i : ℕ). target (m i)) p.1 ∙ t

      differs : IsPairOf x y stays goes → stays ≢ goes
      differs (inl p) s = n (sym p.0 ∙ s ∙ p.1)
      differs (inr p) s = n (sym p.1 ∙ sym s ∙ p.0)
  one_goes x y o false children n e t u (alone apart other) = absurd (false≢true e)

  two_goes : (x y : ℕ) (b : Bool) (children : List (Option (ℕ × ℕ) × AbstractState))
      → ((o : ℕ) → target (m x) ≡ Some o → target (m y) ≡ Some o → ⊥) → IsEqualChild types.sub state x y b children
      → GoesToMerged types state machine m children
  two_goes x y true children two (both stays goes merged apart pair stay is other) = record
      { n = 1; merged = None; child = apart; is = refl; goes = apart_goes x y apart two other }
  two_goes x y false children two (alone apart other) = record
      { n = 0; merged = None; child = apart; is = refl; goes = apart_goes x y apart two other }

  pub equal_goes : (x y : ℕ) (children : List (Option (ℕ × ℕ) × AbstractState)) → x ≢ y
      → AreEqualChildren types.sub state x y children → GoesToMerged types state machine m children
  equal_goes x y children n are = elim (one_or_two (m x) (m y)) [
    | inl one ↦
        let ob = object_at types heap m are.left (m x) one.0 (h.cells x are.left are.left_is) one.1.0 in
        let same : are_compatible types.sub are.left are.right ≡ true = told_compatible types laws are.left are.right ob.0
        (told x are.left one.0 ob.0 are.left_is one.1.0 ob.1) (told y are.right one.0 ob.0 are.right_is one.1.1 ob.1) in
        one_goes x y one.0 (are_compatible types.sub are.left are.right) children n same one.1.0 one.1.1 are.are
    | inr two ↦ two_goes x y (are_compatible types.sub are.left are.right) children two are.are
  ]

pub equal_splits : EqualSplits
equal_splits types state children machine m x y laws sound typed closed h pair n are = equal_goes types state machine m laws sound
    typed h x y children n are
