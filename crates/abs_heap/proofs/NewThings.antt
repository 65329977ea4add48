-- A new object, and a new array, at the heap's end.
use Rattle.std.proofs.Common.{◌≡◌, ◌≢◌, ℕ, zero, suc, ◌<◌, true, false, eqb, List, [], ◌∷◌, length, map, Option, Some, None, inl}
use Rattle.std.proofs.Common.{inr, refl, sym, ap, subst, ◌∙◌, arith, All, pos, replicate, if◌then◌else◌, ◌==◌}
use Rattle.std.specs.Prelude.{slice_get, zip}
use Rattle.std.proofs.lemmas.Bool.{false≢true, eq-eqb, ne_eqb, cond-true, cond-false, cases_eq}
use Rattle.std.proofs.lemmas.Int.{ints}
use Rattle.std.proofs.lemmas.List.Elements.{All-nil, All-head, All-tail}
use Rattle.std.proofs.lemmas.Option.{none-some}
use Rattle.abs_cells.proofs.CellLaws.{hazy_not_known}
use Rattle.list_views.proofs.Items.{length_mapped, get_last}
use Rattle.list_views.proofs.Options.{then_some}
use Rattle.jvm_values.specs.declared.types.Slot.{Slot}
use Rattle.jvm_values.specs.declared.types.Slot.TheVariants as slots
use Rattle.jvm_values.specs.declared.heap.Value.{Value}
use Rattle.jvm_values.specs.declared.heap.Value.TheVariants as values
use Rattle.jvm_values.specs.declared.heap.Object.{Object}
use Rattle.jvm_values.specs.declared.heap.Object.TheVariants as objects
use Rattle.jvm_values.specs.declared.heap.Heap.{Heap}
use Rattle.jvm_values.specs.declared.shape.Shape.{Shape}
use Rattle.jvm_values.specs.declared.shape.Shape.TheVariants.{Tree}
use Rattle.jvm_values.specs.Paths.{follow}
use Rattle.jvm_values.specs.States.{MachineState}
use Rattle.jvm_values.specs.Heaps.{target, values_of, value_at, heap_steps, Region, HasShape, IsInHeap}
use Rattle.jvm_values.specs.TypedHeaps.{WorldTypes}
use Rattle.jvm_values.specs.Slots.{initial_value}
use Rattle.jvm_values.proofs.Options.{some_is}
use Rattle.abs_cells.specs.declared.cells.Cell.{Cell}
use Rattle.abs_cells.specs.declared.cells.Cell.TheVariants as cells
use Rattle.abs_cells.specs.AbstractStates.{AbstractState}
use Rattle.abs_cells.specs.Cells.{is_known, is_hazy, shape_of, cell_in, cell_at, HasCell, AreEqual, Share}
use Rattle.abs_cells.specs.Sound.{IsWellFormed}
use Rattle.abs_cells.specs.Fits.{Meaning, Describes, Fits, with_statics, IsClosedState}
use Rattle.abs_cells.proofs.Fitting.{known_apart}
use Rattle.abs_reach.proofs.Walks.{some_cell}
use Rattle.term_graph.specs.Edges.{HoldsBetween}
use Rattle.abs_heap.specs.Given.{first_cell, with_cells, IsGiven, AreFresh, AreRising}
use Rattle.abs_heap.specs.Writing.{zero_cell, IsObjectChild}
use Rattle.abs_heap.specs.Laws.{heap_with, with_heap, GoesWith, ObjectsGoOn, ArraysGoOn}
use Rattle.abs_heap.proofs.Placing.{cell_here, cell_later}
use Rattle.abs_heap.proofs.Fitted.{FitsBy, fits_given}
use Rattle.abs_heap.proofs.SameTerms.{size_kept}
use Rattle.abs_heap.proofs.Carried.{Agrees, maps_agree, positions_carried, mode_carried, cell_carried}
use Rattle.abs_heap.proofs.Growing.{stays, region_back, region_low, shape_stays, term_back}

-- ---- values for some ids

abbrev pub with_values : List (ℕ × Value) → Meaning → Meaning
with_values [] m id = m id
with_values (e ∷ es) m id = if e.0 == id then e.1 else with_values es m id

pub valued_here : (e : ℕ × Value) (es : List (ℕ × Value)) (m : Meaning) (id : ℕ) → e.0 ≡ id → with_values (e ∷ es) m id ≡ e.1
valued_here e es m id s = cond-true (eqb e.0 id) _ _ (eq-eqb e.0 id s)

pub valued_later : (e : ℕ × Value) (es : List (ℕ × Value)) (m : Meaning) (id : ℕ) → (e.0 ≡ id → ⊥)
    → with_values (e ∷ es) m id ≡ with_values es m id
valued_later e es m id n = cond-false (eqb e.0 id) _ _ (ne_eqb e.0 id n)

pub kept_others : (state : AbstractState) (m : Meaning) (ids : List ℕ) (vs : List Value) → All (λ id. cell_at state id ≡ None) ids
    → Agrees state m (with_values (zip ids vs) m)
kept_others state m [] vs free = λ id h. refl
kept_others state m (x ∷ ids) [] free = λ id h. refl
kept_others state m (x ∷ ids) (v ∷ vs) free = λ id h.
    valued_later (x, v) (zip ids vs) m id
    (λ s. none-some h.cell (sym (All-head (λ i. cell_at state i ≡ None) x ids free) ∙ ap (cell_at state) s ∙ h.is))
    ∙ kept_others state m ids vs (All-tail (λ i. cell_at state i ≡ None) x ids free) id h

rising_rest : (x : ℕ) (ids : List ℕ) → AreRising (x ∷ ids) → (k y : ℕ) → slice_get ids k ≡ Some y → x < y
rising_rest x [] r k y e = absurd (none-some y e)
rising_rest x (z ∷ ids) r zero y e = subst (λ (n : ℕ). x < n) (some_is e) r.0
rising_rest x (z ∷ ids) r (suc k) y e = let h = rising_rest z ids r.1 k y e in omega (arith, h, r.0)

pub values_are : (m : Meaning) (ids : List ℕ) (vs : List Value) → AreRising ids → length ids ≡ length vs
    → map (with_values (zip ids vs) m) ids ≡ vs
values_are m [] [] r l = refl
values_are m [] (v ∷ vs) r l = absurd (omega (arith, l))
values_are m (x ∷ ids) [] r l = absurd (omega (arith, l))
values_are m (x ∷ ids) (v ∷ vs) r l =
    ap (λ (y : Value). y ∷ map (with_values ((x, v) ∷ zip ids vs) m) ids) (valued_here (x, v) (zip ids vs) m x refl)
    ∙ ap (λ (ys : List Value). v ∷ ys)
    (sym (maps_agree (with_values (zip ids vs) m) (with_values ((x, v) ∷ zip ids vs) m) ids
    (λ k y e. valued_later (x, v) (zip ids vs) m y (λ s. let h = rising_rest x ids r k y e in omega (arith, h, s))))
    ∙ values_are m ids vs r.1 (omega (arith, l)))

-- ---- zeros

zero_described : (types : WorldTypes) (heap : Heap) (n : Meaning) (s : Slot) → Describes types heap n (zero_cell s) (initial_value s)
zero_described types heap n (slots.Num kind) = (pos 0, (refl, (omega (arith, ints), omega (arith, ints))))
zero_described types heap n (slots.Ref t) = refl

-- an id of a field of a new object
record IsZero (types : WorldTypes) (heap : Heap) (n : Meaning) (c : Cell) (v : Value) : Type 0 where
  described : Describes types heap n c v
  unknown : is_known c ≡ false
  clear : is_hazy c ≡ false
  shapeless : shape_of c ≡ None
  nothing : target v ≡ None

zero_is : (types : WorldTypes) (heap : Heap) (n : Meaning) (s : Slot) → IsZero types heap n (zero_cell s) (initial_value s)
zero_is types heap n (slots.Num kind) = record {
  described = zero_described types heap n (slots.Num kind);
  unknown = refl;
  clear =
      refl;
  shapeless = refl;
  nothing = refl;
}
zero_is types heap n (slots.Ref t) = record {
  described = zero_described types heap n (slots.Ref t);
  unknown = refl;
  clear = refl;
  shapeless = refl;
  nothing = refl;
}

zero_of_id : (types : WorldTypes) (heap : Heap) (n m : Meaning) (ids : List ℕ) (ss : List Slot) (i : ℕ) (c : Cell)
    → cell_in (zip ids (map zero_cell ss)) i ≡ Some c → IsZero types heap n c (with_values (zip ids (map initial_value ss)) m i)
zero_of_id types heap n m [] ss i c e = absurd (none-some c e)
zero_of_id types heap n m (x ∷ ids) [] i c e = absurd (none-some c e)
zero_of_id types heap n m (x ∷ ids) (s ∷ ss) i c e = elim (cases_eq x i) [
  | inl f ↦
      let is : zero_cell s ≡ c = some_is (sym (cell_here (x, zero_cell s) (zip ids (map zero_cell ss)) i f) ∙ e) in
      subst (λ (v : Value). IsZero types heap n c v) (sym (valued_here (x, initial_value s) (zip ids (map initial_value ss)) m i f))
      (subst (λ (d : Cell). IsZero types heap n d (initial_value s)) is (zero_is types heap n s))
  | inr f ↦
      subst (λ (v : Value). IsZero types heap n c v) (sym (valued_later (x, initial_value s) (zip ids (map initial_value ss)) m i f))
      (zero_of_id types heap n m ids ss i c (sym (cell_later (x, zero_cell s) (zip ids (map zero_cell ss)) i f) ∙ e))
]

-- ---- a new thing

module _ (types : WorldTypes) (state : AbstractState) (machine : MachineState) (m : Meaning) (good : IsWellFormed state)
    (closed : IsClosedState machine state m) (h : Fits types state machine m)
    (id : ℕ) (thing : Cell) (object : Object) (ids : List ℕ) (ss : List Slot) (fresh : AreFresh state (id ∷ ids))
    (count : length ids ≡ length ss)
    (empty : (j : ℕ) (y : Value) → slice_get (values_of object) j ≡ Some y → target y ≡ None) where
  abbrev place : ℕ
  place = length machine.heap.objects

  abbrev after : Heap
  after = heap_with machine.heap object

  abbrev pub now : Meaning
  now = with_values ((id, values.Ref (length machine.heap.objects)) ∷ zip ids (map initial_value ss)) m

  abbrev cell : ℕ → Option Cell
  cell = with_cells ((id, thing) ∷ zip ids (map zero_cell ss)) state

  pub now_agrees : Agrees state m now
  now_agrees = λ i k. kept_others state m (id ∷ ids) (values.Ref place ∷ map initial_value ss) fresh.free i k

  -- the three sorts of ids
  data Sort (i : ℕ) (c : Cell) : Type 0 where
    old : cell_at state i ≡ Some c → now i ≡ m i → Sort i c
    new : id ≡ i → thing ≡ c → now i ≡ values.Ref place → Sort i c
    none : IsZero types after now c (now i) → Sort i c

  sort_of : (i : ℕ) (c : Cell) → cell i ≡ Some c → Sort i c
  sort_of i c e = elim (cases_eq id i) [
    | inl f ↦ new f (some_is
        (sym (ap (λ (o : Option Cell). first_cell o (cell_at state i)) (cell_here (id, thing) (zip ids (map zero_cell ss)) i f))
        ∙ e)) (valued_here (id, values.Ref place) (zip ids (map initial_value ss)) m i f)
    | inr f ↦ later f (cell_in (zip ids (map zero_cell ss)) i) refl
        (sym (ap (λ (o : Option Cell). first_cell o (cell_at state i)) (cell_later (id, thing) (zip ids (map zero_cell ss)) i f)) ∙ e)
  ]
    where
      later : (id ≡ i → ⊥) → (o : Option Cell) → cell_in (zip ids (map zero_cell ss)) i ≡ o
          → first_cell (cell_in (zip ids (map zero_cell ss)) i) (cell_at state i) ≡ Some c → Sort i c
      later f None g k =
          let at : cell_at state i ≡ Some c = ap (λ (o : Option Cell). first_cell o (cell_at state i)) (sym g) ∙ k in
          old at (now_agrees i (record { cell = c; is = at; sort_is = refl }))
      later f (Some d) g k =
          let is : d ≡ c = some_is (ap (λ (o : Option Cell). first_cell o (cell_at state i)) (sym g) ∙ k) in
          none (subst (λ (v : Value). IsZero types after now c v)
          (sym (valued_later (id, values.Ref place) (zip ids (map initial_value ss)) m i f))
          (zero_of_id types after now m ids ss i c (g ∙ ap Some is)))

  -- ids of the state name objects of the old heap; the new one's region is the new object
  low_target : (i o : ℕ) (c : Cell) → cell_at state i ≡ Some c → now i ≡ m i → target (now i) ≡ Some o
      → (o < place) × (target (m i) ≡ Some o)
  low_target i o c e s t = let k = ap target (sym s) ∙ t in (closed.ids i (record { cell = c; is = e; sort_is = refl }) o k, k)

  new_target : (i o : ℕ) → now i ≡ values.Ref place → target (now i) ≡ Some o → o ≡ place
  new_target i o s t = sym (some_is (sym (ap target s) ∙ t))

  no_step : (i c : ℕ) → heap_steps after place i ≡ Some c → ⊥
  no_step i c e =
      let p = then_some target (value_at after place i) c e in
      let q = then_some (λ (ob : Object). slice_get (values_of ob) i) (slice_get after.objects place) p.0 p.1.0 in
      let is : object ≡ q.0 = some_is (sym (get_last machine.heap.objects object) ∙ q.1.0) in
      none-some c (sym (empty i p.0 (ap (λ (ob : Object). slice_get (values_of ob) i) is ∙ q.1.1)) ∙ p.1.1)

  no_path : (p : List ℕ) (o : ℕ) → follow (heap_steps after) p place ≡ Some o → (p ≡ []) × (o ≡ place)
  no_path [] o e = (refl, sym (some_is e))
  no_path (i ∷ p) o e = let q = then_some (follow (heap_steps after) p) (heap_steps after place i) o e in absurd (no_step i q.0 q.1.0)

  new_region : (i o : ℕ) → now i ≡ values.Ref place → Region after (now i) o → o ≡ place
  new_region i o s r =
      let start : place ≡ r.start = some_is (sym (ap target s) ∙ r.names) in
      (no_path r.reaches.path o (ap (follow (heap_steps after) r.reaches.path) start ∙ r.reaches.leads)).1

  old_region : (i o : ℕ) (c : Cell) → cell_at state i ≡ Some c → now i ≡ m i → Region after (now i) o
      → (o < place) × Region machine.heap (m i) o
  old_region i o c e s r =
      let k : Region after (m i) o = subst (λ (v : Value). Region after v o) s r in
      let inside : IsInHeap place (m i) = closed.ids i (record { cell = c; is = e; sort_is = refl }) in
      (region_low machine.heap object closed.heap (m i) o inside k, region_back machine.heap object closed.heap (m i) o inside k)

  pub tree_of_new : HasShape Tree after (values.Ref (length machine.heap.objects))
  tree_of_new = λ a t p q b e f.
      let start : place ≡ a = some_is t in
      (no_path p b (ap (follow (heap_steps after) p) start ∙ e)).0 ∙ sym (no_path q b (ap (follow (heap_steps after) q) start ∙ f)).0

  any_state : (i : ℕ) (c : Cell) → cell_at state i ≡ Some c → HasCell (λ _. true) state i
  any_state i c e = record { cell = c; is = e; sort_is = refl }

  module _ (described : Describes types after now thing (values.Ref (length machine.heap.objects))) (shaped : (s : Shape)
      → shape_of thing ≡ Some s → HasShape s after (values.Ref (length machine.heap.objects))) where
    cells_now : (i : ℕ) (c : Cell) → Sort i c → Describes types after now c (now i)
    cells_now i c (old e s) = cell_carried types state machine.heap after m now good now_agrees
        (stays machine.heap object closed.heap) i c e (h.cells i c e)
    cells_now i c (new f g s) = subst (λ (v : Value). Describes types after now c v) (sym s)
        (subst (λ (d : Cell). Describes types after now d (values.Ref place)) g described)
    cells_now i c (none z) = z.described

    aliases_now : (a b o : ℕ) (c d : Cell) → Sort a c → Sort b d → a ≢ b → target (now a) ≡ Some o → target (now b) ≡ Some o
        → AreEqual state a b
    aliases_now a b o c d (old e s) (old f t) n ta tb = h.aliases a b o (any_state a c e) (any_state b d f) n
        (low_target a o c e s ta).1 (low_target b o d f t tb).1
    aliases_now a b o c d (old e s) (new f g t) n ta tb = absurd
        (let l = (low_target a o c e s ta).0 in let k = new_target b o t tb in omega (arith, l, k))
    aliases_now a b o c d (old e s) (none z) n ta tb = absurd (none-some o (sym z.nothing ∙ tb))
    aliases_now a b o c d (new e g s) (old f t) n ta tb = absurd
        (let l = (low_target b o d f t tb).0 in let k = new_target a o s ta in omega (arith, l, k))
    aliases_now a b o c d (new e g s) (new f k t) n ta tb = absurd (n (sym e ∙ f))
    aliases_now a b o c d (new e g s) (none z) n ta tb = absurd (none-some o (sym z.nothing ∙ tb))
    aliases_now a b o c d (none z) y n ta tb = absurd (none-some o (sym z.nothing ∙ ta))

    apart_now : (a b o : ℕ) (c d : Cell) → Sort a c → Sort b d → is_known c ≡ true → is_known d ≡ true → a ≢ b
        → target (now a) ≡ Some o → target (now b) ≡ Some o → ⊥
    apart_now a b o c d (old e s) (old f t) k l n ta tb = known_apart types state machine m good h a b o
        (record { cell = c; is = e; sort_is = k }) (record { cell = d; is = f; sort_is = l }) n (low_target a o c e s ta).1
        (low_target b o d f t tb).1
    apart_now a b o c d (old e s) (new f g t) k l n ta tb = let p = (low_target a o c e s ta).0 in let q = new_target b o t tb in
        omega (arith, p, q)
    apart_now a b o c d (old e s) (none z) k l n ta tb = none-some o (sym z.nothing ∙ tb)
    apart_now a b o c d (new e g s) (old f t) k l n ta tb = let p = (low_target b o d f t tb).0 in let q = new_target a o s ta in
        omega (arith, p, q)
    apart_now a b o c d (new e g s) (new f i t) k l n ta tb = n (sym e ∙ f)
    apart_now a b o c d (new e g s) (none z) k l n ta tb = none-some o (sym z.nothing ∙ tb)
    apart_now a b o c d (none z) y k l n ta tb = none-some o (sym z.nothing ∙ ta)

    meeting_now : (a b o : ℕ) (c d : Cell) → Sort a c → Sort b d → is_hazy c ≡ true → is_hazy d ≡ true → a ≢ b
        → Region after (now a) o → Region after (now b) o → Share state a b
    meeting_now a b o c d (old e s) (old f t) k l n ra rb = h.meeting a b o (record { cell = c; is = e; sort_is = k })
        (record { cell = d; is = f; sort_is = l }) n (old_region a o c e s ra).1 (old_region b o d f t rb).1
    meeting_now a b o c d (old e s) (new f g t) k l n ra rb = absurd
        (let p = (old_region a o c e s ra).0 in let q = new_region b o t rb in omega (arith, p, q))
    meeting_now a b o c d (old e s) (none z) k l n ra rb = absurd (false≢true (sym z.clear ∙ l))
    meeting_now a b o c d (new e g s) (old f t) k l n ra rb = absurd
        (let p = (old_region b o d f t rb).0 in let q = new_region a o s ra in omega (arith, p, q))
    meeting_now a b o c d (new e g s) (new f i t) k l n ra rb = absurd (n (sym e ∙ f))
    meeting_now a b o c d (new e g s) (none z) k l n ra rb = absurd (false≢true (sym z.clear ∙ l))
    meeting_now a b o c d (none z) y k l n ra rb = absurd (false≢true (sym z.clear ∙ k))

    inside_now : (a b o : ℕ) (c d : Cell) → Sort a c → Sort b d → is_known c ≡ true → is_hazy d ≡ true → target (now a) ≡ Some o
        → Region after (now b) o → Share state a b
    inside_now a b o c d (old e s) (old f t) k l ta rb = h.inside a b o (record { cell = c; is = e; sort_is = k })
        (record { cell = d; is = f; sort_is = l }) (low_target a o c e s ta).1 (old_region b o d f t rb).1
    inside_now a b o c d (old e s) (new f g t) k l ta rb = absurd
        (let p = (low_target a o c e s ta).0 in let q = new_region b o t rb in omega (arith, p, q))
    inside_now a b o c d (old e s) (none z) k l ta rb = absurd (false≢true (sym z.clear ∙ l))
    inside_now a b o c d (new e g s) (old f t) k l ta rb = absurd
        (let p = (old_region b o d f t rb).0 in let q = new_target a o s ta in omega (arith, p, q))
    inside_now a b o c d (new e g s) (new f i t) k l ta rb = absurd (false≢true (sym (hazy_not_known d l) ∙ ap is_known (sym i ∙ g) ∙ k))
    inside_now a b o c d (new e g s) (none z) k l ta rb = absurd (false≢true (sym z.clear ∙ l))
    inside_now a b o c d (none z) y k l ta rb = absurd (false≢true (sym z.unknown ∙ k))

    shapes_now : (i : ℕ) (c : Cell) (shape : Shape) → Sort i c → shape_of c ≡ Some shape → HasShape shape after (now i)
    shapes_now i c shape (old e s) f = subst (λ (v : Value). HasShape shape after v) (sym s)
        (shape_stays machine.heap object closed.heap (m i) shape (closed.ids i (any_state i c e)) (h.shapes i c shape e f))
    shapes_now i c shape (new e g s) f = subst (λ (v : Value). HasShape shape after v) (sym s) (shaped shape (ap shape_of g ∙ f))
    shapes_now i c shape (none z) f = absurd (none-some shape (sym z.shapeless ∙ f))

    fits_now : FitsBy types state.frames state.throwing (with_cells ((id, thing) ∷ zip ids (map zero_cell ss)) state)
        (AreEqual state) (Share state) (with_heap machine (heap_with machine.heap object)) now
    fits_now = record {
      positions = positions_carried state m now (with_statics machine.statics machine.frames) good now_agrees h.positions;
      mode = mode_carried state m now machine.mode good now_agrees h.mode;
      cells = λ i c e. cells_now i c (sort_of i c e);
      aliases = λ a b o c d e f n ta tb. inl (aliases_now a b o c d (sort_of a c e) (sort_of b d f) n ta tb);
      apart = λ a b o c d e f k l n ta tb. apart_now a b o c d (sort_of a c e) (sort_of b d f) k l n ta tb;
      meeting = λ a b o c d e f k l n ra rb. inl (meeting_now a b o c d (sort_of a c e) (sort_of b d f) k l n ra rb);
      inside = λ a b o c d e f k l ta rb. inl (inside_now a b o c d (sort_of a c e) (sort_of b d f) k l ta rb);
      shapes = λ i c shape e f. shapes_now i c shape (sort_of i c e) f;
    }

    pub goes_now : (child : AbstractState)
        → IsGiven state.frames state.throwing (with_cells ((id, thing) ∷ zip ids (map zero_cell ss)) state) (AreEqual state)
        (Share state) child
        → GoesWith types state machine m child (with_heap machine (heap_with machine.heap object)) id
        (values.Ref (length machine.heap.objects))
    goes_now child g = record {
      meaning_after = now;
      fits = fits_given types state.frames state.throwing (with_cells ((id, thing) ∷ zip ids (map zero_cell ss)) state)
          (AreEqual state) (Share state) (with_heap machine (heap_with machine.heap object)) now fits_now child g;
      value_is = valued_here (id, values.Ref place) (zip ids (map initial_value ss)) m id refl;
      others = λ i k. now_agrees i k;
      edge = record {
        ints = λ i k l. now_agrees i (some_cell state i k);
        rows = All-nil (HoldsBetween m now);
        sizes = λ i k s. size_kept machine.heap after (m i) (now i) (now_agrees i (some_cell state i k))
            (λ t is. term_back machine.heap object closed.heap (m i) t (closed.ids i (some_cell state i k)) is);
      };
    }

-- ---- objects

zeros_empty : (ss : List Slot) (j : ℕ) (y : Value) → slice_get (map initial_value ss) j ≡ Some y → target y ≡ None
zeros_empty [] j y e = absurd (none-some y e)
zeros_empty (slots.Num kind ∷ ss) zero y e = ap target (sym (some_is e))
zeros_empty (slots.Ref t ∷ ss) zero y e = ap target (sym (some_is e))
zeros_empty (s ∷ ss) (suc j) y e = zeros_empty ss j y e

pub objects_go_on : ObjectsGoOn
objects_go_on types state child machine m class id good closed h low made is =
    let ss = types.fields class in
    let object = objects.Instance class (map initial_value ss) in
    let thing = cells.Obj class is.ids in
    goes_now types state machine m good closed h id thing object is.ids ss is.fresh is.count (zeros_empty ss)
    (record {
      place = length machine.heap.objects;
      object = object;
      names = refl;
      stands = get_last machine.heap.objects object;
      holds = ap (objects.Instance class) (sym (fields_are is));
    })
    (λ s e. absurd (none-some s e))
    child is.is
  where
    fields_are : (is : IsObjectChild types state class id child)
        → map (with_values ((id, values.Ref (length machine.heap.objects)) ∷ zip is.ids (map initial_value (types.fields class))) m)
        is.ids ≡ map initial_value (types.fields class)
    fields_are is =
        sym (maps_agree (with_values (zip is.ids (map initial_value (types.fields class))) m)
        (with_values ((id, values.Ref (length machine.heap.objects)) ∷ zip is.ids (map initial_value (types.fields class))) m) is.ids
        (λ k y e. valued_later (id, values.Ref (length machine.heap.objects)) (zip is.ids (map initial_value (types.fields class)))
        m y (λ s. let l = rising_rest id is.ids is.fresh.rise k y e in omega (arith, l, s))))
        ∙ values_are m is.ids (map initial_value (types.fields class)) (rest_rises id is.ids is.fresh.rise)
        (is.count ∙ sym (length_mapped initial_value (types.fields class)))
      where
        rest_rises : (x : ℕ) (xs : List ℕ) → AreRising (x ∷ xs) → AreRising xs
        rest_rises x xs r = r.1

-- ---- arrays

replicated : {X : Type 0} (x : X) (count : ℕ) (j : ℕ) (y : X) → slice_get (replicate count x) j ≡ Some y → y ≡ x
replicated x zero j y e = absurd (none-some y e)
replicated x (suc count) zero y e = sym (some_is e)
replicated x (suc count) (suc j) y e = replicated x count j y e

replicated_length : {X : Type 0} (x : X) (count : ℕ) → length (replicate count x) ≡ count
replicated_length x zero = refl
replicated_length x (suc count) = ap suc (replicated_length x count)

pub arrays_go_on : ArraysGoOn
arrays_go_on types state child machine m (slots.Num kind) len id count laws good closed h slot int is_count is =
    let object = objects.Nums kind (replicate count (pos 0)) in
    goes_now types state machine m good closed h id (cells.Nums kind len) object [] [] is.fresh refl (λ j y e. absurd (none-some y e))
    (record {
      place = length machine.heap.objects;
      object = object;
      names = refl;
      stands = get_last machine.heap.objects object;
      holds = record {
        items = replicate count (pos 0);
        is = refl;
        length_is = now_agrees types state machine m good closed h id (cells.Nums kind len) object [] [] is.fresh refl
            (λ j y e. absurd (none-some y e)) len (some_cell state len int) ∙ is_count
            ∙ ap (λ (k : ℕ). values.Int (pos k)) (sym (replicated_length (pos 0) count));
      };
    })
    (λ s e. absurd (none-some s e))
    child is.is
arrays_go_on types state child machine m (slots.Ref t) len id count laws good closed h slot int is_count is =
    let object = objects.Refs t (replicate count values.Null) in
    let empty : (j : ℕ) (y : Value) → slice_get (replicate count values.Null) j ≡ Some y → target y ≡ None = λ j y e. ap target
    (replicated values.Null count j y e) in
    goes_now types state machine m good closed h id (cells.Refs (types.erase t) len Tree) object [] [] is.fresh refl empty
    (record {
      place = length machine.heap.objects;
      object = object;
      names = refl;
      stands = get_last machine.heap.objects object;
      holds = record {
        item = t;
        items = replicate count values.Null;
        is = refl;
        below = laws.erase_up t slot.0;
        length_is = now_agrees types state machine m good closed h id (cells.Refs (types.erase t) len Tree) object [] [] is.fresh
            refl empty len (some_cell state len int) ∙ is_count
            ∙ ap (λ (k : ℕ). values.Int (pos k)) (sym (replicated_length values.Null count));
      };
    })
    (λ s e. subst (λ (x : Shape). HasShape x (heap_with machine.heap object) (values.Ref (length machine.heap.objects))) (some_is e)
    (tree_of_new types state machine m good closed h id (cells.Refs (types.erase t) len Tree) object [] [] is.fresh refl empty))
    child is.is
