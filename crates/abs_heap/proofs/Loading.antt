-- An item of an array of references.
use Rattle.std.proofs.Common.{◌≡◌, ◌≢◌, ℕ, true, List, [], ◌∷◌, Option, Some, ◌⊎◌, inl, inr, refl, sym, ap, subst, ◌∙◌, IsTrue}
use Rattle.std.specs.Prelude.{slice_get}
use Rattle.std.specs.Option.{option_and_then}
use Rattle.std.proofs.lemmas.Bool.{false≢true, cases_eq}
use Rattle.std.proofs.lemmas.List.Elements.{All-nil}
use Rattle.std.proofs.lemmas.Option.{none-some}
use Rattle.list_views.proofs.Quantified.{all_at}
use Rattle.jvm_values.specs.declared.heap.Value.{Value}
use Rattle.jvm_values.specs.declared.heap.Value.TheVariants as values
use Rattle.jvm_values.specs.declared.heap.Object.{Object}
use Rattle.jvm_values.specs.declared.heap.Object.TheVariants as objects
use Rattle.jvm_values.specs.declared.heap.Heap.{Heap}
use Rattle.jvm_values.specs.declared.types.Ty.{Ty}
use Rattle.jvm_values.specs.declared.shape.Shape.{Shape}
use Rattle.jvm_values.specs.declared.shape.Shape.TheVariants.{Tree, Dag, Any}
use Rattle.jvm_values.specs.Paths.{follow}
use Rattle.jvm_values.specs.States.{MachineState}
use Rattle.jvm_values.specs.Heaps.{target, values_of, heap_steps, Region, HasShape}
use Rattle.jvm_values.specs.TypedHeaps.{WorldTypes, AreLawful, HasType, IsTypedHeap, type_of}
use Rattle.jvm_values.proofs.Options.{some_is}
use Rattle.abs_cells.specs.declared.cells.Cell.{Cell}
use Rattle.abs_cells.specs.declared.cells.Cell.TheVariants as cells
use Rattle.abs_cells.specs.AbstractStates.{AbstractState}
use Rattle.abs_cells.specs.Cells.{is_known, is_hazy, is_reference, shape_of, cell_in, cell_at, HasCell, AreEqual, Share}
use Rattle.abs_cells.specs.Sound.{IsWellFormed, IsSoundCell}
use Rattle.abs_cells.specs.Fits.{Meaning, Describes, Fits, with_statics, IsClosedState}
use Rattle.abs_cells.proofs.Fitting.{known_apart}
use Rattle.abs_cells.proofs.PairLaws.{has_swapped}
use Rattle.abs_reach.proofs.Walks.{some_cell}
use Rattle.term_graph.specs.Edges.{HoldsBetween}
use Rattle.abs_heap.specs.Given.{first_cell, with_cells, MayBeOne}
use Rattle.abs_heap.specs.Writing.{JoinsItem, IsItemChild}
use Rattle.abs_heap.specs.Laws.{AreSoundReferences, GoesWith, ItemsGoOn}
use Rattle.abs_heap.proofs.Placing.{cell_here, cell_later}
use Rattle.abs_heap.proofs.Fitted.{FitsBy, fits_given, names_reference}
use Rattle.abs_heap.proofs.SameTerms.{same_size}
use Rattle.abs_heap.proofs.Carried.{Agrees, positions_carried, mode_carried, cell_carried}
use Rattle.abs_heap.proofs.NewThings.{with_values, kept_others, valued_here}
use Rattle.abs_heap.proofs.Telling.{tells, told_compatible, reference_no_int, array_typed}

-- ---- what an object holds

-- the region of an item lies in the array's
module _ (heap : Heap) (holder value : Value) (o n : ℕ) (object : Object) (names : target holder ≡ Some o)
    (stands : slice_get heap.objects o ≡ Some object) (got : slice_get (values_of object) n ≡ Some value) where
  pub held_step : (a : ℕ) → target value ≡ Some a → heap_steps heap o n ≡ Some a
  held_step a t =
      ap (λ (x : Option Object). option_and_then target (option_and_then (λ (ob : Object). slice_get (values_of ob) n) x)) stands
      ∙ ap (option_and_then target) got ∙ t

  pub held_path : (a b : ℕ) (p : List ℕ) → target value ≡ Some a → follow (heap_steps heap) p a ≡ Some b
      → follow (heap_steps heap) (n ∷ p) o ≡ Some b
  held_path a b p t e = ap (option_and_then (follow (heap_steps heap) p)) (held_step a t) ∙ e

  pub held_region : (b : ℕ) → Region heap value b → Region heap holder b
  held_region b r = record {
    start = o;
    names = names;
    reaches = record
        { path = n ∷ r.reaches.path; leads = held_path r.start b r.reaches.path r.names r.reaches.leads };
  }

  abbrev tail_of : List ℕ → List ℕ
  tail_of [] = []
  tail_of (x ∷ xs) = xs

  pub held_shape : (shape : Shape) → HasShape shape heap holder → HasShape shape heap value
  held_shape Tree h = λ a t p q b e f. ap tail_of (h o names (n ∷ p) (n ∷ q) b (held_path a b p t e) (held_path a b q t f))
  held_shape Dag h = λ a t p b e q f. h o names (n ∷ p) b (held_path a b p t e) q f
  held_shape Any h = tt

  -- an object holds itself only where its region may have cycles
  pub held_itself : (shape : Shape) → HasShape shape heap holder → target value ≡ Some o → shape ≡ Any
  held_itself Tree h t = absurd (cc2 (h o names [] (n ∷ []) o refl (held_path o o [] t refl)))
    where
      cc2 : [] ≡ n ∷ [] → ⊥
      cc2 e = cc
  held_itself Dag h t = absurd (cc3 (h o names [] o refl (n ∷ []) (held_path o o [] t refl)))
    where
      cc3 : n ∷ [] ≡ [] → ⊥
      cc3 e = cc
  held_itself Any h t = refl

-- a cell of a reference is known or hazy
pub known_or_hazy : (c : Cell) → is_reference c ≡ true → (is_known c ≡ true) ⊎ (is_hazy c ≡ true)
known_or_hazy (cells.Int interval) r = absurd (false≢true r)
known_or_hazy cells.Null r = absurd (false≢true r)
known_or_hazy (cells.Obj class ids) r = inl refl
known_or_hazy (cells.Nums kind len) r = inl refl
known_or_hazy (cells.Refs element len shape) r = inr refl
known_or_hazy (cells.Unk bound nullable shape) r = inr refl

module _ (types : WorldTypes) (state child : AbstractState) (machine : MachineState) (m : Meaning) (k item o n : ℕ)
    (element own : Ty) (len : ℕ) (shape : Shape) (items : List Value) (value : Value)
    (laws : AreLawful types) (good : IsWellFormed state) (sound : AreSoundReferences types state)
    (typed : IsTypedHeap types machine.heap) (closed : IsClosedState machine state m) (h : Fits types state machine m)
    (at : cell_at state k ≡ Some (cells.Refs element len shape)) (names : target (m k) ≡ Some o)
    (stands : slice_get machine.heap.objects o ≡ Some (objects.Refs own items)) (got : slice_get items n ≡ Some value)
    (is : IsItemChild types.sub state k element shape item child) where
  abbrev heap : Heap
  heap = machine.heap

  abbrev thing : Cell
  thing = cells.Unk element true shape

  abbrev now : Meaning
  now = with_values ((item, value) ∷ []) m

  abbrev wants_one : ℕ → ℕ → Type 0
  wants_one a b = AreEqual state a b ⊎ MayBeOne types.sub (JoinsItem state k item shape) child.cells a b

  abbrev wants_share : ℕ → ℕ → Type 0
  wants_share a b = Share state a b ⊎ (JoinsItem state k item shape a b ⊎ ((a ≡ item) × (b ≡ k)))

  agrees : Agrees state m now
  agrees = λ i p. kept_others state m (item ∷ []) (value ∷ []) is.fresh.free i p

  data Sort (i : ℕ) (c : Cell) : Type 0 where
    old : cell_at state i ≡ Some c → now i ≡ m i → (item ≡ i → ⊥) → Sort i c
    new : item ≡ i → thing ≡ c → now i ≡ value → Sort i c

  sort_of : (i : ℕ) (c : Cell) → with_cells ((item, thing) ∷ []) state i ≡ Some c → Sort i c
  sort_of i c e = elim (cases_eq item i) [
    | inl f ↦ new f (some_is (sym (ap (λ (x : Option Cell). first_cell x (cell_at state i)) (cell_here (item, thing) [] i f)) ∙ e))
        (valued_here (item, value) [] m i f)
    | inr f ↦
        let there : cell_at state i ≡ Some c = sym
        (ap (λ (x : Option Cell). first_cell x (cell_at state i)) (cell_later (item, thing) [] i f)) ∙ e in
        old there (agrees i (record { cell = c; is = there; sort_is = refl })) f
  ]

  region_of_item : (b : ℕ) → Region heap value b → Region heap (m k) b
  region_of_item b r = held_region heap (m k) value o n (objects.Refs own items) names stands got b r

  hazy_k : HasCell is_hazy state k
  hazy_k = record { cell = cells.Refs element len shape; is = at; sort_is = refl }

  -- the array's own type is below the cell's
  own_below : IsTrue (types.sub own element)
  own_below =
      let d = h.cells k (cells.Refs element len shape) at in
      let place : d.place ≡ o = some_is (sym (ap target d.names) ∙ names) in
      let same : objects.Refs d.holds.item d.holds.items ≡ objects.Refs own items = some_is (ap Some (sym d.holds.is) ∙ sym d.stands
      ∙ ap (slice_get heap.objects) place ∙ stands) in
      subst (λ (t : Ty). IsTrue (types.sub t element)) (ap item_type same) d.holds.below
    where
      item_type : Object → Ty
      item_type (objects.Instance class fields) = own
      item_type (objects.Nums kind numbers) = own
      item_type (objects.Refs t list) = t

  described : (v : Value) → HasType types heap v own → Describes types heap now thing v
  described (values.Int i) t = absurd t
  described values.Null t = inl (refl, refl)
  described (values.Ref r) t = inr
      (record { place = r; object = t.0; names = refl; stands = t.1.0; holds = laws.transitive (type_of t.0) own element t.1.1 own_below })

  item_described : Describes types heap now thing value
  item_described = described value
      (all_at (λ (v : Value). HasType types heap v own) items n value (array_typed types heap o own items typed stands).1.1.1 got)

  -- what shares with an item
  shares_item : (a b : ℕ) (c : Cell) → cell_at state a ≡ Some c → (a ≡ k → ⊥) → is_reference c ≡ true → target (m a) ≡ Some b
      → Region heap (m k) b → Share state k a
  shares_item a b c e apart r t region = elim (known_or_hazy c r) [
    | inl p ↦ has_swapped a k state.share ∙ h.inside a k b (record { cell = c; is = e; sort_is = p }) hazy_k t region
    | inr p ↦ h.meeting k a b hazy_k (record { cell = c; is = e; sort_is = p }) (λ s. apart (sym s)) region
        (record { start = b; names = t; reaches = record { path = []; leads = refl } })
  ]

  in_child : (i : ℕ) (c : Cell) → with_cells ((item, thing) ∷ []) state i ≡ Some c → cell_in child.cells i ≡ Some c
  in_child i c e = is.is.cells i ∙ e

  item_cell : cell_in child.cells item ≡ Some thing
  item_cell = in_child item thing (ap (λ (x : Option Cell). first_cell x (cell_at state item)) (cell_here (item, thing) [] item refl))

  sound_thing : IsSoundCell types state thing
  sound_thing = (sound k (cells.Refs element len shape) at refl).1.0

  one_with : (a b : ℕ) (c : Cell) → cell_at state a ≡ Some c → (item ≡ a → ⊥) → target (m a) ≡ Some b → target value ≡ Some b
      → MayBeOne types.sub (JoinsItem state k item shape) child.cells item a
  one_with a b c e apart ta tv =
      let d = h.cells a c e in
      let r = names_reference types machine m c (m a) b d ta in
      let region = region_of_item b (record { start = b; names = tv; reaches = record { path = []; leads = refl } }) in
      record {
        joins = record { is_item = refl; why = why a b c e r ta tv region };
        left = thing;
        left_is = item_cell;
        right = c;
        right_is = in_child a c (ap (λ (x : Option Cell). first_cell x (cell_at state a)) (cell_later (item, thing) [] a apart) ∙ e);
        compatible = told_compatible types laws thing c (object_of c (m a) b d ta).0
            (tells types state heap now laws typed thing value b (object_of c (m a) b d ta).0 sound_thing item_described tv
            (object_of c (m a) b d ta).1)
            (tells types state heap m laws typed c (m a) b (object_of c (m a) b d ta).0 (sound a c e (reference_no_int c r)) d ta
            (object_of c (m a) b d ta).1);
      }
    where
      why : (a b : ℕ) (c : Cell) → cell_at state a ≡ Some c → is_reference c ≡ true → target (m a) ≡ Some b → target value ≡ Some b
          → Region heap (m k) b → Share state k a ⊎ ((shape ≡ Any) × (a ≡ k))
      why a b c e r ta tv region = elim (cases_eq a k) [
        | inl s ↦
            let there : target value ≡ Some o = tv ∙ sym ta ∙ ap (λ (x : ℕ). target (m x)) s ∙ names in
            inr (
              held_itself heap (m k) value o n (objects.Refs own items) names stands got shape
                  (h.shapes k (cells.Refs element len shape) shape at refl) there,
              s,
            )
        | inr s ↦ inl (shares_item a b c e s r ta region)
      ]

      object_of : (c : Cell) (v : Value) (b : ℕ) → Describes types heap m c v → target v ≡ Some b
          → (object : Object) × (slice_get heap.objects b ≡ Some object)
      object_of (cells.Int interval) v b d t = absurd (none-some b (ap target (sym d.1.0) ∙ t))
      object_of cells.Null v b d t = absurd (none-some b (ap target (sym d) ∙ t))
      object_of (cells.Obj class ids) v b d t = (
        d.object,
        ap (slice_get heap.objects) (sym (some_is (sym (ap target d.names) ∙ t)))
            ∙ d.stands,
      )
      object_of (cells.Nums kind l) v b d t = (
        d.object,
        ap (slice_get heap.objects) (sym (some_is (sym (ap target d.names) ∙ t)))
            ∙ d.stands,
      )
      object_of (cells.Refs e l s) v b d t = (
        d.object,
        ap (slice_get heap.objects) (sym (some_is (sym (ap target d.names) ∙ t)))
            ∙ d.stands,
      )
      object_of (cells.Unk e l s) v b (inl d) t = absurd (none-some b (ap target (sym d.1) ∙ t))
      object_of (cells.Unk e l s) v b (inr d) t =
          (d.object, ap (slice_get heap.objects) (sym (some_is (sym (ap target d.names) ∙ t))) ∙ d.stands)

  old_target : (a b : ℕ) → now a ≡ m a → target (now a) ≡ Some b → target (m a) ≡ Some b
  old_target a b s t = ap target (sym s) ∙ t

  new_target : (a b : ℕ) → now a ≡ value → target (now a) ≡ Some b → target value ≡ Some b
  new_target a b s t = ap target (sym s) ∙ t

  moved : (v w : Value) (b : ℕ) → v ≡ w → Region heap v b → Region heap w b
  moved v w b e r = subst (λ (x : Value). Region heap x b) e r

  aliases_now : (a b x : ℕ) (c d : Cell) → Sort a c → Sort b d → a ≢ b → target (now a) ≡ Some x → target (now b) ≡ Some x
      → wants_one a b ⊎ wants_one b a
  aliases_now a b x c d (old e s p) (old f t q) apart ta tb = inl
      (inl (h.aliases a b x (record { cell = c; is = e; sort_is = refl }) (record { cell = d; is = f; sort_is = refl }) apart
      (old_target a x s ta) (old_target b x t tb)))
  aliases_now a b x c d (old e s p) (new f g t) apart ta tb = inr
      (subst (λ (i : ℕ). wants_one i a) f (inr (one_with a x c e p (old_target a x s ta) (new_target b x t tb))))
  aliases_now a b x c d (new e g s) (old f t q) apart ta tb = inl
      (subst (λ (i : ℕ). wants_one i b) e (inr (one_with b x d f q (old_target b x t tb) (new_target a x s ta))))
  aliases_now a b x c d (new e g s) (new f i t) apart ta tb = absurd (apart (sym e ∙ f))

  apart_now : (a b x : ℕ) (c d : Cell) → Sort a c → Sort b d → is_known c ≡ true → is_known d ≡ true → a ≢ b
      → target (now a) ≡ Some x → target (now b) ≡ Some x → ⊥
  apart_now a b x c d (old e s p) (old f t q) u v apart ta tb = known_apart types state machine m good h a b x
      (record { cell = c; is = e; sort_is = u }) (record { cell = d; is = f; sort_is = v }) apart (old_target a x s ta)
      (old_target b x t tb)
  apart_now a b x c d (old e s p) (new f g t) u v apart ta tb = false≢true (ap is_known g ∙ v)
  apart_now a b x c d (new e g s) y u v apart ta tb = false≢true (ap is_known g ∙ u)

  meets_item : (a x : ℕ) (c : Cell) → cell_at state a ≡ Some c → is_hazy c ≡ true → Region heap (m a) x → Region heap (m k) x
      → wants_share item a
  meets_item a x c e z ra rk = elim (cases_eq a k) [
    | inl s ↦ inr (inr (refl, s))
    | inr s ↦ inr (inl (record
        { is_item = refl; why = inl (h.meeting k a x hazy_k (record { cell = c; is = e; sort_is = z }) (λ t. s (sym t)) rk ra) }))
  ]

  meeting_now : (a b x : ℕ) (c d : Cell) → Sort a c → Sort b d → is_hazy c ≡ true → is_hazy d ≡ true → a ≢ b → Region heap (now a) x
      → Region heap (now b) x → wants_share a b ⊎ wants_share b a
  meeting_now a b x c d (old e s p) (old f t q) u v apart ra rb = inl
      (inl (h.meeting a b x (record { cell = c; is = e; sort_is = u }) (record { cell = d; is = f; sort_is = v }) apart
      (moved (now a) (m a) x s ra) (moved (now b) (m b) x t rb)))
  meeting_now a b x c d (old e s p) (new f g t) u v apart ra rb = inr
      (subst (λ (i : ℕ). wants_share i a) f
      (meets_item a x c e u (moved (now a) (m a) x s ra) (region_of_item x (moved (now b) value x t rb))))
  meeting_now a b x c d (new e g s) (old f t q) u v apart ra rb = inl
      (subst (λ (i : ℕ). wants_share i b) e
      (meets_item b x d f v (moved (now b) (m b) x t rb) (region_of_item x (moved (now a) value x s ra))))
  meeting_now a b x c d (new e g s) (new f i t) u v apart ra rb = absurd (apart (sym e ∙ f))

  inside_now : (a b x : ℕ) (c d : Cell) → Sort a c → Sort b d → is_known c ≡ true → is_hazy d ≡ true → target (now a) ≡ Some x
      → Region heap (now b) x → wants_share a b ⊎ wants_share b a
  inside_now a b x c d (old e s p) (old f t q) u v ta rb = inl
      (inl (h.inside a b x (record { cell = c; is = e; sort_is = u }) (record { cell = d; is = f; sort_is = v })
      (old_target a x s ta) (moved (now b) (m b) x t rb)))
  inside_now a b x c d (old e s p) (new f g t) u v ta rb =
      let share = h.inside a k x (record { cell = c; is = e; sort_is = u }) hazy_k (old_target a x s ta)
      (region_of_item x (moved (now b) value x t rb)) in
      inr (subst (λ (i : ℕ). wants_share i a) f (inr (inl (record { is_item = refl; why = inl (has_swapped a k state.share ∙ share) }))))
  inside_now a b x c d (new e g s) y u v ta rb = absurd (false≢true (ap is_known g ∙ u))

  shape_of_thing : (s : Shape) → shape_of thing ≡ Some s → HasShape s heap value
  shape_of_thing s e = subst (λ (x : Shape). HasShape x heap value) (some_is e)
      (held_shape heap (m k) value o n (objects.Refs own items) names stands got shape
      (h.shapes k (cells.Refs element len shape) shape at refl))

  shapes_now : (i : ℕ) (c : Cell) (s : Shape) → Sort i c → shape_of c ≡ Some s → HasShape s heap (now i)
  shapes_now i c s (old e t p) f = subst (λ (v : Value). HasShape s heap v) (sym t) (h.shapes i c s e f)
  shapes_now i c s (new e g t) f = subst (λ (v : Value). HasShape s heap v) (sym t) (shape_of_thing s (ap shape_of g ∙ f))

  cells_now : (i : ℕ) (c : Cell) → Sort i c → Describes types heap now c (now i)
  cells_now i c (old e t p) = cell_carried types state heap heap m now good agrees (λ r ob f. f) i c e (h.cells i c e)
  cells_now i c (new e g t) = subst (λ (v : Value). Describes types heap now c v) (sym t)
      (subst (λ (d : Cell). Describes types heap now d value) g item_described)

  pub item_fits : FitsBy types state.frames state.throwing (with_cells ((item, cells.Unk element true shape) ∷ []) state)
      (λ a b. AreEqual state a b ⊎ MayBeOne types.sub (JoinsItem state k item shape) child.cells a b)
      (λ a b. Share state a b ⊎ (JoinsItem state k item shape a b ⊎ ((a ≡ item) × (b ≡ k)))) machine now
  item_fits = record {
    positions = positions_carried state m now (with_statics machine.statics machine.frames) good agrees h.positions;
    mode = mode_carried state m now machine.mode good agrees h.mode;
    cells = λ i c e. cells_now i c (sort_of i c e);
    aliases = λ a b x c d e f apart ta tb. aliases_now a b x c d (sort_of a c e) (sort_of b d f) apart ta tb;
    apart = λ a b x c d e f u v apart ta tb. apart_now a b x c d (sort_of a c e) (sort_of b d f) u v apart ta tb;
    meeting = λ a b x c d e f u v apart ra rb. meeting_now a b x c d (sort_of a c e) (sort_of b d f) u v apart ra rb;
    inside = λ a b x c d e f u v ta rb. inside_now a b x c d (sort_of a c e) (sort_of b d f) u v ta rb;
    shapes = λ i c s e f. shapes_now i c s (sort_of i c e) f;
  }

  pub item_goes : GoesWith types state machine m child machine item value
  item_goes = record {
    meaning_after = now;
    fits = fits_given types state.frames state.throwing (with_cells ((item, cells.Unk element true shape) ∷ []) state)
        (λ a b. AreEqual state a b ⊎ MayBeOne types.sub (JoinsItem state k item shape) child.cells a b)
        (λ a b. Share state a b ⊎ (JoinsItem state k item shape a b ⊎ ((a ≡ item) × (b ≡ k)))) machine now item_fits child is.is;
    value_is = valued_here (item, value) [] m item refl;
    others = λ i p. agrees i p;
    edge = record {
      ints = λ i p q. agrees i (some_cell state i p);
      rows = All-nil (HoldsBetween m now);
      sizes = λ i p s. same_size heap (m i) (now i) (agrees i (some_cell state i p));
    };
  }

pub items_go_on : ItemsGoOn
items_go_on types state child machine m k item o n element own len shape items value laws good sound typed closed h at names stands
    got is = item_goes types state child machine m k item o n element own len shape items value laws good sound typed closed h at
    names stands got is
