-- A case of a split by class: where it stands, and what an array of its class is.
use Rattle.std.proofs.Common.{◌≡◌, ◌≢◌, ℕ, zero, suc, ◌+◌, ◌-◌, ◌<◌, ◌≤◌, ◌&&◌, Bool, true, false, List, [], ◌∷◌, ◌++◌, length, map}
use Rattle.std.proofs.Common.{Option, Some, None, inl, inr, refl, sym, ap, subst, ◌∙◌, arith, IsTrue, pos}
use Rattle.std.specs.Prelude.{slice_get, filter, nat_lt}
use Rattle.std.proofs.lemmas.Bool.{false≢true, cases_Bool, and_from, lt-ltb, cond-true, cond-false, cases_eq}
use Rattle.std.proofs.lemmas.Int.{ints}
use Rattle.std.proofs.lemmas.List.Elements.{All-nil}
use Rattle.std.proofs.lemmas.Option.{none-some}
use Rattle.abs_cells.proofs.CellLaws.{hazy_not_known}
use Rattle.list_views.proofs.Orders.{zero_before}
use Rattle.list_views.proofs.Items.{get_before}
use Rattle.jvm_values.specs.declared.types.Ty.{Ty}
use Rattle.jvm_values.specs.declared.types.Base.{Base}
use Rattle.jvm_values.specs.declared.types.Base.TheVariants as bases
use Rattle.jvm_values.specs.declared.types.Kind.{Kind}
use Rattle.jvm_values.specs.declared.types.Kind.TheVariants as kinds
use Rattle.jvm_values.specs.declared.heap.Value.{Value}
use Rattle.jvm_values.specs.declared.heap.Value.TheVariants as values
use Rattle.jvm_values.specs.declared.shape.Shape.{Shape}
use Rattle.jvm_values.specs.States.{MachineState}
use Rattle.jvm_values.specs.Joins.{item_of, item_under}
use Rattle.jvm_values.specs.Heaps.{target, Region, HasShape}
use Rattle.jvm_values.specs.Subtyping.{class_type, object_type, array_of, array_of_numbers, IsReference, IsReferenceBase}
use Rattle.jvm_values.specs.TypedHeaps.{WorldTypes, AreLawful}
use Rattle.jvm_values.proofs.Options.{some_is}
use Rattle.abs_cells.specs.declared.cells.Cell.{Cell}
use Rattle.abs_cells.specs.declared.cells.Cell.TheVariants as cells
use Rattle.abs_cells.specs.AbstractStates.{AbstractState}
use Rattle.abs_cells.specs.Cells.{is_known, is_hazy, shape_of, cell_in, cell_at, HasCell, AreEqual, Share}
use Rattle.abs_cells.specs.Sound.{IsWellFormed}
use Rattle.abs_cells.specs.Fits.{Meaning, Describes, Fits, with_statics}
use Rattle.abs_cells.proofs.Fitting.{known_apart}
use Rattle.abs_reach.proofs.Walks.{some_cell}
use Rattle.term_graph.specs.Edges.{HoldsBetween}
use Rattle.abs_heap.specs.Given.{first_cell, with_cells, IsGiven, AreFresh}
use Rattle.list_views.specs.Lists.{numbers_from}
use Rattle.abs_heap.specs.Refining.{instance, numbers, references, length_cell}
use Rattle.abs_heap.specs.Refining.{instances_below, numbers_below, element_below, listed}
use Rattle.abs_heap.specs.Refining.{cases_below}
use Rattle.abs_heap.specs.Laws.{plain_link, Goes}
use Rattle.abs_heap.proofs.Placing.{cell_here, cell_later}
use Rattle.abs_heap.proofs.Fitted.{FitsBy, fits_given}
use Rattle.abs_heap.proofs.SameTerms.{same_size}
use Rattle.abs_heap.proofs.Carried.{Agrees, positions_carried, mode_carried, cell_carried}
use Rattle.abs_heap.proofs.NewThings.{with_values, kept_others, valued_here}

-- ---- where a case stands

-- a place of a list
abbrev pub Stands : {X : Type 0} → List X → X → Type 0
Stands {X} xs x = (n : ℕ) × (slice_get xs n ≡ Some x)

one_more : (k n : ℕ) → suc k + n ≡ suc (k + n)
one_more k n = omega arith

stands_behind : {X : Type 0} (xs ys : List X) (x : X) (n : ℕ) → slice_get ys n ≡ Some x → slice_get (xs ++ ys) (length xs + n) ≡ Some x
stands_behind [] ys x n e = ap (slice_get ys) (zero_before n) ∙ e
stands_behind (y ∷ xs) ys x n e = ap (slice_get (y ∷ (xs ++ ys))) (one_more (length xs) n) ∙ stands_behind xs ys x n e

stands_mapped : {X Y : Type 0} (f : X → Y) (xs : List X) (x : X) (n : ℕ) → slice_get xs n ≡ Some x → slice_get (map f xs) n ≡ Some (f x)
stands_mapped f [] x n e = absurd (none-some x e)
stands_mapped f (y ∷ xs) x zero e = ap (λ (z : _). Some (f z)) (some_is e)
stands_mapped f (y ∷ xs) x (suc n) e = stands_mapped f xs x n e

stands_filtered : {X : Type 0} (test : X → Bool) (xs : List X) (x : X) (n : ℕ) → slice_get xs n ≡ Some x → test x ≡ true
    → Stands (filter test xs) x
stands_filtered test [] x n e t = absurd (none-some x e)
stands_filtered test (y ∷ xs) x zero e t =
    (0, ap (λ (ys : List _). slice_get ys 0) (cond-true (test y) (y ∷ filter test xs) (filter test xs) (ap test (some_is e) ∙ t)) ∙ e)
stands_filtered test (y ∷ xs) x (suc n) e t =
    let h = stands_filtered test xs x n e t in
    elim (cases_Bool (test y)) [
      | inl s ↦ (suc h.0, ap (λ (ys : List _). slice_get ys (suc h.0)) (cond-true (test y) (y ∷ filter test xs) (filter test xs) s) ∙ h.1)
      | inr s ↦ (h.0, ap (λ (ys : List _). slice_get ys h.0) (cond-false (test y) (y ∷ filter test xs) (filter test xs) s) ∙ h.1)
    ]

number_stands : (from count n : ℕ) → n < count → slice_get (numbers_from from count) n ≡ Some (from + n)
number_stands from zero n l = absurd (omega (arith, l))
number_stands from (suc count) zero l = let same : from ≡ from + 0 = omega arith in ap Some same
number_stands from (suc count) (suc n) l = let same : suc from + n ≡ from + suc n = omega arith in number_stands (suc from) count n
    (omega (arith, l)) ∙ ap Some same

-- ---- the cases

abbrev ty_of : ℕ → Base → Ty
ty_of dims base = record { dims = dims; base = base }

module _ (types : WorldTypes) (laws : AreLawful types) (low : Ty) where
  pub instance_stands : (class : ℕ) → class < types.classes → IsTrue (types.can_be_made class)
      → IsTrue (types.sub (class_type class) low) → Stands (cases_below types low) (instance class)
  instance_stands class l made below =
      let at = number_stands 0 types.classes class l in
      let same : 0 + class ≡ class = omega arith in
      let kept = stands_filtered (λ c. types.can_be_made c && types.sub (class_type c) low) (numbers_from 0 types.classes) class
      class (at ∙ ap Some same) (and_from _ _ made below) in (
        kept.0,
        get_before (instances_below types low) (numbers_below types low ++ listed (element_below types low)) kept.0
            (instance class) (stands_mapped instance
            (filter (λ c. types.can_be_made c && types.sub (class_type c) low) (numbers_from 0 types.classes)) class kept.0 kept.1),
      )

  kind_at : (kind : Kind) → Stands (kinds.Boolean ∷ kinds.Char ∷ kinds.Byte ∷ kinds.Short ∷ kinds.Int ∷ []) kind
  kind_at kinds.Boolean = (0, refl)
  kind_at kinds.Char = (1, refl)
  kind_at kinds.Byte = (2, refl)
  kind_at kinds.Short = (3, refl)
  kind_at kinds.Int = (4, refl)

  pub numbers_stand : (kind : Kind) → IsTrue (types.sub (array_of_numbers kind) low) → Stands (cases_below types low) (numbers kind)
  numbers_stand kind below =
      let at = kind_at kind in
      let kept = stands_filtered (λ k. types.sub (array_of_numbers k) low)
      (kinds.Boolean ∷ kinds.Char ∷ kinds.Byte ∷ kinds.Short ∷ kinds.Int ∷ []) kind at.0 at.1 below in (
        length (instances_below types low) + kept.0,
        stands_behind (instances_below types low) (numbers_below types low ++ listed (element_below types low)) (numbers kind) kept.0
            (get_before (numbers_below types low) (listed (element_below types low)) kept.0 (numbers kind)
            (stands_mapped numbers
            (filter (λ k. types.sub (array_of_numbers k) low)
            (kinds.Boolean ∷ kinds.Char ∷ kinds.Byte ∷ kinds.Short ∷ kinds.Int ∷ [])) kind kept.0 kept.1)),
      )

  pub listed_stands : (element : Ty) → element_below types low ≡ Some element → Stands (cases_below types low) (references element)
  listed_stands element e = (
    length (instances_below types low) + (length (numbers_below types low) + 0),
    stands_behind (instances_below types low) (numbers_below types low ++ listed (element_below types low)) (references element)
        (length (numbers_below types low) + 0)
        (stands_behind (numbers_below types low) (listed (element_below types low)) (references element) 0
        (ap (λ (o : Option Ty). slice_get (listed o) 0) e)),
  )

  -- the item type of an array type
  item_again : (t : Ty) → IsReference types.classes t → item_of (array_of t) ≡ Some t
  item_again t r = go t.dims t.base r.1
    where
      same_dims : (d : ℕ) → (d + 1) - 1 ≡ d
      same_dims d = omega arith

      go : (d : ℕ) (b : Base) → IsReferenceBase types.classes d b → item_under (d + 1) b ≡ Some (record { dims = d; base = b })
      go d (bases.Class class) h = cond-true (nat_lt 0 (d + 1)) _ None (lt-ltb 0 (d + 1) (omega arith))
          ∙ ap (λ (n : ℕ). Some (ty_of n (bases.Class class))) (same_dims d)
      go d (bases.Num kind) h = cond-true (nat_lt 1 (d + 1)) _ None (lt-ltb 1 (d + 1) (omega (arith, h)))
          ∙ ap (λ (n : ℕ). Some (ty_of n (bases.Num kind))) (same_dims d)

  -- an array of references below a type is of items below the listed element type
  pub element_stands : (item : Ty) → IsReference types.classes (array_of item) → IsReference types.classes item
      → IsTrue (types.sub (array_of item) low)
      → (element : Ty) × ((element_below types low ≡ Some element) × IsTrue (types.sub item element))
  element_stands item whole inner below = elim (cases_Bool (types.sub object_type low)) [
    | inl top ↦ (object_type, (cond-true (types.sub object_type low) (Some object_type) (item_of low) top, laws.object_on_top item inner))
    | inr not_top ↦ elim (laws.array_below item low inner below) [
      | inl is_top ↦ absurd
          (false≢true (sym not_top ∙ subst (λ (t : Ty). IsTrue (types.sub object_type t)) (sym is_top)
          (laws.reflexive object_type (object_reference inner below))))
      | inr above ↦ (
        above.0,
        (
          cond-false (types.sub object_type low) (Some object_type) (item_of low) not_top ∙ ap item_of above.3
              ∙ item_again above.0 above.1,
          above.2,
        ),
      )
    ]
  ]
    where
      object_reference : IsReference types.classes item → IsTrue (types.sub (array_of item) low) → IsReference types.classes object_type
      object_reference r b = (laws.of_world (array_of item) object_type (laws.object_on_top (array_of item) whole)).1

-- ---- an array

module _ (types : WorldTypes) (state : AbstractState) (machine : MachineState) (m : Meaning) (good : IsWellFormed state)
    (h : Fits types state machine m)
    (x : ℕ) (bound : Ty) (shape : Shape) (at : cell_at state x ≡ Some (cells.Unk bound false shape)) (unknown : (k : ℕ)
    → HasCell is_known state k → AreEqual state x k → ⊥) where
  hazy_x : HasCell is_hazy state x
  hazy_x = record { cell = cells.Unk bound false shape; is = at; sort_is = refl }

  any_x : HasCell (λ _. true) state x
  any_x = record { cell = cells.Unk bound false shape; is = at; sort_is = refl }

  pub itself : (a p : ℕ) → target (m a) ≡ Some p → Region machine.heap (m a) p
  itself a p t = record { start = p; names = t; reaches = record { path = []; leads = refl } }

  module _ (len count : ℕ) (thing : Cell) (fresh : AreFresh state (len ∷ [])) (small : count ≤ 2147483647)
      (described : Describes types machine.heap (with_values ((len, values.Int (pos count)) ∷ []) m) thing (m x))
      (shaped : (s : Shape) → shape_of thing ≡ Some s → HasShape s machine.heap (m x)) where
    abbrev now : Meaning
    now = with_values ((len, values.Int (pos count)) ∷ []) m

    agrees : Agrees state m now
    agrees = λ i p. kept_others state m (len ∷ []) (values.Int (pos count) ∷ []) fresh.free i p

    data Sort (i : ℕ) (c : Cell) : Type 0 where
      old : cell_at state i ≡ Some c → now i ≡ m i → (x ≡ i → ⊥) → Sort i c
      split : x ≡ i → thing ≡ c → now i ≡ m i → Sort i c
      size : length_cell ≡ c → now i ≡ values.Int (pos count) → Sort i c

    sort_of : (i : ℕ) (c : Cell) → with_cells ((x, thing) ∷ (len, length_cell) ∷ []) state i ≡ Some c → Sort i c
    sort_of i c e = elim (cases_eq x i) [
      | inl f ↦ split f (some_is
          (sym (ap (λ (y : Option Cell). first_cell y (cell_at state i)) (cell_here (x, thing) ((len, length_cell) ∷ []) i f))
          ∙ e)) (subst (λ (j : ℕ). now j ≡ m j) f (agrees x any_x))
      | inr f ↦
          let rest : first_cell (cell_in ((len, length_cell) ∷ []) i) (cell_at state i) ≡ Some c = sym
          (ap (λ (y : Option Cell). first_cell y (cell_at state i)) (cell_later (x, thing) ((len, length_cell) ∷ []) i f)) ∙ e in
          elim (cases_eq len i) [
            | inl g ↦ size (some_is
                (sym (ap (λ (y : Option Cell). first_cell y (cell_at state i)) (cell_here (len, length_cell) [] i g)) ∙ rest))
                (valued_here (len, values.Int (pos count)) [] m i g)
            | inr g ↦
                let there : cell_at state i ≡ Some c = sym
                (ap (λ (y : Option Cell). first_cell y (cell_at state i)) (cell_later (len, length_cell) [] i g)) ∙ rest in
                old there (agrees i (record { cell = c; is = there; sort_is = refl })) f
          ]
    ]

    moved : (v w : Value) (p : ℕ) → v ≡ w → target v ≡ Some p → target w ≡ Some p
    moved v w p e t = ap target (sym e) ∙ t

    across : (v w : Value) (p : ℕ) → v ≡ w → Region machine.heap v p → Region machine.heap w p
    across v w p e r = subst (λ (u : Value). Region machine.heap u p) e r

    no_name : (v : Value) (p : ℕ) → v ≡ values.Int (pos count) → target v ≡ Some p → ⊥
    no_name v p e t = none-some p (sym (ap target e) ∙ t)

    cells_now : (i : ℕ) (c : Cell) → Sort i c → Describes types machine.heap now c (now i)
    cells_now i c (old e s q) = cell_carried types state machine.heap machine.heap m now good agrees (λ r ob f. f) i c e (h.cells i c e)
    cells_now i c (split f g s) = subst (λ (u : Value). Describes types machine.heap now c u) (ap m f ∙ sym s)
        (subst (λ (d : Cell). Describes types machine.heap now d (m x)) g described)
    cells_now i c (size g s) = subst (λ (d : Cell). Describes types machine.heap now d (now i)) g
        (pos count, (s, (omega (arith, ints), omega (arith, ints, small))))

    there : (i p : ℕ) (c : Cell) → Sort i c → target (now i) ≡ Some p → HasCell (λ _. true) state i × (target (m i) ≡ Some p)
    there i p c (old e s q) t = (record { cell = c; is = e; sort_is = refl }, moved (now i) (m i) p s t)
    there i p c (split f g s) t = (subst (λ (j : ℕ). HasCell (λ _. true) state j) f any_x, moved (now i) (m i) p s t)
    there i p c (size g s) t = absurd (no_name (now i) p s t)

    apart_now : (a b p : ℕ) (c d : Cell) → Sort a c → Sort b d → is_known c ≡ true → is_known d ≡ true → a ≢ b
        → target (now a) ≡ Some p → target (now b) ≡ Some p → ⊥
    apart_now a b p c d (old e s u) (old f t v) k l n ta tb = known_apart types state machine m good h a b p
        (record { cell = c; is = e; sort_is = k }) (record { cell = d; is = f; sort_is = l }) n (moved (now a) (m a) p s ta)
        (moved (now b) (m b) p t tb)
    apart_now a b p c d (old e s u) (split f g t) k l n ta tb =
        unknown a (record { cell = c; is = e; sort_is = k })
        (h.aliases x a p any_x (record { cell = c; is = e; sort_is = refl }) (λ q. n (sym q ∙ f))
        (ap (λ (j : ℕ). target (m j)) f ∙ moved (now b) (m b) p t tb) (moved (now a) (m a) p s ta))
    apart_now a b p c d (old e s u) (size g t) k l n ta tb = no_name (now b) p t tb
    apart_now a b p c d (split f g s) (old e t u) k l n ta tb =
        unknown b (record { cell = d; is = e; sort_is = l })
        (h.aliases x b p any_x (record { cell = d; is = e; sort_is = refl }) (λ q. n (sym f ∙ q))
        (ap (λ (j : ℕ). target (m j)) f ∙ moved (now a) (m a) p s ta) (moved (now b) (m b) p t tb))
    apart_now a b p c d (split f g s) (split e i t) k l n ta tb = n (sym f ∙ e)
    apart_now a b p c d (split f g s) (size i t) k l n ta tb = no_name (now b) p t tb
    apart_now a b p c d (size g s) y k l n ta tb = no_name (now a) p s ta

    -- a hazy id of the child is one of the state, with its region
    hazy_there : (i p : ℕ) (c : Cell) → Sort i c → is_hazy c ≡ true → Region machine.heap (now i) p
        → HasCell is_hazy state i × Region machine.heap (m i) p
    hazy_there i p c (old e s q) z r = (record { cell = c; is = e; sort_is = z }, across (now i) (m i) p s r)
    hazy_there i p c (split f g s) z r = (subst (λ (j : ℕ). HasCell is_hazy state j) f hazy_x, across (now i) (m i) p s r)
    hazy_there i p c (size g s) z r = absurd (none-some r.start (sym (ap target s) ∙ r.names))

    inside_now : (a b p : ℕ) (c d : Cell) → Sort a c → Sort b d → is_known c ≡ true → is_hazy d ≡ true → target (now a) ≡ Some p
        → Region machine.heap (now b) p → Share state a b
    inside_now a b p c d (old e s u) y k l ta rb = let z = hazy_there b p d y l rb in h.inside a b p
        (record { cell = c; is = e; sort_is = k }) z.0 (moved (now a) (m a) p s ta) z.1
    inside_now a b p c d (split f g s) (old e t u) k l ta rb =
        h.meeting a b p (subst (λ (j : ℕ). HasCell is_hazy state j) f hazy_x) (record { cell = d; is = e; sort_is = l })
        (λ q. u (f ∙ q)) (itself a p (moved (now a) (m a) p s ta)) (across (now b) (m b) p t rb)
    inside_now a b p c d (split f g s) (split e i t) k l ta rb = absurd
        (false≢true (sym (hazy_not_known d l) ∙ ap is_known (sym i ∙ g) ∙ k))
    inside_now a b p c d (split f g s) (size i t) k l ta rb = absurd (false≢true (ap is_hazy i ∙ l))
    inside_now a b p c d (size g s) y k l ta rb = absurd (no_name (now a) p s ta)

    shapes_now : (i : ℕ) (c : Cell) (s : Shape) → Sort i c → shape_of c ≡ Some s → HasShape s machine.heap (now i)
    shapes_now i c s (old e t q) g = subst (λ (u : Value). HasShape s machine.heap u) (sym t) (h.shapes i c s e g)
    shapes_now i c s (split f e t) g = subst (λ (u : Value). HasShape s machine.heap u) (ap m f ∙ sym t) (shaped s (ap shape_of e ∙ g))
    shapes_now i c s (size e t) g = absurd (none-some s (ap shape_of e ∙ g))

    array_fits : FitsBy types state.frames state.throwing (with_cells ((x, thing) ∷ (len, length_cell) ∷ []) state) (AreEqual state)
        (Share state) machine now
    array_fits = record {
      positions = positions_carried state m now (with_statics machine.statics machine.frames) good agrees h.positions;
      mode = mode_carried state m now machine.mode good agrees h.mode;
      cells = λ i c e. cells_now i c (sort_of i c e);
      aliases = λ a b p c d e f n ta tb.
          let y = there a p c (sort_of a c e) ta in
          let z = there b p d (sort_of b d f) tb in
          inl (h.aliases a b p y.0 z.0 n y.1 z.1);
      apart = λ a b p c d e f k l n ta tb. apart_now a b p c d (sort_of a c e) (sort_of b d f) k l n ta tb;
      meeting = λ a b p c d e f k l n ra rb.
          let y = hazy_there a p c (sort_of a c e) k ra in
          let z = hazy_there b p d (sort_of b d f) l rb in
          inl (h.meeting a b p y.0 z.0 n y.1 z.1);
      inside = λ a b p c d e f k l ta rb. inl (inside_now a b p c d (sort_of a c e) (sort_of b d f) k l ta rb);
      shapes = λ i c s e f. shapes_now i c s (sort_of i c e) f;
    }

    pub array_goes : (child : AbstractState)
        → IsGiven state.frames state.throwing (with_cells ((x, thing) ∷ (len, length_cell) ∷ []) state) (AreEqual state)
        (Share state) child → Goes types state machine m (plain_link false None) child machine
    array_goes child g = record {
      meaning_after = now;
      fits = fits_given types state.frames state.throwing (with_cells ((x, thing) ∷ (len, length_cell) ∷ []) state) (AreEqual state)
          (Share state) machine now array_fits child g;
      edge = record {
        ints = λ i k l. agrees i (some_cell state i k);
        rows = All-nil (HoldsBetween m now);
        sizes = λ i k s. same_size machine.heap (m i) (now i) (agrees i (some_cell state i k));
      };
    }
