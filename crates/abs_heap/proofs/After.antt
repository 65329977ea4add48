-- The cells after a write, and the ids that it makes share.
use Rattle.std.proofs.Common.{◌≡◌, ℕ, zero, suc, ◌<◌, ◌≤◌, ◌+◌, ◌==◌, ◌&&◌, ◌||◌, Bool, true, false, if◌then◌else◌, List, [], ◌∷◌}
use Rattle.std.proofs.Common.{◌++◌, length, map, take, get_or, Option, Some, None, inl, inr, refl, sym, ap, ◌∙◌, arith, eq-eqb}
use Rattle.std.specs.Prelude.{◌↔◌, slice_get, slice_set}
use Rattle.std.specs.List.{list_any}
use Rattle.std.proofs.lemmas.Bool.{false≢true, eqb-true, or_cases, or_left, or_right, and_parts, and_from, ne_eqb, cond-false, cases_eq}
use Rattle.std.proofs.lemmas.List.{take_more, take_all, map_more}
use Rattle.std.proofs.lemmas.Option.{slice_get_within, slice_get-get_or, none-some}
use Rattle.list_views.proofs.Items.{get_past, length_set}
use Rattle.jvm_values.specs.declared.shape.Shape.{Shape}
use Rattle.jvm_values.proofs.Options.{some_is}
use Rattle.abs_cells.specs.declared.cells.Cell.{Cell}
use Rattle.abs_cells.specs.declared.cells.Cell.TheVariants as cells
use Rattle.abs_cells.specs.Cells.{cell_in}
use Rattle.abs_cells.specs.IdSets.{has_id}
use Rattle.abs_cells.specs.PairLists.{has, pair_of, is_same, IsRising}
use Rattle.abs_cells.proofs.PairLaws.{is_same_from}
use Rattle.abs_cells.proofs.Checking.{low_pair}
use Rattle.abs_heap.specs.inner.Building.{Gains}
use Rattle.abs_heap.specs.Names.{name_in, cell_named}
use Rattle.abs_heap.specs.inner.Renaming.{IsBeside, is_beside, is_named, shape_if, written_cell, field_at}
use Rattle.abs_heap.specs.Writing.{Write, shape_after, with_shape, with_field, is_renamed, reshaped, cell_after}
use Rattle.abs_heap.proofs.Choosing.{any_joined}
use Rattle.abs_heap.proofs.PairGains.{same_pair, pair_turned, gain_as, gain_nothing}
use Rattle.abs_heap.proofs.Placing.{cell_later}

-- ---- a field set

same_test : (i k : ℕ) → (i == k) ≡ (suc i == suc k)
same_test i k = elim (cases_eq i k) [
  | inl e ↦ eq-eqb i k e ∙ sym (eq-eqb (suc i) (suc k) (ap suc e))
  | inr n ↦ ne_eqb i k n ∙ sym (ne_eqb (suc i) (suc k) (λ e. n (omega (arith, e))))
]

set_got : (ids : List ℕ) (k w i d : ℕ) → i < length ids → get_or (slice_set ids k w) i d ≡ (if i == k then w else get_or ids i d)
set_got [] k w i d l = absurd (omega (arith, l))
set_got (x ∷ ids) zero w zero d l = refl
set_got (x ∷ ids) zero w (suc i) d l = sym (cond-false (suc i == zero) w (get_or ids i d) (ne_eqb (suc i) zero (λ e. omega (arith, e))))
set_got (x ∷ ids) (suc k) w zero d l = sym (cond-false (zero == suc k) w x (ne_eqb zero (suc k) (λ e. omega (arith, e))))
set_got (x ∷ ids) (suc k) w (suc i) d l = set_got ids k w i d (omega (arith, l))
    ∙ ap (λ (b : Bool). if b then w else get_or ids i d) (same_test i k)

pub set_next : (f : ℕ → ℕ) (ids : List ℕ) (k w i d y z : ℕ) (named pushed : List ℕ) → i < length ids
    → y ≡ (if i == k then w else get_or ids i d) → z ≡ f y
    → named ≡ map f (take i (slice_set ids k w)) → pushed ≡ named ++ z ∷ [] → pushed ≡ map f (take (i + 1) (slice_set ids k w))
set_next f ids k w i d y z named pushed l g h e p =
    let long = length_set ids k w in
    let got : y ≡ get_or (slice_set ids k w) i d = g ∙ sym (set_got ids k w i d l) in
    p ∙ ap (λ (xs : List ℕ). xs ++ z ∷ []) e ∙ ap (λ (n : ℕ). map f (take i (slice_set ids k w)) ++ n ∷ []) (h ∙ ap f got)
    ∙ sym (map_more f (slice_set ids k w) i d (omega (arith, l, long)))

pub set_all : (f : ℕ → ℕ) (ids : List ℕ) (k w i : ℕ) (named : List ℕ) → length ids ≤ i → named ≡ map f (take i (slice_set ids k w))
    → named ≡ map f (slice_set ids k w)
set_all f ids k w i named l e = let long = length_set ids k w in e ∙ ap (map f) (take_all i (slice_set ids k w) (omega (arith, l, long)))

-- ---- a cell

set_named : (name : ℕ → ℕ) (field : Option ℕ) (w : ℕ) (change : Shape → Shape) (cell : Cell)
    → written_cell name field w change cell ≡ cell_named name (with_field field w (with_shape change cell))
set_named name None w change (cells.Int interval) = refl
set_named name None w change cells.Null = refl
set_named name None w change (cells.Obj class ids) = refl
set_named name None w change (cells.Nums kind len) = refl
set_named name None w change (cells.Refs element len shape) = refl
set_named name None w change (cells.Unk bound nullable shape) = refl
set_named name (Some field) w change (cells.Int interval) = refl
set_named name (Some field) w change cells.Null = refl
set_named name (Some field) w change (cells.Obj class ids) = refl
set_named name (Some field) w change (cells.Nums kind len) = refl
set_named name (Some field) w change (cells.Refs element len shape) = refl
set_named name (Some field) w change (cells.Unk bound nullable shape) = refl

shape_same : (renamed null no_cycle : Bool) (cell : Cell)
    → with_shape (shape_if renamed null no_cycle) cell ≡ (if renamed then with_shape (shape_after null no_cycle) cell else cell)
shape_same true null no_cycle (cells.Int interval) = refl
shape_same true null no_cycle cells.Null = refl
shape_same true null no_cycle (cells.Obj class ids) = refl
shape_same true null no_cycle (cells.Nums kind len) = refl
shape_same true null no_cycle (cells.Refs element len shape) = refl
shape_same true null no_cycle (cells.Unk bound nullable shape) = refl
shape_same false null no_cycle (cells.Int interval) = refl
shape_same false null no_cycle cells.Null = refl
shape_same false null no_cycle (cells.Obj class ids) = refl
shape_same false null no_cycle (cells.Nums kind len) = refl
shape_same false null no_cycle (cells.Refs element len shape) = refl
shape_same false null no_cycle (cells.Unk bound nullable shape) = refl

field_same : (here : Bool) (field : Option ℕ) (w : ℕ) (cell : Cell)
    → with_field (field_at here field) w cell ≡ (if here then with_field field w cell else cell)
field_same true field w cell = refl
field_same false field w cell = refl

pub cell_made : (names : List (ℕ × ℕ)) (null no_cycle : Bool) (write : Write) (id : ℕ) (cell made : Cell) (renamed : Bool)
    (field : Option ℕ) → renamed ≡ is_renamed names id → field ≡ field_at (id == write.object) write.field
    → made ≡ written_cell (name_in names) field write.value (shape_if renamed null no_cycle) cell
    → made ≡ (cell_after names (shape_after null no_cycle) write (id, cell)).1
cell_made names null no_cycle write id cell made renamed field r f m =
    let change : Shape → Shape = shape_after null no_cycle in
    m
    ∙ set_named (name_in names) field write.value (shape_if renamed null no_cycle) cell
    ∙ ap (λ (c : Cell). cell_named (name_in names) (with_field field write.value c)) (shape_same renamed null no_cycle cell
    ∙ ap (λ (b : Bool). if b then with_shape change cell else cell) r)
    ∙ ap (λ (o : Option ℕ). cell_named (name_in names) (with_field o write.value (reshaped names change (id, cell)))) f
    ∙ ap (cell_named (name_in names)) (field_same (id == write.object) write.field write.value (reshaped names change (id, cell)))

-- ---- sets

pub any_next : {X : Type 0} (p : X → Bool) (xs : List X) (i : ℕ) (x : X) (old new : Bool) → i < length xs → x ≡ get_or xs i x
    → old ≡ list_any p (take i xs) → new ≡ (p x || old) → new ≡ list_any p (take (i + 1) xs)
any_next p xs i x old new l is e f =
    f ∙ ap (λ (b : Bool). p x || b) e ∙ ap (λ y. p y || list_any p (take i xs)) is ∙ sym (any_joined p (take i xs) (get_or xs i x))
    ∙ ap (list_any p) (sym (take_more xs i x l))

pub any_all : {X : Type 0} (p : X → Bool) (xs : List X) (i : ℕ) (b : Bool) → length xs ≤ i → b ≡ list_any p (take i xs) → b ≡ list_any p xs
any_all p xs i b l e = e ∙ ap (list_any p) (take_all i xs l)

at_place : {X : Type 0} (xs : List X) (n : ℕ) (p : X) → slice_get xs n ≡ Some p → p ≡ get_or xs n p
at_place xs n p e = some_is (sym e ∙ slice_get-get_or xs n p (slice_get_within xs n p e))

pub beside_next : (set : List ℕ) (pairs : List (ℕ × ℕ)) (n : ℕ) (p : ℕ × ℕ) (m : ℕ) (old new : Bool) → slice_get pairs n ≡ Some p
    → old ≡ list_any (is_beside set m) (take n pairs) → new ≡ (is_beside set m p || old)
    → new ≡ list_any (is_beside set m) (take (n + 1) pairs)
beside_next set pairs n p m old new e f g = any_next (is_beside set m) pairs n p old new (slice_get_within pairs n p e)
    (at_place pairs n p e) f g

-- a pair of a number with one of a set
any_beside : (set : List ℕ) (m : ℕ) (pairs : List (ℕ × ℕ)) → IsRising pairs → list_any (is_beside set m) pairs ≡ true
    → IsBeside pairs set m
any_beside set m [] r h = absurd (false≢true h)
any_beside set m (p ∷ pairs) r h = elim (or_cases (is_beside set m p) (list_any (is_beside set m) pairs) h) [
  | inl b ↦ elim (or_cases (has_id set p.1 && (m == p.0)) (has_id set p.0 && (m == p.1)) b) [
    | inl u ↦
        let q = and_parts (has_id set p.1) (m == p.0) u in
        record {
          from = p.1;
          is_in = q.0;
          paired = or_left (is_same (pair_of p.1 m) p) _
              (is_same_from (pair_of p.1 m) p (ap (pair_of p.1) (eqb-true m p.0 q.1) ∙ pair_turned p.0 p.1 ∙ low_pair p r.0.0));
        }
    | inr u ↦
        let q = and_parts (has_id set p.0) (m == p.1) u in
        record {
          from = p.0;
          is_in = q.0;
          paired = or_left (is_same (pair_of p.0 m) p) _
              (is_same_from (pair_of p.0 m) p (ap (pair_of p.0) (eqb-true m p.1 q.1) ∙ low_pair p r.0.0));
        }
  ]
  | inr b ↦ let t = any_beside set m pairs r.1.1 b in record
      { from = t.from; is_in = t.is_in; paired = or_right (is_same (pair_of t.from m) p) _ t.paired }
]

beside_any : (set : List ℕ) (m from : ℕ) (pairs : List (ℕ × ℕ)) → IsRising pairs → has_id set from ≡ true → has from m pairs ≡ true
    → list_any (is_beside set m) pairs ≡ true
beside_any set m from [] r i h = absurd (false≢true h)
beside_any set m from (p ∷ pairs) r i h = elim (or_cases (is_same (pair_of from m) p) (has from m pairs) h) [
  | inl s ↦
      or_left (is_beside set m p) (list_any (is_beside set m) pairs)
      (elim (same_pair from m p.0 p.1 (ap (is_same (pair_of from m)) (low_pair p r.0.0) ∙ s)) [
        | inl t ↦ or_right (has_id set p.1 && (m == p.0)) _
            (and_from (has_id set p.0) (m == p.1) (ap (has_id set) (sym t.0) ∙ i) (eq-eqb m p.1 t.1))
        | inr t ↦ or_left (has_id set p.1 && (m == p.0)) _
            (and_from (has_id set p.1) (m == p.0) (ap (has_id set) (sym t.1) ∙ i) (eq-eqb m p.0 t.0))
      ])
  | inr s ↦ or_right (is_beside set m p) (list_any (is_beside set m) pairs) (beside_any set m from pairs r.1.1 i s)
]

pub beside_all : (set : List ℕ) (pairs : List (ℕ × ℕ)) (n m : ℕ) (b : Bool) → IsRising pairs → slice_get pairs n ≡ None
    → b ≡ list_any (is_beside set m) (take n pairs) → (b ≡ true) ↔ IsBeside pairs set m
beside_all set pairs n m b r e f =
    let whole = any_all (is_beside set m) pairs n b (get_past pairs n e) f in (
      λ t. any_beside set m pairs r (sym whole ∙ t),
      λ h. whole ∙ beside_any set m h.from pairs r h.is_in h.paired,
    )

-- names of the ids of cells
pub names_next : (names : List (ℕ × ℕ)) (first second : List ℕ) (n i : ℕ) (d : ℕ × Cell) (list : List (ℕ × Cell))
    (old new wanted : Bool) (name : ℕ) → i < length list → d ≡ get_or list i d → wanted ≡ (has_id first d.0 || has_id second d.0)
    → name ≡ name_in names d.0
    → old ≡ list_any (is_named names first second n) (take i list) → new ≡ ((wanted && (n == name)) || old)
    → new ≡ list_any (is_named names first second n) (take (i + 1) list)
names_next names first second n i d list old new wanted name l is w m f g =
    any_next (is_named names first second n) list i d old new l is f
    (g ∙ ap (λ (b : Bool). (b && (n == name)) || old) w ∙ ap (λ (k : ℕ). ((has_id first d.0 || has_id second d.0) && (n == k)) || old) m)

pub any_named : (names : List (ℕ × ℕ)) (first second : List ℕ) (n : ℕ) (list : List (ℕ × Cell))
    → list_any (is_named names first second n) list ≡ true
    → (z : ℕ) × (((has_id first z || has_id second z) ≡ true) × (n ≡ name_in names z))
any_named names first second n [] h = absurd (false≢true h)
any_named names first second n (c ∷ list) h = elim
    (or_cases (is_named names first second n c) (list_any (is_named names first second n) list) h) [
      | inl b ↦ let q = and_parts (has_id first c.0 || has_id second c.0) (n == name_in names c.0) b in
          (c.0, (q.0, eqb-true n (name_in names c.0) q.1))
      | inr b ↦ any_named names first second n list b
    ]

pub named_any : (names : List (ℕ × ℕ)) (first second : List ℕ) (n z : ℕ) (cell : Cell) (list : List (ℕ × Cell))
    → cell_in list z ≡ Some cell → (has_id first z || has_id second z) ≡ true → n ≡ name_in names z
    → list_any (is_named names first second n) list ≡ true
named_any names first second n z cell [] e h is = absurd (none-some cell e)
named_any names first second n z cell (c ∷ list) e h is = elim (cases_eq c.0 z) [
  | inl s ↦ or_left (is_named names first second n c) _
      (and_from (has_id first c.0 || has_id second c.0) (n == name_in names c.0)
      (ap (λ (i : ℕ). has_id first i || has_id second i) s ∙ h) (eq-eqb n (name_in names c.0) (is ∙ ap (name_in names) (sym s))))
  | inr s ↦ or_right (is_named names first second n c) _
      (named_any names first second n z cell list (sym (cell_later c list z s) ∙ e) h is)
]

-- ---- as code reads it

pub met_gain : (cells : List (ℕ × Cell)) (null : Bool) (ids others : ℕ → Type 0) (old new : List (ℕ × ℕ)) → null ≡ false
    → Gains cells (λ c d. ids c × others d) old new → Gains cells (λ c d. (null ≡ false) × (ids c × others d)) old new
met_gain cells null ids others old new e g = gain_as cells _ _ old new (λ a b j w. inl (e, w)) (λ a b j w. inl w.1) g

pub met_none : (cells : List (ℕ × Cell)) (null : Bool) (ids others : ℕ → Type 0) (old : List (ℕ × ℕ)) → null ≡ true
    → Gains cells (λ c d. (null ≡ false) × (ids c × others d)) old old
met_none cells null ids others old e = gain_nothing cells _ old (λ a b j w. false≢true (sym w.0 ∙ e))
