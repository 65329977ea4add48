-- What the test of well-formed states tells: rising ids, sorts of cells, ids that are used, and pairs.
use Rattle.std.proofs.Common.{◌≡◌, ℕ, zero, suc, ◌<◌, min, max, Bool, true, false, if◌then◌else◌, not, ◌&&◌, ◌||◌, ◌==◌, eqb, List}
use Rattle.std.proofs.Common.{[], ◌∷◌, ◌++◌, length, get_or, reverse, Some, None, Option, inl, inr, refl, sym, ap, subst, ◌∙◌}
use Rattle.std.proofs.Common.{arith, eq-eqb, All}
use Rattle.std.specs.List.{list_any, list_all, flat_map}
use Rattle.std.proofs.lemmas.Bool.{false≢true, ne_eqb, and_parts, and_from, cases_eq, or_right, or_left, cases_Bool}
use Rattle.std.proofs.lemmas.List.{append_assoc, reverse-append}
use Rattle.std.proofs.lemmas.List.Folds.{list_all-append}
use Rattle.jvm_values.proofs.list_views.Truths.{or_false, and_true, and_swapped}
use Rattle.abs_cells.specs.declared.cells.Cell.{Cell}
use Rattle.abs_cells.specs.AbstractStates.{AbstractFrame, AbstractState}
use Rattle.abs_cells.specs.PairLists.{pair_of, is_same, IsRising, has_pair, has, AreAmong}
use Rattle.abs_cells.specs.IdSets.{has_id, joins, are_touched}
use Rattle.abs_cells.specs.Cells.{is_known, is_reference, ids_in, is_of_sort, cell_in, cell_at, HasCell}
use Rattle.abs_cells.specs.Sound.{AreIdsRising, given_ids, ids_of_frame, ids_used, may_join, MayAllJoin, IsWellFormed}
use Rattle.abs_cells.proofs.PairLaws.{same_is, is_same_from}

-- ---- rising ids

pub id_is_low : (low : ℕ) (xs : List (ℕ × Cell)) (i : ℕ) (d : ℕ × Cell) → AreIdsRising low xs → i < length xs → (get_or xs i d).0 < 2048
id_is_low low [] i d r l = absurd (omega (arith, l))
id_is_low low (x ∷ xs) zero d r l = r.1.0
id_is_low low (x ∷ xs) (suc i) d r l = id_is_low (suc x.0) xs i d r.1.1 (omega (arith, l))

-- ---- cells of a sort

abbrev pub is_here : (Cell → Bool) → ℕ → ℕ × Cell → Bool
is_here test n c = (c.0 == n) && test c.1

none_below : (test : Cell → Bool) (low n : ℕ) (xs : List (ℕ × Cell)) → AreIdsRising low xs → n < low → list_any (is_here test n) xs ≡ false
none_below test low n [] r l = refl
none_below test low n (x ∷ xs) r l =
    let apart : eqb x.0 n ≡ false = ne_eqb x.0 n (omega (arith, r.0, l)) in
    ap (λ (t : Bool). (t && test x.1) || list_any (is_here test n) xs) apart ∙ none_below test (suc x.0) n xs r.1.1 (omega (arith, r.0, l))

pub sort_is : (test : Cell → Bool) (low n : ℕ) (xs : List (ℕ × Cell)) → AreIdsRising low xs
    → list_any (is_here test n) xs ≡ is_of_sort test (cell_in xs n)
sort_is test low n [] r = refl
sort_is test low n (x ∷ xs) r = elim (cases_eq x.0 n) [
  | inl e ↦
      let t : eqb x.0 n ≡ true = eq-eqb x.0 n e in
      ap (λ (b : Bool). (b && test x.1) || list_any (is_here test n) xs) t
      ∙ ap (λ (b : Bool). test x.1 || b) (none_below test (suc x.0) n xs r.1.1 (omega (arith, e)))
      ∙ or_false (test x.1) ∙ sym (ap (λ (b : Bool). is_of_sort test (if b then Some x.1 else cell_in xs n)) t)
  | inr d ↦
      let t : eqb x.0 n ≡ false = ne_eqb x.0 n d in
      ap (λ (b : Bool). (b && test x.1) || list_any (is_here test n) xs) t ∙ sort_is test (suc x.0) n xs r.1.1
      ∙ sym (ap (λ (b : Bool). is_of_sort test (if b then Some x.1 else cell_in xs n)) t)
]

pub has_cell_from : (test : Cell → Bool) (state : AbstractState) (n : ℕ) → is_of_sort test (cell_at state n) ≡ true → HasCell test state n
has_cell_from test state n h = go (cell_at state n) refl h
  where
    go : (o : Option Cell) → cell_at state n ≡ o → is_of_sort test o ≡ true → HasCell test state n
    go None e k = absurd (false≢true k)
    go (Some cell) e k = record { cell = cell; is = e; sort_is = k }

pub has_cell_to : (test : Cell → Bool) (state : AbstractState) (n : ℕ) → HasCell test state n → is_of_sort test (cell_at state n) ≡ true
has_cell_to test state n h = ap (is_of_sort test) h.is ∙ h.sort_is

-- ---- lists of ids

all_get : {X : Type 0} (test : X → Bool) (xs : List X) → list_all test xs ≡ true → (k : ℕ) (d : X) → k < length xs
    → test (get_or xs k d) ≡ true
all_get test [] h k d l = absurd (omega (arith, l))
all_get test (x ∷ xs) h zero d l = (and_parts (test x) (list_all test xs) h).0
all_get test (x ∷ xs) h (suc k) d l = all_get test xs (and_parts (test x) (list_all test xs) h).1 k d (omega (arith, l))

all_from : {X : Type 0} (test : X → Bool) (xs : List X) → ((k : ℕ) (d : X) → k < length xs → test (get_or xs k d) ≡ true)
    → list_all test xs ≡ true
all_from test [] h = refl
all_from test (x ∷ xs) h = and_from (test x) (list_all test xs) (h 0 x (omega arith))
    (all_from test xs (λ k d l. h (suc k) d (omega (arith, l))))

pub all_reversed : {X : Type 0} (test : X → Bool) (xs : List X) → list_all test (reverse xs) ≡ list_all test xs
all_reversed test [] = refl
all_reversed test (x ∷ xs) =
    ap (list_all test) (reverse-append (x ∷ []) xs) ∙ list_all-append test (reverse xs) (x ∷ [])
    ∙ ap (λ (b : Bool). list_all test (reverse xs) && b) (and_true (test x))
    ∙ ap (λ (b : Bool). b && test x) (all_reversed test xs) ∙ and_swapped (list_all test xs) (test x)

pub all_flat : {X Y : Type 0} (test : Y → Bool) (f : X → List Y) (xs : List X)
    → list_all test (flat_map f xs) ≡ list_all (λ x. list_all test (f x)) xs
all_flat test f [] = refl
all_flat test f (x ∷ xs) = list_all-append test (f x) (flat_map f xs) ∙ ap (λ (b : Bool). list_all test (f x) && b) (all_flat test f xs)

pub in_frame : (set : List ℕ) (frame : AbstractFrame) (locals stack : Bool) → locals ≡ true
    → locals ≡ list_all (has_id set) (given_ids frame.locals) → stack ≡ list_all (has_id set) (reverse frame.stack)
    → stack ≡ list_all (has_id set) (ids_of_frame frame)
in_frame set frame locals stack t e f =
    f ∙ all_reversed (has_id set) frame.stack ∙ ap (λ (b : Bool). b && list_all (has_id set) frame.stack) (sym t ∙ e)
    ∙ sym (list_all-append (has_id set) (given_ids frame.locals) frame.stack)

abbrev pub in_frames : List ℕ → List AbstractFrame → Bool
in_frames set frames = list_all (λ frame. list_all (has_id set) (ids_of_frame frame)) frames

frames_are : (set : List ℕ) (frames : List AbstractFrame)
    → in_frames set (reverse frames) ≡ list_all (has_id set) (flat_map ids_of_frame frames)
frames_are set frames = all_reversed (λ frame. list_all (has_id set) (ids_of_frame frame)) frames
    ∙ sym (all_flat (has_id set) ids_of_frame frames)

pub in_places : (set : List ℕ) (state : AbstractState) (frames thrown : Bool) → frames ≡ true
    → frames ≡ in_frames set (reverse state.frames) → thrown ≡ list_all (has_id set) (given_ids (state.throwing ∷ []))
    → thrown ≡ list_all (has_id set) (flat_map ids_of_frame state.frames ++ given_ids (state.throwing ∷ []))
in_places set state frames thrown t e f =
    f ∙ ap (λ (b : Bool). b && list_all (has_id set) (given_ids (state.throwing ∷ []))) (sym t ∙ e ∙ frames_are set state.frames)
    ∙ sym (list_all-append (has_id set) (flat_map ids_of_frame state.frames) (given_ids (state.throwing ∷ [])))

pub not_in_places : (set : List ℕ) (state : AbstractState) (frames : Bool) → frames ≡ false
    → frames ≡ in_frames set (reverse state.frames)
    → frames ≡ list_all (has_id set) (flat_map ids_of_frame state.frames ++ given_ids (state.throwing ∷ []))
not_in_places set state frames t e =
    t ∙ ap (λ (b : Bool). b && list_all (has_id set) (given_ids (state.throwing ∷ []))) (sym t ∙ e ∙ frames_are set state.frames)
    ∙ sym (list_all-append (has_id set) (flat_map ids_of_frame state.frames) (given_ids (state.throwing ∷ [])))

used_are : (set : List ℕ) (state : AbstractState)
    → list_all (has_id set) (ids_used state)
    ≡ (list_all (has_id set) (flat_map ids_of_frame state.frames ++ given_ids (state.throwing ∷ [])) && list_all
    (λ c. list_all (has_id set) (ids_in c.1)) state.cells)
used_are set state =
    ap (list_all (has_id set))
    (sym (append_assoc (flat_map ids_of_frame state.frames) (given_ids (state.throwing ∷ []))
    (flat_map (λ c. ids_in c.1) state.cells)))
    ∙ list_all-append (has_id set) (flat_map ids_of_frame state.frames ++ given_ids (state.throwing ∷ []))
    (flat_map (λ c. ids_in c.1) state.cells)
    ∙ ap (λ (b : Bool). list_all (has_id set) (flat_map ids_of_frame state.frames ++ given_ids (state.throwing ∷ [])) && b)
    (all_flat (has_id set) (λ c. ids_in c.1) state.cells)

pub in_used : (set : List ℕ) (state : AbstractState) (places cells : Bool) → places ≡ true
    → places ≡ list_all (has_id set) (flat_map ids_of_frame state.frames ++ given_ids (state.throwing ∷ []))
    → cells ≡ list_all (λ c. list_all (has_id set) (ids_in c.1)) state.cells → cells ≡ list_all (has_id set) (ids_used state)
in_used set state places cells t e f = f ∙ ap (λ (b : Bool). b && list_all (λ c. list_all (has_id set) (ids_in c.1)) state.cells)
    (sym t ∙ e) ∙ sym (used_are set state)

pub not_in_used : (set : List ℕ) (state : AbstractState) (places : Bool) → places ≡ false
    → places ≡ list_all (has_id set) (flat_map ids_of_frame state.frames ++ given_ids (state.throwing ∷ []))
    → places ≡ list_all (has_id set) (ids_used state)
not_in_used set state places t e = t ∙ ap (λ (b : Bool). b && list_all (λ c. list_all (has_id set) (ids_in c.1)) state.cells)
    (sym t ∙ e) ∙ sym (used_are set state)

-- ---- pairs

pub low_pair : (p : ℕ × ℕ) → p.0 < p.1 → pair_of p.0 p.1 ≡ p
low_pair (a, b) l =
    let left : ℕ → ℕ × ℕ = λ x. (x, max a b) in
    let right : ℕ → ℕ × ℕ = λ y. (a, y) in
    let m : min a b ≡ a = omega (arith, l) in
    let n : max a b ≡ b = omega (arith, l) in
    ap left m ∙ ap right n

pub has_member : (xs : List (ℕ × ℕ)) (p : ℕ × ℕ) → p.0 < p.1 → has_pair p xs ≡ true → has p.0 p.1 xs ≡ true
has_member xs p l h = ap (λ (q : ℕ × ℕ). has_pair q xs) (low_pair p l) ∙ h

none_of : (test : ℕ × ℕ → Bool) (q : ℕ × ℕ) (xs : List (ℕ × ℕ)) → has_pair q xs ≡ true → list_any test xs ≡ false → test q ≡ false
none_of test q [] h k = absurd (false≢true h)
none_of test q (x ∷ xs) h k =
    let parts = or_parts (test x) (list_any test xs) k in
    elim (cases_Bool (is_same q x)) [
      | inl s ↦ ap test (same_is q x s) ∙ parts.0
      | inr s ↦ none_of test q xs (sym (ap (λ (b : Bool). b || has_pair q xs) s) ∙ h) parts.1
    ]
  where
    or_parts : (s t : Bool) → (s || t) ≡ false → (s ≡ false) × (t ≡ false)
    or_parts true t e = absurd (false≢true (sym e))
    or_parts false t e = (refl, e)

pub none_from : (test : ℕ × ℕ → Bool) (xs : List (ℕ × ℕ)) → IsRising xs
    → ((p : ℕ × ℕ) → p.0 < p.1 → p.1 < 2048 → has_pair p xs ≡ true → test p ≡ false) → list_any test xs ≡ false
none_from test [] r h = refl
none_from test (x ∷ xs) r h =
    ap (λ (b : Bool). b || list_any test xs) (h x r.0.0 r.0.1 (or_left (is_same x x) (has_pair x xs) (is_same_from x x refl)))
    ∙ none_from test xs r.1.1 (λ p l m k. h p l m (or_right (is_same p x) (has_pair p xs) k))

both_true : (a b : Bool) → ((not a && not false) || (not b && not false)) ≡ false → (a && b) ≡ true
both_true true true h = refl
both_true true false h = absurd (false≢true (sym h))
both_true false b h = absurd (false≢true (sym h))

none_out : (a b : Bool) → (a && b) ≡ true → ((not a && not false) || (not b && not false)) ≡ false
none_out true true h = refl
none_out true false h = absurd (false≢true h)
none_out false b h = absurd (false≢true h)

not_both : (a b : Bool) → ((a && b) || (b && a)) ≡ false → not (a && b) ≡ true
not_both true true h = absurd (false≢true (sym h))
not_both true false h = refl
not_both false b h = refl

not_touched : (a b : Bool) → not (a && b) ≡ true → ((a && b) || (b && a)) ≡ false
not_touched true true h = absurd (false≢true h)
not_touched true false h = refl
not_touched false true h = refl
not_touched false false h = refl

-- the sets that the test of pairs makes
pub record AreSets (cells : List (ℕ × Cell)) (references known none others every : List ℕ) : Type 0 where
  pub references_are : (n : ℕ) → has_id references n ≡ is_of_sort is_reference (cell_in cells n)
  pub known_are : (n : ℕ) → has_id known n ≡ is_of_sort is_known (cell_in cells n)
  pub none_is : (n : ℕ) → has_id none n ≡ false
  pub others_are : (n : ℕ) → n < 2048 → has_id others n ≡ not (has_id references n)
  pub every_is : (n : ℕ) → n < 2048 → has_id every n ≡ not (has_id none n)

module _ (cells : List (ℕ × Cell)) (references known none others every : List ℕ) (pairs : List (ℕ × ℕ))
    (h : AreSets cells references known none others every) where
  outer_are : (a b : ℕ) → a < b → b < 2048
      → joins others every (a, b)
      ≡ ((not (is_of_sort is_reference (cell_in cells a)) && not false) || (not (is_of_sort is_reference (cell_in cells b)) && not false))
  outer_are a b l m =
      let oa = h.others_are a (omega (arith, l, m)) ∙ ap not (h.references_are a) in
      let ob = h.others_are b m ∙ ap not (h.references_are b) in
      let ea = h.every_is a (omega (arith, l, m)) ∙ ap not (h.none_is a) in
      let eb = h.every_is b m ∙ ap not (h.none_is b) in
      ap (λ (x : Bool). (x && has_id every b) || (has_id others b && has_id every a)) oa
      ∙ ap (λ (x : Bool). (not (is_of_sort is_reference (cell_in cells a)) && x) || (has_id others b && has_id every a)) eb
      ∙ ap (λ (x : Bool). (not (is_of_sort is_reference (cell_in cells a)) && not false) || (x && has_id every a)) ob
      ∙ ap (λ (x : Bool). (not (is_of_sort is_reference (cell_in cells a)) && not false)
      || (not (is_of_sort is_reference (cell_in cells b)) && x)) ea

  inner_are : (a b : ℕ)
      → joins known known (a, b) ≡ ((is_of_sort is_known (cell_in cells a) && is_of_sort is_known (cell_in cells b))
      || (is_of_sort is_known (cell_in cells b) && is_of_sort is_known (cell_in cells a)))
  inner_are a b =
      ap (λ (x : Bool). (x && has_id known b) || (has_id known b && x)) (h.known_are a)
      ∙ ap (λ (y : Bool). (is_of_sort is_known (cell_in cells a) && y) || (y && is_of_sort is_known (cell_in cells a))) (h.known_are b)

  pub all_join : IsRising pairs → are_touched others every pairs ≡ false → are_touched known known pairs ≡ false → MayAllJoin cells pairs
  all_join r f g a b l k =
      let k' : has_pair (a, b) pairs ≡ true = sym (ap (λ (q : ℕ × ℕ). has_pair q pairs) (low_pair (a, b) l)) ∙ k in
      let m : b < 2048 = low_of pairs (a, b) r k' in
      and_from (is_of_sort is_reference (cell_in cells a) && is_of_sort is_reference (cell_in cells b))
      (not (is_of_sort is_known (cell_in cells a) && is_of_sort is_known (cell_in cells b)))
      (both_true (is_of_sort is_reference (cell_in cells a)) (is_of_sort is_reference (cell_in cells b))
      (sym (outer_are a b l m) ∙ none_of (joins others every) (a, b) pairs k' f))
      (not_both (is_of_sort is_known (cell_in cells a)) (is_of_sort is_known (cell_in cells b))
      (sym (inner_are a b) ∙ none_of (joins known known) (a, b) pairs k' g))
    where
      low_of : (xs : List (ℕ × ℕ)) (p : ℕ × ℕ) → IsRising xs → has_pair p xs ≡ true → p.1 < 2048
      low_of [] p r k = absurd (false≢true k)
      low_of (x ∷ xs) p r k = elim (cases_Bool (is_same p x)) [
        | inl s ↦ subst (λ (q : ℕ × ℕ). q.1 < 2048) (sym (same_is p x s)) r.0.1
        | inr s ↦ low_of xs p r.1.1 (sym (ap (λ (b : Bool). b || has_pair p xs) s) ∙ k)
      ]

  pub untouched : IsRising pairs → MayAllJoin cells pairs → are_touched others every pairs ≡ false
  untouched r k = none_from (joins others every) pairs r (λ p l m t. outer_are p.0 p.1 l m
      ∙ none_out (is_of_sort is_reference (cell_in cells p.0)) (is_of_sort is_reference (cell_in cells p.1))
      (and_parts (is_of_sort is_reference (cell_in cells p.0) && is_of_sort is_reference (cell_in cells p.1))
      (not (is_of_sort is_known (cell_in cells p.0) && is_of_sort is_known (cell_in cells p.1)))
      (k p.0 p.1 l (has_member pairs p l t))).0)

  pub unjoined : IsRising pairs → MayAllJoin cells pairs → are_touched known known pairs ≡ false
  unjoined r k = none_from (joins known known) pairs r
      (λ p l m t. inner_are p.0 p.1 ∙ not_touched (is_of_sort is_known (cell_in cells p.0))
      (is_of_sort is_known (cell_in cells p.1))
      (and_parts (is_of_sort is_reference (cell_in cells p.0) && is_of_sort is_reference (cell_in cells p.1))
      (not (is_of_sort is_known (cell_in cells p.0) && is_of_sort is_known (cell_in cells p.1)))
      (k p.0 p.1 l (has_member pairs p l t))).1)

-- ---- the whole

all_have : (state : AbstractState) (set : List ℕ) (ids : List ℕ)
    → ((n : ℕ) → has_id set n ≡ is_of_sort (λ _. true) (cell_at state n)) → list_all (has_id set) ids ≡ true
    → All (HasCell (λ _. true) state) ids
all_have state set ids e h = λ k d l. has_cell_from (λ _. true) state (get_or ids k d)
    (sym (e (get_or ids k d)) ∙ all_get (has_id set) ids h k d l)

have_all : (state : AbstractState) (set : List ℕ) (ids : List ℕ)
    → ((n : ℕ) → has_id set n ≡ is_of_sort (λ _. true) (cell_at state n)) → All (HasCell (λ _. true) state) ids
    → list_all (has_id set) ids ≡ true
have_all state set ids e h = all_from (has_id set) ids
    (λ k d l. e (get_or ids k d) ∙ has_cell_to (λ _. true) state (get_or ids k d) (h k d l))

pub well : (state : AbstractState) (set : List ℕ) → AreIdsRising 0 state.cells
    → ((n : ℕ) → has_id set n ≡ is_of_sort (λ _. true) (cell_at state n)) → list_all (has_id set) (ids_used state) ≡ true
    → AreAmong state.eq state.share → MayAllJoin state.cells state.share → IsWellFormed state
well state set r e u a m = record {
  rising = r;
  used = all_have state set (ids_used state) e u;
  shared = a;
  left = λ x y l s. has_cell_from is_reference state x (parts x y (m x y l s)).0.0;
  right = λ x y l s. has_cell_from is_reference state y (parts x y (m x y l s)).0.1;
  not_both_known = λ x y l s k j. false≢true
      (sym (ap not (and_from (is_of_sort is_known (cell_at state x)) (is_of_sort is_known (cell_at state y))
      (has_cell_to is_known state x k) (has_cell_to is_known state y j))) ∙ (parts x y (m x y l s)).1);
}
  where
    parts : (x y : ℕ) → may_join state.cells x y ≡ true
        → ((is_of_sort is_reference (cell_at state x) ≡ true) × (is_of_sort is_reference (cell_at state y) ≡ true))
        × (not (is_of_sort is_known (cell_at state x) && is_of_sort is_known (cell_at state y)) ≡ true)
    parts x y h =
        let k = and_parts (is_of_sort is_reference (cell_at state x) && is_of_sort is_reference (cell_at state y))
        (not (is_of_sort is_known (cell_at state x) && is_of_sort is_known (cell_at state y))) h in
        (and_parts (is_of_sort is_reference (cell_at state x)) (is_of_sort is_reference (cell_at state y)) k.0, k.1)

pub uses : (state : AbstractState) (set : List ℕ) → ((n : ℕ) → has_id set n ≡ is_of_sort (λ _. true) (cell_at state n))
    → IsWellFormed state → list_all (has_id set) (ids_used state) ≡ true
uses state set e h = have_all state set (ids_used state) e h.used

pub joins_all : (state : AbstractState) → IsWellFormed state → MayAllJoin state.cells state.share
joins_all state h x y l s =
    and_from (is_of_sort is_reference (cell_at state x) && is_of_sort is_reference (cell_at state y))
    (not (is_of_sort is_known (cell_at state x) && is_of_sort is_known (cell_at state y)))
    (and_from (is_of_sort is_reference (cell_at state x)) (is_of_sort is_reference (cell_at state y))
    (has_cell_to is_reference state x (h.left x y l s)) (has_cell_to is_reference state y (h.right x y l s)))
    (elim (cases_Bool (is_of_sort is_known (cell_at state x) && is_of_sort is_known (cell_at state y))) [
      | inl b ↦
          let k = and_parts (is_of_sort is_known (cell_at state x)) (is_of_sort is_known (cell_at state y)) b in
          absurd (h.not_both_known x y l s (has_cell_from is_known state x k.0) (has_cell_from is_known state y k.1))
      | inr b ↦ ap not b
    ])
