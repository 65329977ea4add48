-- Pairs put among others.
use Rattle.std.proofs.Common.{◌≡◌, ◌≢◌, ℕ, zero, suc, ◌+◌, ◌*◌, ◌<◌, ◌≤◌, ◌==◌, ◌&&◌, ◌||◌, min, max, Bool, true, false, not, eqb}
use Rattle.std.proofs.Common.{List, [], ◌∷◌, ◌++◌, length, get_or, take, Option, Some, None, ◌⊎◌, inl, inr, refl, sym, ap, subst}
use Rattle.std.proofs.Common.{◌∙◌, arith, eq-eqb}
use Rattle.std.specs.Prelude.{slice_get}
use Rattle.std.specs.List.{list_any}
use Rattle.std.proofs.lemmas.Bool.{false≢true, eqb-true, eqb-false, cases_lt, and_parts, or_cases, or_left, or_right, cond-true}
use Rattle.std.proofs.lemmas.Bool.{cond-false, cases_Bool}
use Rattle.std.proofs.lemmas.List.{take_more, take_all}
use Rattle.std.proofs.lemmas.Option.{slice_get_within, slice_get-get_or, none-some}
use Rattle.abs_reach.proofs.Answering.{any_sort}
use Rattle.abs_cells.proofs.PackedLaws.{has_with, has_append}
use Rattle.list_views.proofs.Items.{get_past}
use Rattle.list_views.proofs.Truths.{or_false, or_assoc, and_swapped}
use Rattle.jvm_values.proofs.Options.{some_is}
use Rattle.abs_cells.specs.declared.cells.Cell.{Cell}
use Rattle.abs_cells.specs.Cells.{is_known, is_reference, is_of_sort, cell_in}
use Rattle.abs_cells.specs.PairLists.{pair_of, is_same, IsRising, has_pair, has, added}
use Rattle.abs_cells.specs.Sound.{AreIdsRising, may_join}
use Rattle.abs_cells.proofs.PairLaws.{same_is, is_same_from, before_is}
use Rattle.abs_cells.proofs.Checking.{low_pair}
use Rattle.abs_cells.proofs.RisingPairs.{no_pair}
use Rattle.abs_reach.proofs.Room.{has_cell_low}
use Rattle.abs_heap.specs.Given.{IsPair}
use Rattle.abs_heap.specs.Names.{IsImage}
use Rattle.abs_heap.specs.inner.Building.{Gains, IsThis}

-- ---- booleans

-- ---- pairs in lists

-- two unordered pairs are one where their numbers are, in the one order or the other
pub same_pair : (c d a b : ℕ) → is_same (pair_of c d) (pair_of a b) ≡ true → IsThis a b c d ⊎ IsThis a b d c
same_pair c d a b e =
    let s = same_is (pair_of c d) (pair_of a b) e in
    let low : min c d ≡ min a b = ap (λ (x : ℕ × ℕ). x.0) s in
    let high : max c d ≡ max a b = ap (λ (x : ℕ × ℕ). x.1) s in
    elim (cases_lt c d) [
      | inl l ↦ elim (cases_lt a b) [
        | inl m ↦ inl (omega (arith, l, m, low, high), omega (arith, l, m, low, high))
        | inr m ↦ inr (omega (arith, l, m, low, high), omega (arith, l, m, low, high))
      ]
      | inr l ↦ elim (cases_lt a b) [
        | inl m ↦ inr (omega (arith, l, m, low, high), omega (arith, l, m, low, high))
        | inr m ↦ inl (omega (arith, l, m, low, high), omega (arith, l, m, low, high))
      ]
    ]

pub pair_turned : (a b : ℕ) → pair_of b a ≡ pair_of a b
pair_turned a b =
    let low : min b a ≡ min a b = omega arith in
    let high : max b a ≡ max a b = omega arith in
    ap (λ (x : ℕ). (x, max b a)) low ∙ ap (λ (y : ℕ). (min a b, y)) high

pub pair_same : (c d a b : ℕ) → IsThis a b c d ⊎ IsThis a b d c → is_same (pair_of c d) (pair_of a b) ≡ true
pair_same c d a b (inl h) = is_same_from (pair_of c d) (pair_of a b) (ap (λ (x : ℕ). pair_of x d) h.0 ∙ ap (λ (y : ℕ). pair_of a y) h.1)
pair_same c d a b (inr h) = is_same_from (pair_of c d) (pair_of a b) (pair_turned d c ∙ ap (λ (x : ℕ). pair_of x c) h.0
    ∙ ap (λ (y : ℕ). pair_of a y) h.1)

pub joins_turned : (cells : List (ℕ × Cell)) (a b : ℕ) → may_join cells b a ≡ may_join cells a b
joins_turned cells a b =
    let r : ℕ → Bool = λ n. is_of_sort is_reference (cell_in cells n) in
    let k : ℕ → Bool = λ n. is_of_sort is_known (cell_in cells n) in
    ap (λ (x : Bool). x && not (k b && k a)) (and_swapped (r b) (r a)) ∙ ap (λ (x : Bool). (r a && r b) && not x) (and_swapped (k b) (k a))

-- ---- one pair

gain_added : (cells : List (ℕ × Cell)) (a b : ℕ) (old : List (ℕ × ℕ)) → a ≢ b → may_join cells a b ≡ true
    → Gains cells (IsThis a b) old (added a b old)
gain_added cells a b old n j = λ c d. (
  λ h. elim (or_cases (is_same (pair_of c d) (pair_of a b)) (has c d old) (sym (has_with (pair_of c d) (pair_of a b) old) ∙ h)) [
    | inl s ↦ inr (here c d (same_pair c d a b s))
    | inr k ↦ inl k
  ],
  λ h. elim h [
    | inl k ↦ has_with (pair_of c d) (pair_of a b) old ∙ or_right (is_same (pair_of c d) (pair_of a b)) (has c d old) k
    | inr p ↦ has_with (pair_of c d) (pair_of a b) old ∙ or_left (is_same (pair_of c d) (pair_of a b)) (has c d old)
        (pair_same c d a b p.1.1)
  ],
)
  where
    here : (c d : ℕ) → IsThis a b c d ⊎ IsThis a b d c → IsPair (IsThis a b) cells c d
    here c d (inl t) = (
      λ e. n (sym t.0 ∙ e ∙ t.1),
      (
        ap (λ (x : ℕ). may_join cells x d) t.0 ∙ ap (λ (y : ℕ). may_join cells a y) t.1
            ∙ j,
        inl t,
      ),
    )
    here c d (inr t) = (
      λ e. n (sym t.0 ∙ sym e ∙ t.1),
      (
        joins_turned cells d c ∙ ap (λ (x : ℕ). may_join cells x c) t.0
            ∙ ap (λ (y : ℕ). may_join cells a y) t.1 ∙ j,
        inr t,
      ),
    )

pub gain_one : (cells : List (ℕ × Cell)) (a b : ℕ) (old new : List (ℕ × ℕ)) → a ≢ b → may_join cells a b ≡ true
    → new ≡ added a b old → Gains cells (IsThis a b) old new
gain_one cells a b old new n j e = subst (λ (now : List (ℕ × ℕ)). Gains cells (IsThis a b) old now) (sym e) (gain_added cells a b old n j)

pub gain_no : (cells : List (ℕ × Cell)) (a b : ℕ) (old : List (ℕ × ℕ)) → (a ≢ b → may_join cells a b ≡ true → ⊥)
    → Gains cells (IsThis a b) old old
gain_no cells a b old n = λ c d. (
  λ h. inl h,
  λ h. elim h [
    | inl k ↦ k
    | inr p ↦ absurd (never c d p)
  ],
)
  where
    never : (c d : ℕ) → IsPair (IsThis a b) cells c d → ⊥
    never c d (m, (j, inl t)) = n (λ e. m (t.0 ∙ e ∙ sym t.1)) (ap (λ (x : ℕ). may_join cells x b) (sym t.0)
        ∙ ap (λ (y : ℕ). may_join cells c y) (sym t.1) ∙ j)
    never c d (m, (j, inr t)) = n (λ e. m (t.1 ∙ sym e ∙ sym t.0)) (ap (λ (x : ℕ). may_join cells x b) (sym t.0)
        ∙ ap (λ (y : ℕ). may_join cells d y) (sym t.1) ∙ joins_turned cells c d ∙ j)

-- ---- one after another

pub gain_nothing : (cells : List (ℕ × Cell)) (wanted : ℕ → ℕ → Type 0) (old : List (ℕ × ℕ))
    → ((a b : ℕ) → may_join cells a b ≡ true → wanted a b → ⊥) → Gains cells wanted old old
gain_nothing cells wanted old n = λ c d. (
  λ h. inl h,
  λ h. elim h [
    | inl k ↦ k
    | inr p ↦ elim p.1.1 [
      | inl w ↦ absurd (n c d p.1.0 w)
      | inr w ↦ absurd (n d c (joins_turned cells c d ∙ p.1.0) w)
    ]
  ],
)

pub gain_both : (cells : List (ℕ × Cell)) (first second : ℕ → ℕ → Type 0) (old mid new : List (ℕ × ℕ)) → Gains cells first old mid
    → Gains cells second mid new → Gains cells (λ a b. first a b ⊎ second a b) old new
gain_both cells first second old mid new f s = λ c d. (
  λ h. elim ((s c d).0 h) [
    | inl k ↦ elim ((f c d).0 k) [
      | inl o ↦ inl o
      | inr p ↦ inr (p.0, (p.1.0, elim p.1.1 [ inl w ↦ inl (inl w) | inr w ↦ inr (inl w) ]))
    ]
    | inr p ↦ inr (p.0, (p.1.0, elim p.1.1 [ inl w ↦ inl (inr w) | inr w ↦ inr (inr w) ]))
  ],
  λ h. elim h [
    | inl o ↦ (s c d).1 (inl ((f c d).1 (inl o)))
    | inr p ↦ elim p.1.1 [
      | inl w ↦ elim w [
        | inl v ↦ (s c d).1 (inl ((f c d).1 (inr (p.0, (p.1.0, inl v)))))
        | inr v ↦ (s c d).1 (inr (p.0, (p.1.0, inl v)))
      ]
      | inr w ↦ elim w [
        | inl v ↦ (s c d).1 (inl ((f c d).1 (inr (p.0, (p.1.0, inr v)))))
        | inr v ↦ (s c d).1 (inr (p.0, (p.1.0, inr v)))
      ]
    ]
  ],
)

-- the same under other words: what the one wants the other does too, in this order or the other
abbrev pub IsSameWish : List (ℕ × Cell) → (ℕ → ℕ → Type 0) → (ℕ → ℕ → Type 0) → Type 0
IsSameWish cells one other = (a b : ℕ) → may_join cells a b ≡ true → one a b → other a b ⊎ other b a

pub pair_as : (cells : List (ℕ × Cell)) (one other : ℕ → ℕ → Type 0) → IsSameWish cells one other → (a b : ℕ) → IsPair one cells a b
    → IsPair other cells a b
pair_as cells one other to a b (n, (j, inl w)) = (n, (j, to a b j w))
pair_as cells one other to a b (n, (j, inr w)) = (n, (j, elim (to b a (joins_turned cells a b ∙ j) w) [ inl v ↦ inr v | inr v ↦ inl v ]))

pub gain_as : (cells : List (ℕ × Cell)) (one other : ℕ → ℕ → Type 0) (old new : List (ℕ × ℕ)) → IsSameWish cells one other
    → IsSameWish cells other one → Gains cells one old new → Gains cells other old new
gain_as cells one other old new to from g = λ c d. (
  λ h. elim ((g c d).0 h) [ inl k ↦ inl k | inr p ↦ inr (pair_as cells one other to c d p) ],
  λ h. elim h [ inl k ↦ (g c d).1 (inl k) | inr p ↦ (g c d).1 (inr (pair_as cells other one from c d p)) ],
)

-- ---- ids among the first cells

abbrev pub is_listed : ℕ → List (ℕ × Cell) → Bool
is_listed id cells = list_any (λ c. c.0 == id) cells

listed_joined : (id : ℕ) (xs ys : List (ℕ × Cell)) → is_listed id (xs ++ ys) ≡ (is_listed id xs || is_listed id ys)
listed_joined id [] ys = refl
listed_joined id (x ∷ xs) ys = ap (λ (h : Bool). (x.0 == id) || h) (listed_joined id xs ys)
    ∙ sym (or_assoc (x.0 == id) (is_listed id xs) (is_listed id ys))

pub listed_next : (id : ℕ) (cells : List (ℕ × Cell)) (i : ℕ) (d : ℕ × Cell) → i < length cells
    → is_listed id (take (i + 1) cells) ≡ (is_listed id (take i cells) || ((get_or cells i d).0 == id))
listed_next id cells i d l =
    ap (is_listed id) (take_more cells i d l)
    ∙ listed_joined id (take i cells) (get_or cells i d ∷ [])
    ∙ ap (λ (h : Bool). is_listed id (take i cells) || h) (or_false ((get_or cells i d).0 == id))

pub listed_there : (id : ℕ) (cells : List (ℕ × Cell)) (test : Cell → Bool) → is_of_sort test (cell_in cells id) ≡ true
    → is_listed id cells ≡ true
listed_there id [] test h = absurd (false≢true h)
listed_there id (c ∷ cells) test h = elim (cases_Bool (eqb c.0 id)) [
  | inl e ↦ or_left (c.0 == id) (is_listed id cells) e
  | inr e ↦ or_right (c.0 == id) (is_listed id cells)
      (listed_there id cells test (ap (is_of_sort test) (sym (cond-false (eqb c.0 id) (Some c.1) (cell_in cells id) e)) ∙ h))
]

pub joins_left : (cells : List (ℕ × Cell)) (a b : ℕ) → may_join cells a b ≡ true → is_of_sort is_reference (cell_in cells a) ≡ true
joins_left cells a b j = (and_parts _ _ (and_parts _ _ j).0).0

pub joins_right : (cells : List (ℕ × Cell)) (a b : ℕ) → may_join cells a b ≡ true → is_of_sort is_reference (cell_in cells b) ≡ true
joins_right cells a b j = (and_parts _ _ (and_parts _ _ j).0).1

-- ---- the loops

-- with each other id
pub with_next : (cells : List (ℕ × Cell)) (id : ℕ) (others : ℕ → Type 0) (i other : ℕ) (d : ℕ × Cell) (old mid new : List (ℕ × ℕ))
    → i < length cells → other ≡ (get_or cells i d).0
    → Gains cells (λ a b. (a ≡ id) × (others b × (is_listed b (take i cells) ≡ true))) old mid
    → Gains cells (λ a b. (a ≡ id) × (others b × (b ≡ other))) mid new
    → Gains cells (λ a b. (a ≡ id) × (others b × (is_listed b (take (i + 1) cells) ≡ true))) old new
with_next cells id others i other d old mid new l is f s = gain_as cells _ _ old new
    (λ a b j w. elim w [
      | inl v ↦ inl (v.0, (v.1.0, listed_next b cells i d l ∙ or_left _ _ v.1.1))
      | inr v ↦ inl (v.0, (v.1.0, listed_next b cells i d l ∙ or_right _ _ (eq-eqb (get_or cells i d).0 b (sym is ∙ sym v.1.1))))
    ])
    (λ a b j w. elim (or_cases _ _ (sym (listed_next b cells i d l) ∙ w.1.1)) [
      | inl v ↦ inl (inl (w.0, (w.1.0, v)))
      | inr v ↦ inl (inr (w.0, (w.1.0, sym (eqb-true (get_or cells i d).0 b v) ∙ sym is)))
    ])
    (gain_both cells _ _ old mid new f s)

pub with_none : (cells : List (ℕ × Cell)) (id : ℕ) (others : ℕ → Type 0) (old : List (ℕ × ℕ))
    → Gains cells (λ a b. (a ≡ id) × (others b × (is_listed b [] ≡ true))) old old
with_none cells id others old = gain_nothing cells _ old (λ a b j w. false≢true w.1.1)

pub with_all : (cells : List (ℕ × Cell)) (id : ℕ) (others : ℕ → Type 0) (i : ℕ) (old new : List (ℕ × ℕ)) → length cells ≤ i
    → Gains cells (λ a b. (a ≡ id) × (others b × (is_listed b (take i cells) ≡ true))) old new
    → Gains cells (λ a b. (a ≡ id) × others b) old new
with_all cells id others i old new l g = gain_as cells _ _ old new
    (λ a b j w. inl (w.0, w.1.0))
    (λ a b j w. inl (w.0, (w.1, ap (is_listed b) (take_all i cells l) ∙ listed_there b cells is_reference (joins_right cells a b j))))
    g

-- each with all others
pub between_next : (cells : List (ℕ × Cell)) (ids others : ℕ → Type 0) (i id : ℕ) (d : ℕ × Cell) (old mid new : List (ℕ × ℕ))
    → i < length cells → id ≡ (get_or cells i d).0
    → Gains cells (λ a b. (ids a × (is_listed a (take i cells) ≡ true)) × others b) old mid
    → Gains cells (λ a b. (ids a × (a ≡ id)) × others b) mid new
    → Gains cells (λ a b. (ids a × (is_listed a (take (i + 1) cells) ≡ true)) × others b) old new
between_next cells ids others i id d old mid new l is f s = gain_as cells _ _ old new
    (λ a b j w. elim w [
      | inl v ↦ inl ((v.0.0, listed_next a cells i d l ∙ or_left _ _ v.0.1), v.1)
      | inr v ↦ inl ((v.0.0, listed_next a cells i d l ∙ or_right _ _ (eq-eqb (get_or cells i d).0 a (sym is ∙ sym v.0.1))), v.1)
    ])
    (λ a b j w. elim (or_cases _ _ (sym (listed_next a cells i d l) ∙ w.0.1)) [
      | inl v ↦ inl (inl ((w.0.0, v), w.1))
      | inr v ↦ inl (inr ((w.0.0, sym (eqb-true (get_or cells i d).0 a v) ∙ sym is), w.1))
    ])
    (gain_both cells _ _ old mid new f s)

pub between_none : (cells : List (ℕ × Cell)) (ids others : ℕ → Type 0) (old : List (ℕ × ℕ))
    → Gains cells (λ a b. (ids a × (is_listed a [] ≡ true)) × others b) old old
between_none cells ids others old = gain_nothing cells _ old (λ a b j w. false≢true w.0.1)

pub between_all : (cells : List (ℕ × Cell)) (ids others : ℕ → Type 0) (i : ℕ) (old new : List (ℕ × ℕ)) → length cells ≤ i
    → Gains cells (λ a b. (ids a × (is_listed a (take i cells) ≡ true)) × others b) old new → Gains cells (λ a b. ids a × others b) old new
between_all cells ids others i old new l g = gain_as cells _ _ old new
    (λ a b j w. inl (w.0.0, w.1))
    (λ a b j w. inl ((w.0, ap (is_listed a) (take_all i cells l) ∙ listed_there a cells is_reference (joins_left cells a b j)), w.1))
    g

-- each pair of a list under its names
has_next : (c d : ℕ) (pairs : List (ℕ × ℕ)) (n : ℕ) (p : ℕ × ℕ) → slice_get pairs n ≡ Some p
    → has c d (take (n + 1) pairs) ≡ (has c d (take n pairs) || is_same (pair_of c d) p)
has_next c d pairs n p e =
    let l = slice_get_within pairs n p e in
    let is : get_or pairs n p ≡ p = some_is (sym (slice_get-get_or pairs n p l) ∙ e) in
    ap (has_pair (pair_of c d)) (take_more pairs n p l)
    ∙ has_append (pair_of c d) (take n pairs) (get_or pairs n p ∷ [])
    ∙ ap (λ (h : Bool). has_pair (pair_of c d) (take n pairs) || h) (or_false (is_same (pair_of c d) (get_or pairs n p)))
    ∙ ap (λ (q : ℕ × ℕ). has_pair (pair_of c d) (take n pairs) || is_same (pair_of c d) q) is

pub rising_at : (pairs : List (ℕ × ℕ)) (n : ℕ) (p : ℕ × ℕ) → IsRising pairs → slice_get pairs n ≡ Some p → (p.0 < p.1) × (p.1 < 2048)
rising_at [] n p r e = absurd (none-some p e)
rising_at (q ∷ rest) zero p r e = subst (λ (x : ℕ × ℕ). (x.0 < x.1) × (x.1 < 2048)) (some_is e) r.0
rising_at (q ∷ rest) (suc n) p r e = rising_at rest n p r.1.1 e

pub named_next : (cells : List (ℕ × Cell)) (name : ℕ → ℕ) (pairs : List (ℕ × ℕ)) (n : ℕ) (p : ℕ × ℕ) (old mid new : List (ℕ × ℕ))
    → IsRising pairs → slice_get pairs n ≡ Some p
    → Gains cells (IsImage name (λ x y. has x y (take n pairs) ≡ true)) old mid
    → Gains cells (IsThis (name p.0) (name p.1)) mid new
    → Gains cells (IsImage name (λ x y. has x y (take (n + 1) pairs) ≡ true)) old new
named_next cells name pairs n p old mid new r e f s =
    let low = rising_at pairs n p r e in
    let whole : pair_of p.0 p.1 ≡ p = low_pair p low.0 in
    gain_as cells _ _ old new
    (λ a b j w. elim w [
      | inl v ↦ inl (record { x = v.x; y = v.y; were = has_next v.x v.y pairs n p e ∙ or_left _ _ v.were; left = v.left; right = v.right })
      | inr v ↦ inl (record {
        x = p.0;
        y = p.1;
        were = has_next p.0 p.1 pairs n p e
            ∙ or_right _ _ (is_same_from (pair_of p.0 p.1) p whole);
        left = sym v.0;
        right = sym v.1;
      })
    ])
    (λ a b j w. elim (or_cases _ _ (sym (has_next w.x w.y pairs n p e) ∙ w.were)) [
      | inl v ↦ inl (inl (record { x = w.x; y = w.y; were = v; left = w.left; right = w.right }))
      | inr v ↦ elim (same_pair w.x w.y p.0 p.1 (ap (is_same (pair_of w.x w.y)) whole ∙ v)) [
        | inl t ↦ inl (inr (sym w.left ∙ ap name t.0, sym w.right ∙ ap name t.1))
        | inr t ↦ inr (inr (sym w.right ∙ ap name t.0, sym w.left ∙ ap name t.1))
      ]
    ])
    (gain_both cells _ _ old mid new f s)

pub named_none : (cells : List (ℕ × Cell)) (name : ℕ → ℕ) (old : List (ℕ × ℕ))
    → Gains cells (IsImage name (λ x y. has x y [] ≡ true)) old old
named_none cells name old = gain_nothing cells _ old (λ a b j w. false≢true w.were)

pub named_all : (cells : List (ℕ × Cell)) (name : ℕ → ℕ) (pairs : List (ℕ × ℕ)) (n : ℕ) (old new : List (ℕ × ℕ)) → slice_get pairs n ≡ None
    → Gains cells (IsImage name (λ x y. has x y (take n pairs) ≡ true)) old new
    → Gains cells (IsImage name (λ x y. has x y pairs ≡ true)) old new
named_all cells name pairs n old new e g = subst (λ (ps : List (ℕ × ℕ)). Gains cells (IsImage name (λ x y. has x y ps ≡ true)) old
    new) (take_all n pairs (get_past pairs n e)) g

-- there are at most as many pairs as pairs of numbers
abbrev key_of : ℕ × ℕ → ℕ
key_of p = p.0 * 2048 + p.1

rising_room : (p : ℕ × ℕ) (rest : List (ℕ × ℕ)) → IsRising (p ∷ rest) → key_of p + length (p ∷ rest) ≤ 4194304
rising_room p [] r = omega (arith, r.0.0, r.0.1)
rising_room p (q ∷ rest) r =
    let h = rising_room q rest r.1.1 in
    elim (before_is p q r.1.0) [
      | inl l ↦ omega (arith, h, l, r.0.1)
      | inr l ↦ omega (arith, h, l.0, l.1)
    ]

pub few_pairs : (pairs : List (ℕ × ℕ)) → IsRising pairs → length pairs ≤ 4194304
few_pairs [] r = omega arith
few_pairs (p ∷ rest) r = let h = rising_room p rest r in omega (arith, h)

pub place_low : (pairs : List (ℕ × ℕ)) (n : ℕ) (p : ℕ × ℕ) → IsRising pairs → slice_get pairs n ≡ Some p
    → (n < length pairs) × (n < 4194304)
place_low pairs n p r e = let l = slice_get_within pairs n p e in let m = few_pairs pairs r in (l, omega (arith, l, m))

-- partners
pub partner_next : (id : ℕ) (pairs : List (ℕ × ℕ)) (n m : ℕ) (wanted old new : Bool) → wanted ≡ has id n pairs
    → new ≡ ((wanted && (m == n)) || old) → (m < n → old ≡ has id m pairs) × (n ≤ m → old ≡ false)
    → (m < n + 1 → new ≡ has id m pairs) × (n + 1 ≤ m → new ≡ false)
partner_next id pairs n m wanted old new w f h = at (m == n) refl
  where
    met : (a b : Bool) → b ≡ false → ((a && true) || b) ≡ a
    met true b e = refl
    met false b e = e

    missed : (a b : Bool) → ((a && false) || b) ≡ b
    missed true b = refl
    missed false b = refl

    at : (b : Bool) → eqb m n ≡ b → (m < n + 1 → new ≡ has id m pairs) × (n + 1 ≤ m → new ≡ false)
    at true e =
        let same : m ≡ n = eqb-true m n e in (
          λ l. f ∙ ap (λ (b : Bool). (wanted && b) || old) e ∙ met wanted old (h.1 (omega (arith, same))) ∙ w
              ∙ ap (λ (k : ℕ). has id k pairs) (sym same),
          λ l. absurd (omega (arith, l, same)),
        )
    at false e =
        let kept : new ≡ old = f ∙ ap (λ (b : Bool). (wanted && b) || old) e ∙ missed wanted old in
        (λ l. kept ∙ h.0 (omega (arith, l, eqb-false m n e)), λ l. kept ∙ h.1 (omega (arith, l)))

pub partners_all : (id : ℕ) (pairs : List (ℕ × ℕ)) (n m : ℕ) (b : Bool) → IsRising pairs → 2048 ≤ n
    → (m < n → b ≡ has id m pairs) × (n ≤ m → b ≡ false) → b ≡ has id m pairs
partners_all id pairs n m b r l h = elim (cases_lt m n) [
  | inl s ↦ h.0 s
  | inr s ↦ h.1 s ∙ sym (no_pair id m pairs r (λ d x y. omega (arith, y, l, s)))
]

-- ---- as code reads it

pub pair_low : (cells : List (ℕ × Cell)) (a b : ℕ) → AreIdsRising 0 cells → may_join cells a b ≡ true → (a < 2048) × (b < 2048)
pair_low cells a b r j = (
  has_cell_low cells a r (any_sort is_reference (cell_in cells a) (joins_left cells a b j)),
  has_cell_low cells b r (any_sort is_reference (cell_in cells b) (joins_right cells a b j)),
)

pub named_this : (cells : List (ℕ × Cell)) (a b c d : ℕ) (old new : List (ℕ × ℕ)) → a ≡ c → b ≡ d → Gains cells (IsThis a b) old new
    → Gains cells (IsThis c d) old new
named_this cells a b c d old new e f g = subst (λ (y : ℕ). Gains cells (IsThis c y) old new) f
    (subst (λ (x : ℕ). Gains cells (IsThis x b) old new) e g)

pub gains_on : (list cells : List (ℕ × Cell)) (wanted : List (ℕ × Cell) → ℕ → ℕ → Type 0) (old new : List (ℕ × ℕ)) → list ≡ cells
    → Gains list (wanted list) old new → Gains cells (wanted cells) old new
gains_on list cells wanted old new e g = subst (λ (xs : List (ℕ × Cell)). Gains xs (wanted xs) old new) e g
