-- The ways from all cuts are all paths, in their order.
use Rattle.std.proofs.Common.{◌≡◌, inl, inr, ℕ, zero, suc, ◌+◌, ◌<◌, ◌≤◌, Bool, true, false, cond, eqb, List, [], ◌∷◌, ◌++◌, length}
use Rattle.std.proofs.Common.{map, get_or, Option, Some, None, subst, ap, arith, refl, ◌∙◌, sym}
use Rattle.std.specs.Prelude.{nat_lt, slice_get}
use Rattle.std.specs.Option.{option_map, option_and_then}
use Rattle.std.proofs.lemmas.Bool.{eq-eqb, eqb-true, lt-ltb}
use Rattle.std.proofs.lemmas.Option.{slice_get-map, slice_get_within}
use Rattle.list_views.proofs.Orders.{zero_before}
use Rattle.list_views.proofs.Items.{get_front}
use Rattle.number_graphs.specs.Lists.{Has, row_at, Fall}
use Rattle.path_rules.specs.Paths.{is_earlier, only_last}
use Rattle.path_rules.specs.Successors.{has_mark, inner_row}
use Rattle.path_rules.specs.inner.Ways.{ways_by, AreWays, end_over}
use Rattle.path_rules.proofs.Counted.{ways_over, inner_edge}
use Rattle.path_rules.proofs.Picking.{get_back, Picked, picked_there}

-- ---- ways by places of lists

abbrev pub IsIn : {A : Type 0} → List A → A → Type 0
IsIn xs x = (n : ℕ) × (slice_get xs n ≡ Some x)

pub in_front : {A : Type 0} (xs ys : List A) (x : A) → IsIn xs x → IsIn (xs ++ ys) x
in_front xs ys x i = (i.0, get_front xs ys i.0 (slice_get_within xs i.0 x i.1) ∙ i.1)

pub in_back : {A : Type 0} (xs ys : List A) (x : A) → IsIn ys x → IsIn (xs ++ ys) x
in_back xs ys x i = (length xs + i.0, get_back xs ys (length xs + i.0) i.0 refl ∙ i.1)

pub in_map : {A B : Type 0} (f : A → B) (xs : List A) (x : A) → IsIn xs x → IsIn (map f xs) (f x)
in_map f xs x i = (i.0, slice_get-map f xs i.0 ∙ ap (option_map f) i.1)

-- a way by an edge of a row
in_row : (ways : ℕ → List (List ℕ)) (marks : List Bool) (place : ℕ) (row : List ℕ) (step to : ℕ) (rest : List ℕ)
    → slice_get row step ≡ Some to → IsIn (ways_over ways marks to) rest → IsIn (ways_by ways marks place row) ((place + step) ∷ rest)
in_row ways marks place [] step to rest e i = absurd (cc)
in_row ways marks place (x ∷ row) zero to rest e i =
    let same : x ≡ to = cc in
    in_front (map (λ (w : List ℕ). place ∷ w) (ways_over ways marks x)) (ways_by ways marks (suc place) row) ((place + 0) ∷ rest)
    (subst (λ (n : ℕ). IsIn (map (λ (w : List ℕ). place ∷ w) (ways_over ways marks x)) (n ∷ rest)) (omega arith)
    (in_map (λ (w : List ℕ). place ∷ w) (ways_over ways marks x) rest
    (subst (λ (n : ℕ). IsIn (ways_over ways marks n) rest) (sym same) i)))
in_row ways marks place (x ∷ row) (suc step) to rest e i =
    in_back (map (λ (w : List ℕ). place ∷ w) (ways_over ways marks x)) (ways_by ways marks (suc place) row) ((place + suc step) ∷ rest)
    (subst (λ (n : ℕ). IsIn (ways_by ways marks (suc place) row) (n ∷ rest)) (omega arith)
    (in_row ways marks (suc place) row step to rest e i))

-- ---- a way ends, and what ends is a way

abbrev long : (ℕ → List (List ℕ)) → List Bool → ℕ → ℕ
long ways marks to = length (ways_over ways marks to)

only_empty : (n : ℕ) (w : List ℕ) → slice_get {X = List ℕ} ([] ∷ []) n ≡ Some w → w ≡ []
only_empty zero w e = cc
only_empty (suc n) w e = absurd (cc)

edge_end : (lists : List (List ℕ)) (marks : List Bool) (node place to : ℕ) (after : List ℕ) (b : Bool) → has_mark marks to ≡ b
    → slice_get (row_at lists node) place ≡ Some to → end_over lists marks node (place ∷ after) ≡ cond b (only_last after to)
    (end_over lists marks to after)
edge_end lists marks node place to after b k there =
    ap (λ (o : Option ℕ). option_and_then (λ (t : ℕ). cond (has_mark marks t) (only_last after t) (end_over lists marks t after)) o) there
    ∙ ap (λ (x : Bool). cond x (only_last after to) (end_over lists marks to after)) k

abbrev Ends : List (List ℕ) → List Bool → ℕ → List ℕ → Type 0
Ends lists marks node way = (to : ℕ) × (end_over lists marks node way ≡ Some to)

ends_edge : (lists : List (List ℕ)) (marks : List Bool) (ways : ℕ → List (List ℕ)) (node place to left : ℕ) (after : List ℕ)
    (b : Bool) → has_mark marks to ≡ b → slice_get (row_at lists node) place ≡ Some to
    → slice_get (cond b ([] ∷ []) (ways to)) left ≡ Some after → (slice_get (ways to) left ≡ Some after → Ends lists marks to after)
    → Ends lists marks node (place ∷ after)
ends_edge lists marks ways node place to left after true k there more later =
    (to, edge_end lists marks node place to after true k there ∙ ap (λ (w : List ℕ). only_last w to) (only_empty left after more))
ends_edge lists marks ways node place to left after false k there more later = let rest = later more in
    (rest.0, edge_end lists marks node place to after false k there ∙ rest.1)

picked_of : (lists : List (List ℕ)) (marks : List Bool) (ways : ℕ → List (List ℕ)) → AreWays lists marks ways
    → (way : List ℕ) (node n : ℕ) → slice_get (ways node) n ≡ Some way → Picked (long ways marks) ways marks 0 (row_at lists node) n way
picked_of lists marks ways are way node n e = picked_there (long ways marks) ways marks (suc n) 0 (row_at lists node) n way
    (λ to. inl refl) (omega arith) (ap (λ (w : List (List ℕ)). slice_get w n) (sym (are node)) ∙ e)

pub ends_over : (lists : List (List ℕ)) (marks : List Bool) (ways : ℕ → List (List ℕ)) → AreWays lists marks ways
    → (way : List ℕ) (node n : ℕ) → slice_get (ways node) n ≡ Some way → Ends lists marks node way
ends_over lists marks ways are [] node n e = let p = picked_of lists marks ways are [] node n e in let bad = p.way_is in absurd (cc)
ends_over lists marks ways are (place ∷ after) node n e =
    let p = picked_of lists marks ways are (place ∷ after) node n e in
    let is = p.way_is in
    let place_sum : place ≡ 0 + p.step = cc in
    let places : place ≡ p.step = omega (arith, place_sum) in
    let afters : after ≡ p.rest = cc in
    ends_edge lists marks ways node place p.to p.left after (has_mark marks p.to) refl
    (ap (slice_get (row_at lists node)) places ∙ p.there)
    (p.more ∙ ap (λ (w : List ℕ). Some w) (sym afters))
    (λ k. ends_over lists marks ways are after p.to p.left k)

alone : (w : List ℕ) (next to : ℕ) → only_last w next ≡ Some to → w ≡ []
alone [] next to g = refl
alone (x ∷ w) next to g = absurd (cc)

over_next : (marks : List Bool) (lists : List (List ℕ)) (ways : ℕ → List (List ℕ)) (next to : ℕ) (after : List ℕ) (b : Bool)
    → has_mark marks next ≡ b → cond b (only_last after next) (end_over lists marks next after) ≡ Some to
    → (end_over lists marks next after ≡ Some to → IsIn (ways next) after) → IsIn (ways_over ways marks next) after
over_next marks lists ways next to after true m g later = (
  0,
  ap (λ (b : Bool). slice_get (cond b ([] ∷ []) (ways next)) 0) m
      ∙ ap (λ (w : List ℕ). Some w) (sym (alone after next to g)),
)
over_next marks lists ways next to after false m g later = subst (λ (b : Bool). IsIn (cond b ([] ∷ []) (ways next)) after) (sym m)
    (later g)

over_edge : (lists : List (List ℕ)) (marks : List Bool) (ways : ℕ → List (List ℕ)) (node place to : ℕ) (after : List ℕ)
    (o : Option ℕ) → slice_get (row_at lists node) place ≡ o
    → option_and_then (λ (t : ℕ). cond (has_mark marks t) (only_last after t) (end_over lists marks t after)) o ≡ Some to
    → ((next : ℕ) → end_over lists marks next after ≡ Some to → IsIn (ways next) after)
    → IsIn (ways_by ways marks 0 (row_at lists node)) (place ∷ after)
over_edge lists marks ways node place to after None there k later = absurd (cc)
over_edge lists marks ways node place to after (Some next) there k later = subst
    (λ (n : ℕ). IsIn (ways_by ways marks 0 (row_at lists node)) (n ∷ after)) (zero_before place)
    (in_row ways marks 0 (row_at lists node) place next after there
    (over_next marks lists ways next to after (has_mark marks next) refl k (later next)))

pub over_ends : (lists : List (List ℕ)) (marks : List Bool) (ways : ℕ → List (List ℕ)) → AreWays lists marks ways
    → (way : List ℕ) (node to : ℕ) → end_over lists marks node way ≡ Some to → IsIn (ways node) way
over_ends lists marks ways are [] node to e = absurd (cc)
over_ends lists marks ways are (place ∷ after) node to e = subst (λ (w : List (List ℕ)). IsIn w (place ∷ after)) (sym (are node))
    (over_edge lists marks ways node place to after (slice_get (row_at lists node) place) refl e
    (λ next k. over_ends lists marks ways are after next to k))

-- ---- ways rise

abbrev pub Earlier : List ℕ → List (List ℕ) → Type 0
Earlier way [] = Unit {0}
Earlier way (next ∷ ways) = is_earlier way next ≡ true

abbrev pub WaysRise : List (List ℕ) → Type 0
WaysRise [] = Unit {0}
WaysRise (way ∷ ways) = Earlier way ways × WaysRise ways

-- the first way, if any, begins with a place that is not below
abbrev BeginsFrom : ℕ → List (List ℕ) → Type 0
BeginsFrom place [] = Unit {0}
BeginsFrom place ([] ∷ ways) = ⊥
BeginsFrom place ((first ∷ way) ∷ ways) = place ≤ first

same_place : (place : ℕ) (a b : List ℕ) → is_earlier a b ≡ true → is_earlier (place ∷ a) (place ∷ b) ≡ true
same_place place a b e = rw (eq-eqb place place refl) e

lower_place : (place other : ℕ) (a b : List ℕ) → place < other → is_earlier (place ∷ a) (other ∷ b) ≡ true
lower_place place other a b l = at (eqb place other) refl
  where
    at : (x : Bool) → eqb place other ≡ x → cond x (is_earlier a b) (nat_lt place other) ≡ true
    at true e = let s = eqb-true place other e in absurd (omega (arith, s, l))
    at false e = lt-ltb place other l

joined : (place : ℕ) (xs : List (List ℕ)) (ys : List (List ℕ)) → WaysRise xs → WaysRise ys → BeginsFrom (suc place) ys
    → WaysRise (map (λ (w : List ℕ). place ∷ w) xs ++ ys)
joined place [] ys rise more begins = more
joined place (x ∷ []) [] rise more begins = (tt, tt)
joined place (x ∷ []) ([] ∷ ys) rise more begins = absurd begins
joined place (x ∷ []) ((first ∷ y) ∷ ys) rise more begins = (lower_place place first x y (omega (arith, begins)), more)
joined place (x ∷ (next ∷ xs)) ys rise more begins = (same_place place x next rise.0, joined place (next ∷ xs) ys rise.1 more begins)

begins_by : (ways : ℕ → List (List ℕ)) (marks : List Bool) (low place : ℕ) (row : List ℕ) → low ≤ place
    → BeginsFrom low (ways_by ways marks place row)
begins_by ways marks low place [] l = tt
begins_by ways marks low place (to ∷ row) l = at (begins_by ways marks low (suc place) row (omega (arith, l))) (ways_over ways marks to)
  where
    at : BeginsFrom low (ways_by ways marks (suc place) row) → (xs : List (List ℕ))
        → BeginsFrom low (map (λ (w : List ℕ). place ∷ w) xs ++ ways_by ways marks (suc place) row)
    at later [] = later
    at later (x ∷ xs) = l

rise_by : (ways : ℕ → List (List ℕ)) (marks : List Bool) (place : ℕ) (row : List ℕ)
    → ((to : ℕ) → Has row to → has_mark marks to ≡ false → WaysRise (ways to)) → WaysRise (ways_by ways marks place row)
rise_by ways marks place [] each = tt
rise_by ways marks place (to ∷ row) each =
    joined place (ways_over ways marks to) (ways_by ways marks (suc place) row) (at (has_mark marks to) refl)
    (rise_by ways marks (suc place) row (λ t h. each t (inr h))) (begins_by ways marks (suc place) (suc place) row (omega arith))
  where
    at : (b : Bool) → has_mark marks to ≡ b → WaysRise (cond b ([] ∷ []) (ways to))
    at true e = (tt, tt)
    at false e = each to (inl refl) e

rise_below : (lists : List (List ℕ)) (marks : List Bool) (ranks : List ℕ) (ways : ℕ → List (List ℕ))
    → Fall (map (inner_row marks) lists) ranks → AreWays lists marks ways → (k node : ℕ) → get_or ranks node 0 < k → WaysRise (ways node)
rise_below lists marks ranks ways fall are zero node l = absurd (omega (arith, l))
rise_below lists marks ranks ways fall are (suc k) node l = subst WaysRise (sym (are node))
    (rise_by ways marks 0 (row_at lists node) (λ to h e.
    let low = fall node to (inner_edge lists marks node to h e) in
    rise_below lists marks ranks ways fall are k to (omega (arith, low, l))))

pub ways_rise : (lists : List (List ℕ)) (marks : List Bool) (ranks : List ℕ) (ways : ℕ → List (List ℕ))
    → Fall (map (inner_row marks) lists) ranks → AreWays lists marks ways → (node : ℕ) → WaysRise (ways node)
ways_rise lists marks ranks ways fall are node = rise_below lists marks ranks ways fall are (suc (get_or ranks node 0)) node (omega arith)
