-- The way of a number, edge by edge.
use Rattle.std.proofs.Common.{◌≡◌, ◌⊎◌, inl, inr, ℕ, zero, suc, ◌+◌, ◌-◌, ◌<◌, ◌≤◌, Bool, true, false, cond, List, [], ◌∷◌, ◌++◌}
use Rattle.std.proofs.Common.{length, map, get_or, Option, Some, None, subst, ap, arith, refl, ◌∙◌, sym}
use Rattle.std.specs.Prelude.{nat_lt, slice_get}
use Rattle.std.specs.Option.{option_and_then}
use Rattle.std.proofs.lemmas.Bool.{ltb-true, ltb-false}
use Rattle.std.proofs.lemmas.Option.{slice_get-map, same_Some}
use Rattle.std.proofs.lemmas.List.{length-map}
use Rattle.list_views.proofs.Items.{get_front}
use Rattle.list_views.proofs.Options.{map_some}
use Rattle.number_graphs.specs.Lists.{Has, row_at, Fall}
use Rattle.path_rules.specs.Paths.{only_last}
use Rattle.path_rules.specs.Successors.{has_mark, inner_row}
use Rattle.path_rules.specs.inner.Ways.{ways_by, AreWays, end_over, counted, count_over, picked, AreCounts, IsWayOf}
use Rattle.path_rules.proofs.Counted.{ways_over, inner_edge, count_alike, over_alike, AreAlike}

-- ---- places of lists one after another

pub get_back : {A : Type 0} (xs ys : List A) (n left : ℕ) → n ≡ length xs + left → slice_get (xs ++ ys) n ≡ slice_get ys left
get_back [] ys n left e = ap (slice_get ys) (omega (arith, e))
get_back (x ∷ xs) ys zero left e = absurd (omega (arith, e))
get_back (x ∷ xs) ys (suc n) left e = get_back xs ys n left (omega (arith, e))

pub has_at : (row : List ℕ) (k to : ℕ) → slice_get row k ≡ Some to → Has row to
has_at [] k to e = absurd (cc)
has_at (x ∷ row) zero to e = inl (cc)
has_at (x ∷ row) (suc k) to e = inr (has_at row k to e)

pub at_has : (row : List ℕ) (to : ℕ) → Has row to → (k : ℕ) × (slice_get row k ≡ Some to)
at_has [] to h = absurd h
at_has (x ∷ row) to (inl s) = (0, ap (λ (y : ℕ). Some y) s)
at_has (x ∷ row) to (inr h) = let more = at_has row to h in (suc more.0, more.1)

-- ---- one edge

-- a number is known exactly, or is above a limit and below what it stands for
abbrev pub IsNear : ℕ → ℕ → ℕ → Type 0
IsNear limit size long = (size ≡ long) ⊎ ((limit ≤ size) × (size ≤ long))

pub record Picked (size : ℕ → ℕ) (ways : ℕ → List (List ℕ)) (marks : List Bool) (place : ℕ) (row : List ℕ) (number : ℕ)
    (way : List ℕ) : Type 0 where
  pub step : ℕ
  pub to : ℕ
  pub left : ℕ
  pub rest : List ℕ
  pub is : picked size place row number ≡ Some (place + step, to, left)
  pub there : slice_get row step ≡ Some to
  pub way_is : way ≡ (place + step) ∷ rest
  pub more : slice_get (ways_over ways marks to) left ≡ Some rest
  pub few : left ≤ number

pub picked_there : (size : ℕ → ℕ) (ways : ℕ → List (List ℕ)) (marks : List Bool) (limit place : ℕ) (row : List ℕ) (number : ℕ)
    (way : List ℕ) → ((to : ℕ) → IsNear limit (size to) (length (ways_over ways marks to))) → number < limit
    → slice_get (ways_by ways marks place row) number ≡ Some way → Picked size ways marks place row number way
picked_there size ways marks limit place [] number way near l e = absurd (cc)
picked_there size ways marks limit place (to ∷ row) number way near l e = at
    (λ k. picked_there size ways marks limit (suc place) row (number - size to) way near (omega (arith, l)) k)
    (nat_lt number (size to)) refl
  where
    here : List (List ℕ)
    here = map (λ (w : List ℕ). place ∷ w) (ways_over ways marks to)

    long : length here ≡ length (ways_over ways marks to)
    long = length-map (ways_over ways marks to) (λ (w : List ℕ). place ∷ w)

    within : IsNear limit (size to) (length (ways_over ways marks to)) → number < size to → number < length here
    within (inl s) k = omega (arith, s, k, long)
    within (inr s) k = let m = s.1 in omega (arith, m, k, long)

    behind : IsNear limit (size to) (length (ways_over ways marks to)) → size to ≤ number → number ≡ length here + (number - size to)
    behind (inl s) k = omega (arith, s, k, long)
    behind (inr s) k = let m = s.0 in absurd (omega (arith, m, k, l))

    at : (slice_get (ways_by ways marks (suc place) row) (number - size to) ≡ Some way
        → Picked size ways marks (suc place) row (number - size to) way) → (b : Bool) → nat_lt number (size to) ≡ b
        → Picked size ways marks place (to ∷ row) number way
    at later true k =
        let found = map_some (λ (w : List ℕ). place ∷ w) (slice_get (ways_over ways marks to) number) way
        (sym (slice_get-map (λ (w : List ℕ). place ∷ w) (ways_over ways marks to) number)
        ∙ (sym (get_front here (ways_by ways marks (suc place) row) number (within (near to) (ltb-true number (size to) k))) ∙ e)) in
        record {
          step = 0;
          to = to;
          left = number;
          rest = found.0;
          is = rw k (ap (λ (n : ℕ). Some (n, to, number)) (omega arith));
          there = refl;
          way_is = sym found.1.1 ∙ ap (λ (n : ℕ). n ∷ found.0) (omega arith);
          more = found.1.0;
          few = omega arith;
        }
    at later false k =
        let more = later (sym
        (get_back here (ways_by ways marks (suc place) row) number (number - size to)
        (behind (near to) (ltb-false number (size to) k))) ∙ e) in
        let m = more.few in
        record {
          step = suc more.step;
          to = more.to;
          left = more.left;
          rest = more.rest;
          is = rw k (more.is ∙ ap (λ (n : ℕ). Some (n, more.to, more.left)) (omega arith));
          there = more.there;
          way_is = more.way_is ∙ ap (λ (n : ℕ). n ∷ more.rest) (omega arith);
          more = more.more;
          few = omega (arith, m);
        }

near_counts : (lists : List (List ℕ)) (ways : ℕ → List (List ℕ)) (marks : List Bool) (counts : List ℕ)
    → AreCounts lists marks counts → AreWays lists marks ways → (to : ℕ)
    → IsNear 4097 (count_over marks counts to) (length (ways_over ways marks to))
near_counts lists ways marks counts right are to = near (over_alike ways marks counts to (λ e. right ways are to))
    (at (has_mark marks to) refl)
  where
    below : (n : ℕ) → AreAlike (counted n) n → counted n ≤ n
    below n (inl s) = omega (arith, s)
    below n (inr s) = many n s.1
      where
        many : (n : ℕ) → 4097 ≤ n → counted n ≤ n
        many n l = by_cases (nat_lt n 4097) n l
          where
            by_cases : (b : Bool) (n : ℕ) → 4097 ≤ n → cond b n 4097 ≤ n
            by_cases true n l = omega arith
            by_cases false n l = l

    at : (b : Bool) → has_mark marks to ≡ b → cond b 1 (get_or counts to 0) ≤ length (cond b ([] ∷ []) (ways to))
    at true e = omega arith
    at false e = subst (λ (n : ℕ). n ≤ length (ways to)) (sym (right ways are to))
        (below (length (ways to)) (count_alike (length (ways to))))

    near : AreAlike (count_over marks counts to) (length (ways_over ways marks to))
        → count_over marks counts to ≤ length (ways_over ways marks to)
        → IsNear 4097 (count_over marks counts to) (length (ways_over ways marks to))
    near (inl s) l = inl s
    near (inr s) l = inr (s.0, l)

-- ---- a way

-- where a way is, if it is the one of a number from where it starts: its edges so far, and the number of what goes on from there
pub record IsOnWay (lists : List (List ℕ)) (marks : List Bool) (from number : ℕ) (places : List ℕ) (node left : ℕ) : Type 0 where
  pub few : left < 4097
  pub on : (ways : ℕ → List (List ℕ)) → AreWays lists marks ways → (way : List ℕ) → slice_get (ways from) number ≡ Some way
      → (rest : List ℕ) × ((slice_get (ways node) left ≡ Some rest)
      × ((way ≡ places ++ rest) × (end_over lists marks from way ≡ end_over lists marks node rest)))

pub way_begins : (lists : List (List ℕ)) (marks : List Bool) (from number : ℕ) → number < 4097
    → IsOnWay lists marks from number [] from number
way_begins lists marks from number l = record { few = l; on = λ ways are way e. (way, (e, (refl, refl))) }

-- by one edge
next_of : (lists : List (List ℕ)) (marks : List Bool) (counts : List ℕ) (ways : ℕ → List (List ℕ)) (node left : ℕ) (rest : List ℕ)
    → AreCounts lists marks counts → AreWays lists marks ways → left < 4097 → slice_get (ways node) left ≡ Some rest
    → Picked (count_over marks counts) ways marks 0 (row_at lists node) left rest
next_of lists marks counts ways node left rest right are l e = picked_there (count_over marks counts) ways marks 4097 0
    (row_at lists node) left rest (near_counts lists ways marks counts right are) l
    (ap (λ (w : List (List ℕ)). slice_get w left) (sym (are node)) ∙ e)

-- the thing that is picked stands at its place
pub record IsAt (place : ℕ) (row : List ℕ) (number found to left : ℕ) : Type 0 where
  pub step : ℕ
  pub found_is : found ≡ place + step
  pub there : slice_get row step ≡ Some to
  pub few : left ≤ number

pub picked_at : (size : ℕ → ℕ) (place : ℕ) (row : List ℕ) (number found to left : ℕ)
    → picked size place row number ≡ Some (found, to, left) → IsAt place row number found to left
picked_at size place [] number found to left e = absurd (cc)
picked_at size place (x ∷ row) number found to left e = at (picked_at size (suc place) row (number - size x) found to left)
    (nat_lt number (size x)) refl e
  where
    at : (picked size (suc place) row (number - size x) ≡ Some (found, to, left)
        → IsAt (suc place) row (number - size x) found to left) → (b : Bool) → nat_lt number (size x) ≡ b
        → cond b (Some (place, x, number)) (picked size (suc place) row (number - size x)) ≡ Some (found, to, left)
        → IsAt place (x ∷ row) number found to left
    at later true k g =
        let same = same_Some (place, x, number) (found, to, left) g in
        let f : place ≡ found = ap (λ (p : ℕ × ℕ × ℕ). p.0) same in
        let t : x ≡ to = ap (λ (p : ℕ × ℕ × ℕ). p.1) same in
        let n : number ≡ left = ap (λ (p : ℕ × ℕ × ℕ). p.2) same in
        record { step = 0; found_is = omega (arith, f); there = ap (λ (y : ℕ). Some y) t; few = omega (arith, n) }
    at later false k g =
        let more = later g in
        let f = more.found_is in
        let n = more.few in
        record { step = suc more.step; found_is = omega (arith, f); there = more.there; few = omega (arith, n) }

there_at : (size : ℕ → ℕ) (row : List ℕ) (number place to left : ℕ) → picked size 0 row number ≡ Some (place, to, left)
    → slice_get row place ≡ Some to
there_at size row number place to left e =
    let at = picked_at size 0 row number place to left e in
    let is = at.found_is in
    subst (λ (n : ℕ). slice_get row n ≡ Some to) (omega (arith, is)) at.there

record Step (ways : ℕ → List (List ℕ)) (marks : List Bool) (place to left : ℕ) (rest : List ℕ) : Type 0 where
  pub after : List ℕ
  pub is : rest ≡ place ∷ after
  pub more : slice_get (ways_over ways marks to) left ≡ Some after

step_of : (lists : List (List ℕ)) (marks : List Bool) (counts : List ℕ) (ways : ℕ → List (List ℕ)) (node number place to left : ℕ)
    (rest : List ℕ) → AreCounts lists marks counts → AreWays lists marks ways → number < 4097
    → picked (count_over marks counts) 0 (row_at lists node) number ≡ Some (place, to, left)
    → slice_get (ways node) number ≡ Some rest → Step ways marks place to left rest
step_of lists marks counts ways node number place to left rest right are l is e =
    let p = next_of lists marks counts ways node number rest right are l e in
    let same = same_Some (0 + p.step, p.to, p.left) (place, to, left) (sym p.is ∙ is) in
    let place_sum : 0 + p.step ≡ place = ap (λ (t : ℕ × ℕ × ℕ). t.0) same in
    let place_same : p.step ≡ place = omega (arith, place_sum) in
    let to_same : p.to ≡ to = ap (λ (t : ℕ × ℕ × ℕ). t.1) same in
    let left_same : p.left ≡ left = ap (λ (t : ℕ × ℕ × ℕ). t.2) same in
    record {
      after = p.rest;
      is = p.way_is ∙ ap (λ (n : ℕ). n ∷ p.rest) place_sum;
      more = subst (λ (n : ℕ). slice_get (ways_over ways marks to) n ≡ Some p.rest) left_same
          (subst (λ (n : ℕ). slice_get (ways_over ways marks n) p.left ≡ Some p.rest) to_same p.more);
    }

-- no edge has the number: there is no such way
pub no_way : (lists : List (List ℕ)) (marks : List Bool) (counts : List ℕ) (from number : ℕ) (places : List ℕ) (node left to : ℕ)
    (row : List ℕ) → AreCounts lists marks counts → IsOnWay lists marks from number places node left → row ≡ row_at lists node
    → None ≡ picked (count_over marks counts) 0 row left → IsWayOf lists marks from number places to
no_way lists marks counts from number places node left to row right on is none ways are way e =
    let here = on.on ways are way e in
    let p = next_of lists marks counts ways node left here.0 right are on.few here.1.0 in
    let bad = none ∙ (ap (λ (r : List ℕ). picked (count_over marks counts) 0 r left) is ∙ p.is) in
    absurd (cc)

over_edge : (lists : List (List ℕ)) (marks : List Bool) (node place to : ℕ) (after : List ℕ) (b : Bool)
    → slice_get (row_at lists node) place ≡ Some to → has_mark marks to ≡ b → end_over lists marks node (place ∷ after) ≡ cond b
    (only_last after to) (end_over lists marks to after)
over_edge lists marks node place to after b there e =
    ap (λ (o : Option ℕ). option_and_then (λ (t : ℕ). cond (has_mark marks t) (only_last after t) (end_over lists marks t after)) o) there
    ∙ ap (λ (x : Bool). cond x (only_last after to) (end_over lists marks to after)) e

append_one : (xs : List ℕ) (x : ℕ) (ys : List ℕ) → xs ++ x ∷ ys ≡ (xs ++ x ∷ []) ++ ys
append_one [] x ys = refl
append_one (y ∷ xs) x ys = ap (λ (l : List ℕ). y ∷ l) (append_one xs x ys)

last_one : (n : ℕ) (after : List ℕ) → slice_get {X = List ℕ} ([] ∷ []) n ≡ Some after → after ≡ []
last_one zero after e = cc
last_one (suc n) after e = absurd (cc)

-- the edge leads to a cut
pub way_ends : (lists : List (List ℕ)) (marks : List Bool) (counts : List ℕ) (from number : ℕ) (places more : List ℕ)
    (node left place to rest : ℕ) (row : List ℕ) → AreCounts lists marks counts → IsOnWay lists marks from number places node left
    → row ≡ row_at lists node → Some (place, to, rest) ≡ picked (count_over marks counts) 0 row left → has_mark marks to ≡ true
    → more ≡ places ++ place ∷ [] → IsWayOf lists marks from number more to
way_ends lists marks counts from number places more node left place to rest row right on row_is is marked made ways are way e =
    let found : picked (count_over marks counts) 0 (row_at lists node) left ≡ Some (place, to, rest) = ap
    (λ (r : List ℕ). picked (count_over marks counts) 0 r left) (sym row_is) ∙ sym is in
    let here = on.on ways are way e in
    let s = step_of lists marks counts ways node left place to rest here.0 right are on.few found here.1.0 in
    let none = last_one rest s.after (ap (λ (b : Bool). slice_get (cond b ([] ∷ []) (ways to)) rest) (sym marked) ∙ s.more) in
    let whole : here.0 ≡ place ∷ [] = s.is ∙ ap (λ (r : List ℕ). place ∷ r) none in
    let is_all : way ≡ more = here.1.1.0 ∙ (ap (λ (r : List ℕ). places ++ r) whole ∙ sym made) in (
      sym is_all,
      ap (end_over lists marks from) (sym is_all)
          ∙ (here.1.1.1 ∙ (ap (end_over lists marks node) whole
          ∙ over_edge lists marks node place to [] true
          (there_at (count_over marks counts) (row_at lists node) left place to rest found) marked)),
    )

-- the edge leads to another node
pub way_goes_on : (lists : List (List ℕ)) (marks : List Bool) (counts : List ℕ) (from number : ℕ) (places more : List ℕ)
    (node left place to rest : ℕ) (row : List ℕ) → AreCounts lists marks counts → IsOnWay lists marks from number places node left
    → row ≡ row_at lists node → Some (place, to, rest) ≡ picked (count_over marks counts) 0 row left → has_mark marks to ≡ false
    → more ≡ places ++ place ∷ [] → IsOnWay lists marks from number more to rest
way_goes_on lists marks counts from number places more node left place to rest row right on row_is is plain made =
    let found : picked (count_over marks counts) 0 (row_at lists node) left ≡ Some (place, to, rest) = ap
    (λ (r : List ℕ). picked (count_over marks counts) 0 r left) (sym row_is) ∙ sym is in
    let few = (picked_at (count_over marks counts) 0 (row_at lists node) left place to rest found).few in
    let low = on.few in
    record {
      few = omega (arith, few, low);
      on = λ ways are way e.
          let here = on.on ways are way e in
          let s = step_of lists marks counts ways node left place to rest here.0 right are on.few found here.1.0 in (
            s.after,
            (
              ap (λ (b : Bool). slice_get (cond b ([] ∷ []) (ways to)) rest) (sym plain)
                  ∙ s.more,
              (
                here.1.1.0
                    ∙ (ap (λ (r : List ℕ). places ++ r) s.is
                    ∙ (append_one places place s.after ∙ ap (λ (r : List ℕ). r ++ s.after) (sym made))),
                here.1.1.1
                    ∙ (ap (end_over lists marks node) s.is ∙ over_edge lists marks node place to s.after false
                    (there_at (count_over marks counts) (row_at lists node) left place to rest found) plain),
              ),
            ),
          );
    }

-- and the rank falls
pub way_falls : (lists : List (List ℕ)) (marks : List Bool) (counts ranks : List ℕ) (node left place to rest : ℕ) (row : List ℕ)
    → Fall (map (inner_row marks) lists) ranks → row ≡ row_at lists node → Some (place, to, rest) ≡ picked (count_over marks counts)
    0 row left → has_mark marks to ≡ false → get_or ranks to 0 < get_or ranks node 0
way_falls lists marks counts ranks node left place to rest row fall row_is is plain =
    let found : picked (count_over marks counts) 0 (row_at lists node) left ≡ Some (place, to, rest) = ap
    (λ (r : List ℕ). picked (count_over marks counts) 0 r left) (sym row_is) ∙ sym is in
    fall node to (inner_edge lists marks node to
    (has_at (row_at lists node) place to (there_at (count_over marks counts) (row_at lists node) left place to rest found)) plain)
