-- The most steps of nodes, found again and again, are right.
use Rattle.std.proofs.Common.{◌≡◌, ◌⊎◌, inl, inr, ℕ, zero, suc, ◌+◌, ◌<◌, ◌≤◌, Bool, true, false, cond, List, [], ◌∷◌, length, map}
use Rattle.std.proofs.Common.{get_or, Option, Some, None, subst, ap, arith, refl, ◌∙◌, sym}
use Rattle.std.specs.Prelude.{nat_lt, slice_get}
use Rattle.std.specs.Option.{option_map_or}
use Rattle.std.proofs.lemmas.Bool.{ltb-true, ltb-false}
use Rattle.number_graphs.specs.Lists.{Has, row_at, Edge, Fall}
use Rattle.term_graph.specs.declared.links.Link.{Link}
use Rattle.path_rules.specs.Successors.{has_mark, inner_row, most_of}
use Rattle.path_rules.proofs.Counted.{inner_edge, most_is}
use Rattle.path_rules.proofs.Picking.{has_at}
use Rattle.bound_check.specs.Bounds.{step_of_link}
use Rattle.bound_check.specs.inner.Walking.{greater, onward, over, best_on, links_of, steps_here, most_of_node, next_most, Ends, steps_on}
use Rattle.bound_check.specs.inner.Walking.{HasSteps, IsRight, AreRight}

-- ---- the greatest of a row

pub greater_left : (a b : ℕ) → a ≤ greater a b
greater_left a b = at (nat_lt a b) refl
  where
    at : (t : Bool) → nat_lt a b ≡ t → a ≤ cond t b a
    at true e = let l = ltb-true a b e in omega (arith, l)
    at false e = omega arith

pub greater_right : (a b : ℕ) → b ≤ greater a b
greater_right a b = at (nat_lt a b) refl
  where
    at : (t : Bool) → nat_lt a b ≡ t → b ≤ cond t b a
    at true e = omega arith
    at false e = let l = ltb-false a b e in omega (arith, l)

pub greater_is : (a b : ℕ) → (greater a b ≡ a) ⊎ (greater a b ≡ b)
greater_is a b = at (nat_lt a b)
  where
    at : (t : Bool) → (cond t b a ≡ a) ⊎ (cond t b a ≡ b)
    at true = inr refl
    at false = inl refl

pub le_both : (a b c : ℕ) → a ≤ b → b ≤ c → a ≤ c
le_both a b c l m = omega (arith, l, m)

module _ (marks : List Bool) (most : List ℕ) (own : List Link) where
  abbrev steps_at : ℕ → ℕ
  steps_at place = step_of_link (slice_get own place)

  best_grows : (place best : ℕ) (row : List ℕ) → best ≤ best_on marks most own place best row
  best_grows place best [] = omega arith
  best_grows place best (to ∷ row) =
      let here = over marks most to (steps_at place) in
      le_both best (greater best here) (best_on marks most own (suc place) (greater best here) row) (greater_left best here)
      (best_grows (suc place) (greater best here) row)

  best_has : (place best : ℕ) (row : List ℕ) (n to : ℕ) → slice_get row n ≡ Some to
      → over marks most to (steps_at (place + n)) ≤ best_on marks most own place best row
  best_has place best [] n to e = absurd (cc)
  best_has place best (x ∷ row) zero to e =
      let same : x ≡ to = cc in
      let here = over marks most x (steps_at place) in
      let there = over marks most to (steps_at (place + 0)) in
      let is : there ≡ here = ap (λ (y : ℕ). over marks most y (steps_at (place + 0))) (sym same)
      ∙ ap (λ (p : ℕ). over marks most x (steps_at p)) (omega arith) in
      let grown = best_grows (suc place) (greater best here) row in
      let right = greater_right best here in
      subst (λ (y : ℕ). y ≤ best_on marks most own (suc place) (greater best here) row) (sym is)
      (le_both here (greater best here) (best_on marks most own (suc place) (greater best here) row) right grown)
  best_has place best (x ∷ row) (suc n) to e =
      let here = over marks most x (steps_at place) in
      subst (λ (p : ℕ). over marks most to (steps_at p) ≤ best_on marks most own (suc place) (greater best here) row) (omega arith)
      (best_has (suc place) (greater best here) row n to e)

  -- where the greatest stands
  record Stands (place : ℕ) (row : List ℕ) (best : ℕ) : Type 0 where
    pub n : ℕ
    pub to : ℕ
    pub is : slice_get row n ≡ Some to
    pub best_is : best ≡ over marks most to (steps_at (place + n))

  best_is : (place best : ℕ) (row : List ℕ)
      → (best_on marks most own place best row ≡ best) ⊎ Stands place row (best_on marks most own place best row)
  best_is place best [] = inl refl
  best_is place best (x ∷ row) =
      let here = over marks most x (steps_at place) in
      elim (best_is (suc place) (greater best here) row) as (λ o. (best_on marks most own (suc place) (greater best here) row ≡ best)
      ⊎ Stands place (x ∷ row) (best_on marks most own (suc place) (greater best here) row)) [
        | inl s ↦ elim (greater_is best here) as (λ o. (best_on marks most own (suc place) (greater best here) row ≡ best)
            ⊎ Stands place (x ∷ row) (best_on marks most own (suc place) (greater best here) row)) [
              | inl t ↦ inl (s ∙ t)
              | inr t ↦ inr (record {
                n = 0;
                to = x;
                is = refl;
                best_is = s ∙ t ∙ ap (λ (p : ℕ). over marks most x (steps_at p)) (omega arith);
              })
            ]
        | inr w ↦ inr (record {
          n = suc w.n;
          to = w.to;
          is = w.is;
          best_is = w.best_is ∙ ap (λ (p : ℕ). over marks most w.to (steps_at p)) (omega arith);
        })
      ]

-- ---- one round

ends_past : (ends : List Bool) (k : ℕ) → length ends ≤ k → get_or ends k false ≡ false
ends_past [] k l = refl
ends_past (x ∷ ends) zero l = absurd (omega (arith, l))
ends_past (x ∷ ends) (suc k) l = ends_past ends k (omega (arith, l))

next_at : (marks ends : List Bool) (links : List (List Link)) (most : List ℕ) (node : ℕ) (lists : List (List ℕ)) (n : ℕ)
    → ((k : ℕ) → length lists ≤ k → get_or ends (node + k) false ≡ false)
    → get_or (next_most marks ends links most node lists) n 0 ≡ most_of_node marks ends links most (node + n) (row_at lists n)
next_at marks ends links most node [] n past = ap (λ (b : Bool). cond b 1 0) (sym (past n (omega arith)))
next_at marks ends links most node (row ∷ lists) zero past = ap (λ (k : ℕ). most_of_node marks ends links most k row) (omega arith)
next_at marks ends links most node (row ∷ lists) (suc n) past =
    next_at marks ends links most (suc node) lists n
    (λ k l. ap (λ (m : ℕ). get_or ends m false) (omega arith) ∙ past (suc k) (omega (arith, l)))
    ∙ ap (λ (k : ℕ). most_of_node marks ends links most k (row_at lists n)) (omega arith)

-- the steps of a way over its first edge
steps_over : (lists : List (List ℕ)) (links : List (List Link)) (node place to : ℕ) (places : List ℕ)
    → slice_get (row_at lists node) place ≡ Some to
    → steps_on lists links node (place ∷ places) ≡ step_of_link (slice_get (links_of links node) place) + steps_on lists links to places
steps_over lists links node place to places e = ap (λ (o : Option ℕ). step_of_link (slice_get (links_of links node) place)
    + option_map_or (λ (t : ℕ). steps_on lists links t places) o 0) e

none_more : (n : ℕ) → 0 + n ≡ n
none_more n = omega arith

onward_one : (step : ℕ) → onward 1 step ≡ suc step
onward_one step = omega arith

-- one more than no step, or no way
abbrev here_of : Bool → ℕ
here_of b = cond b 1 0

onward_grows : (rest step more : ℕ) → suc more ≤ rest → suc (step + more) ≤ onward rest step
onward_grows zero step more l = absurd (omega (arith, l))
onward_grows (suc rest) step more l = omega (arith, l)

record Onward (rest step steps : ℕ) : Type 0 where
  pub more : ℕ
  pub rest_is : rest ≡ suc more
  pub steps_are : step + more ≡ steps

onward_is : (rest step steps : ℕ) → onward rest step ≡ suc steps → Onward rest step steps
onward_is zero step steps e = absurd (omega (arith, e))
onward_is (suc rest) step steps e = record { more = rest; rest_is = refl; steps_are = omega (arith, e) }

module _ (links : List (List Link)) (lists : List (List ℕ)) (marks ends : List Bool) (most : List ℕ) (node : ℕ)
    (right : (to : ℕ) → Has (row_at lists node) to → has_mark marks to ≡ false → IsRight links lists marks ends most to) where
  abbrev row : List ℕ
  row = row_at lists node

  abbrev own : List Link
  own = links_of links node

  abbrev best : ℕ
  best = best_on marks most own 0 (steps_here ends node) row

  abbrev step_over : ℕ → ℕ
  step_over place = step_of_link (slice_get own place)

  over_marked : (to step : ℕ) → has_mark marks to ≡ true → over marks most to step ≡ suc step
  over_marked to step e = ap (λ (b : Bool). cond b (onward 1 step) (onward (get_or most to 0) step)) e ∙ onward_one step

  over_inner : (to step : ℕ) → has_mark marks to ≡ false → over marks most to step ≡ onward (get_or most to 0) step
  over_inner to step e = ap (λ (b : Bool). cond b (onward 1 step) (onward (get_or most to 0) step)) e

  best_there : (place to : ℕ) → slice_get row place ≡ Some to → over marks most to (step_over place) ≤ best
  best_there place to e = subst (λ (p : ℕ). over marks most to (step_of_link (slice_get own p)) ≤ best) (none_more place)
      (best_has marks most own 0 (steps_here ends node) row place to e)

  last_there : (place to : ℕ) → slice_get row place ≡ Some to → has_mark marks to ≡ true
      → suc (steps_on lists links node (place ∷ [])) ≤ best
  last_there place to e m =
      let has = best_there place to e in
      let is = over_marked to (step_over place) m in
      let steps = steps_over lists links node place to [] e in
      omega (arith, has, is, steps)

  inner_there : (place to : ℕ) (places : List ℕ) → slice_get row place ≡ Some to → has_mark marks to ≡ false
      → Ends lists marks ends to places → suc (steps_on lists links node (place ∷ places)) ≤ best
  inner_there place to places e m way =
      let has = best_there place to e in
      let is = over_inner to (step_over place) m in
      let steps = steps_over lists links node place to places e in
      let more = (right to (has_at row place to e) m).enough places way in
      let grows = onward_grows (get_or most to 0) (step_over place) (steps_on lists links to places) more in
      omega (arith, has, is, steps, grows)

  here_there : get_or ends node false ≡ true → suc (steps_on lists links node []) ≤ best
  here_there e =
      let grown = best_grows marks most own 0 (steps_here ends node) row in
      let is : steps_here ends node ≡ here_of true = ap here_of e in
      omega (arith, grown, is)

  best_enough : (places : List ℕ) → Ends lists marks ends node places → suc (steps_on lists links node places) ≤ best
  best_enough [] way = here_there way
  best_enough (place ∷ places) way = by way.0 way.1.0 way.1.1
    where
      by : (to : ℕ) → slice_get row place ≡ Some to
          → ((has_mark marks to ≡ true) × (places ≡ [])) ⊎ ((has_mark marks to ≡ false) × Ends lists marks ends to places)
          → suc (steps_on lists links node (place ∷ places)) ≤ best
      by to e (inl k) = subst (λ (ps : List ℕ). suc (steps_on lists links node (place ∷ ps)) ≤ best) (sym k.1)
          (last_there place to e k.0)
      by to e (inr k) = inner_there place to places e k.0 k.1

  by_last : (place to steps : ℕ) → slice_get row place ≡ Some to → has_mark marks to ≡ true → best ≡ over marks most to (step_over place)
      → best ≡ suc steps → HasSteps lists marks ends links node steps
  by_last place to steps e m is b =
      let one = over_marked to (step_over place) m in
      let so = steps_over lists links node place to [] e in
      record {
        places = place ∷ [];
        way = (to, (e, inl (m, refl)));
        are = omega (arith, one, so, is, b);
      }

  by_inner : (place to steps : ℕ) → slice_get row place ≡ Some to → has_mark marks to ≡ false
      → best ≡ over marks most to (step_over place) → best ≡ suc steps → HasSteps lists marks ends links node steps
  by_inner place to steps e m is b =
      let on = onward_is (get_or most to 0) (step_over place) steps (sym (over_inner to (step_over place) m) ∙ sym is ∙ b) in
      let more = (right to (has_at row place to e) m).reached on.more on.rest_is in
      let so = steps_over lists links node place to more.places e in
      let there = more.are in
      let sum = on.steps_are in
      record {
        places = place ∷ more.places;
        way = (to, (e, inr (m, more.way)));
        are = omega (arith, so, there, sum);
      }

  by_edge : (place to steps : ℕ) → slice_get row place ≡ Some to → best ≡ over marks most to (step_over place)
      → best ≡ suc steps → HasSteps lists marks ends links node steps
  by_edge place to steps e is b = at (has_mark marks to) refl
    where
      at : (t : Bool) → has_mark marks to ≡ t → HasSteps lists marks ends links node steps
      at true m = by_last place to steps e m is b
      at false m = by_inner place to steps e m is b

  by_none : (steps : ℕ) → best ≡ steps_here ends node → best ≡ suc steps → HasSteps lists marks ends links node steps
  by_none steps is b = at (get_or ends node false) refl
    where
      at : (t : Bool) → get_or ends node false ≡ t → HasSteps lists marks ends links node steps
      at true e =
          let one : steps_here ends node ≡ here_of true = ap here_of e in
          record { places = []; way = e; are = omega (arith, one, is, b) }
      at false e = let none : steps_here ends node ≡ here_of false = ap here_of e in absurd (omega (arith, none, is, b))

  best_reached : (steps : ℕ) → best ≡ suc steps → HasSteps lists marks ends links node steps
  best_reached steps b = elim (best_is marks most own 0 (steps_here ends node) row) as (λ o. HasSteps lists marks ends links node steps) [
    | inl s ↦ by_none steps s b
    | inr w ↦ by_edge w.n w.to steps w.is
        (w.best_is ∙ ap (λ (p : ℕ). over marks most w.to (step_of_link (slice_get own p))) (none_more w.n)) b
  ]

-- ---- rounds

-- the numbers of the nodes of ranks below one are right
abbrev pub AreRightBelow : List (List Link) → List (List ℕ) → List Bool → List Bool → List ℕ → List ℕ → ℕ → Type 0
AreRightBelow links lists marks ends ranks most rank = (node : ℕ) → get_or ranks node 0 < rank → IsRight links lists marks ends most node

pub no_round : (links : List (List Link)) (lists : List (List ℕ)) (marks ends : List Bool) (ranks most : List ℕ)
    → AreRightBelow links lists marks ends ranks most 0
no_round links lists marks ends ranks most node l = absurd (omega (arith, l))

pub one_round : (links : List (List Link)) (lists : List (List ℕ)) (marks ends : List Bool) (ranks most next : List ℕ) (rank : ℕ)
    → length ends ≡ length lists → Fall (map (inner_row marks) lists) ranks → next ≡ next_most marks ends links most 0 lists
    → AreRightBelow links lists marks ends ranks most rank → AreRightBelow links lists marks ends ranks next (rank + 1)
one_round links lists marks ends ranks most next rank long fall is right node l =
    let lower : (to : ℕ) → Has (row_at lists node) to → has_mark marks to ≡ false → IsRight links lists marks ends most to
    = λ to h m. right to (let low = fall node to (inner_edge lists marks node to h m) in omega (arith, low, l)) in
    let made : get_or next node 0 ≡ best_on marks most (links_of links node) 0 (steps_here ends node) (row_at lists node)
    = ap (λ (n : List ℕ). get_or n node 0) is
    ∙ (next_at marks ends links most 0 lists node
    (λ k m. ap (λ (j : ℕ). get_or ends j false) (none_more k) ∙ ends_past ends k (omega (arith, long, m)))
    ∙ ap (λ (j : ℕ). most_of_node marks ends links most j (row_at lists node)) (none_more node)) in
    record {
      enough = λ places way. subst (λ (n : ℕ). suc (steps_on lists links node places) ≤ n) (sym made)
          (best_enough links lists marks ends most node lower places way);
      reached = λ steps e. best_reached links lists marks ends most node lower steps (sym made ∙ e);
    }

rounds : (links : List (List Link)) (lists : List (List ℕ)) (marks ends : List Bool) (ranks most : List ℕ)
    → length ends ≡ length lists → Fall (map (inner_row marks) lists) ranks → most ≡ next_most marks ends links most 0 lists
    → (rank : ℕ) → AreRightBelow links lists marks ends ranks most rank
rounds links lists marks ends ranks most long fall is zero = no_round links lists marks ends ranks most
rounds links lists marks ends ranks most long fall is (suc rank) =
    subst (λ (n : ℕ). AreRightBelow links lists marks ends ranks most n) (omega arith)
    (one_round links lists marks ends ranks most most rank long fall is (rounds links lists marks ends ranks most long fall is rank))

-- numbers that follow from themselves
pub settled : (links : List (List Link)) (lists : List (List ℕ)) (marks ends : List Bool) (ranks most next : List ℕ)
    → length ends ≡ length lists → Fall (map (inner_row marks) lists) ranks → next ≡ next_most marks ends links most 0 lists
    → next ≡ most → AreRight links lists marks ends most
settled links lists marks ends ranks most next long fall made same node =
    rounds links lists marks ends ranks most long fall (sym same ∙ made) (suc (get_or ranks node 0)) node (omega arith)

-- rounds enough
pub enough : (links : List (List Link)) (lists : List (List ℕ)) (marks ends : List Bool) (ranks most : List ℕ) (rank : ℕ)
    → most_of 0 ranks + 1 ≤ rank → AreRightBelow links lists marks ends ranks most rank → AreRight links lists marks ends most
enough links lists marks ends ranks most rank l right node = let k = most_is 0 ranks node in right node (omega (arith, k, l))
