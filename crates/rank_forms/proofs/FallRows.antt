-- Each tie that is found stands with the row that says it.
use Rattle.std.proofs.Common.{◌≡◌, ℕ, zero, suc, Bool, true, false, cond, List, [], ◌∷◌, ◌++◌, ℤ, pos, ◌+ℤ◌, ◌-ℤ◌, Option, Some}
use Rattle.std.proofs.Common.{None, subst, arith, refl, sym, IsPermutation}
use Rattle.std.specs.Prelude.{nat_lt, slice_get}
use Rattle.std.specs.List.{All}
use Rattle.std.proofs.lemmas.Int.{ints}
use Rattle.std.proofs.lemmas.List.Sorted.{All-permutation}
use Rattle.lin_core.specs.declared.rows.WRow.{WRow}
use Rattle.rank_forms.specs.declared.rule_links.links.Link.{Link}
use Rattle.rank_forms.specs.declared.rule_links.links.Tie.{Tie}
use Rattle.rank_forms.specs.rule_links.Falls.{IsFallTie}
use Rattle.rank_forms.specs.rule_links.inner.Rising.{fall_links, fall_row_ties, fall_ties_from, leading, led, order_in, rising_tie}
use Rattle.rank_forms.specs.rule_links.Ties.{has_none, is_inequality}
use Rattle.rank_forms.proofs.Fallen.{there_says, again_says, kind_is, none_is, order_terms}
use Rattle.rank_forms.proofs.Rests.{IsRest, rest_all, rest_first, rest_more}

-- what holds of each tie
abbrev pub Each : (Tie → Type 0) → List Tie → Type 0
Each P [] = Unit {0}
Each P (tie ∷ rest) = P tie × Each P rest

pub each_both : (P : Tie → Type 0) (a b : List Tie) → Each P a → Each P b → Each P (a ++ b)
each_both P [] b h k = k
each_both P (tie ∷ rest) b h k = (h.0, each_both P rest b h.1 k)

pub each_chosen : (P : Tie → Type 0) (test : Bool) (a b : List Tie) → (test ≡ true → Each P a) → (test ≡ false → Each P b)
    → Each P (cond test a b)
each_chosen P true a b h k = h refl
each_chosen P false a b h k = k refl

pub each_all : (P : Tie → Type 0) (ties : List Tie) → Each P ties → All P ties
each_all P [] h i d low = absurd (omega (arith, low))
each_all P (tie ∷ rest) h zero d low = h.0
each_all P (tie ∷ rest) h (suc i) d low = each_all P rest h.1 i d (omega (arith, low))

pub each_rising : (P : Tie → Type 0) (from to : ℕ) (by : ℤ) (row : ℕ) (back : Bool)
    → P (record { link = record { from = from; to = to; by = by }; row = row; back = back; beside = None })
    → Each P (rising_tie from to by row back)
each_rising P from to by row back h = each_chosen P (nat_lt from to)
    (record { link = record { from = from; to = to; by = by }; row = row; back = back; beside = None } ∷ []) [] (λ e. (h, tt)) (λ e. tt)

links_in : (negative : Bool) (rows : List WRow) (n : ℕ) (row : WRow) (order : Option (ℕ × ℕ)) → slice_get rows n ≡ Some row
    → order_in row.terms ≡ order → row.weights ≡ []
    → Each (IsFallTie negative rows) (fall_links negative (is_inequality row.kind) order row.constant n)
links_in negative rows n row None at e weights = tt
links_in negative rows n row (Some order) at e weights =
    let terms = order_terms row.terms order.0 order.1 e in
    let there : Link = record { from = leading negative order; to = led negative order; by = pos 0 -ℤ row.constant } in
    let again : Link = record { from = led negative order; to = leading negative order; by = row.constant } in
    each_both (IsFallTie negative rows) (rising_tie (leading negative order) (led negative order) (pos 0 -ℤ row.constant) n false)
    (cond (is_inequality row.kind) [] (rising_tie (led negative order) (leading negative order) row.constant n true))
    (each_rising (IsFallTie negative rows) (leading negative order) (led negative order) (pos 0 -ℤ row.constant) n false
    (record {
      row = row;
      at = at;
      says = there_says negative row there order terms refl refl (opposite row.constant) weights;
      alone = refl;
    }))
    (each_chosen (IsFallTie negative rows) (is_inequality row.kind) []
    (rising_tie (led negative order) (leading negative order) row.constant n true) (λ t. tt)
    (λ t. each_rising (IsFallTie negative rows) (led negative order) (leading negative order) row.constant n true
    (record {
      row = row;
      at = at;
      says = again_says negative row again order (kind_is row.kind t) terms refl refl refl
          weights;
      alone = refl;
    })))
  where
    opposite : (a : ℤ) → a +ℤ (pos 0 -ℤ a) ≡ pos 0
    opposite a = omega (arith, ints)

row_in : (negative : Bool) (rows : List WRow) (n : ℕ) (row : WRow) → slice_get rows n ≡ Some row
    → Each (IsFallTie negative rows) (fall_row_ties negative n row)
row_in negative rows n row at = each_chosen (IsFallTie negative rows) (has_none row.weights)
    (fall_links negative (is_inequality row.kind) (order_in row.terms) row.constant n) []
    (λ e. links_in negative rows n row (order_in row.terms) at refl (none_is row.weights e)) (λ e. tt)

from_in : (negative : Bool) (all : List WRow) (n : ℕ) (rows : List WRow) → IsRest all n rows
    → Each (IsFallTie negative all) (fall_ties_from negative n rows)
from_in negative all n [] h = tt
from_in negative all n (row ∷ rest) h = each_both (IsFallTie negative all) (fall_row_ties negative n row)
    (fall_ties_from negative (suc n) rest) (row_in negative all n row (rest_first all n row rest h))
    (from_in negative all (suc n) rest (rest_more all n row rest h))

pub falls_in_rows : (negative : Bool) (rows : List WRow) (ties sorted : List Tie) → IsPermutation ties sorted
    → ties ≡ fall_ties_from negative 0 rows → All (IsFallTie negative rows) sorted
falls_in_rows negative rows ties sorted moves e = All-permutation (IsFallTie negative rows) ties sorted moves
    (subst (All (IsFallTie negative rows)) (sym e)
    (each_all (IsFallTie negative rows) (fall_ties_from negative 0 rows) (from_in negative rows 0 rows (rest_all rows))))
