-- The ties that are found are the size links of the rows.
use Rattle.std.proofs.Common.{◌≡◌, ◌⊎◌, inl, inr, ℕ, zero, suc, ◌+◌, ◌<◌, ◌≤◌, Bool, true, false, cond, eqb, List, [], ◌∷◌, ◌++◌}
use Rattle.std.proofs.Common.{length, get_or, drop, ℤ, pos, negsuc, ◌+ℤ◌, ◌-ℤ◌, ◌≤ℤ◌, Option, Some, None, subst, ap, arith, refl}
use Rattle.std.proofs.Common.{◌∙◌, sym, IsPermutation}
use Rattle.std.specs.Prelude.{◌&&◌, ◌||◌, slice_get, int_lt}
use Rattle.std.specs.Ordering.{int_eq}
use Rattle.std.proofs.lemmas.Bool.{eqb-true, eq-eqb, and_parts, cond-true, cond-false, and_from}
use Rattle.std.proofs.lemmas.Bool.Decides.{Decides-int_eq}
use Rattle.std.proofs.lemmas.Int.{ints}
use Rattle.std.proofs.lemmas.List.{at_drop_more}
use Rattle.std.proofs.lemmas.List.Sorted.{IsPermutation-sym}
use Rattle.std.proofs.lemmas.Option.{get_or_from_slice_get, slice_get_within, same_Some, none-some}
use Rattle.std.proofs.lemmas.Map.Keys.{any_passes_from_place}
use Rattle.list_views.proofs.Truths.{or_either, or_second}
use Rattle.list_views.proofs.Quantified.{all_at}
use Rattle.lin_core.specs.declared.rows.RowKind.{RowKind}
use Rattle.lin_core.specs.declared.rows.RowKind.TheVariants.{AtLeastZero, IsZero}
use Rattle.lin_core.specs.declared.rows.WRow.{WRow}
use Rattle.lin_core.specs.Rows.{coefficient_of, RiseFrom}
use Rattle.lin_core.specs.Weights.{AreRows, IsRow}
use Rattle.rank_forms.specs.declared.rule_links.links.Link.{Link}
use Rattle.rank_forms.specs.declared.rule_links.links.Tie.{Tie}
use Rattle.rank_forms.specs.rule_links.SizeLinks.{GivesSize, IsSizeLink, weighed_once}
use Rattle.rank_forms.specs.rule_links.Falls.{AreRising, has_zero, is_zero}
use Rattle.rank_forms.specs.rule_links.inner.Rising.{back_ties, gives, given_by, given_ties, is_part, order_in}
use Rattle.rank_forms.specs.rule_links.inner.Rising.{part_ties, rising_tie, size_row_ties, size_ties_from}
use Rattle.rank_forms.specs.rule_links.Falls.{size_constant}
use Rattle.rank_forms.specs.rule_links.Ties.{InTies, is_bound, is_inequality}
use Rattle.rank_forms.specs.rule_links.Links.{HasBound, IsAmong}
use Rattle.rank_forms.proofs.Tied.{bound_is, bound_told}
use Rattle.rank_forms.proofs.Fallen.{order_terms}
use Rattle.rank_forms.proofs.Listed.{in_left, in_right, Rises, rise_both, one_rises, chosen_rise, rising_in, rising_is, in_cases}
use Rattle.rank_forms.proofs.Listed.{chosen_is, other_is, moved_in, moved_rise}

-- all of them lead to greater numbers
part_rise : (u : ℕ) (k : ℤ) (row : ℕ) (terms : List (ℕ × ℤ)) → Rises (part_ties u k row terms)
part_rise u k row [] = tt
part_rise u k row (term ∷ rest) = rise_both _ (part_ties u k row rest)
    (chosen_rise (is_part term.1) (rising_tie u term.0 k row false) [] (one_rises u term.0 k row false) tt) (part_rise u k row rest)

given_rise : (rows : List WRow) (k : ℤ) (row : ℕ) (all terms : List (ℕ × ℤ)) → Rises (given_ties rows k row all terms)
given_rise rows k row all [] = tt
given_rise rows k row all (term ∷ rest) = rise_both (given_by rows term k row all) (given_ties rows k row all rest)
    (chosen_rise (int_eq term.1 (pos 1) && gives rows term.0 all) (part_ties term.0 k row all) [] (part_rise term.0 k row all) tt)
    (given_rise rows k row all rest)

back_rise : (order : Option (ℕ × ℕ)) (k : ℤ) (row : ℕ) → Rises (back_ties order k row)
back_rise None k row = tt
back_rise (Some order) k row = one_rises order.1 order.0 k row true

row_rise : (rows : List WRow) (n : ℕ) (row : WRow) → Rises (size_row_ties rows n row)
row_rise rows n row = chosen_rise (is_inequality row.kind) [] _ tt
    (rise_both (given_ties rows (pos 0 -ℤ size_constant row) n row.terms row.terms)
    (back_ties (order_in row.terms) (size_constant row) n) (given_rise rows (pos 0 -ℤ size_constant row) n row.terms row.terms)
    (back_rise (order_in row.terms) (size_constant row) n))

from_rise : (rows : List WRow) (n : ℕ) (list : List WRow) → Rises (size_ties_from rows n list)
from_rise rows n [] = tt
from_rise rows n (row ∷ rest) = rise_both (size_row_ties rows n row) (size_ties_from rows (suc n) rest) (row_rise rows n row)
    (from_rise rows (suc n) rest)

pub sizes_rise : (rows : List WRow) (ties sorted : List Tie) → IsPermutation ties sorted → ties ≡ size_ties_from rows 0 rows
    → AreRising sorted
sizes_rise rows ties sorted moves e = moved_rise ties sorted moves (subst Rises (sym e) (from_rise rows 0 rows))

-- where variables rise, a coefficient that isn't 0 stands beside its variable
low_here : (here : Bool) (y x low : ℕ) (k rest : ℤ) → eqb y x ≡ here → low ≤ y → x < low → rest ≡ pos 0
    → cond here k (pos 0) +ℤ rest ≡ pos 0
low_here true y x low k rest e l h r = absurd (let s = eqb-true y x e in omega arith)
low_here false y x low k rest e l h r = omega (arith, ints)

pub past_place : (x low end : ℕ) (terms : List (ℕ × ℤ)) → RiseFrom low end terms → x < low → coefficient_of x terms ≡ pos 0
past_place x low end [] h less = refl
past_place x low end (term ∷ rest) h less = low_here (eqb term.0 x) term.0 x low term.1 (coefficient_of x rest) refl h.0 less
    (past_place x (suc term.0) end rest h.2 (under x low term.0 less h.0))
  where
    under : (a b c : ℕ) → a < b → b ≤ c → a < suc c
    under a b c h k = omega (arith, h, k)

abbrev pub HasTerm : ℕ → ℤ → List (ℕ × ℤ) → Type 0
HasTerm x c terms = (k : ℕ) × (slice_get terms k ≡ Some (x, c))

term_here : (x : ℕ) (c : ℤ) (term : ℕ × ℤ) (rest : List (ℕ × ℤ)) → term.0 ≡ x → term.1 ≡ c → HasTerm x c (term ∷ rest)
term_here x c term rest e f = (0, ap (λ (a : ℕ). some_term a term.1) e ∙ ap (λ (d : ℤ). some_term x d) f)
  where
    some_term : ℕ → ℤ → Option (ℕ × ℤ)
    some_term a d = Some (a, d)

has_cases : (here : Bool) (x low end : ℕ) (c : ℤ) (term : ℕ × ℤ) (rest : List (ℕ × ℤ)) → eqb term.0 x ≡ here
    → RiseFrom (suc term.0) end rest → cond here term.1 (pos 0) +ℤ coefficient_of x rest ≡ c → (c ≡ pos 0 → ⊥)
    → (coefficient_of x rest ≡ c → HasTerm x c rest) → HasTerm x c (term ∷ rest)
has_cases true x low end c term rest e rise h some more =
    let same : term.0 ≡ x = eqb-true term.0 x e in
    let none : coefficient_of x rest ≡ pos 0 = past_place x (suc term.0) end rest rise (below x term.0 same) in
    term_here x c term rest same (alone term.1 (coefficient_of x rest) c none h)
  where
    below : (a b : ℕ) → b ≡ a → a < suc b
    below a b e = omega (arith, e)

    alone : (a b c : ℤ) → b ≡ pos 0 → a +ℤ b ≡ c → a ≡ c
    alone a b c e h = omega (arith, ints)
has_cases false x low end c term rest e rise h some more =
    let w = more (rest_is (coefficient_of x rest) c h) in (suc w.0, w.1)
  where
    rest_is : (b c : ℤ) → pos 0 +ℤ b ≡ c → b ≡ c
    rest_is b c h = omega (arith, ints)

pub has_term : (x low end : ℕ) (c : ℤ) (terms : List (ℕ × ℤ)) → RiseFrom low end terms → coefficient_of x terms ≡ c
    → (c ≡ pos 0 → ⊥) → HasTerm x c terms
has_term x low end c [] rise h some = absurd (some (sym h))
has_term x low end c (term ∷ rest) rise h some = has_cases (eqb term.0 x) x low end c term rest refl rise.2 h some
    (λ e. has_term x (suc term.0) end c rest rise.2 e some)

-- the parts of a size
negative_part : (c : ℤ) → c ≤ℤ negsuc 0 → is_part c ≡ true
negative_part c h = test_is c (int_lt c (pos 0)) refl h
  where
    test_is : (c : ℤ) (test : Bool) → int_lt c (pos 0) ≡ test → c ≤ℤ negsuc 0 → test ≡ true
    test_is c true e h = refl
    test_is c false e h = absurd (omega (arith, ints))

part_here : (link : Link) (k : ℤ) (row : ℕ) (c : ℤ) (term : ℕ × ℤ) → term ≡ (link.to, c) → c ≤ℤ negsuc 0 → link.from < link.to
    → k ≡ link.by → InTies (cond (is_part term.1) (rising_tie link.from term.0 k row false) []) link
part_here link k row c term e part less by = subst
    (λ (t : ℕ × ℤ). InTies (cond (is_part t.1) (rising_tie link.from t.0 k row false) []) link) (sym e)
    (subst (λ (l : List Tie). InTies l link)
    (sym (cond-true (is_part c) (rising_tie link.from link.to k row false) [] (negative_part c part)))
    (rising_in link.from link.to k row false link less refl refl by))

part_in : (link : Link) (k : ℤ) (row n : ℕ) (c : ℤ) (terms : List (ℕ × ℤ)) → slice_get terms n ≡ Some (link.to, c) → c ≤ℤ negsuc 0
    → link.from < link.to → k ≡ link.by → InTies (part_ties link.from k row terms) link
part_in link k row n c [] is part less by = absurd (none-some (link.to, c) is)
part_in link k row zero c (term ∷ rest) is part less by = in_left _ (part_ties link.from k row rest) link
    (part_here link k row c term (same_Some term (link.to, c) is) part less by)
part_in link k row (suc n) c (term ∷ rest) is part less by = in_right
    (cond (is_part term.1) (rising_tie link.from term.0 k row false) []) (part_ties link.from k row rest) link
    (part_in link k row n c rest is part less by)

pub zero_row : (rows : List WRow) (variable : ℕ) → HasBound rows variable (pos 1) (pos 0) → has_zero variable rows ≡ true
zero_row rows variable low = any_passes_from_place (is_zero variable) rows low.among.0 low.row low.among.1
    (and_from (is_bound variable (pos 1) low.row) (int_eq low.row.constant (pos 0)) (bound_told rows variable (pos 1) (pos 0) low)
    ((Decides-int_eq low.row.constant (pos 0)).1 low.number))

part_is : (rows : List WRow) (term : ℕ × ℤ) → (term.1 ≤ℤ negsuc 0) × HasBound rows term.0 (pos 1) (pos 0)
    → (is_part term.1 && has_zero term.0 rows) ≡ true
part_is rows term h = and_from (is_part term.1) (has_zero term.0 rows) (negative_part term.1 h.0) (zero_row rows term.0 h.1)

gives_is : (rows : List WRow) (u : ℕ) (terms : List (ℕ × ℤ))
    → ((n : ℕ) (term : ℕ × ℤ) → slice_get terms n ≡ Some term → (term.0 ≡ u)
    ⊎ ((term.1 ≤ℤ negsuc 0) × HasBound rows term.0 (pos 1) (pos 0))) → gives rows u terms ≡ true
gives_is rows u [] others = refl
gives_is rows u (term ∷ rest) others = and_from (eqb term.0 u || (is_part term.1 && has_zero term.0 rows)) (gives rows u rest)
    (or_either (eqb term.0 u) (is_part term.1 && has_zero term.0 rows)
    (elim (others 0 term refl) as (λ o. (eqb term.0 u ≡ true) ⊎ ((is_part term.1 && has_zero term.0 rows) ≡ true)) [
      | inl e ↦ inl (eq-eqb term.0 u e)
      | inr f ↦ inr (part_is rows term f)
    ])) (gives_is rows u rest (λ n other is. others (suc n) other is))

given_here : (rows : List WRow) (link : Link) (k : ℤ) (row : ℕ) (term : ℕ × ℤ) (all : List (ℕ × ℤ)) → term ≡ (link.from, pos 1)
    → gives rows link.from all ≡ true → InTies (part_ties link.from k row all) link → InTies (given_by rows term k row all) link
given_here rows link k row term all e g h = subst (λ (t : ℕ × ℤ). InTies (given_by rows t k row all) link) (sym e)
    (subst (λ (l : List Tie). InTies l link)
    (sym (cond-true (int_eq (pos 1) (pos 1) && gives rows link.from all) (part_ties link.from k row all) []
    (and_from (int_eq (pos 1) (pos 1)) (gives rows link.from all) refl g))) h)

given_in : (rows : List WRow) (link : Link) (k : ℤ) (row n : ℕ) (all terms : List (ℕ × ℤ))
    → slice_get terms n ≡ Some (link.from, pos 1) → gives rows link.from all ≡ true → InTies (part_ties link.from k row all) link
    → InTies (given_ties rows k row all terms) link
given_in rows link k row n all [] is g h = absurd (none-some (link.from, pos 1) is)
given_in rows link k row zero all (term ∷ rest) is g h = in_left (given_by rows term k row all) (given_ties rows k row all rest)
    link (given_here rows link k row term all (same_Some term (link.from, pos 1) is) g h)
given_in rows link k row (suc n) all (term ∷ rest) is g h = in_right (given_by rows term k row all) (given_ties rows k row all rest)
    link (given_in rows link k row n all rest is g h)

gives_link : (rows : List WRow) (row : WRow) (n end : ℕ) (link : Link) → RiseFrom 0 end row.terms → link.from < link.to
    → GivesSize rows row link.from → coefficient_of link.to row.terms ≤ℤ negsuc 0 → link.by +ℤ size_constant row ≡ pos 0
    → InTies (given_ties rows (pos 0 -ℤ size_constant row) n row.terms row.terms) link
gives_link rows row n end link rise less giver part by =
    let start = has_term link.from 0 end (pos 1) row.terms rise giver.one one_some in
    let next = has_term link.to 0 end (coefficient_of link.to row.terms) row.terms rise refl
    (part_some (coefficient_of link.to row.terms) part) in
    given_in rows link (pos 0 -ℤ size_constant row) n start.0 row.terms row.terms start.1
    (gives_is rows link.from row.terms giver.others)
    (part_in link (pos 0 -ℤ size_constant row) n next.0 (coefficient_of link.to row.terms) row.terms next.1 part less
    (less_is link.by (size_constant row) by))
  where
    one_some : ◌≡◌ {A = ℤ} (pos 1) (pos 0) → ⊥
    one_some e = absurd (omega (arith, ints))

    part_some : (c : ℤ) → c ≤ℤ negsuc 0 → c ≡ pos 0 → ⊥
    part_some c h e = absurd (omega (arith, ints))

    less_is : (a b : ℤ) → a +ℤ b ≡ pos 0 → pos 0 -ℤ b ≡ a
    less_is a b e = omega (arith, ints)

-- a row of two sizes, read the other way
abbrev AreBack : List (ℕ × ℤ) → ℕ → ℕ → Type 0
AreBack terms from to = (terms ≡ (from, negsuc 0) ∷ (to, pos 1) ∷ []) ⊎ (terms ≡ (to, pos 1) ∷ (from, negsuc 0) ∷ [])

back_order : (terms : List (ℕ × ℤ)) (from to : ℕ) → AreBack terms from to → order_in terms ≡ Some (to, from)
back_order terms from to h = elim h as (λ o. order_in terms ≡ Some (to, from)) [
  | inl e ↦ ap order_in e
  | inr f ↦ ap order_in f
]

back_in : (terms : List (ℕ × ℤ)) (k : ℤ) (n : ℕ) (link : Link) → link.from < link.to → AreBack terms link.from link.to → link.by ≡ k
    → InTies (back_ties (order_in terms) k n) link
back_in terms k n link less h by = subst (λ (o : Option (ℕ × ℕ)). InTies (back_ties o k n) link)
    (sym (back_order terms link.from link.to h)) (rising_in link.from link.to k n true link less refl refl (sym by))

-- one row, and all of them
equation_is : (kind : RowKind) → kind ≡ IsZero → is_inequality kind ≡ false
equation_is kind e = ap is_inequality e

abbrev IsRead : List WRow → WRow → Link → Type 0
IsRead rows row link = (GivesSize rows row link.from × (coefficient_of link.to row.terms ≤ℤ negsuc 0)
    × (link.by +ℤ (row.constant +ℤ weighed_once row.weights) ≡ pos 0))
    ⊎ (((row.terms ≡ (link.from, negsuc 0) ∷ (link.to, pos 1) ∷ []) ⊎ (row.terms ≡ (link.to, pos 1) ∷ (link.from, negsuc 0) ∷ []))
    × (link.by ≡ row.constant +ℤ weighed_once row.weights))

row_in : (rows : List WRow) (row : WRow) (n end : ℕ) (link : Link) → RiseFrom 0 end row.terms → row.kind ≡ IsZero
    → link.from < link.to → IsRead rows row link → InTies (size_row_ties rows n row) link
row_in rows row n end link rise kind less read =
    let given = given_ties rows (pos 0 -ℤ size_constant row) n row.terms row.terms in
    let back = back_ties (order_in row.terms) (size_constant row) n in
    subst (λ (l : List Tie). InTies l link)
    (sym (cond-false (is_inequality row.kind) [] (given ++ back) (equation_is row.kind kind)))
    (elim read as (λ o. InTies (given ++ back) link) [
      | inl g ↦ in_left given back link (gives_link rows row n end link rise less g.0 g.1 g.2)
      | inr b ↦ in_right given back link (back_in row.terms (size_constant row) n link less b.0 b.1)
    ])

from_in : (rows : List WRow) (n k : ℕ) (list : List WRow) (row : WRow) (link : Link) → slice_get list k ≡ Some row
    → ((m : ℕ) → InTies (size_row_ties rows m row) link) → InTies (size_ties_from rows n list) link
from_in rows n k [] row link is h = absurd (none-some row is)
from_in rows n zero (r ∷ rest) row link is h = in_left (size_row_ties rows n r) (size_ties_from rows (suc n) rest) link
    (subst (λ (x : WRow). InTies (size_row_ties rows n x) link) (sym (same_Some r row is)) (h n))
from_in rows n (suc k) (r ∷ rest) row link is h = in_right (size_row_ties rows n r) (size_ties_from rows (suc n) rest) link
    (from_in rows (suc n) k rest row link is h)

pub sizes_complete : (vars : ℕ) (rows : List WRow) (ties sorted : List Tie) → AreRows vars rows → IsPermutation ties sorted
    → ties ≡ size_ties_from rows 0 rows → (link : Link) → IsSizeLink rows link → InTies sorted link
sizes_complete vars rows ties sorted good moves e link is =
    let row = all_at (λ (row : WRow). IsRow vars row) rows is.among.0 is.row good is.among.1 in
    moved_in ties sorted link moves
    (subst (λ (l : List Tie). InTies l link) (sym e)
    (from_in rows 0 is.among.0 rows is.row link is.among.1
    (λ m. row_in rows is.row m vars link row.rise is.equation is.greater is.read)))

-- and the other way round: each tie is a size link
coefficient_here : (here : Bool) (x low end k : ℕ) (c : ℤ) (term : ℕ × ℤ) (rest : List (ℕ × ℤ)) → eqb term.0 x ≡ here
    → RiseFrom (suc term.0) end rest → (term ≡ (x, c)) ⊎ ((coefficient_of x rest ≡ c) × (term.0 < x))
    → cond here term.1 (pos 0) +ℤ coefficient_of x rest ≡ c
coefficient_here true x low end k c term rest e rise h = elim h as (λ o. term.1 +ℤ coefficient_of x rest ≡ c) [
  | inl s ↦ alone term.1 (coefficient_of x rest) c (ap (λ (t : ℕ × ℤ). t.1) s)
      (past_place x (suc term.0) end rest rise (below x term.0 (eqb-true term.0 x e)))
  | inr r ↦ absurd (apart term.0 x (eqb-true term.0 x e) r.1)
]
  where
    alone : (a b c : ℤ) → a ≡ c → b ≡ pos 0 → a +ℤ b ≡ c
    alone a b c e h = omega (arith, ints)

    below : (a b : ℕ) → b ≡ a → a < suc b
    below a b e = omega (arith, e)

    apart : (a b : ℕ) → a ≡ b → a < b → ⊥
    apart a b e h = absurd (omega (arith, e, h))
coefficient_here false x low end k c term rest e rise h = elim h as (λ o. pos 0 +ℤ coefficient_of x rest ≡ c) [
  | inl s ↦ absurd (wrong term.0 x e (ap (λ (t : ℕ × ℤ). t.0) s))
  | inr r ↦ rest_is (coefficient_of x rest) c r.0
]
  where
    rest_is : (b c : ℤ) → b ≡ c → pos 0 +ℤ b ≡ c
    rest_is b c h = omega (arith, ints)

    wrong : (a b : ℕ) → eqb a b ≡ false → a ≡ b → ⊥
    wrong a b e h = let t = eq-eqb a b h in absurd (cc)

term_above : (low end k : ℕ) (x : ℕ) (c : ℤ) (terms : List (ℕ × ℤ)) → RiseFrom low end terms → slice_get terms k ≡ Some (x, c) → low ≤ x
term_above low end k x c [] rise is = absurd (none-some (x, c) is)
term_above low end zero x c (term ∷ rest) rise is = subst (λ (t : ℕ × ℤ). low ≤ t.0) (same_Some term (x, c) is) rise.0
term_above low end (suc k) x c (term ∷ rest) rise is = let more = term_above (suc term.0) end k x c rest rise.2 is in let first =
    rise.0 in omega (arith, more, first)

coefficient_is : (low end k x : ℕ) (c : ℤ) (terms : List (ℕ × ℤ)) → RiseFrom low end terms → slice_get terms k ≡ Some (x, c)
    → coefficient_of x terms ≡ c
coefficient_is low end k x c [] rise is = absurd (none-some (x, c) is)
coefficient_is low end zero x c (term ∷ rest) rise is = coefficient_here (eqb term.0 x) x low end 0 c term rest refl rise.2
    (inl (same_Some term (x, c) is))
coefficient_is low end (suc k) x c (term ∷ rest) rise is = coefficient_here (eqb term.0 x) x low end k c term rest refl rise.2
    (inr (coefficient_is (suc term.0) end k x c rest rise.2 is, above))
  where
    above : term.0 < x
    above = let more = term_above (suc term.0) end k x c rest rise.2 is in omega (arith, more)

part_below : (c : ℤ) → is_part c ≡ true → c ≤ℤ negsuc 0
part_below c e = below_zero c e
  where
    below_zero : (c : ℤ) → int_lt c (pos 0) ≡ true → c ≤ℤ negsuc 0
    below_zero c e = omega (arith, ints)

zero_cases : (here : Bool) (rows : List WRow) (row : WRow) (rest : List WRow) (variable : ℕ) → is_zero variable row ≡ here
    → IsAmong rows row → has_zero variable (row ∷ rest) ≡ true
    → (has_zero variable rest ≡ true → HasBound rows variable (pos 1) (pos 0)) → HasBound rows variable (pos 1) (pos 0)
zero_cases true rows row rest variable t among e more =
    let parts = and_parts (is_bound variable (pos 1) row) (int_eq row.constant (pos 0)) t in
    let bound = bound_is rows variable (pos 1) row among parts.0 in
    record {
      row = bound.row;
      among = bound.among;
      inequality = bound.inequality;
      terms = bound.terms;
      number = bound.number
          ∙ (Decides-int_eq row.constant (pos 0)).0 parts.1;
      weights = bound.weights;
    }
zero_cases false rows row rest variable t among e more = more (or_second (is_zero variable row) (has_zero variable rest) t e)

zero_found : (rows list : List WRow) (variable : ℕ) → ((n : ℕ) (row : WRow) → slice_get list n ≡ Some row → IsAmong rows row)
    → has_zero variable list ≡ true → HasBound rows variable (pos 1) (pos 0)
zero_found rows [] variable part e = absurd (cc)
zero_found rows (row ∷ rest) variable part e = zero_cases (is_zero variable row) rows row rest variable refl (part 0 row refl) e
    (λ h. zero_found rows rest variable (λ n other is. part (suc n) other is) h)

pub zero_is : (rows : List WRow) (variable : ℕ) → has_zero variable rows ≡ true → HasBound rows variable (pos 1) (pos 0)
zero_is rows variable e = zero_found rows rows variable (λ n row is. (n, is)) e

other_cases : (same part : Bool) (rows : List WRow) (u : ℕ) (term : ℕ × ℤ) → eqb term.0 u ≡ same
    → (is_part term.1 && has_zero term.0 rows) ≡ part → (same || part) ≡ true → (term.0 ≡ u)
    ⊎ ((term.1 ≤ℤ negsuc 0) × HasBound rows term.0 (pos 1) (pos 0))
other_cases true part rows u term s p e = inl (eqb-true term.0 u s)
other_cases false true rows u term s p e = let parts = and_parts (is_part term.1) (has_zero term.0 rows) p in inr
    (part_below term.1 parts.0, zero_is rows term.0 parts.1)
other_cases false false rows u term s p e = absurd (cc)

others_are : (rows : List WRow) (u n : ℕ) (terms : List (ℕ × ℤ)) (term : ℕ × ℤ) → gives rows u terms ≡ true
    → slice_get terms n ≡ Some term → (term.0 ≡ u) ⊎ ((term.1 ≤ℤ negsuc 0) × HasBound rows term.0 (pos 1) (pos 0))
others_are rows u n [] term e is = absurd (none-some term is)
others_are rows u zero (first ∷ rest) term e is =
    let parts = and_parts (eqb first.0 u || (is_part first.1 && has_zero first.0 rows)) (gives rows u rest) e in
    subst (λ (t : ℕ × ℤ). (t.0 ≡ u) ⊎ ((t.1 ≤ℤ negsuc 0) × HasBound rows t.0 (pos 1) (pos 0))) (same_Some first term is)
    (other_cases (eqb first.0 u) (is_part first.1 && has_zero first.0 rows) rows u first refl refl parts.0)
others_are rows u (suc n) (first ∷ rest) term e is =
    let parts = and_parts (eqb first.0 u || (is_part first.1 && has_zero first.0 rows)) (gives rows u rest) e in
    others_are rows u n rest term parts.1 is

-- a link from a size to a part of it
record IsPartOf (u : ℕ) (k : ℤ) (terms : List (ℕ × ℤ)) (link : Link) : Type 0 where
  pub number : ℕ
  pub coefficient : ℤ
  pub is : slice_get terms number ≡ Some (link.to, coefficient)
  pub part : is_part coefficient ≡ true
  pub rising : (link.from < link.to) × (link.from ≡ u) × (link.by ≡ k)

part_of : (u : ℕ) (k : ℤ) (row : ℕ) (terms : List (ℕ × ℤ)) (link : Link) → InTies (part_ties u k row terms) link → IsPartOf u k terms link
part_of u k row [] link h = absurd h
part_of u k row (term ∷ rest) link h = elim
    (in_cases (cond (is_part term.1) (rising_tie u term.0 k row false) []) (part_ties u k row rest) link h) as
    (λ o. IsPartOf u k (term ∷ rest) link) [
      | inl x ↦
          let c = chosen_is (is_part term.1) (rising_tie u term.0 k row false) link x in
          let r = rising_is u term.0 k row false link c.among in
          record {
            number = 0;
            coefficient = term.1;
            is = ap (λ (v : ℕ). made v term.1) (sym r.ends);
            part = c.holds;
            rising =
                (r.less, r.starts, r.adds);
          }
      | inr y ↦ let m = part_of u k row rest link y in record
          { number = suc m.number; coefficient = m.coefficient; is = m.is; part = m.part; rising = m.rising }
    ]
  where
    made : ℕ → ℤ → Option (ℕ × ℤ)
    made v c = Some (v, c)

record IsGivenBy (rows : List WRow) (k : ℤ) (all list : List (ℕ × ℤ)) (link : Link) : Type 0 where
  pub number : ℕ
  pub term : ℕ × ℤ
  pub is : slice_get list number ≡ Some term
  pub one : term.1 ≡ pos 1
  pub gives : gives rows term.0 all ≡ true
  pub part : IsPartOf term.0 k all link

given_is : (rows : List WRow) (k : ℤ) (row : ℕ) (all list : List (ℕ × ℤ)) (link : Link)
    → InTies (given_ties rows k row all list) link → IsGivenBy rows k all list link
given_is rows k row all [] link h = absurd h
given_is rows k row all (term ∷ rest) link h = elim
    (in_cases (given_by rows term k row all) (given_ties rows k row all rest) link h) as (λ o. IsGivenBy rows k all (term ∷ rest) link) [
      | inl x ↦
          let c = chosen_is (int_eq term.1 (pos 1) && gives rows term.0 all) (part_ties term.0 k row all) link x in
          let parts = and_parts (int_eq term.1 (pos 1)) (gives rows term.0 all) c.holds in
          record {
            number = 0;
            term = term;
            is = refl;
            one = (Decides-int_eq term.1 (pos 1)).0 parts.0;
            gives = parts.1;
            part = part_of
                term.0 k row all link c.among;
          }
      | inr y ↦ let m = given_is rows k row all rest link y in record
          { number = suc m.number; term = m.term; is = m.is; one = m.one; gives = m.gives; part = m.part }
    ]

record IsReadAs (rows : List WRow) (row : WRow) (link : Link) : Type 0 where
  pub less : link.from < link.to
  pub read : IsRead rows row link

-- what a link to a part says
abbrev pub SaysPart : List WRow → WRow → Link → Type 0
SaysPart rows row link = GivesSize rows row link.from × (coefficient_of link.to row.terms ≤ℤ negsuc 0)
    × (link.by +ℤ size_constant row ≡ pos 0)

given_link : (rows : List WRow) (row : WRow) (n end : ℕ) (link : Link) → RiseFrom 0 end row.terms
    → InTies (given_ties rows (pos 0 -ℤ size_constant row) n row.terms row.terms) link → (link.from < link.to) × SaysPart rows row link
given_link rows row n end link rise h =
    let g = given_is rows (pos 0 -ℤ size_constant row) n row.terms row.terms link h in
    let u : g.term.0 ≡ link.from = sym g.part.rising.1 in
    let one = coefficient_is 0 end g.number g.term.0 g.term.1 row.terms rise g.is ∙ g.one in
    let part = coefficient_is 0 end g.part.number link.to g.part.coefficient row.terms rise g.part.is in (
      g.part.rising.0,
      (
        subst (λ (x : ℕ). GivesSize rows row x) u
            (record { one = one; others = λ n term is. others_are rows g.term.0 n row.terms term g.gives is }),
        subst (λ (x : ℤ). x ≤ℤ negsuc 0) (sym part) (part_below g.part.coefficient g.part.part),
        sum_is link.by (size_constant row) g.part.rising.2,
      ),
    )
  where
    sum_is : (a b : ℤ) → a ≡ pos 0 -ℤ b → a +ℤ b ≡ pos 0
    sum_is a b e = omega (arith, ints)

pub given_says : (rows : List WRow) (row : WRow) (n end : ℕ) (link : Link) → RiseFrom 0 end row.terms
    → InTies (given_ties rows (pos 0 -ℤ size_constant row) n row.terms row.terms) link → SaysPart rows row link
given_says rows row n end link rise h = (given_link rows row n end link rise h).1

given_read : (rows : List WRow) (row : WRow) (n end : ℕ) (link : Link) → RiseFrom 0 end row.terms
    → InTies (given_ties rows (pos 0 -ℤ size_constant row) n row.terms row.terms) link → IsReadAs rows row link
given_read rows row n end link rise h = let g = given_link rows row n end link rise h in record { less = g.0; read = inl g.1 }

-- what a link back says
abbrev pub SaysOther : WRow → Link → Type 0
SaysOther row link = ((row.terms ≡ (link.from, negsuc 0) ∷ (link.to, pos 1) ∷ [])
    ⊎ (row.terms ≡ (link.to, pos 1) ∷ (link.from, negsuc 0) ∷ [])) × (link.by ≡ size_constant row)

back_link : (row : WRow) (n : ℕ) (link : Link) (order : Option (ℕ × ℕ)) → order_in row.terms ≡ order
    → InTies (back_ties order (size_constant row) n) link → (link.from < link.to) × SaysOther row link
back_link row n link None e h = absurd h
back_link row n link (Some order) e h =
    let r = rising_is order.1 order.0 (size_constant row) n true link h in
    let terms = order_terms row.terms order.0 order.1 e in (
      r.less,
      (
        subst (λ (x : ℕ). (row.terms ≡ (x, negsuc 0) ∷ (link.to, pos 1) ∷ [])
            ⊎ (row.terms ≡ (link.to, pos 1) ∷ (x, negsuc 0) ∷ [])) (sym r.starts)
            (subst (λ (y : ℕ). (row.terms ≡ (order.1, negsuc 0) ∷ (y, pos 1) ∷ [])
            ⊎ (row.terms ≡ (y, pos 1) ∷ (order.1, negsuc 0) ∷ [])) (sym r.ends) (other_way row.terms order.0 order.1 terms)),
        r.adds,
      ),
    )
  where
    other_way : (terms : List (ℕ × ℤ)) (plus minus : ℕ) → (terms ≡ (plus, pos 1) ∷ (minus, negsuc 0) ∷ [])
        ⊎ (terms ≡ (minus, negsuc 0) ∷ (plus, pos 1) ∷ []) → (terms ≡ (minus, negsuc 0) ∷ (plus, pos 1) ∷ [])
        ⊎ (terms ≡ (plus, pos 1) ∷ (minus, negsuc 0) ∷ [])
    other_way terms plus minus h = elim h as (λ o. (terms ≡ (minus, negsuc 0) ∷ (plus, pos 1) ∷ [])
        ⊎ (terms ≡ (plus, pos 1) ∷ (minus, negsuc 0) ∷ [])) [
          | inl x ↦ inr x
          | inr y ↦ inl y
        ]

pub back_says : (row : WRow) (n : ℕ) (link : Link) → InTies (back_ties (order_in row.terms) (size_constant row) n) link
    → SaysOther row link
back_says row n link h = (back_link row n link (order_in row.terms) refl h).1

back_read : (rows : List WRow) (row : WRow) (n : ℕ) (link : Link) (order : Option (ℕ × ℕ)) → order_in row.terms ≡ order
    → InTies (back_ties order (size_constant row) n) link → IsReadAs rows row link
back_read rows row n link order e h = let b = back_link row n link order e h in record { less = b.0; read = inr b.1 }

row_read : (rows : List WRow) (row : WRow) (n end : ℕ) (link : Link) → RiseFrom 0 end row.terms
    → InTies (size_row_ties rows n row) link → (row.kind ≡ IsZero) × IsReadAs rows row link
row_read rows row n end link rise h =
    let given = given_ties rows (pos 0 -ℤ size_constant row) n row.terms row.terms in
    let back = back_ties (order_in row.terms) (size_constant row) n in
    let o = other_is (is_inequality row.kind) (given ++ back) link h in (
      kind_is row.kind o.0,
      elim (in_cases given back link o.1) as (λ c. IsReadAs rows row link) [
        | inl g ↦ given_read rows row n end link rise g
        | inr b ↦ back_read rows row n link (order_in row.terms) refl b
      ],
    )
  where
    kind_is : (kind : RowKind) → is_inequality kind ≡ false → kind ≡ IsZero
    kind_is AtLeastZero e = absurd (cc)
    kind_is IsZero e = refl

record IsFrom (rows list : List WRow) (link : Link) : Type 0 where
  pub number : ℕ
  pub place : ℕ
  pub row : WRow
  pub is : slice_get list number ≡ Some row
  pub among : InTies (size_row_ties rows place row) link

from_is : (rows : List WRow) (n : ℕ) (list : List WRow) (link : Link) → InTies (size_ties_from rows n list) link → IsFrom rows list link
from_is rows n [] link h = absurd h
from_is rows n (row ∷ rest) link h = elim (in_cases (size_row_ties rows n row) (size_ties_from rows (suc n) rest) link h) as
    (λ o. IsFrom rows (row ∷ rest) link) [
      | inl x ↦ record { number = 0; place = n; row = row; is = refl; among = x }
      | inr y ↦ let m = from_is rows (suc n) rest link y in record
          { number = suc m.number; place = m.place; row = m.row; is = m.is; among = m.among }
    ]

pub sizes_sound : (vars : ℕ) (rows : List WRow) (ties sorted : List Tie) → AreRows vars rows → IsPermutation ties sorted
    → ties ≡ size_ties_from rows 0 rows → (link : Link) → InTies sorted link → IsSizeLink rows link
sizes_sound vars rows ties sorted good moves e link h =
    let f = from_is rows 0 rows link
    (subst (λ (l : List Tie). InTies l link) e (moved_in sorted ties link (IsPermutation-sym ties sorted moves) h)) in
    let row = all_at (λ (row : WRow). IsRow vars row) rows f.number f.row good f.is in
    let read = row_read rows f.row f.place vars link row.rise f.among in
    record { row = f.row; among = (f.number, f.is); equation = read.0; greater = read.1.less; read = read.1.read }

-- adding up weights, one more
pub weighed_more : (weights : List (ℕ × ℤ)) (n : ℕ) (weight : ℕ × ℤ) (weighed more whole : ℤ) → slice_get weights n ≡ Some weight
    → more ≡ weighed +ℤ weight.1 → weighed +ℤ weighed_once (drop n weights) ≡ whole → more +ℤ weighed_once (drop (n + 1) weights) ≡ whole
weighed_more weights n weight weighed more whole is e h =
    let s : weighed_once (drop n weights) ≡ weight.1 +ℤ weighed_once (drop (n + 1) weights) = at_drop_more weighed_once weights n
    weight (slice_get_within weights n weight is) ∙ ap (λ (t : ℕ × ℤ). t.1 +ℤ weighed_once (drop (n + 1) weights))
    (get_or_from_slice_get weights n weight weight is) in
    joined weighed more weight.1 (weighed_once (drop n weights)) (weighed_once (drop (n + 1) weights)) whole s e h
  where
    joined : (a b d x r w : ℤ) → x ≡ d +ℤ r → b ≡ a +ℤ d → a +ℤ x ≡ w → b +ℤ r ≡ w
    joined a b d x r w e f h = omega (arith, ints)

-- adding the ties of rows, one more
both_append : (a b c : List Tie) → (a ++ b) ++ c ≡ a ++ (b ++ c)
both_append [] b c = refl
both_append (x ∷ rest) b c = ap (λ (l : List Tie). x ∷ l) (both_append rest b c)

pub sizes_more : (rows : List WRow) (n : ℕ) (row : WRow) (old new whole : List Tie) → n < length rows → row ≡ get_or rows n row
    → new ≡ old ++ size_row_ties rows n row → old ++ size_ties_from rows n (drop n rows) ≡ whole
    → new ++ size_ties_from rows (n + 1) (drop (n + 1) rows) ≡ whole
sizes_more rows n row old new whole low is e h =
    let rest = size_ties_from rows (n + 1) (drop (n + 1) rows) in
    let s : size_ties_from rows n (drop n rows) ≡ size_row_ties rows n row ++ rest = at_drop_more (size_ties_from rows n) rows n row
    low ∙ ap (λ (r : WRow). size_row_ties rows n r ++ size_ties_from rows (suc n) (drop (n + 1) rows)) (sym is)
    ∙ ap (λ (k : ℕ). size_row_ties rows n row ++ size_ties_from rows k (drop (n + 1) rows)) (next n) in
    ap (λ (l : List Tie). l ++ rest) e ∙ both_append old (size_row_ties rows n row) rest ∙ ap (λ (l : List Tie). old ++ l) (sym s) ∙ h
  where
    next : (n : ℕ) → suc n ≡ n + 1
    next n = omega arith
