-- Each size tie that is found stands with the row that says it.
use Rattle.std.proofs.Common.{◌≡◌, inl, inr, ℕ, suc, Bool, true, false, cond, List, [], ◌∷◌, ◌++◌, ℤ, pos, ◌-ℤ◌, Option, Some, None}
use Rattle.std.proofs.Common.{subst, ap, refl, ◌∙◌, sym, IsPermutation}
use Rattle.std.specs.Prelude.{◌&&◌, slice_get}
use Rattle.std.specs.Ordering.{int_eq}
use Rattle.std.specs.List.{All}
use Rattle.std.proofs.lemmas.List.Sorted.{All-permutation}
use Rattle.rank_forms.proofs.Fallen.{kind_is}
use Rattle.list_views.proofs.Quantified.{all_at as at}
use Rattle.lin_core.specs.declared.rows.RowKind.TheVariants.{IsZero}
use Rattle.lin_core.specs.declared.rows.WRow.{WRow}
use Rattle.lin_core.specs.Weights.{AreRows, IsRow}
use Rattle.rank_forms.specs.declared.rule_links.links.Link.{Link}
use Rattle.rank_forms.specs.declared.rule_links.links.Tie.{Tie}
use Rattle.rank_forms.specs.rule_links.inner.Rising.{back_ties, gives, given_by, given_ties, is_part, order_in, part_ties, rising_tie}
use Rattle.rank_forms.specs.rule_links.Falls.{size_constant}
use Rattle.rank_forms.specs.rule_links.inner.Rising.{size_row_ties, size_ties_from}
use Rattle.rank_forms.specs.rule_links.Falls.{IsSizeTie, SaysSize}
use Rattle.rank_forms.specs.rule_links.Ties.{InTies, is_inequality}
use Rattle.rank_forms.proofs.FallRows.{Each, each_all, each_both, each_chosen, each_rising}
use Rattle.rank_forms.proofs.Rests.{IsRest, rest_all, rest_first, rest_more}
use Rattle.rank_forms.proofs.Sized.{SaysOther, SaysPart, back_says, given_says}

-- what holds of each link holds of each tie
each_in : (P : Link → Type 0) (ties : List Tie) → ((link : Link) → InTies ties link → P link) → Each (λ (tie : Tie). P tie.link) ties
each_in P [] h = tt
each_in P (tie ∷ rest) h = (h tie.link (inl refl), each_in P rest (λ link i. h link (inr i)))

each_map : (P Q : Tie → Type 0) (ties : List Tie) → ((tie : Tie) → P tie → Q tie) → Each P ties → Each Q ties
each_map P Q [] f h = tt
each_map P Q (tie ∷ rest) f h = (f tie h.0, each_map P Q rest f h.1)

each_with : (P Q : Tie → Type 0) (ties : List Tie) → Each P ties → Each Q ties → Each (λ (tie : Tie). P tie × Q tie) ties
each_with P Q [] h k = tt
each_with P Q (tie ∷ rest) h k = ((h.0, k.0), each_with P Q rest h.1 k.1)

-- a tie is of a row, taken as it stands or back
abbrev IsOf : ℕ → Bool → Tie → Type 0
IsOf n back tie = (tie.row ≡ n) × (tie.back ≡ back) × (tie.beside ≡ None)

part_of : (u : ℕ) (k : ℤ) (n : ℕ) (terms : List (ℕ × ℤ)) → Each (IsOf n false) (part_ties u k n terms)
part_of u k n [] = tt
part_of u k n (term ∷ rest) = each_both (IsOf n false) (cond (is_part term.1) (rising_tie u term.0 k n false) [])
    (part_ties u k n rest)
    (each_chosen (IsOf n false) (is_part term.1) (rising_tie u term.0 k n false) []
    (λ e. each_rising (IsOf n false) u term.0 k n false (refl, refl, refl)) (λ e. tt)) (part_of u k n rest)

given_of : (rows : List WRow) (k : ℤ) (n : ℕ) (all terms : List (ℕ × ℤ)) → Each (IsOf n false) (given_ties rows k n all terms)
given_of rows k n all [] = tt
given_of rows k n all (term ∷ rest) = each_both (IsOf n false) (given_by rows term k n all) (given_ties rows k n all rest)
    (each_chosen (IsOf n false) (int_eq term.1 (pos 1) && gives rows term.0 all) (part_ties term.0 k n all) []
    (λ e. part_of term.0 k n all) (λ e. tt)) (given_of rows k n all rest)

back_of : (order : Option (ℕ × ℕ)) (k : ℤ) (n : ℕ) → Each (IsOf n true) (back_ties order k n)
back_of None k n = tt
back_of (Some order) k n = each_rising (IsOf n true) order.1 order.0 k n true (refl, refl, refl)

-- with its row
size_tie : (rows : List WRow) (n : ℕ) (row : WRow) (back : Bool) (tie : Tie) → slice_get rows n ≡ Some row → row.kind ≡ IsZero
    → IsOf n back tie → SaysSize rows row back tie.link → IsSizeTie rows tie
size_tie rows n row back tie is kind of says = record {
  row = row;
  at = ap (slice_get rows) of.0 ∙ is;
  equation = kind;
  says = subst (λ (b : Bool). SaysSize rows row b tie.link) (sym of.1) says;
  alone = of.2;
}

row_in : (end : ℕ) (rows : List WRow) (n : ℕ) (row : WRow) → slice_get rows n ≡ Some row → IsRow end row
    → Each (IsSizeTie rows) (size_row_ties rows n row)
row_in end rows n row is fit =
    let k = pos 0 -ℤ size_constant row in
    let given = given_ties rows k n row.terms row.terms in
    let back = back_ties (order_in row.terms) (size_constant row) n in
    each_chosen (IsSizeTie rows) (is_inequality row.kind) [] (given ++ back) (λ e. tt) (λ e.
    let kind = kind_is row.kind e in
    each_both (IsSizeTie rows) given back (each_map (λ (tie : Tie). IsOf n false tie × SaysPart rows row tie.link) (IsSizeTie rows)
    given (λ tie h. size_tie rows n row false tie is kind h.0 h.1)
    (each_with (IsOf n false) (λ (tie : Tie). SaysPart rows row tie.link) given (given_of rows k n row.terms row.terms)
    (each_in (SaysPart rows row) given (λ link i. given_says rows row n end link fit.rise i))))
    (each_map (λ (tie : Tie). IsOf n true tie × SaysOther row tie.link) (IsSizeTie rows) back
    (λ tie h. size_tie rows n row true tie is kind h.0 h.1)
    (each_with (IsOf n true) (λ (tie : Tie). SaysOther row tie.link) back (back_of (order_in row.terms) (size_constant row) n)
    (each_in (SaysOther row) back (λ link i. back_says row n link i)))))

from_in : (end : ℕ) (all : List WRow) (n : ℕ) (rows : List WRow) → AreRows end all → IsRest all n rows
    → Each (IsSizeTie all) (size_ties_from all n rows)
from_in end all n [] fit h = tt
from_in end all n (row ∷ rest) fit h =
    let is = rest_first all n row rest h in
    each_both (IsSizeTie all) (size_row_ties all n row) (size_ties_from all (suc n) rest)
    (row_in end all n row is (at (IsRow end) all n row fit is)) (from_in end all (suc n) rest fit (rest_more all n row rest h))

pub sizes_in_rows : (end : ℕ) (rows : List WRow) (ties sorted : List Tie) → AreRows end rows → IsPermutation ties sorted
    → ties ≡ size_ties_from rows 0 rows → All (IsSizeTie rows) sorted
sizes_in_rows end rows ties sorted fit moves e = All-permutation (IsSizeTie rows) ties sorted moves
    (subst (All (IsSizeTie rows)) (sym e)
    (each_all (IsSizeTie rows) (size_ties_from rows 0 rows) (from_in end rows 0 rows fit (rest_all rows))))
