-- What rows by their numbers add up to, where classes weigh so much.
use Rattle.std.proofs.Common.{◌≡◌, ℕ, cond, eqb, List, [], ◌∷◌, ℤ, pos, ◌+ℤ◌, ◌*ℤ◌, ◌≤ℤ◌, Option, Some, subst, ap, arith, ◌∙◌, sym}
use Rattle.std.specs.Prelude.{slice_get}
use Rattle.std.proofs.lemmas.Int.{ints}
use Rattle.lin_core.specs.declared.rows.RowKind.{RowKind}
use Rattle.lin_core.specs.declared.rows.RowKind.TheVariants.{AtLeastZero, IsZero}
use Rattle.lin_core.specs.declared.rows.WRow.{WRow}
use Rattle.lin_core.specs.Combination.{number_of, sum_of, IsAllowedAt, AllAllowed}
use Rattle.lin_core.specs.Rows.{Row, coefficient_of, value_of_terms}
use Rattle.lin_core.specs.Weights.{row_under, rows_under}
use Rattle.rank_forms.proofs.IntRows.{IsRowOf}
use Rattle.rank_forms.proofs.Stepped.{sum_one, under_at}

plain_row : (weigh : ℕ → ℤ) (weights : List (ℕ × ℤ)) (k : ℤ) → weights ≡ [] → k +ℤ value_of_terms weigh weights ≡ k
plain_row weigh weights k e = ap (λ (l : List (ℕ × ℤ)). k +ℤ value_of_terms weigh l) e ∙ plain k
  where
    plain : (a : ℤ) → a +ℤ pos 0 ≡ a
    plain a = omega (arith, ints)

-- a row of a variable alone
pub row_value : (weigh : ℕ → ℤ) (rows : List WRow) (n variable : ℕ) (times constant t : ℤ) (x : ℕ)
    → IsRowOf rows n variable times constant → sum_of (λ row. coefficient_of x row.terms) (rows_under weigh rows) ((n, t) ∷ []) ≡ t
    *ℤ (cond (eqb variable x) times (pos 0) +ℤ pos 0)
row_value weigh rows n variable times constant t x h = sum_one (λ row. coefficient_of x row.terms) (rows_under weigh rows) n t
    (row_under weigh h.row) (under_at weigh rows n h.row h.at) ∙ ap (λ (l : List (ℕ × ℤ)). t *ℤ coefficient_of x l) h.terms

pub row_constant : (weigh : ℕ → ℤ) (rows : List WRow) (n variable : ℕ) (times constant t : ℤ)
    → IsRowOf rows n variable times constant → sum_of (λ row. row.constant) (rows_under weigh rows) ((n, t) ∷ []) ≡ t *ℤ constant
row_constant weigh rows n variable times constant t h = sum_one (λ row. row.constant) (rows_under weigh rows) n t
    (row_under weigh h.row) (under_at weigh rows n h.row h.at)
    ∙ ap (λ (z : ℤ). t *ℤ z) (plain_row weigh h.row.weights h.row.constant h.weights ∙ h.number)

low_allowed : (kind : RowKind) (t : ℤ) → kind ≡ AtLeastZero → pos 0 ≤ℤ t → IsAllowedAt kind t
low_allowed kind t e h = subst (λ (k : RowKind). IsAllowedAt k t) (sym e) h

pub row_allowed : (weigh : ℕ → ℤ) (rows : List WRow) (n variable : ℕ) (times constant t : ℤ)
    → IsRowOf rows n variable times constant → pos 0 ≤ℤ t → AllAllowed (rows_under weigh rows) ((n, t) ∷ [])
row_allowed weigh rows n variable times constant t h low =
    ((row_under weigh h.row, under_at weigh rows n h.row h.at, low_allowed h.row.kind t h.inequality low), tt)

pub zero_allowed : (kind : RowKind) (t : ℤ) → kind ≡ IsZero → IsAllowedAt kind t
zero_allowed kind t e = subst (λ (k : RowKind). IsAllowedAt k t) (sym e) tt

-- a row before others
pub under_terms : (weigh : ℕ → ℤ) (rows : List WRow) (n : ℕ) (t : ℤ) (row : WRow) (x : ℕ) (rest : List (ℕ × ℤ))
    → slice_get rows n ≡ Some row → sum_of (λ row. coefficient_of x row.terms) (rows_under weigh rows) ((n, t) ∷ rest) ≡ t *ℤ
    coefficient_of x row.terms +ℤ sum_of (λ row. coefficient_of x row.terms) (rows_under weigh rows) rest
under_terms weigh rows n t row x rest e = ap (λ (o : Option Row). t *ℤ number_of (λ row. coefficient_of x row.terms) o +ℤ sum_of
    (λ row. coefficient_of x row.terms) (rows_under weigh rows) rest) (under_at weigh rows n row e)

pub under_number : (weigh : ℕ → ℤ) (rows : List WRow) (n : ℕ) (t : ℤ) (row : WRow) (rest : List (ℕ × ℤ))
    → slice_get rows n ≡ Some row → sum_of (λ row. row.constant) (rows_under weigh rows) ((n, t) ∷ rest) ≡ t *ℤ
    (row.constant +ℤ value_of_terms weigh row.weights) +ℤ sum_of (λ row. row.constant) (rows_under weigh rows) rest
under_number weigh rows n t row rest e = ap
    (λ (o : Option Row). t *ℤ number_of (λ row. row.constant) o +ℤ sum_of (λ row. row.constant) (rows_under weigh rows) rest)
    (under_at weigh rows n row e)

pub under_constant : (weigh : ℕ → ℤ) (rows : List WRow) (n : ℕ) (t : ℤ) (row : WRow) (rest : List (ℕ × ℤ))
    → slice_get rows n ≡ Some row → row.weights ≡ [] → sum_of (λ row. row.constant) (rows_under weigh rows) ((n, t) ∷ rest) ≡ t *ℤ
    row.constant +ℤ sum_of (λ row. row.constant) (rows_under weigh rows) rest
under_constant weigh rows n t row rest e w = under_number weigh rows n t row rest e
    ∙ ap (λ (z : ℤ). t *ℤ z +ℤ sum_of (λ row. row.constant) (rows_under weigh rows) rest) (plain_row weigh row.weights row.constant w)
