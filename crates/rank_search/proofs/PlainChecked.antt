-- Rules that pass the tests are as plain forms ask.
use Rattle.std.proofs.Common.{◌≡◌, ℕ, zero, suc, Bool, true, false, List, [], ◌∷◌, ℤ, pos, negsuc, Option, Some, None, subst, ap}
use Rattle.std.proofs.Common.{refl, ◌∙◌, sym, rules}
use Rattle.std.specs.Prelude.{◌||◌, slice_get, is_some, IsTrue}
use Rattle.std.specs.List.{All, list_any}
use Rattle.std.proofs.lemmas.Option.{same_Some, none-some}
use Rattle.lin_core.specs.declared.rows.WRow.{WRow}
use Rattle.descent.specs.declared.rules.PathRule.{PathRule}
use Rattle.descent.specs.declared.rules.SlotForm.{SlotForm}
use Rattle.rank_forms.specs.declared.following.BoundRow.{BoundRow}
use Rattle.rank_forms.specs.Graphs.{ArePathRules, ArePlainRules, AreSizeTerms, HasClose, IsCloseInt, IsOneKind, IsPlainRule}
use Rattle.rank_forms.specs.Graphs.{IsShort, IsSizeSlot}
use Rattle.rank_search.specs.inner.Heads.{AreShort, has_size, is_size}
use Rattle.rank_forms.specs.rule_links.Links.{HasBound}
use Rattle.rank_forms.specs.Reasons.{close_from}
use Rattle.rank_forms.specs.rule_links.Falls.{has_zero}
use Rattle.rank_forms.specs.rule_links.Ties.{is_inequality, variable_of}
use Rattle.rank_forms.proofs.Changed.{variable_is}
use Rattle.rank_forms.proofs.Rests.{rest_all}
use Rattle.rank_forms.proofs.IntReasons.{close_is}
use Rattle.rank_forms.proofs.Sized.{zero_is}

-- a row that is found bounds the variable
pub close_has : (rows : List WRow) (variable : ℕ) (times : ℤ) (found : Option BoundRow) → close_from variable times 0 rows ≡ found
    → is_some found ≡ true → HasClose rows variable times
close_has rows variable times None e t = absurd (cc)
close_has rows variable times (Some bound) e t =
    let c = close_is variable times 0 rows rows bound (rest_all rows) e in
    let r = c.row in
    record {
      constant = bound.base;
      bound = record {
        row = r.row;
        among = (bound.row, r.at);
        inequality = r.inequality;
        terms = r.terms;
        number = r.number;
        weights =
            r.weights;
      };
      small = c.small;
    }

true_not : (b : Bool) → b ≡ true → b ≡ false → ⊥
true_not true e f = absurd (cc)
true_not false e f = absurd (cc)

-- an int slot
pub close_int : (rows : List WRow) (slot : SlotForm) (variable : ℕ) → variable_of (Some slot) ≡ Some variable
    → HasClose rows variable (pos 1) → HasClose rows variable (negsuc 0) → IsCloseInt rows slot
close_int rows slot variable e low high size v is =
    let same : variable ≡ v = same_Some variable v (sym e ∙ variable_is slot v is) in
    (subst (λ (x : ℕ). HasClose rows x (pos 1)) same low, subst (λ (x : ℕ). HasClose rows x (negsuc 0)) same high)

pub no_int : (rows : List WRow) (slot : SlotForm) → variable_of (Some slot) ≡ None → IsCloseInt rows slot
no_int rows slot e size v is = absurd (none-some v (sym e ∙ variable_is slot v is))

-- a size slot
pub size_slot : (rows : List WRow) (slot : SlotForm) (variable : ℕ) → variable_of (Some slot) ≡ Some variable
    → is_size rows variable ≡ true → has_zero variable rows ≡ true → IsSizeSlot rows (is_size rows) slot
size_slot rows slot variable e h zero_row size v is =
    let same : variable ≡ v = same_Some variable v (sym e ∙ variable_is slot v is) in
    (ap (is_size rows) (sym same) ∙ h, subst (λ (x : ℕ). HasBound rows x (pos 1) (pos 0)) same (zero_is rows variable zero_row))

pub no_size_slot : (rows : List WRow) (slot : SlotForm) → variable_of (Some slot) ≡ None → IsSizeSlot rows (is_size rows) slot
no_size_slot rows slot e size v is = absurd (none-some v (sym e ∙ variable_is slot v is))

-- three terms
pub short_three : (row : WRow) → AreShort row.terms → IsShort row
short_three row h = record { low = λ kind weights a b c e. subst AreShort e h }

pub no_equation : (row : WRow) → is_inequality row.kind ≡ true → IsShort row
no_equation row i = record { low = λ kind weights a b c e. absurd (true_not (is_inequality row.kind) i (ap is_inequality kind)) }

-- an equation of one kind
any_at : (f : ℕ × ℤ → Bool) (terms : List (ℕ × ℤ)) (n : ℕ) (term : ℕ × ℤ) → slice_get terms n ≡ Some term → f term ≡ true
    → list_any f terms ≡ true
any_at f [] n term is t = absurd (cc)
any_at f (first ∷ rest) zero term is t = left (f first) (list_any f rest) (ap f (one_term first term is) ∙ t)
  where
    one_term : (a b : ℕ × ℤ) → ◌≡◌ {A = Option (ℕ × ℤ)} (Some a) (Some b) → a ≡ b
    one_term a b e = cc

    left : (a b : Bool) → a ≡ true → (a || b) ≡ true
    left true b e = refl
    left false b e = absurd (cc)
any_at f (first ∷ rest) (suc n) term is t = right (f first) (list_any f rest) (any_at f rest n term is t)
  where
    right : (a b : Bool) → b ≡ true → (a || b) ≡ true
    right true b e = refl
    right false b e = e

pub other_kind : (rows : List WRow) (row : WRow) → is_inequality row.kind ≡ true → IsOneKind (is_size rows) row
other_kind rows row i = record { alike = λ kind n term is size. absurd (true_not (is_inequality row.kind) i (ap is_inequality kind)) }

pub no_kind : (rows : List WRow) (row : WRow) → has_size rows row.terms ≡ false → IsOneKind (is_size rows) row
no_kind rows row none = record {
  alike = λ kind n term is size. absurd
      (true_not (has_size rows row.terms) (any_at (λ (term : ℕ × ℤ). is_size rows term.0) row.terms n term is size) none);
}

pub one_kind : (rows : List WRow) (row : WRow) → AreSizeTerms (is_size rows) row.terms → IsOneKind (is_size rows) row
one_kind rows row terms = record { alike = λ kind n term is size. terms }

pub plain_rule : (rule : PathRule) → All (IsCloseInt rule.rows) rule.first → All IsShort rule.rows
    → All (IsSizeSlot rule.rows (is_size rule.rows)) rule.first → All (IsOneKind (is_size rule.rows)) rule.rows → IsPlainRule rule
plain_rule rule ints short slots kinds = record
    { ints = ints; short = short; sizes = record { sizes = is_size rule.rows; slots = slots; kinds = kinds } }

pub plain_rule_by : (rule : PathRule) (rows : List WRow) (slots : List SlotForm) → rows ≡ rule.rows → slots ≡ rule.first
    → All (IsCloseInt rows) slots → All IsShort rows → All (IsSizeSlot rows (is_size rows)) slots
    → All (IsOneKind (is_size rows)) rows → IsPlainRule rule
plain_rule_by rule rows slots e f ints short sizes kinds = plain_rule rule
    (subst (λ (r : List WRow). All (IsCloseInt r) rule.first) e (subst (All (IsCloseInt rows)) f ints))
    (subst (All IsShort) e short)
    (subst (λ (r : List WRow). All (IsSizeSlot r (is_size r)) rule.first) e (subst (All (IsSizeSlot rows (is_size rows))) f sizes))
    (subst (λ (r : List WRow). All (IsOneKind (is_size r)) r) e kinds)

pub plain_rules : (rules : List PathRule) → ArePathRules rules → All IsPlainRule rules → ArePlainRules rules
plain_rules rules paths plain = record { paths = paths; plain = plain }
