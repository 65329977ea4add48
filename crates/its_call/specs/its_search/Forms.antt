-- Plain forms of systems: a variable, its negative, or the difference of two variables, the same at every location; and when one
-- ranks rules.
use Rattle.std.specs.Prelude.{ℕ, ◌<◌, ℤ, pos, negsuc, ◌≡◌, ◌⊎◌, Bool, true, false, ◌==◌, ◌&&◌, not, int_le, List, [], ◌∷◌, Option}
use Rattle.std.specs.Prelude.{Some, None}
use Rattle.std.specs.Ordering.{int_eq}
use Rattle.std.specs.List.{All, list_all, list_any}
use Rattle.lin_core.specs.declared.rows.RowKind.{RowKind}
use Rattle.lin_core.specs.declared.rows.RowKind.TheVariants.{AtLeastZero, IsZero}
use Rattle.lin_core.specs.declared.rows.WRow.{WRow}
use Rattle.descent.specs.declared.rules.PathRule.{PathRule}
use Rattle.rank_search.specs.Stepwise.{NoStepwiseForm}
use Rattle.its_front.specs.Systems.{IsSystemRule}
use Rattle.its_call.specs.its_search.Changes.{Form, IsUnitTerm, form_change}

-- of two multiples one is 1 and the other is -1
abbrev pub AreOpposite : ℤ → ℤ → Type 0
AreOpposite one other = ((one ≡ pos 1) × (other ≡ negsuc 0)) ⊎ ((one ≡ negsuc 0) × (other ≡ pos 1))

-- a plain form over so many variables: a variable, its negative, or the difference of two variables
abbrev pub IsPlainForm : ℕ → Form → Type 0
IsPlainForm count (one ∷ []) = IsUnitTerm count one
IsPlainForm count (one ∷ other ∷ []) = (one.0 < other.0) × (other.0 < count) × AreOpposite one.1 other.1
IsPlainForm count form = ⊥

-- two forms have the same terms, in the same order
abbrev pub same_terms : Form → Form → Bool
same_terms [] [] = true
same_terms (one ∷ rest) (other ∷ more) = ((one.0 == other.0) && int_eq one.1 other.1) && same_terms rest more
same_terms _ _ = false

-- a row says that something is at least 0
abbrev pub is_inequality : RowKind → Bool
is_inequality AtLeastZero = true
is_inequality IsZero = false

-- a row bounds the form: it says that a constant plus the form is at least 0
abbrev pub is_bound : Form → WRow → Bool
is_bound form row = is_inequality row.kind && same_terms row.terms form

-- one of these rows bounds the form
abbrev pub has_bound : Form → List WRow → Bool
has_bound form rows = list_any (is_bound form) rows

-- a change is known, and below 0
abbrev pub is_fall : Option ℤ → Bool
is_fall None = false
is_fall (Some change) = not (int_le (pos 0) change)

-- along the rule the form falls, and a row of the rule bounds it
abbrev pub falls : ℕ → Form → PathRule → Bool
falls count form rule = is_fall (form_change count rule.rows form) && has_bound form rule.rows

-- a change is known, and not above 0
abbrev pub keeps : Option ℤ → Bool
keeps None = false
keeps (Some change) = int_le change (pos 0)

-- along the rule the form never rises
abbrev pub fits : ℕ → Form → PathRule → Bool
fits count form rule = keeps (form_change count rule.rows form)

-- The form ranks the rules: it never rises, and along one of them it falls and is bounded. It need not be bounded along each rule
-- along which it falls.
abbrev pub ranks : ℕ → List PathRule → Form → Bool
ranks count rules form = list_all (fits count form) rules && list_any (falls count form) rules

-- no plain form ranks the rules, over however many variables they are
abbrev pub NoPlainForm : List PathRule → Type 0
NoPlainForm rules = (count : ℕ) → All (IsSystemRule count) rules → (form : Form) → IsPlainForm count form
    → ranks count rules form ≡ true → ⊥

-- the rules have no form: neither a plain form of systems nor a stepwise one ranks them
pub record HasNoForm (rules : List PathRule) : Type 0 where
  pub plain : NoPlainForm rules
  pub stepwise : NoStepwiseForm rules
