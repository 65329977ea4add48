-- Words of private calls: that the ends of rules have the slots of the first end at their cuts, and which variables are sizes.
use Rattle.std.specs.Prelude.{ℕ, ℤ, negsuc, ◌≡◌, ◌≤◌, Bool, not, List, [], ◌∷◌, unsigned_abs}
use Rattle.std.specs.List.{list_any}
use Rattle.lin_core.specs.declared.rows.WRow.{WRow}
use Rattle.descent.specs.declared.rules.PathRule.{PathRule}
use Rattle.rank_forms.specs.Forms.{slots_for}
use Rattle.rank_forms.specs.Graphs.{heads}
use Rattle.rank_forms.specs.rule_links.Ties.{is_bound}

abbrev pub HasHeads : List PathRule → PathRule → Type 0
HasHeads rules rule = (heads rule.first ≡ heads (slots_for rules rule.from)) × (heads rule.last ≡ heads (slots_for rules rule.to))

-- no row bounds the variable from above
abbrev pub is_size : List WRow → ℕ → Bool
is_size rows variable = not (list_any (λ (row : WRow). is_bound variable (negsuc 0) row) rows)

abbrev pub has_size : List WRow → List (ℕ × ℤ) → Bool
has_size rows terms = list_any (λ (term : ℕ × ℤ). is_size rows term.0) terms

abbrev pub AreShort : List (ℕ × ℤ) → Type 0
AreShort (a ∷ b ∷ c ∷ []) = (unsigned_abs a.1 ≤ 4096) × (unsigned_abs b.1 ≤ 4096) × (unsigned_abs c.1 ≤ 4096)
AreShort terms = Unit {0}
