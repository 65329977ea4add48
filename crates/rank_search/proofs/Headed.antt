-- Where each end of a rule has the heads of the first end all_at its cut, all ends all_at a cut have the same.
use Rattle.std.proofs.Common.{◌≡◌, inl, inr, ℕ, ◌≤◌, List, length, ap, ◌∙◌, sym}
use Rattle.std.specs.List.{All}
use Rattle.list_views.proofs.Quantified.{all_at}
use Rattle.descent.specs.Conditions.{AreRules}
use Rattle.descent.specs.declared.rules.PathRule.{PathRule}
use Rattle.descent.specs.declared.rules.SlotForm.{SlotForm}
use Rattle.rank_forms.specs.Forms.{slots_for}
use Rattle.rank_forms.specs.Graphs.{ArePathRules, IsEndAt, IsPathRule, heads}
use Rattle.rank_search.specs.inner.Heads.{HasHeads}

stands_head : (rules : List PathRule) (cut : ℕ) (slots : List SlotForm) → All (HasHeads rules) rules → IsEndAt rules cut slots
    → heads slots ≡ heads (slots_for rules cut)
stands_head rules cut slots all stands =
    let has = all_at (HasHeads rules) rules stands.0 stands.1 all stands.2 in
    elim stands.3 as (λ o. heads slots ≡ heads (slots_for rules cut)) [
      | inl a ↦ ap heads (sym a.1) ∙ has.0 ∙ ap (λ (c : ℕ). heads (slots_for rules c)) a.0
      | inr b ↦ ap heads (sym b.1) ∙ has.1 ∙ ap (λ (c : ℕ). heads (slots_for rules c)) b.0
    ]

pub path_rules : (rules : List PathRule) → AreRules rules → length rules ≤ 4096 → All IsPathRule rules → All (HasHeads rules) rules
    → ArePathRules rules
path_rules rules limits few each all = record {
  limits = limits;
  few = few;
  each = each;
  ends = λ cut one other a b. stands_head rules cut one all a ∙ sym (stands_head rules cut other all b);
}
