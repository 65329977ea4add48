use Rattle.std.proofs.Common.{rules, ℕ}
use Rattle.std.proofs.lemmas.List.Sorted.{IsNonDecreasingBy-from_sort_by_key}
use Rattle.rank_forms.proofs.weights.sort_classes.Goals as goal

pub returns-clause-order : goal.returns-clause-order
returns-clause-order c = IsNonDecreasingBy-from_sort_by_key (λ (class : ℕ). class) _ c.in_ok-sort_by_key.ensures.sorted
    (λ a r q k. search rules)
