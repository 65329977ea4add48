-- What the orders of this crate rank by, and the laws that they keep.
use Rattle.std.specs.Prelude.{ℕ, ℤ, ◌≡◌, List, [], true, false}
use Rattle.lin_core.specs.Rows.{value_of_target}
use Rattle.lin_core.specs.Weights.{AreWeights}
use Rattle.descent.specs.declared.proof.CutForm.{CutForm}
use Rattle.descent.specs.declared.rules.PathRule.{PathRule}
use Rattle.descent.specs.Orders.{OrderLaws}
use Rattle.descent.specs.Rankings.{Ranking, weigh_of, start_of, end_of, takes_start, takes_end, weak_fault, strict_fault, bounded_fault}
use Rattle.descent.specs.Valuations.{Valuation, numbers_under}

-- the order of ints alone ranks by forms in which no size counts and no class has a weight
abbrev pub linear_ranking : List CutForm → Ranking
linear_ranking forms = record { forms = forms; weights = []; sizes = false }

-- the order of sizes ranks by forms in which sizes count, under these weights of classes
abbrev pub size_ranking : List (ℕ × ℤ) → List CutForm → Ranking
size_ranking weights forms = record { forms = forms; weights = weights; sizes = true }

-- the value that the form of a rule's first cut has at the rule's start, under a valuation of the rule's variables
abbrev pub start_value : Ranking → PathRule → Valuation → ℤ
start_value ranking rule valuation = value_of_target (numbers_under (weigh_of ranking) valuation) (start_of ranking rule)

-- the value that the form of a rule's last cut has at the rule's end, under a valuation of the rule's variables
abbrev pub end_value : Ranking → PathRule → Valuation → ℤ
end_value ranking rule valuation = value_of_target (numbers_under (weigh_of ranking) valuation) (end_of ranking rule)

-- every ranking whose weights are at least 0 keeps the laws of orders: on a rule whose row is shown, the form never rises,
-- or falls by at least 1, or starts at 0 or above, and from one turn to the next it keeps its value
abbrev pub RankingsKeepLaws : Type 0
RankingsKeepLaws = (ranking : Ranking) → AreWeights ranking.weights
    → OrderLaws (weak_fault ranking) (strict_fault ranking) (bounded_fault ranking) (λ rule. takes_start ranking rule ≡ true)
    (λ rule. takes_end ranking rule ≡ true) (start_value ranking) (end_value ranking)
