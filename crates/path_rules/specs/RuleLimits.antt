-- The rules of a graph's paths are such as a check of proofs takes.
use Rattle.std.specs.Prelude.{ℕ, List, All}
use Rattle.descent.specs.declared.rules.PathRule.{PathRule}
use Rattle.descent.specs.Conditions.{AreRules}
use Rattle.term_graph.specs.declared.links.Link.{Link}
use Rattle.term_graph.specs.Graphs.{GraphNode}
use Rattle.path_rules.specs.Answers.{HasRules}
use Rattle.path_rules.specs.Conditions.{AreBounded, IsReady}

-- The rules of all paths of a graph that is ready are within the limits of proofs, where the ends of its intervals are at most 2^31 in
-- size.
abbrev pub RulesFit : Type 0
RulesFit =
    (graph : List GraphNode) (links : List (List Link)) (cuts : List ℕ) (rules : List PathRule)
    → IsReady graph links cuts → All (λ (n : GraphNode). AreBounded n.state) graph → HasRules graph links cuts rules → AreRules rules
