-- Why the rules of a graph's paths are such as the search for plain forms asks for.
use Rattle.std.specs.Prelude.{◌≡◌, ◌≤◌, ℕ, List, All, length, Some, slice_get, Ok}
use Rattle.std.specs.List.{AllByRecursion}
use Rattle.descent.specs.declared.rules.PathRule.{PathRule}
use Rattle.abs_cells.specs.AbstractStates.{AbstractState}
use Rattle.class_world.specs.WorldTypes.{types_of}
use Rattle.class_program.specs.Programs.{Program}
use Rattle.frame_types.specs.Tables.{CodeTypes}
use Rattle.term_graph.specs.declared.links.Link.{Link}
use Rattle.term_graph.specs.Graphs.{GraphNode, GraphChild}
use Rattle.abs_expand.specs.Expansions.{plan_of, AreExpanded}
use Rattle.graph_check.specs.Good.{GraphOk}
use Rattle.path_rules.specs.Answers.{Answers}
use Rattle.path_rules.specs.Conditions.{AreBounded, IsReady}
use Rattle.rank_forms.specs.Graphs.{ArePlainRules}
use Rattle.prove_core.specs.ShortLinks.{IsShortLink, AreShortLinks}

-- the links of every expansion have equations with small coefficients
abbrev pub LinksAreShort : Type 0
LinksAreShort =
    (p : Program) (typing : ℕ → CodeTypes) (state : AbstractState) (children : List GraphChild)
    → AreExpanded (types_of p.world) state (plan_of p typing state) children
    → AllByRecursion (λ (child : GraphChild). IsShortLink child.link) children

-- the rules of all paths of a graph are plain, where the graph is ready for rules, the ends of its intervals are at most 2^31 in size, and
-- its links have equations with small coefficients
abbrev pub PathRulesArePlain : Type 0
PathRulesArePlain =
    (graph : List GraphNode) (links : List (List Link)) (cuts : List ℕ) (rules : List PathRule)
    → IsReady graph links cuts → All (λ (n : GraphNode). AreBounded n.state) graph → AreShortLinks links
    → Answers graph links cuts (Ok rules) → ArePlainRules rules

-- the rules of all paths of a good graph that is ready for rules are plain
abbrev pub GoodGraphRulesArePlain : Type 0
GoodGraphRulesArePlain =
    (p : Program) (typing : ℕ → CodeTypes) (nodes : List GraphNode) (root : AbstractState) (links : List (List Link))
    (cuts : List ℕ) (rules : List PathRule)
    → GraphOk p typing nodes root links → IsReady nodes links cuts
    → Answers nodes links cuts (Ok rules) → ArePlainRules rules

-- rules that are each among plain rules, and are no more than these, are plain: the number of rules is limited
abbrev pub SomeRulesArePlain : Type 0
SomeRulesArePlain =
    (rules some : List PathRule) → ArePlainRules rules → length some ≤ length rules
    → ((n : ℕ) (rule : PathRule) → slice_get some n ≡ Some rule → (m : ℕ) × (slice_get rules m ≡ Some rule))
    → ArePlainRules some
