-- The rules of all paths, and what stands in their way.
use Rattle.std.specs.Prelude.{◌≡◌, ℕ, suc, ◌≤◌, List, All, length, take, sum_by, Result, Ok, Err}
use Rattle.std.specs.List.{AllZip}
use Rattle.descent.specs.declared.rules.PathRule.{PathRule}
use Rattle.abs_cells.specs.Patterns.{Pattern}
use Rattle.term_graph.specs.declared.links.Link.{Link}
use Rattle.term_graph.specs.Graphs.{GraphNode}
use Rattle.path_rules.specs.Limits.{most_paths, most_rule_rows, most_rows}
use Rattle.path_rules.specs.Paths.{Path, AreAllPaths, IsLeastUncut, IsCut, HasTooManyPaths}
use Rattle.path_rules.specs.Stops.{AreSizes}
use Rattle.path_rules.specs.Rules.{IsRuleOf}
use Rattle.path_rules.specs.declared.fault.PathFault.{PathFault}
use Rattle.path_rules.specs.declared.fault.PathFault.TheVariants.{Uncut, TooManyPaths, TooManyRows, Memory}

-- rules are those of the first paths among these, as many as there are rules, over the one list of patterns of each state's sized ids
pub record AreRulesOf (graph : List GraphNode) (links : List (List Link)) (cuts : List ℕ) (paths : List Path)
    (rules : List PathRule) : Type 0 where
  pub sizes : List (List (ℕ × Pattern))
  pub are_sizes : AllZip (λ (n : GraphNode) (s : List (ℕ × Pattern)). AreSizes n.state s) graph sizes
  pub are : AllZip (IsRuleOf (record { graph = graph; links = links; sizes = sizes }) cuts) (take (length rules) paths) rules

-- no rule has more rows than one may have, and all rules together have no more than all may have
pub record HaveFewRows (rules : List PathRule) : Type 0 where
  pub each : All (λ (rule : PathRule). length rule.rows ≤ most_rule_rows) rules
  pub all : sum_by (λ (rule : PathRule). length rule.rows) rules ≤ most_rows

-- the rules of all paths, of which there are not too many
pub record HasRules (graph : List GraphNode) (links : List (List Link)) (cuts : List ℕ) (rules : List PathRule) : Type 0 where
  pub paths : List Path
  pub all : AreAllPaths graph cuts paths
  pub few : length paths ≤ most_paths
  pub are : AreRulesOf graph links cuts paths rules
  pub whole : length rules ≡ length paths
  pub rows : HaveFewRows rules

-- there are not too many paths, and this is the number of the first one with whose rule the rules have too many rows
pub record IsFirstTooLong (graph : List GraphNode) (links : List (List Link)) (cuts : List ℕ) (path : ℕ) : Type 0 where
  pub paths : List Path
  pub all : AreAllPaths graph cuts paths
  pub few : length paths ≤ most_paths
  pub rules : List PathRule
  pub are : AreRulesOf graph links cuts paths rules
  pub last : length rules ≡ suc path
  pub before : HaveFewRows (take path rules)
  pub passed : HaveFewRows rules → ⊥

-- the rules of all paths, or what is first in their way: a node on a cycle without a cut, too many paths, too many rows. Want of
-- memory says nothing
abbrev pub Answers : List GraphNode → List (List Link) → List ℕ → Result (List PathRule) PathFault → Type 0
Answers graph links cuts (Ok rules) = IsCut graph cuts × HasRules graph links cuts rules
Answers graph links cuts (Err (Uncut node)) = IsLeastUncut graph cuts node
Answers graph links cuts (Err TooManyPaths) = IsCut graph cuts × HasTooManyPaths graph cuts
Answers graph links cuts (Err (TooManyRows path)) = IsCut graph cuts × IsFirstTooLong graph links cuts path
Answers graph links cuts (Err Memory) = Unit {0}
