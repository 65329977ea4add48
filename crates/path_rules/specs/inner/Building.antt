-- Words of private calls: paths taken edge by edge.
use Rattle.std.specs.Prelude.{◌≡◌, ℕ, ◌+◌, ◌≤◌, ◌<◌, ◌^◌, ◌==◌, ℤ, Bool, false, List, [], ◌∷◌, ◌++◌, length, unsigned_abs}
use Rattle.std.specs.Prelude.{Option, Some, None, Result, Ok, Err, slice_get}
use Rattle.std.specs.List.{AllByRecursion}
use Rattle.std.specs.Option.{option_map_or}
use Rattle.lin_core.specs.declared.rows.WRow.{WRow}
use Rattle.descent.specs.declared.rules.PathRule.{PathRule}
use Rattle.descent.specs.Conditions.{IsRule}
use Rattle.abs_cells.specs.AbstractStates.{AbstractState}
use Rattle.abs_reach.specs.Keys.{AreKeysRising}
use Rattle.term_graph.specs.declared.nodes.By.{By}
use Rattle.term_graph.specs.declared.nodes.By.TheVariants.{Expand, Instance, End, Todo}
use Rattle.term_graph.specs.declared.links.Side.{Side}
use Rattle.term_graph.specs.declared.links.LinkRow.{LinkRow}
use Rattle.term_graph.specs.declared.links.Link.{Link}
use Rattle.term_graph.specs.Graphs.{GraphNode}
use Rattle.path_rules.specs.declared.fault.PathFault.{PathFault}
use Rattle.path_rules.specs.declared.fault.PathFault.TheVariants.{Uncut, TooManyPaths, TooManyRows, Memory}
use Rattle.path_rules.specs.Limits.{most_rule_rows}
use Rattle.path_rules.specs.Paths.{Path, edges}
use Rattle.path_rules.specs.Stops.{Stop, Leg, LinkedGraph, stop_at, ride_at, rides_from}
use Rattle.path_rules.specs.Rules.{variable_of, variable_at, rows_of_leg, rows_of_stop, rows_along, rule_over, variables_after, IsRuleOf}
use Rattle.path_rules.specs.inner.Sizing.{sized}
use Rattle.path_rules.specs.Conditions.{AreBounded}
use Rattle.path_rules.specs.Answers.{HasRules, IsFirstTooLong}

-- ---- rows of links

-- the sizes of the numbers of terms, added up
abbrev pub size_of_terms : List (Side × ℕ × ℤ) → ℕ
size_of_terms [] = 0
size_of_terms (term ∷ terms) = unsigned_abs term.2 + size_of_terms terms

-- numbers are so small that sums of them are within 64 bits
abbrev pub IsSmall : LinkRow → Type 0
IsSmall row = size_of_terms row.terms ≤ 2 ^ 62

-- a term, if there is one, is one of a variable
abbrev pub is_term_of : ℕ → Option (ℕ × ℤ) → Bool
is_term_of variable None = false
is_term_of variable (Some term) = term.0 == variable

abbrev pub variable_by : ℕ → AbstractState → ℕ → AbstractState → Side × ℕ × ℤ → ℕ × ℤ
variable_by first state next child term = (variable_at (variable_of first state) (variable_of next child) term.0 term.1, term.2)

-- the keys of a map rise
abbrev pub AreKeyed : By → Type 0
AreKeyed (Expand children) = Unit {0}
AreKeyed (Instance target entries) = AreKeysRising 0 entries
AreKeyed End = Unit {0}
AreKeyed Todo = Unit {0}

-- ---- intervals

-- the intervals of the stops' states are bounded
abbrev pub AllBounded : List (Leg × Stop) → Type 0
AllBounded rides = AllByRecursion (λ (ride : Leg × Stop). AreBounded ride.1.state) rides

-- ---- the rule of a path

-- the rule of a path, with at most 65,536 rows, the intervals of whose stops are bounded, or none where it has more rows
abbrev pub IsRuleAlong : LinkedGraph → ℕ → ℕ → List ℕ → Option PathRule → Type 0
IsRuleAlong linked from to places None = (start : Stop) (rides : List (Leg × Stop)) → stop_at linked from ≡ Some start
    → rides_from linked from places ≡ Some rides → most_rule_rows < length (rows_along 0 start rides)
IsRuleAlong linked from to places (Some rule) = (start : Stop) (rides : List (Leg × Stop)) → stop_at linked from ≡ Some start
    → rides_from linked from places ≡ Some rides → (rule ≡ rule_over from to start rides)
    × ((length rule.rows ≤ most_rule_rows) × (AreBounded start.state × AllBounded rides))

-- the building of a rule has begun at a node
pub record IsBegun (graph : List GraphNode) (from : ℕ) (node : GraphNode) (first : ℕ) (rows : List WRow) : Type 0 where
  pub there : slice_get graph from ≡ Some node
  pub first_is : first ≡ 0
  pub rows_are : rows ≡ rows_of_stop 0 node.state
  pub bounded : AreBounded node.state

-- it has gone over an edge: to the node to which that leads, with the rows of the edge and of the next stop
pub record IsOver (linked : LinkedGraph) (node : GraphNode) (first : ℕ) (rows : List WRow) (to : ℕ) (ride : Leg × Stop) (at : ℕ)
    (after : GraphNode) (next : ℕ) (more : List WRow) : Type 0 where
  pub at_is : at ≡ to
  pub there : slice_get linked.graph at ≡ Some after
  pub stop_is : ride.1 ≡ sized after.state
  pub next_is : next ≡ variables_after first (sized node.state)
  pub rows_are : more ≡ rows ++ (rows_of_leg first (sized node.state) ride.0 next ride.1 ++ rows_of_stop next ride.1.state)
  pub bounded : AreBounded after.state

abbrev pub IsGone : LinkedGraph → ℕ → ℕ → GraphNode → ℕ → List WRow → ℕ → GraphNode → ℕ → List WRow → Type 0
IsGone linked from place node first rows at after next more = (to : ℕ) (ride : Leg × Stop) → edges linked.graph from place ≡ Some to
    → ride_at linked from place to ≡ Some ride → IsOver linked node first rows to ride at after next more

-- a path's states and what leads from one to the next are there
pub record HasRides (linked : LinkedGraph) (from : ℕ) (places : List ℕ) : Type 0 where
  pub start : Stop
  pub rides : List (Leg × Stop)
  pub starts : stop_at linked from ≡ Some start
  pub goes : rides_from linked from places ≡ Some rides

-- the links of a node; nodes past the end have none
abbrev pub links_at : List (List Link) → ℕ → List Link
links_at links node = option_map_or (λ (list : List Link). list) (slice_get links node) []

-- the rule of a path, with at most 65,536 rows, or none where it has more
abbrev pub IsRuleFor : LinkedGraph → List ℕ → Path → Option PathRule → Type 0
IsRuleFor linked cuts path None = (rule : PathRule) × (IsRuleOf linked cuts path rule × (most_rule_rows < length rule.rows))
IsRuleFor linked cuts path (Some rule) = IsRuleOf linked cuts path rule × ((length rule.rows ≤ most_rule_rows) × IsRule rule)

abbrev pub IsRuleOfNumber : LinkedGraph → List ℕ → List Path → ℕ → Option PathRule → Type 0
IsRuleOfNumber linked cuts paths number rule = (path : Path) → slice_get paths number ≡ Some path → IsRuleFor linked cuts path rule

-- the rules of all paths, or the number of the first path with whose rule the rules have too many rows
abbrev pub AreRulesOr : List GraphNode → List (List Link) → List ℕ → Result (List PathRule) PathFault → Type 0
AreRulesOr graph links cuts (Ok rules) = HasRules graph links cuts rules
AreRulesOr graph links cuts (Err (Uncut node)) = ⊥
AreRulesOr graph links cuts (Err TooManyPaths) = ⊥
AreRulesOr graph links cuts (Err (TooManyRows path)) = IsFirstTooLong graph links cuts path
AreRulesOr graph links cuts (Err Memory) = Unit {0}
