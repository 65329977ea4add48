-- A path as the states at which it stops, with what leads from one to the next.
use Rattle.std.specs.Prelude.{◌≡◌, ◌≢◌, ℕ, ◌==◌, if◌then◌else◌, List, [], ◌∷◌, Option, Some, None, slice_get}
use Rattle.std.specs.List.{AllZip}
use Rattle.std.specs.Option.{option_map, option_and_then}
use Rattle.abs_cells.specs.AbstractStates.{AbstractState}
use Rattle.abs_cells.specs.Cells.{HasCell}
use Rattle.abs_cells.specs.Patterns.{Pattern, IsPattern, IsSized}
use Rattle.abs_reach.specs.Instances.{is_no_int}
use Rattle.abs_reach.specs.Keys.{AreKeysRising}
use Rattle.term_graph.specs.declared.nodes.By.{By}
use Rattle.term_graph.specs.declared.nodes.By.TheVariants.{Expand, Instance, End, Todo}
use Rattle.term_graph.specs.declared.links.Link.{Link}
use Rattle.term_graph.specs.Graphs.{GraphNode}
use Rattle.path_rules.specs.Paths.{edges}

-- ---- sizes

-- the pattern that a list gives to an id
abbrev pub pattern_in : List (ℕ × Pattern) → ℕ → Option Pattern
pattern_in [] id = None
pattern_in (entry ∷ entries) id = if entry.0 == id then Some entry.1 else pattern_in entries id

-- a list has exactly the sized ids of a state, rising, each with its pattern
pub record AreSizes (state : AbstractState) (sizes : List (ℕ × Pattern)) : Type 0 where
  pub rise : AreKeysRising 0 sizes
  pub each : (id : ℕ) (pattern : Pattern) → pattern_in sizes id ≡ Some pattern → HasCell is_no_int state id
      × (IsSized state id × IsPattern state id pattern)
  pub all : (id : ℕ) → HasCell is_no_int state id → IsSized state id → pattern_in sizes id ≢ None

-- ---- stops

-- a state, and the patterns of its sized ids
pub record Stop : Type 0 where
  pub state : AbstractState
  pub sizes : List (ℕ × Pattern)

-- what leads on: a link, to a child, or a map, to the state of which one is an instance
pub data Leg : Type 0 where
  child : Link → Leg
  instance : List (ℕ × ℕ) → Leg

-- what an edge of a node is, where the node's links are given
abbrev pub leg_by : By → List Link → ℕ → Option Leg
leg_by (Expand children) links place = option_map child (slice_get links place)
leg_by (Instance target map) links place = Some (instance map)
leg_by End links place = None
leg_by Todo links place = None

-- a graph with its links and the patterns of its nodes' sized ids, one list of each for each node
pub record LinkedGraph : Type 0 where
  pub graph : List GraphNode
  pub links : List (List Link)
  pub sizes : List (List (ℕ × Pattern))

-- the stop of a node: its state, with the patterns of the state's sized ids
abbrev pub stop_at : LinkedGraph → ℕ → Option Stop
stop_at linked node = option_and_then
    (λ (n : GraphNode). option_map (λ (s : List (ℕ × Pattern)). record { state = n.state; sizes = s })
    (slice_get linked.sizes node)) (slice_get linked.graph node)

-- the edge of a node that has this number among its edges, with what links the states at its ends
abbrev pub leg_at : LinkedGraph → ℕ → ℕ → Option Leg
leg_at linked node place = option_and_then (λ (n : GraphNode). option_and_then (λ (links : List Link). leg_by n.by links place)
    (slice_get linked.links node)) (slice_get linked.graph node)

-- an edge with the stop to which it leads
abbrev pub ride_at : LinkedGraph → ℕ → ℕ → ℕ → Option (Leg × Stop)
ride_at linked node place to = option_and_then (λ (leg : Leg). option_map (λ (stop : Stop). (leg, stop)) (stop_at linked to))
    (leg_at linked node place)

-- edges one after another, each with the stop to which it leads
abbrev pub rides_from : LinkedGraph → ℕ → List ℕ → Option (List (Leg × Stop))
rides_from linked node [] = Some []
rides_from linked node (place ∷ places) = option_and_then
    (λ (to : ℕ). option_and_then (λ (ride : Leg × Stop). option_map (λ (rides : List (Leg × Stop)). ride ∷ rides)
    (rides_from linked to places)) (ride_at linked node place to)) (edges linked.graph node place)

-- the lists of patterns are those of the nodes' states
abbrev pub AreSized : LinkedGraph → Type 0
AreSized linked = AllZip (λ (n : GraphNode) (s : List (ℕ × Pattern)). AreSizes n.state s) linked.graph linked.sizes
