-- Walks of machine states along a path, and what they say of its rule.
use Rattle.std.specs.Prelude.{◌≡◌, ℕ, ℤ, Bool, true, false, List, [], ◌∷◌, All, Some}
use Rattle.descent.specs.declared.rules.PathRule.{PathRule}
use Rattle.descent.specs.declared.rules.SlotForm.{SlotForm}
use Rattle.descent.specs.Valuations.{Valuation, IsWeighing, Meets, slot_value}
use Rattle.jvm_values.specs.States.{MachineState}
use Rattle.jvm_values.specs.TypedHeaps.{WorldTypes}
use Rattle.jvm_values.specs.Terms.{HeapTerm, IsTerm}
use Rattle.abs_cells.specs.Fits.{Meaning, Fits, IsClosedState}
use Rattle.term_graph.specs.Edges.{Edge, InstanceEdge, number_of}
use Rattle.term_enc.specs.Sizes.{weight_of}
use Rattle.path_rules.specs.Paths.{Path}
use Rattle.path_rules.specs.Stops.{Stop, Leg, child, instance, LinkedGraph, AreSized, stop_at, rides_from}
use Rattle.path_rules.specs.Rules.{IsRuleOf}
use Rattle.path_rules.specs.Conditions.{IsReady}

-- a state of the machine, with what the ids of the abstract state stand for that describes it
pub record Spot : Type 0 where
  pub machine : MachineState
  pub meaning : Meaning

-- a state of the machine that fits a stop
pub record FitsStop (types : WorldTypes) (stop : Stop) (spot : Spot) : Type 0 where
  pub fits : Fits types stop.state spot.machine spot.meaning
  pub closed : IsClosedState spot.machine stop.state spot.meaning

-- what is said of the machine's states at the two ends of an edge
abbrev pub Crosses : Stop → Spot → Leg → Stop → Spot → Type 0
Crosses stop spot (child link) next after = Edge stop.state spot.machine spot.meaning link next.state after.machine after.meaning
Crosses stop spot (instance entries) next after = InstanceEdge entries spot.machine spot.meaning after.machine after.meaning

-- a walk along a path that starts at a stop: a state of the machine that fits each stop, and edges between them
abbrev pub IsWalk : WorldTypes → Stop → Spot → List (Leg × Stop) → List Spot → Type 0
IsWalk types stop spot [] [] = FitsStop types stop spot
IsWalk types stop spot [] (after ∷ spots) = ⊥
IsWalk types stop spot (ride ∷ rides) [] = ⊥
IsWalk types stop spot (ride ∷ rides) (after ∷ spots) = FitsStop types stop spot
    × (Crosses stop spot ride.0 ride.1 after × IsWalk types ride.1 after rides spots)

-- the machine's state at the end of a walk, which is the one at its start where the walk has no edge
abbrev pub last_of : Spot → List Spot → Spot
last_of spot [] = spot
last_of spot (after ∷ spots) = last_of after spots

-- ---- values

-- a slot has the value of its id, for every weighing: an int, or what the id's term weighs
abbrev pub SlotIs : Valuation → Spot → SlotForm → Bool → Type 0
SlotIs valuation spot slot false = (weigh : ℕ → ℤ) → IsWeighing weigh → slot_value weigh valuation slot ≡ number_of (spot.meaning slot.id)
SlotIs valuation spot slot true = (term : HeapTerm)
    × (IsTerm spot.machine.heap (spot.meaning slot.id) term
    × ((weigh : ℕ → ℤ) → IsWeighing weigh → slot_value weigh valuation slot ≡ weight_of weigh term))

-- each slot has the value of its id at a state of the machine
abbrev pub SlotsAre : Valuation → Spot → List SlotForm → Type 0
SlotsAre valuation spot slots = All (λ (slot : SlotForm). SlotIs valuation spot slot slot.size) slots

-- a valuation meets all rows of a rule for all weighings, and gives the slots of both ends the values at these states
pub record Tells (rule : PathRule) (start end : Spot) : Type 0 where
  pub valuation : Valuation
  pub meets : Meets rule valuation
  pub first : SlotsAre valuation start rule.first
  pub last : SlotsAre valuation end rule.last

-- ---- the law

-- a walk along a path
pub record WalksAlong (types : WorldTypes) (linked : LinkedGraph) (path : Path) (start : Spot) (spots : List Spot) : Type 0 where
  pub stop : Stop
  pub rides : List (Leg × Stop)
  pub starts : stop_at linked path.from ≡ Some stop
  pub goes : rides_from linked path.from path.places ≡ Some rides
  pub walk : IsWalk types stop start rides spots

-- every walk of fitting states from a cut to the next meets all rows of its path
abbrev pub WalksMeetRules : Type 0
WalksMeetRules = (types : WorldTypes) (linked : LinkedGraph) (cuts : List ℕ) (path : Path) (rule : PathRule) (start : Spot)
    (spots : List Spot) → IsReady linked.graph linked.links cuts → AreSized linked → IsRuleOf linked cuts path rule
    → WalksAlong types linked path start spots → Tells rule start (last_of start spots)
