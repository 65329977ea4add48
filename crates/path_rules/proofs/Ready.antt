-- The stops of a path of a graph that is ready, and what leads from one to the next, are good.
use Rattle.std.proofs.Common.{◌≡◌, ℕ, zero, suc, List, [], ◌∷◌, Some, subst, ap, ◌∙◌}
use Rattle.std.specs.Prelude.{slice_get}
use Rattle.std.specs.Option.{option_map, option_and_then}
use Rattle.list_views.proofs.Zipped.{zip_at}
use Rattle.list_views.proofs.Quantified.{all_at}
use Rattle.list_views.proofs.Options.{map_some, one_answer, then_some}
use Rattle.abs_cells.specs.AbstractStates.{AbstractState}
use Rattle.abs_cells.specs.Patterns.{Pattern}
use Rattle.abs_cells.specs.Sound.{IsWellFormed}
use Rattle.term_graph.specs.declared.nodes.By.{By}
use Rattle.term_graph.specs.declared.nodes.By.TheVariants.{Expand, Instance, End, Todo}
use Rattle.term_graph.specs.declared.links.Link.{Link}
use Rattle.term_graph.specs.Graphs.{GraphNode, successors}
use Rattle.path_rules.specs.Paths.{edges}
use Rattle.path_rules.specs.Stops.{Stop, Leg, child, instance, LinkedGraph, AreSizes, AreSized, leg_by, leg_at, stop_at, ride_at}
use Rattle.path_rules.specs.Stops.{rides_from}
use Rattle.path_rules.specs.Conditions.{IsLinkBetween, IsMapBetween, IsGoodChild, IsGoodBy, IsReady}
use Rattle.path_rules.proofs.Walking.{IsGoodStop, IsGoodLeg, AreGoodAlong}

-- ---- stops

-- a stop is a node's state
pub record IsStop (linked : LinkedGraph) (node : ℕ) (stop : Stop) : Type 0 where
  pub there : GraphNode
  pub is : slice_get linked.graph node ≡ Some there
  pub state_is : there.state ≡ stop.state
  pub sizes_are : slice_get linked.sizes node ≡ Some stop.sizes

pub stop_is : (linked : LinkedGraph) (node : ℕ) (stop : Stop) → stop_at linked node ≡ Some stop → IsStop linked node stop
stop_is linked node stop e =
    let n = then_some (λ (n : GraphNode). option_map (λ (s : List (ℕ × Pattern)). record { state = n.state; sizes = s })
    (slice_get linked.sizes node)) (slice_get linked.graph node) stop e in
    let s = map_some (λ (s : List (ℕ × Pattern)). record { state = n.0.state; sizes = s }) (slice_get linked.sizes node) stop n.1.1 in
    record {
      there = n.0;
      is = n.1.0;
      state_is = ap (λ (x : Stop). x.state) s.1.1;
      sizes_are = s.1.0 ∙ ap (λ (x : Stop). Some x.sizes) s.1.1;
    }

-- a stop's patterns are those of its sized ids
pub stop_sized : (linked : LinkedGraph) (node : ℕ) (stop : Stop) → AreSized linked → stop_at linked node ≡ Some stop
    → AreSizes stop.state stop.sizes
stop_sized linked node stop sized e =
    let s = stop_is linked node stop e in
    subst (λ (x : AbstractState). AreSizes x stop.sizes) s.state_is
    (zip_at (λ (n : GraphNode) (l : List (ℕ × Pattern)). AreSizes n.state l) linked.graph linked.sizes node s.there stop.sizes sized
    s.is s.sizes_are)

pub good_stop : (linked : LinkedGraph) (cuts : List ℕ) (node : ℕ) (stop : Stop) → IsReady linked.graph linked.links cuts
    → AreSized linked → stop_at linked node ≡ Some stop → IsGoodStop stop
good_stop linked cuts node stop ready sized e =
    let s = stop_is linked node stop e in
    record {
      good = subst IsWellFormed s.state_is (all_at (λ (n : GraphNode). IsWellFormed n.state) linked.graph node s.there ready.states s.is);
      sizes = stop_sized linked node stop sized e;
    }

-- ---- legs

good_by : (graph : List GraphNode) (state : AbstractState) (after : AbstractState) (by : By) (links : List Link) (place to : ℕ)
    (m : GraphNode) (leg : Leg) → IsGoodBy graph state by links → slice_get (successors by) place ≡ Some to
    → leg_by by links place ≡ Some leg → slice_get graph to ≡ Some m → m.state ≡ after → IsGoodLeg state leg after
good_by graph state after (Expand children) links place to m leg good edge is there same =
    let link = map_some child (slice_get links place) leg is in
    let at = zip_at (IsGoodChild graph state) children links place to link.0 good edge link.1.0 in
    let one = one_answer (slice_get graph to) at.0 m at.1.0 there in
    subst (λ (l : Leg). IsGoodLeg state l after) link.1.1
    (subst (λ (x : AbstractState). IsLinkBetween state x link.0) (ap (λ (n : GraphNode). n.state) one ∙ same) at.1.1)
good_by graph state after (Instance target entries) links zero to m leg good edge is there same =
    let to_is : target ≡ to = cc in
    let leg_is : instance entries ≡ leg = cc in
    let one = one_answer (slice_get graph to) good.0 m (subst (λ (x : ℕ). slice_get graph x ≡ Some good.0) to_is good.1.0) there in
    subst (λ (l : Leg). IsGoodLeg state l after) leg_is
    (subst (λ (x : AbstractState). IsMapBetween state x entries) (ap (λ (n : GraphNode). n.state) one ∙ same) good.1.1)
good_by graph state after (Instance target entries) links (suc place) to m leg good edge is there same = absurd (cc)
good_by graph state after End links place to m leg good edge is there same = absurd (cc)
good_by graph state after Todo links place to m leg good edge is there same = absurd (cc)

good_leg : (linked : LinkedGraph) (cuts : List ℕ) (node place to : ℕ) (stop after : Stop) (leg : Leg)
    → IsReady linked.graph linked.links cuts → stop_at linked node ≡ Some stop → edges linked.graph node place ≡ Some to
    → leg_at linked node place ≡ Some leg → stop_at linked to ≡ Some after → IsGoodLeg stop.state leg after.state
good_leg linked cuts node place to stop after leg ready here edge is there =
    let s = stop_is linked node stop here in
    let t = stop_is linked to after there in
    let n = then_some (λ (n : GraphNode). option_and_then (λ (links : List Link). leg_by n.by links place)
    (slice_get linked.links node)) (slice_get linked.graph node) leg is in
    let l = then_some (λ (links : List Link). leg_by n.0.by links place) (slice_get linked.links node) leg n.1.1 in
    let f = then_some (λ (from : GraphNode). slice_get (successors from.by) place) (slice_get linked.graph node) to edge in
    let same = one_answer (slice_get linked.graph node) n.0 s.there n.1.0 s.is in
    let from_same = one_answer (slice_get linked.graph node) f.0 n.0 f.1.0 n.1.0 in
    let good = zip_at (λ (x : GraphNode) (links : List Link). IsGoodBy linked.graph x.state x.by links) linked.graph linked.links
    node n.0 l.0 ready.nodes n.1.0 l.1.0 in
    subst (λ (x : AbstractState). IsGoodLeg x leg after.state) (ap (λ (x : GraphNode). x.state) same ∙ s.state_is)
    (good_by linked.graph n.0.state after.state n.0.by l.0 place to t.there leg good
    (subst (λ (x : GraphNode). slice_get (successors x.by) place ≡ Some to) from_same f.1.1) l.1.1 t.is t.state_is)

-- ---- rides

-- the first of some edges, with the stop to which it leads, and the rest
pub record IsRide (linked : LinkedGraph) (node place : ℕ) (places : List ℕ) (rides : List (Leg × Stop)) : Type 0 where
  pub to : ℕ
  pub ride : Leg × Stop
  pub rest : List (Leg × Stop)
  pub edge : edges linked.graph node place ≡ Some to
  pub leg : leg_at linked node place ≡ Some ride.0
  pub there : stop_at linked to ≡ Some ride.1
  pub more : rides_from linked to places ≡ Some rest
  pub are : ride ∷ rest ≡ rides

pub ride_first : (linked : LinkedGraph) (node place : ℕ) (places : List ℕ) (rides : List (Leg × Stop))
    → rides_from linked node (place ∷ places) ≡ Some rides → IsRide linked node place places rides
ride_first linked node place places rides e =
    let to = then_some (λ (to : ℕ). option_and_then
    (λ (ride : Leg × Stop). option_map (λ (more : List (Leg × Stop)). ride ∷ more) (rides_from linked to places))
    (ride_at linked node place to)) (edges linked.graph node place) rides e in
    let ride = then_some (λ (ride : Leg × Stop). option_map (λ (more : List (Leg × Stop)). ride ∷ more)
    (rides_from linked to.0 places)) (ride_at linked node place to.0) rides to.1.1 in
    let rest = map_some (λ (more : List (Leg × Stop)). ride.0 ∷ more) (rides_from linked to.0 places) rides ride.1.1 in
    let leg = then_some (λ (leg : Leg). option_map (λ (after : Stop). (leg, after)) (stop_at linked to.0))
    (leg_at linked node place) ride.0 ride.1.0 in
    let after = map_some (λ (after : Stop). (leg.0, after)) (stop_at linked to.0) ride.0 leg.1.1 in
    record {
      to = to.0;
      ride = ride.0;
      rest = rest.0;
      edge = to.1.0;
      leg = leg.1.0 ∙ ap (λ (x : Leg × Stop). Some x.0) after.1.1;
      there = after.1.0 ∙ ap (λ (x : Leg × Stop). Some x.1) after.1.1;
      more = rest.1.0;
      are = rest.1.1;
    }

pub no_rides : (linked : LinkedGraph) (node : ℕ) (rides : List (Leg × Stop)) → rides_from linked node [] ≡ Some rides → [] ≡ rides
no_rides linked node rides e = cc

pub good_along : (linked : LinkedGraph) (cuts : List ℕ) (node : ℕ) (places : List ℕ) (stop : Stop) (rides : List (Leg × Stop))
    → IsReady linked.graph linked.links cuts → AreSized linked →
    stop_at linked node ≡ Some stop → rides_from linked node places ≡ Some rides → AreGoodAlong stop rides
good_along linked cuts node [] stop rides ready sized here e =
    subst (λ (r : List (Leg × Stop)). AreGoodAlong stop r) (no_rides linked node rides e)
    (good_stop linked cuts node stop ready sized here)
good_along linked cuts node (place ∷ places) stop rides ready sized here e =
    let r = ride_first linked node place places rides e in
    subst (λ (x : List (Leg × Stop)). AreGoodAlong stop x) r.are (
      good_stop linked cuts node stop ready sized here,
      (
        good_leg linked cuts node place r.to stop r.ride.1 r.ride.0 ready here r.edge r.leg r.there,
        good_along linked cuts r.to
            places r.ride.1 r.rest ready sized r.there r.more,
      ),
    )
