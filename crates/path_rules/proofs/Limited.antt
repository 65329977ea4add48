-- The rules of all paths are within the limits of proofs.
use Rattle.std.proofs.Common.{◌≡◌, ℕ, List, [], ◌∷◌, length, take, Some, sym, subst}
use Rattle.std.specs.Prelude.{All}
use Rattle.std.specs.List.{AllByRecursion, AllZip}
use Rattle.std.proofs.lemmas.List.Elements.{All-from_recursion}
use Rattle.list_views.proofs.Quantified.{all_at}
use Rattle.descent.specs.declared.rules.PathRule.{PathRule}
use Rattle.descent.specs.Conditions.{IsRule}
use Rattle.term_graph.specs.Graphs.{GraphNode}
use Rattle.path_rules.specs.inner.Building.{AllBounded}
use Rattle.path_rules.specs.Conditions.{AreBounded, IsReady}
use Rattle.path_rules.specs.RuleLimits.{RulesFit}
use Rattle.path_rules.specs.Paths.{Path}
use Rattle.path_rules.specs.Rules.{IsRuleOf}
use Rattle.path_rules.specs.Stops.{Stop, Leg, LinkedGraph, AreSized, stop_at, rides_from}
use Rattle.path_rules.proofs.Fitting.{rule_fits}
use Rattle.path_rules.proofs.Ready.{stop_is, ride_first}

module _ (linked : LinkedGraph) (cuts : List ℕ) (ready : IsReady linked.graph linked.links cuts) (sized : AreSized linked)
    (bounded : All (λ (n : GraphNode). AreBounded n.state) linked.graph) where
  stop_bounded : (node : ℕ) (stop : Stop) → stop_at linked node ≡ Some stop → AreBounded stop.state
  stop_bounded node stop e =
      let s = stop_is linked node stop e in
      subst AreBounded s.state_is (all_at (λ (n : GraphNode). AreBounded n.state) linked.graph node s.there bounded s.is)

  rides_bounded : (node : ℕ) (places : List ℕ) (rides : List (Leg × Stop)) → rides_from linked node places ≡ Some rides
      → AllBounded rides
  rides_bounded node [] rides e = let none : [] ≡ rides = cc in subst AllBounded none tt
  rides_bounded node (place ∷ places) rides e =
      let r = ride_first linked node place places rides e in
      subst AllBounded r.are (stop_bounded r.to r.ride.1 r.there, rides_bounded r.to places r.rest r.more)

  rule_good : (path : Path) (rule : PathRule) → IsRuleOf linked cuts path rule → IsRule rule
  rule_good path rule is =
      subst IsRule (sym is.is)
      (rule_fits linked cuts path.from is.to path.places
      (record { start = is.start; rides = is.rides; starts = is.starts; goes = is.goes }) ready sized
      (stop_bounded path.from is.start is.starts) (rides_bounded path.from path.places is.rides is.goes))

  each_good : (paths : List Path) (rules : List PathRule) → AllZip (IsRuleOf linked cuts) paths rules
      → AllByRecursion IsRule rules
  each_good [] [] are = tt
  each_good [] (rule ∷ rules) are = absurd are
  each_good (path ∷ paths) [] are = tt
  each_good (path ∷ paths) (rule ∷ rules) are = (rule_good path rule are.0, each_good paths rules are.1)

pub rules_fit : RulesFit
rules_fit graph links cuts rules ready bounded has =
    All-from_recursion IsRule rules
    (each_good (record { graph = graph; links = links; sizes = has.are.sizes }) cuts ready has.are.are_sizes bounded
    (take (length rules) has.paths) rules has.are.are)
