-- A run is cut where its walk comes to cuts: between them it takes few instructions, and each part but the last is a turn of a chain.
use Rattle.std.proofs.Common.{◌≡◌, ◌∙◌, ℕ, suc, ◌+◌, ◌*◌, ◌≤◌, Bool, true, false, cond, List, [], ◌∷◌, length, Option, Some}
use Rattle.std.proofs.Common.{None, slice_get, inl, inr, refl, sym, ap, subst, arith}
use Rattle.std.specs.List.{AllZip}
use Rattle.std.specs.Option.{option_map, option_map_or, option_and_then}
use Rattle.std.proofs.lemmas.Option.{same_Some}
use Rattle.std.proofs.lemmas.List.{take_all}
use mathlib.Core.WellFounded.{Acc}
use Rattle.jvm_values.specs.Paths.{Steps, follow}
use Rattle.jvm_values.specs.States.{MachineState}
use Rattle.abs_cells.specs.AbstractStates.{AbstractState}
use Rattle.abs_cells.specs.Patterns.{Pattern}
use Rattle.class_world.specs.WorldTypes.{types_of}
use Rattle.class_program.specs.Programs.{Program, IsClosed}
use Rattle.class_program.specs.Widths.{HasWidths}
use Rattle.frame_types.specs.Tables.{CodeTypes}
use Rattle.code_verify.specs.Typings.{IsTypingOf}
use Rattle.jvm_run.specs.jvm_step.Running.{step, step_on, run, IsEnd}
use Rattle.jvm_run.specs.Laws.{StepsAreTyped}
use Rattle.descent.specs.declared.rules.PathRule.{PathRule}
use Rattle.descent.specs.Chains.{Turn}
use Rattle.term_graph.specs.declared.links.Link.{Link}
use Rattle.term_graph.specs.declared.nodes.By.{By}
use Rattle.term_graph.specs.declared.nodes.By.TheVariants as ways
use Rattle.term_graph.specs.Graphs.{GraphNode, successors}
use Rattle.path_rules.specs.Paths.{Path, edges, is_cut, inner_edges, only_last, end_of}
use Rattle.path_rules.specs.Stops.{Stop, Leg, child, instance, AreSizes, LinkedGraph, leg_by, stop_at, leg_at, ride_at, rides_from}
use Rattle.path_rules.specs.Rules.{IsRuleOf, slots_of}
use Rattle.path_rules.specs.Walks.{Spot, FitsStop, Crosses, IsWalk, last_of, SlotsAre, WalksMeetRules}
use Rattle.cert_check.proofs.step_laws.Meeting.{closed_state}
use Rattle.cert_check.specs.abs_expand.Laws.{IsAfter}
use Rattle.cert_check.proofs.abs_expand.ZipLists.{beside}
use Rattle.cert_check.specs.graph_check.Good.{IsGoodNode}
use Rattle.cert_check.specs.graph_check.Laws.{GoesBy, GraphsHoldRuns}
use Rattle.cert_check.specs.Certified.{IsCertified}
use Rattle.cert_check.specs.Walks.{Station, IsAt, GoesTo, WalksEnd}
use Rattle.cert_check.proofs.Ending.{agree_at, slot_at, next_of}
use Rattle.cert_check.proofs.Running.{step_first}
use Rattle.bound_check.specs.Bounds.{step_of_link, steps_of_edge, steps_along, HasAtMost}
use Rattle.bound_check.proofs.LawChains.{IsChain, LeadsTo}
use Rattle.bound_check.proofs.LawRoots.{StartsAt, BeginsFrom}

-- ---- runs

one_step : (p : Program) (machine : MachineState) → IsEnd (step p machine) → IsEnd (run p 1 machine)
unfolding step_on
one_step p machine e = e

-- the run goes on from there after so many instructions
abbrev pub Passes : Program → ℕ → MachineState → MachineState → Type 0
Passes p count machine after = (more : ℕ) → run p (count + more) machine ≡ run p more after

abbrev if_step : Bool → ℕ
if_step true = 1
if_step false = 0

passes : (p : Program) (steps : Bool) (machine after : MachineState) → IsAfter p steps machine after
    → Passes p (if_step steps) machine after
passes p true machine after is more =
    let e : 1 + more ≡ suc more = omega arith in
    ap (λ (n : ℕ). run p n machine) e ∙ step_first p machine after is more
passes p false machine after is more =
    let e : 0 + more ≡ more = omega arith in
    ap (λ (n : ℕ). run p n machine) e ∙ ap (run p more) (sym is)

passes_by : (p : Program) (counted : ℕ) (steps : Bool) (machine after : MachineState) → counted ≡ if_step steps
    → IsAfter p steps machine after → Passes p counted machine after
passes_by p counted steps machine after e is = subst (λ (n : ℕ). Passes p n machine after) (sym e) (passes p steps machine after is)

step_is : (link : Link) (b : Bool) → link.step ≡ b → step_of_link (Some link) ≡ if_step b
step_is link true e = ap (λ (b : Bool). cond b 1 0) e
step_is link false e = ap (λ (b : Bool). cond b 1 0) e

-- ---- a certified graph

module _ (p : Program) (typing : ℕ → CodeTypes) (nodes : List GraphNode) (cuts : List ℕ) (root : AbstractState)
    (c : IsCertified p typing nodes cuts root)
    (closed : IsClosed p) (widths : HasWidths p) (typing_is : IsTypingOf p typing) (holds : GraphsHoldRuns)
    (typed_steps : StepsAreTyped) (meets : WalksMeetRules) where
  abbrev linked : LinkedGraph
  linked = record { graph = nodes; links = c.links; sizes = c.are.are.sizes }

  abbrev inner : Steps
  inner = inner_edges nodes cuts

  abbrev At : Station → Type 0
  At s = IsAt p typing nodes s

  abbrev Sized : GraphNode → List (ℕ × Pattern) → Type 0
  Sized n s = AreSizes n.state s

  abbrev sizes_at : (s : Station) → At s → List (ℕ × Pattern)
  sizes_at s at = (beside Sized nodes c.are.are.sizes s.node at.node c.are.are.are_sizes at.is).other

  abbrev pub stop_of : (s : Station) → At s → Stop
  stop_of s at = record { state = at.node.state; sizes = sizes_at s at }

  pub stop_sizes : (s : Station) (at : At s) → AreSizes at.node.state (stop_of s at).sizes
  stop_sizes s at = (beside Sized nodes c.are.are.sizes s.node at.node c.are.are.are_sizes at.is).alike

  stop_is : (s : Station) (at : At s) → stop_at linked s.node ≡ Some (stop_of s at)
  stop_is s at =
      ap (option_and_then (λ (m : GraphNode). option_map (λ (l : List (ℕ × Pattern)). record { state = m.state; sizes = l })
      (slice_get c.are.are.sizes s.node))) at.is
      ∙ ap (option_map (λ (l : List (ℕ × Pattern)). record { state = at.node.state; sizes = l }))
      (beside Sized nodes c.are.are.sizes s.node at.node c.are.are.are_sizes at.is).there

  pub fits_stop : (s : Station) (at : At s) → FitsStop (types_of p.world) (stop_of s at) s.spot
  fits_stop s at = record {
    fits = at.fits;
    closed = closed_state (types_of p.world) at.node.state s.spot.machine s.spot.meaning at.typed.heap at.fits;
  }

  -- ---- one edge

  abbrev Goes : Station → Station → Type 0
  Goes from to = GoesTo p typing nodes c.links from to

  -- the edge by its number, with its instructions, for any two proofs that the stations are at their nodes
  record Onward (from to : Station) (at : At from) (there : At to) : Type 0 where
    pub place : ℕ
    pub edge : edges nodes from.node place ≡ Some to.node
    pub leg : Leg
    pub leg_is : leg_at linked from.node place ≡ Some leg
    pub crosses : Crosses (stop_of from at) from.spot leg (stop_of to there) to.spot
    pub passes : Passes p (steps_of_edge c.links from.node place) from.spot.machine to.spot.machine

  same_node : (s : Station) (a b : At s) → a.node ≡ b.node
  same_node s a b = same_Some a.node b.node (sym a.is ∙ b.is)

  edge_at : (n place : ℕ) (node : GraphNode) → slice_get nodes n ≡ Some node → edges nodes n place ≡ slice_get (successors node.by) place
  edge_at n place node is = ap (option_and_then (λ (from : GraphNode). slice_get (successors from.by) place)) is

  leg_there : (n place : ℕ) (node : GraphNode) (links : List Link) → slice_get nodes n ≡ Some node
      → slice_get c.links n ≡ Some links → leg_at linked n place ≡ leg_by node.by links place
  leg_there n place node links is there =
      ap (option_and_then (λ (m : GraphNode). option_and_then (λ (ls : List Link). leg_by m.by ls place) (slice_get c.links n))) is
      ∙ ap (option_and_then (λ (ls : List Link). leg_by node.by ls place)) there

  steps_there : (n place : ℕ) (links : List Link) → slice_get c.links n ≡ Some links
      → steps_of_edge c.links n place ≡ step_of_link (slice_get links place)
  steps_there n place links there =
      ap (λ (o : Option (List Link)). step_of_link (option_map_or (λ (own : List Link). slice_get own place) o None)) there

  -- where a node is an instance no link is one of a child
  no_links : (s : Station) (at : At s) (target : ℕ) (entries : List (ℕ × ℕ)) (links : List Link) → at.node.by ≡ ways.Instance target entries
      → slice_get c.links s.node ≡ Some links → links ≡ []
  no_links s at target entries links e are =
      let found = beside (IsGoodNode p typing nodes) nodes c.links s.node at.node c.graph.each at.is in
      let same = same_Some links found.other (sym are ∙ found.there) in
      same ∙ (by_left at.node.by e found.alike)
    where
      by_left : (by : By) → by ≡ ways.Instance target entries → {ls : List Link}
          → IsGoodNode p typing nodes (record { state = at.node.state; by = by }) ls → ls ≡ []
      by_left by same {ls} good = (subst (λ (b : By). IsGoodNode p typing nodes (record { state = at.node.state; by = b }) ls) same good).1

  onward_by : (from to : Station) (at : At from) (there : At to) (by : By) (links : List Link) → at.node.by ≡ by
      → slice_get c.links from.node ≡ Some links
      → GoesBy p at.node.state from.spot.machine from.spot.meaning by links to.node there.node.state to.spot.machine to.spot.meaning
      → Onward from to at there
  onward_by from to at there (ways.Expand named) links e are goes = record {
    place = goes.n;
    edge = edge_at from.node goes.n at.node at.is ∙ ap (λ (b : By). slice_get (successors b) goes.n) e ∙ goes.is_named;
    leg = child goes.link;
    leg_is = leg_there from.node goes.n at.node links at.is are ∙ ap (λ (b : By). leg_by b links goes.n) e
        ∙ ap (option_map child) goes.is_link;
    crosses = goes.edge;
    passes = passes_by p (steps_of_edge c.links from.node goes.n) goes.link.step from.spot.machine to.spot.machine
        (steps_there from.node goes.n links are ∙ ap step_of_link goes.is_link ∙ step_is goes.link goes.link.step refl) goes.is_after;
  }
  onward_by from to at there (ways.Instance target entries) links e are goes = record {
    place = 0;
    edge = edge_at from.node 0 at.node at.is ∙ ap (λ (b : By). slice_get (successors b) 0) e ∙ ap (λ (n : ℕ). Some n) (sym goes.is_target);
    leg = instance entries;
    leg_is = leg_there from.node 0 at.node links at.is are ∙ ap (λ (b : By). leg_by b links 0) e;
    crosses = goes.edge;
    passes = passes_by p (steps_of_edge c.links from.node 0) false from.spot.machine to.spot.machine
        (steps_there from.node 0 links are ∙ ap (λ (ls : List Link). step_of_link (slice_get ls 0))
        (no_links from at target entries links e are))
        goes.edge.same;
  }
  onward_by from to at there ways.End links e are goes = absurd goes
  onward_by from to at there ways.Todo links e are goes = absurd goes

  onward : (from to : Station) → Goes from to → (at : At from) (there : At to) → Onward from to at there
  onward from to g at there =
      onward_by from to at there at.node.by g.own refl g.are
      (subst (λ (n : GraphNode). GoesBy p n.state from.spot.machine from.spot.meaning n.by g.own to.node there.node.state
      to.spot.machine to.spot.meaning) (same_node from g.at at)
      (subst (λ (n : GraphNode). GoesBy p g.at.node.state from.spot.machine from.spot.meaning g.at.node.by g.own to.node n.state
      to.spot.machine to.spot.meaning) (same_node to g.there there) g.by))

  -- ---- turns

  -- a walk from a cut to the next one is a turn
  record Arrived (s : Station) (at : At s) (to : ℕ) (end : Spot) : Type 0 where
    pub turn : Turn
    pub starts : StartsAt c.rules s.node (stop_of s at) s.spot turn
    pub cut : starts.is.taken.to ≡ to
    pub last : SlotsAre turn.valuation end starts.is.taken.last

  rules_are : AllZip (IsRuleOf linked cuts) c.are.paths c.rules
  rules_are = subst (λ (ps : List Path). AllZip (IsRuleOf linked cuts) ps c.rules)
      (take_all (length c.rules) c.are.paths (omega (arith, c.are.whole))) c.are.are.are

  arrive : (s : Station) (at : At s) (places : List ℕ) (to : ℕ) (rides : List (Leg × Stop)) (spots : List Spot) → is_cut cuts s.node ≡ true
      → end_of nodes cuts s.node places ≡ Some to → rides_from linked s.node places ≡ Some rides
      → IsWalk (types_of p.world) (stop_of s at) s.spot rides spots → Arrived s at to (last_of s.spot spots)
  arrive s at places to rides spots cut ends goes walked =
      let path : Path = record { from = s.node; places = places } in
      let found = c.are.all.all path (record { starts = cut; to = to; ends = ends }) in
      let rule = beside (IsRuleOf linked cuts) c.are.paths c.rules found.0 path rules_are found.1 in
      let tells = meets (types_of p.world) linked cuts path rule.other s.spot spots c.ready c.are.are.are_sizes rule.alike
      (record { stop = stop_of s at; rides = rides; starts = stop_is s at; goes = goes; walk = walked }) in
      let start = same_Some rule.alike.start (stop_of s at) (sym rule.alike.starts ∙ stop_is s at) in
      record {
        turn = record { rule = found.0; valuation = tells.valuation };
        starts = record {
          is = record { taken = rule.other; is = rule.there; meets = tells.meets };
          from_is = ap (λ (r : PathRule). r.from) rule.alike.is;
          slots_are = ap (λ (r : PathRule). r.first) rule.alike.is ∙ ap (slots_of 0) start;
          first = tells.first;
        };
        cut = ap (λ (r : PathRule). r.to) rule.alike.is ∙ same_Some rule.alike.to to (sym rule.alike.ends ∙ ends);
        last = tells.last;
      }

  -- a turn to a station, and what begins there
  leads_on : (s to : Station) (at : At s) (there : At to) (a : Arrived s at to.node to.spot) (turns : List Turn)
      → BeginsFrom c.rules to.node (stop_of to there) to.spot turns → LeadsTo c.rules a.turn turns
  leads_on s to at there a [] begins = a.starts.is
  leads_on s to at there a (next ∷ turns) begins = record {
    before = a.starts.is;
    after = begins.is;
    cut = a.cut ∙ sym begins.from_is;
    values = λ weigh g i j one other one_at other_at same sort.
        agree_at weigh g a.turn.valuation next.valuation to.spot one other one.size other.size sort same
        (slot_at a.turn.valuation to.spot a.starts.is.taken.last i one a.last one_at)
        (slot_at next.valuation to.spot begins.is.taken.first j other begins.first other_at);
  }

  -- ---- walks on from an edge

  end_step : (n place to : ℕ) (places : List ℕ) (b : Bool) → edges nodes n place ≡ Some to → is_cut cuts to ≡ b
      → end_of nodes cuts n (place ∷ places) ≡ cond b (only_last places to) (end_of nodes cuts to places)
  end_step n place to places b edge cut =
      ap (option_and_then (λ (m : ℕ). cond (is_cut cuts m) (only_last places m) (end_of nodes cuts m places))) edge
      ∙ ap (λ (x : Bool). cond x (only_last places to) (end_of nodes cuts to places)) cut

  inner_step : (n place to : ℕ) (places : List ℕ) → edges nodes n place ≡ Some to → is_cut cuts to ≡ false
      → follow inner (place ∷ places) n ≡ follow inner places to
  inner_step n place to places edge inside =
      ap (option_and_then (follow inner places))
      (ap (option_and_then (λ (m : ℕ). cond (is_cut cuts m) None (Some m))) edge ∙ ap (λ (b : Bool). cond b None (Some to)) inside)

  steps_step : (n place to : ℕ) (places : List ℕ) → edges nodes n place ≡ Some to
      → steps_along nodes c.links n (place ∷ places) ≡ steps_of_edge c.links n place + steps_along nodes c.links to places
  steps_step n place to places edge =
      ap (λ (o : Option ℕ). steps_of_edge c.links n place + option_map_or (λ (m : ℕ). steps_along nodes c.links m places) o 0) edge

  ride_is : (from to : Station) (at : At from) (there : At to) (on : Onward from to at there)
      → ride_at linked from.node on.place to.node ≡ Some (on.leg, stop_of to there)
  ride_is from to at there on =
      ap (option_and_then (λ (leg : Leg). option_map (λ (stop : Stop). (leg, stop)) (stop_at linked to.node))) on.leg_is
      ∙ ap (option_map (λ (stop : Stop). (on.leg, stop))) (stop_is to there)

  rides_step : (from to : Station) (at : At from) (there : At to) (on : Onward from to at there) (places : List ℕ)
      (rides : List (Leg × Stop)) → rides_from linked to.node places ≡ Some rides
      → rides_from linked from.node (on.place ∷ places) ≡ Some ((on.leg, stop_of to there) ∷ rides)
  rides_step from to at there on places rides e =
      ap (option_and_then (λ (m : ℕ). option_and_then
      (λ (ride : Leg × Stop). option_map (λ (rs : List (Leg × Stop)). ride ∷ rs) (rides_from linked m places))
      (ride_at linked from.node on.place m))) on.edge
      ∙ ap (option_and_then
      (λ (ride : Leg × Stop). option_map (λ (rs : List (Leg × Stop)). ride ∷ rs) (rides_from linked to.node places)))
      (ride_is from to at there on)
      ∙ ap (option_map (λ (rs : List (Leg × Stop)). (on.leg, stop_of to there) ∷ rs)) e

  -- ---- journeys

  record IsLastAt (s : Station) : Type 0 where
    pub at : At s
    pub by_end : at.node.by ≡ ways.End
    pub end : IsEnd (step p s.spot.machine)

  -- edges from station to station, up to one where the run ends
  abbrev IsJourney : Station → List Station → Type 0
  IsJourney s [] = IsLastAt s
  IsJourney s (next ∷ rest) = Goes s next × IsJourney next rest

  module _ (most : ℕ) (few : HasAtMost nodes c.links cuts most) where
    -- from a cut, after so many instructions: where the walk comes to the next cut or to an end, few are taken
    record Walked (cut : Station) (at_cut : At cut) (s : Station) (before : ℕ) : Type 0 where
      pub arrives : (at : At s) (places : List ℕ) (to : ℕ) (rides : List (Leg × Stop)) (spots : List Spot)
          → end_of nodes cuts s.node places ≡ Some to → rides_from linked s.node places ≡ Some rides
          → IsWalk (types_of p.world) (stop_of s at) s.spot rides spots
          → Arrived cut at_cut to (last_of s.spot spots) × (before + steps_along nodes c.links s.node places ≤ most)
      pub last : (places : List ℕ) (to : ℕ) (node : GraphNode) → follow inner places s.node ≡ Some to → slice_get nodes to ≡ Some node
          → node.by ≡ ways.End → before + steps_along nodes c.links s.node places ≤ most

    at_cut_walked : (s : Station) (at : At s) → is_cut cuts s.node ≡ true → Walked s at s 0
    at_cut_walked s at cut = record {
      arrives = λ own places to rides spots ends goes walked.
          let same = same_node s own at in (
            arrive s at places to rides spots cut ends goes (walk_at own (stop_same s own at) rides spots walked),
            from_zero (steps_along nodes c.links s.node places)
                (few.paths (record { from = s.node; places = places }) (record { starts = cut; to = to; ends = ends })),
          );
      last = λ places to node leads is ends. from_zero (steps_along nodes c.links s.node places)
          (few.last s.node places (record { starts = cut; to = to; leads = leads; node = node; is = is; ends = ends }));
    }
      where
        from_zero : (n : ℕ) → n ≤ most → 0 + n ≤ most
        from_zero n h = omega (arith, h)

        stop_same : (t : Station) (a b : At t) → stop_of t a ≡ stop_of t b
        stop_same t a b = same_Some (stop_of t a) (stop_of t b) (sym (stop_is t a) ∙ stop_is t b)

        walk_at : (own : At s) → stop_of s own ≡ stop_of s at → (rides : List (Leg × Stop)) (spots : List Spot)
            → IsWalk (types_of p.world) (stop_of s own) s.spot rides spots → IsWalk (types_of p.world) (stop_of s at) s.spot rides spots
        walk_at own e rides spots walked = subst (λ (stop : Stop). IsWalk (types_of p.world) stop s.spot rides spots) e walked

    -- an edge to a node that is no cut
    walked_on : (cut : Station) (at_cut : At cut) (s next : Station) (before : ℕ) → Walked cut at_cut s before → (g : Goes s next)
        → (on : Onward s next g.at g.there) → is_cut cuts next.node ≡ false
        → Walked cut at_cut next (before + steps_of_edge c.links s.node on.place)
    walked_on cut at_cut s next before walked g on inside = record {
      arrives = λ there places to rides spots ends goes rest.
          let on' = onward s next g g.at there in
          let w = walked.arrives g.at (on.place ∷ places) to ((on.leg, stop_of next g.there) ∷ rides) (next.spot ∷ spots)
          (end_step s.node on.place next.node places false on.edge inside ∙ ends)
          (rides_step s next g.at g.there on places rides goes)
          (fits_stop s g.at, (on.crosses, walk_at there (stop_same there) rides spots rest)) in (
            w.0,
            more before (steps_of_edge c.links s.node on.place) (steps_along nodes c.links next.node places) _
                (steps_step s.node on.place next.node places on.edge) w.1,
          );
      last = λ places to node leads is ends.
          more before (steps_of_edge c.links s.node on.place) (steps_along nodes c.links next.node places) _
          (steps_step s.node on.place next.node places on.edge)
          (walked.last (on.place ∷ places) to node (inner_step s.node on.place next.node places on.edge inside ∙ leads) is ends);
    }
      where
        more : (a b d e : ℕ) → e ≡ b + d → a + e ≤ most → (a + b) + d ≤ most
        more a b d e h k = omega (arith, h, k)

        stop_same : (there : At next) → stop_of next there ≡ stop_of next g.there
        stop_same there = same_Some (stop_of next there) (stop_of next g.there) (sym (stop_is next there) ∙ stop_is next g.there)

        walk_at : (there : At next) → stop_of next there ≡ stop_of next g.there → (rides : List (Leg × Stop)) (spots : List Spot)
            → IsWalk (types_of p.world) (stop_of next there) next.spot rides spots
            → IsWalk (types_of p.world) (stop_of next g.there) next.spot rides spots
        walk_at there e rides spots w = subst (λ (stop : Stop). IsWalk (types_of p.world) stop next.spot rides spots) e w

    -- the run ends, after few instructions for each turn of a chain that begins at the cut
    record Counted (cut : Station) (at_cut : At cut) (s : Station) (before : ℕ) : Type 0 where
      pub turns : List Turn
      pub chain : IsChain c.rules turns
      pub begins : BeginsFrom c.rules cut.node (stop_of cut at_cut) cut.spot turns
      pub steps : ℕ
      pub ends : IsEnd (run p (suc steps) s.spot.machine)
      pub bound : before + steps ≤ most * suc (length turns)

    ended : (s next : Station) (count steps : ℕ) → Passes p count s.spot.machine next.spot.machine
        → IsEnd (run p (suc steps) next.spot.machine) → IsEnd (run p (suc (count + steps)) s.spot.machine)
    ended s next count steps passes_on end =
        let e : count + suc steps ≡ suc (count + steps) = omega arith in
        subst IsEnd (sym (passes_on (suc steps)) ∙ ap (λ (n : ℕ). run p n s.spot.machine) e) end

    by_cut : (s next : Station) (g : Goes s next) (on : Onward s next g.at g.there) (cut : Station) (at_cut : At cut) (before : ℕ)
        → Walked cut at_cut s before → (b : Bool) → is_cut cuts next.node ≡ b
        → (is_cut cuts next.node ≡ true → Counted next g.there next 0)
        → (is_cut cuts next.node ≡ false → Counted cut at_cut next (before + steps_of_edge c.links s.node on.place))
        → Counted cut at_cut s before
    by_cut s next g on cut at_cut before walked true is at_next inside =
        let count = steps_of_edge c.links s.node on.place in
        let n = at_next is in
        let a = walked.arrives g.at (on.place ∷ []) next.node ((on.leg, stop_of next g.there) ∷ []) (next.spot ∷ [])
        (end_step s.node on.place next.node [] true on.edge is) (rides_step s next g.at g.there on [] [] refl)
        (fits_stop s g.at, (on.crosses, fits_stop next g.there)) in
        record {
          turns = a.0.turn ∷ n.turns;
          chain = (leads_on cut next at_cut g.there a.0 n.turns n.begins, n.chain);
          begins = a.0.starts;
          steps = count + n.steps;
          ends = ended s next count n.steps on.passes n.ends;
          bound = one_more before count n.steps (length n.turns) _ (steps_step s.node on.place next.node [] on.edge) a.1 n.bound;
        }
      where
        one_more : (a b d l e : ℕ) → e ≡ b + 0 → a + e ≤ most → 0 + d ≤ most * suc l → a + (b + d) ≤ most * suc (suc l)
        one_more a b d l e h k m = omega (arith, h, k, m)
    by_cut s next g on cut at_cut before walked false is at_next inside =
        let count = steps_of_edge c.links s.node on.place in
        let r = inside is in
        record {
          turns = r.turns;
          chain = r.chain;
          begins = r.begins;
          steps = count + r.steps;
          ends = ended s next count r.steps on.passes r.ends;
          bound = shifted before count r.steps (most * suc (length r.turns)) r.bound;
        }
      where
        shifted : (a b d e : ℕ) → (a + b) + d ≤ e → a + (b + d) ≤ e
        shifted a b d e h = omega (arith, h)

    counted : (walk : List Station) (s : Station) → IsJourney s walk → (cut : Station) (at_cut : At cut) (before : ℕ)
        → Walked cut at_cut s before → Counted cut at_cut s before
    counted [] s last cut at_cut before walked = record {
      turns = [];
      chain = tt;
      begins = tt;
      steps = 0;
      ends = one_step p s.spot.machine last.end;
      bound = let h = walked.last [] s.node last.at.node refl last.at.is last.by_end in omega (arith, h);
    }
    counted (next ∷ rest) s journey cut at_cut before walked =
        let g = journey.0 in
        let on = onward s next g g.at g.there in
        by_cut s next g on cut at_cut before walked (is_cut cuts next.node) refl
        (λ is. counted rest next journey.1 next g.there 0 (at_cut_walked next g.there is))
        (λ inside. counted rest next journey.1 cut at_cut (before + steps_of_edge c.links s.node on.place)
        (walked_on cut at_cut s next before walked g on inside))

  -- ---- there is a journey

  record HasJourney (s : Station) : Type 0 where
    pub walk : List Station
    pub is : IsJourney s walk

  has_journey : (s : Station) → WalksEnd p typing nodes c.links s → At s → HasJourney s
  has_journey s (Acc.intro t h) at = elim
      (next_of p typing nodes cuts root c closed widths typing_is holds typed_steps meets s at) as (λ o. HasJourney s) [
        | inl e ↦ record { walk = []; is = record { at = at; by_end = e.0; end = e.1 } }
        | inr on ↦
            let rest = has_journey on.to (h on.to on.goes) on.goes.there in
            record { walk = on.to ∷ rest.walk; is = (on.goes, rest.is) }
      ]

  -- ---- a run from a cut

  -- the run ends after few instructions for each turn of a chain that begins here
  pub record RunCounted (most : ℕ) (s : Station) (at : At s) : Type 0 where
    pub turns : List Turn
    pub chain : IsChain c.rules turns
    pub begins : BeginsFrom c.rules s.node (stop_of s at) s.spot turns
    pub count : ℕ
    pub ends : IsEnd (run p count s.spot.machine)
    pub bound : count ≤ most * (1 + length turns) + 1

  pub run_counted : (most : ℕ) → HasAtMost nodes c.links cuts most → (s : Station) (at : At s) → is_cut cuts s.node ≡ true
      → WalksEnd p typing nodes c.links s → RunCounted most s at
  run_counted most few s at cut finite =
      let j = has_journey s finite at in
      let r = counted most few j.walk s j.is s at 0 (at_cut_walked most few s at cut) in
      record {
        turns = r.turns;
        chain = r.chain;
        begins = r.begins;
        count = suc r.steps;
        ends = r.ends;
        bound = within r.steps (length r.turns) r.bound;
      }
    where
      within : (steps turns : ℕ) → 0 + steps ≤ most * suc turns → suc steps ≤ most * (1 + turns) + 1
      within steps turns h = omega (arith, h)
