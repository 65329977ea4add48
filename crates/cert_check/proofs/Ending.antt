-- Walks through a good graph from cut to cut are turns of a chain, so runs end.
use Rattle.std.proofs.Common.{◌≡◌, ◌<◌, ◌≤◌, ◌+◌, ◌∙◌, ◌==◌, ℕ, ℤ, zero, suc, Bool, true, false, cond, List, [], ◌∷◌}
use Rattle.std.proofs.Common.{◌++◌, length, set, replicate, Some, None, slice_get, ◌⊎◌, inl, inr, refl, sym, ap, subst, arith}
use Rattle.std.proofs.Common.{eq-eqb}
use Rattle.std.specs.List.{AllZip, list_any}
use Rattle.std.specs.Option.{option_map, option_and_then}
use Rattle.std.proofs.Math.ListN.{length-set, length-replicate}
use Rattle.std.proofs.lemmas.Bool.{false≢true, cases_Bool, or_left}
use Rattle.std.proofs.lemmas.Option.{slice_get_within, get_or_from_slice_get, none-some}
use Rattle.std.proofs.lemmas.List.{take_all}
use Rattle.std.proofs.lemmas.List.Elements.{All-get_or}
use mathlib.Core.WellFounded.{Acc}
use Rattle.jvm_values.proofs.Options.{some_is}
use Rattle.jvm_values.specs.Heaps.{target}
use Rattle.jvm_values.specs.Paths.{Steps, follow}
use Rattle.jvm_values.specs.States.{MachineState}
use Rattle.jvm_values.specs.Terms.{IsTerm}
use Rattle.jvm_heaps.specs.Marks.{IsMarked}
use Rattle.list_views.specs.Lists.{open_count}
use Rattle.jvm_heaps.proofs.MarkLaws.{set_only}
use Rattle.jvm_heaps.proofs.MarkTurns.{none_marked}
use Rattle.jvm_heaps.proofs.TermLaws.{ComesTo, one_step, step_more, fewer_open}
use Rattle.abs_cells.specs.AbstractStates.{AbstractState}
use Rattle.abs_cells.specs.Fits.{Meaning, Fits}
use Rattle.abs_cells.specs.Patterns.{Pattern}
use Rattle.class_program.specs.class_world.WorldTypes.{types_of}
use Rattle.class_program.specs.Programs.{Program, IsClosed}
use Rattle.class_program.specs.Widths.{HasWidths}
use Rattle.class_program.proofs.GoodPrograms.{good_program}
use Rattle.frame_types.specs.Tables.{CodeTypes}
use Rattle.code_verify.specs.Typings.{IsTypingOf}
use Rattle.code_verify.specs.TypedStates.{IsTypedState}
use Rattle.jvm_step.specs.Running.{Ends}
use Rattle.plan_links.specs.jvm_run.Laws.{GoesTyped, StepsAreTyped, RunsAreNeverStuck}
use Rattle.input_root.specs.InputDescInitial.{initial_of}
use Rattle.input_root.specs.Roots.{input_values, FittingStatesAreTyped, FittingStatesAreDescribed}
use Rattle.descent.specs.declared.rules.PathRule.{PathRule}
use Rattle.descent.specs.declared.rules.SlotForm.{SlotForm}
use Rattle.descent.specs.Valuations.{Valuation, IsWeighing, slot_value}
use Rattle.descent.specs.Chains.{Turn, IsTurn, Follows}
use Rattle.term_graph.specs.declared.links.Link.{Link}
use Rattle.term_graph.specs.declared.nodes.By.{By}
use Rattle.term_graph.specs.declared.nodes.By.TheVariants as ways
use Rattle.term_graph.specs.Graphs.{GraphNode, successors}
use Rattle.term_graph.specs.Edges.{number_of}
use Rattle.path_rules.specs.Paths.{Path, edges, is_cut, inner_edges, only_last, end_of}
use Rattle.path_rules.specs.Stops.{Stop, Leg, child, instance, AreSizes, LinkedGraph, leg_by, stop_at, leg_at, ride_at, rides_from}
use Rattle.path_rules.specs.Rules.{IsRuleOf}
use Rattle.graph_check.proofs.step_laws.Meeting.{closed_state}
use Rattle.path_rules.specs.TermEncSizes.{weight_of}
use Rattle.path_rules.specs.Walks.{Spot, FitsStop, Crosses, IsWalk, last_of, SlotIs, SlotsAre, WalksMeetRules}
use Rattle.graph_check.specs.abs_expand.Laws.{IsAfter, IsMet}
use Rattle.graph_check.specs.Good.{IsGoodNode}
use Rattle.graph_check.specs.Laws.{GoesBy, EndsHere, GraphsHoldRuns}
use Rattle.graph_check.proofs.abs_expand.ZipLists.{beside}
use Rattle.graph_check.proofs.Excluding.{good_by}
use Rattle.cert_check.specs.Certified.{IsCertified}
use Rattle.cert_check.specs.Walks.{Station, IsAt, GoesTo, WalksEnd, IsLast}
use Rattle.cert_check.specs.Laws.{CertifiedWalksEnd, LastNodesEnd, CertifiedRunsEnd}
use Rattle.cert_check.proofs.Running.{ends_now, ends_before}
use Rattle.cert_check.proofs.Terms.{one_term}

-- ---- slots of two turns at one state

pub agree_at : (weigh : ℕ → ℤ) → IsWeighing weigh → (v w : Valuation) (spot : Spot) (s t : SlotForm) (a b : Bool) → a ≡ b → s.id ≡ t.id
    → SlotIs v spot s a → SlotIs w spot t b → slot_value weigh v s ≡ slot_value weigh w t
agree_at weigh g v w spot s t false false e same h k = h weigh g ∙ ap (λ id. number_of (spot.meaning id)) same ∙ sym (k weigh g)
agree_at weigh g v w spot s t true true e same h k =
    h.1.1 weigh g
    ∙ ap (weight_of weigh)
    (one_term spot.machine.heap (spot.meaning t.id) h.0 k.0
    (subst (λ id. IsTerm spot.machine.heap (spot.meaning id) h.0) same h.1.0) k.1.0)
    ∙ sym (k.1.1 weigh g)
agree_at weigh g v w spot s t false true e same h k = absurd (false≢true e)
agree_at weigh g v w spot s t true false e same h k = absurd (false≢true (sym e))

pub slot_at : (v : Valuation) (spot : Spot) (slots : List SlotForm) (n : ℕ) (slot : SlotForm) → SlotsAre v spot slots
    → slice_get slots n ≡ Some slot → SlotIs v spot slot slot.size
slot_at v spot slots n slot are at =
    subst (λ (s : SlotForm). SlotIs v spot s s.size) (get_or_from_slice_get slots n slot slot at)
    (All-get_or (λ (s : SlotForm). SlotIs v spot s s.size) slots n slot (slice_get_within slots n slot at) are)

-- ---- a certified graph

module _ (p : Program) (typing : ℕ → CodeTypes) (nodes : List GraphNode) (cuts : List ℕ) (root : AbstractState)
    (c : IsCertified p typing nodes cuts root)
    (closed : IsClosed p) (widths : HasWidths p) (typing_is : IsTypingOf p typing) (holds : GraphsHoldRuns)
    (typed_steps : StepsAreTyped) (meets : WalksMeetRules) where
  abbrev linked : LinkedGraph
  linked = record { graph = nodes; links = c.links; sizes = c.are.are.sizes }

  abbrev inner : Steps
  inner = inner_edges nodes cuts

  abbrev At : Station → Type 0
  At s = IsAt p typing nodes s

  abbrev Sized : GraphNode → List (ℕ × Pattern) → Type 0
  Sized n s = AreSizes n.state s

  abbrev sizes_at : (s : Station) → At s → List (ℕ × Pattern)
  sizes_at s at = (beside Sized nodes c.are.are.sizes s.node at.node c.are.are.are_sizes at.is).other

  abbrev stop_of : (s : Station) → At s → Stop
  stop_of s at = record { state = at.node.state; sizes = sizes_at s at }

  stop_is : (s : Station) (at : At s) → stop_at linked s.node ≡ Some (stop_of s at)
  stop_is s at =
      ap (option_and_then (λ (m : GraphNode). option_map (λ (l : List (ℕ × Pattern)). record { state = m.state; sizes = l })
      (slice_get c.are.are.sizes s.node))) at.is
      ∙ ap (option_map (λ (l : List (ℕ × Pattern)). record { state = at.node.state; sizes = l }))
      (beside Sized nodes c.are.are.sizes s.node at.node c.are.are.are_sizes at.is).there

  fits_stop : (s : Station) (at : At s) → FitsStop (types_of p.world) (stop_of s at) s.spot
  fits_stop s at = record {
    fits = at.fits;
    closed = closed_state (types_of p.world) at.node.state s.spot.machine s.spot.meaning at.typed.heap at.fits;
  }

  -- ---- one edge

  abbrev Goes : Station → Station → Type 0
  Goes from to = GoesTo p typing nodes c.links from to

  -- the edge by its number, for any two proofs that the stations are at their nodes
  pub record Onward (from to : Station) (at : At from) (there : At to) : Type 0 where
    pub place : ℕ
    pub edge : edges nodes from.node place ≡ Some to.node
    pub leg : Leg
    pub leg_is : leg_at linked from.node place ≡ Some leg
    pub crosses : Crosses (stop_of from at) from.spot leg (stop_of to there) to.spot

  same_node : (s : Station) (a b : At s) → a.node ≡ b.node
  same_node s a b = some_is (sym a.is ∙ b.is)

  edge_at : (n place : ℕ) (node : GraphNode) → slice_get nodes n ≡ Some node → edges nodes n place ≡ slice_get (successors node.by) place
  edge_at n place node is = ap (option_and_then (λ (from : GraphNode). slice_get (successors from.by) place)) is

  leg_there : (n place : ℕ) (node : GraphNode) (links : List Link) → slice_get nodes n ≡ Some node
      → slice_get c.links n ≡ Some links → leg_at linked n place ≡ leg_by node.by links place
  leg_there n place node links is there =
      ap (option_and_then (λ (m : GraphNode). option_and_then (λ (ls : List Link). leg_by m.by ls place) (slice_get c.links n))) is
      ∙ ap (option_and_then (λ (ls : List Link). leg_by node.by ls place)) there

  onward_by : (from to : Station) (at : At from) (there : At to) (by : By) (links : List Link) → at.node.by ≡ by
      → slice_get c.links from.node ≡ Some links
      → GoesBy p at.node.state from.spot.machine from.spot.meaning by links to.node there.node.state to.spot.machine to.spot.meaning
      → Onward from to at there
  onward_by from to at there (ways.Expand named) links e are goes = record {
    place = goes.n;
    edge = edge_at from.node goes.n at.node at.is ∙ ap (λ (b : By). slice_get (successors b) goes.n) e ∙ goes.is_named;
    leg = child goes.link;
    leg_is = leg_there from.node goes.n at.node links at.is are ∙ ap (λ (b : By). leg_by b links goes.n) e
        ∙ ap (option_map child) goes.is_link;
    crosses = goes.edge;
  }
  onward_by from to at there (ways.Instance target entries) links e are goes = record {
    place = 0;
    edge = edge_at from.node 0 at.node at.is ∙ ap (λ (b : By). slice_get (successors b) 0) e ∙ ap Some (sym goes.is_target);
    leg = instance entries;
    leg_is = leg_there from.node 0 at.node links at.is are ∙ ap (λ (b : By). leg_by b links 0) e;
    crosses = goes.edge;
  }
  onward_by from to at there ways.End links e are goes = absurd goes
  onward_by from to at there ways.Todo links e are goes = absurd goes

  onward : (from to : Station) → Goes from to → (at : At from) (there : At to) → Onward from to at there
  onward from to g at there =
      onward_by from to at there at.node.by g.own refl g.are
      (subst (λ (n : GraphNode). GoesBy p n.state from.spot.machine from.spot.meaning n.by g.own to.node there.node.state
      to.spot.machine to.spot.meaning) (same_node from g.at at)
      (subst (λ (n : GraphNode). GoesBy p g.at.node.state from.spot.machine from.spot.meaning g.at.node.by g.own to.node n.state
      to.spot.machine to.spot.meaning) (same_node to g.there there) g.by))

  -- ---- walks to the next cut

  -- where a walk comes to a cut, all walks from there end
  abbrev Arrives : Station → Type 0
  Arrives s =
      (at : At s) (places : List ℕ) (to : ℕ) (rides : List (Leg × Stop)) (spots : List Spot)
      → end_of nodes cuts s.node places ≡ Some to → rides_from linked s.node places ≡ Some rides
      → IsWalk (types_of p.world) (stop_of s at) s.spot rides spots
      → is_cut cuts to ≡ true → At (record { node = to; spot = last_of s.spot spots })
      → WalksEnd p typing nodes c.links (record { node = to; spot = last_of s.spot spots })

  end_step : (n place to : ℕ) (places : List ℕ) (b : Bool) → edges nodes n place ≡ Some to → is_cut cuts to ≡ b
      → end_of nodes cuts n (place ∷ places) ≡ cond b (only_last places to) (end_of nodes cuts to places)
  end_step n place to places b edge cut =
      ap (option_and_then (λ (m : ℕ). cond (is_cut cuts m) (only_last places m) (end_of nodes cuts m places))) edge
      ∙ ap (λ (x : Bool). cond x (only_last places to) (end_of nodes cuts to places)) cut

  ride_is : (from to : Station) (at : At from) (there : At to) (on : Onward from to at there)
      → ride_at linked from.node on.place to.node ≡ Some (on.leg, stop_of to there)
  ride_is from to at there on =
      ap (option_and_then (λ (leg : Leg). option_map (λ (stop : Stop). (leg, stop)) (stop_at linked to.node))) on.leg_is
      ∙ ap (option_map (λ (stop : Stop). (on.leg, stop))) (stop_is to there)

  rides_step : (from to : Station) (at : At from) (there : At to) (on : Onward from to at there) (places : List ℕ)
      (rides : List (Leg × Stop)) → rides_from linked to.node places ≡ Some rides
      → rides_from linked from.node (on.place ∷ places) ≡ Some ((on.leg, stop_of to there) ∷ rides)
  rides_step from to at there on places rides e =
      ap (option_and_then (λ (m : ℕ). option_and_then
      (λ (ride : Leg × Stop). option_map (λ (rs : List (Leg × Stop)). ride ∷ rs) (rides_from linked m places))
      (ride_at linked from.node on.place m))) on.edge
      ∙ ap (option_and_then
      (λ (ride : Leg × Stop). option_map (λ (rs : List (Leg × Stop)). ride ∷ rs) (rides_from linked to.node places)))
      (ride_is from to at there on)
      ∙ ap (option_map (λ (rs : List (Leg × Stop)). (on.leg, stop_of to there) ∷ rs)) e

  -- the edge leads to a cut
  arrives_here : (from to : Station) → Goes from to → Arrives from → is_cut cuts to.node ≡ true → WalksEnd p typing nodes c.links to
  arrives_here from to g arrives cut =
      let on = onward from to g g.at g.there in
      arrives g.at (on.place ∷ []) to.node ((on.leg, stop_of to g.there) ∷ []) (to.spot ∷ [])
      (end_step from.node on.place to.node [] true on.edge cut) (rides_step from to g.at g.there on [] [] refl)
      (fits_stop from g.at, (on.crosses, fits_stop to g.there)) cut g.there

  -- the edge leads to another node
  arrives_later : (from to : Station) → Goes from to → Arrives from → is_cut cuts to.node ≡ false → Arrives to
  arrives_later from to g arrives inside there places last rides spots ends goes walked cut end =
      let on = onward from to g g.at there in
      arrives g.at (on.place ∷ places) last ((on.leg, stop_of to there) ∷ rides) (to.spot ∷ spots)
      (end_step from.node on.place to.node places false on.edge inside ∙ ends) (rides_step from to g.at there on places rides goes)
      (fits_stop from g.at, (on.crosses, walked)) cut end

  inner_edge : (n place to : ℕ) → edges nodes n place ≡ Some to → is_cut cuts to ≡ false → inner n place ≡ Some to
  inner_edge n place to edge inside =
      ap (option_and_then (λ (m : ℕ). cond (is_cut cuts m) None (Some m))) edge ∙ ap (λ (b : Bool). cond b None (Some to)) inside

  -- no edges to nodes that are no cuts lead back
  no_return : (n : ℕ) → ComesTo inner n n → ⊥
  no_return n h = c.cut n
      (record { first = h.first; places = h.rest.path; leads = ap (option_and_then (follow inner h.rest.path)) h.leads ∙ h.rest.leads })

  passed_on : (marks : List Bool) (n place to : ℕ) → inner n place ≡ Some to → ((x : ℕ) → IsMarked marks x → ComesTo inner x n)
      → (x : ℕ) → IsMarked (set marks n true) x → ComesTo inner x to
  passed_on marks n place to edge passed x marked = elim (set_only marks n x marked) [
    | inl m ↦ step_more inner x n place to (passed x m) edge
    | inr e ↦ one_step inner x place to (subst (λ (k : ℕ). inner k place ≡ Some to) (sym e) edge)
  ]

  fewer : (marks : List Bool) (s : Station) → At s → length marks ≡ length nodes
      → ((x : ℕ) → IsMarked marks x → ComesTo inner x s.node) → open_count (set marks s.node true) < open_count marks
  fewer marks s at size passed = fewer_open marks s.node
      (subst (λ (k : ℕ). s.node < k) (sym size) (slice_get_within nodes s.node at.node at.is)) (λ m. no_return s.node (passed s.node m))

  walk : (depth : ℕ) (marks : List Bool) (s : Station) → At s → length marks ≡ length nodes → open_count marks ≤ depth
      → ((x : ℕ) → IsMarked marks x → ComesTo inner x s.node) → Arrives s → WalksEnd p typing nodes c.links s
  walk zero marks s at size few passed arrives = absurd (omega (arith, few, fewer marks s at size passed))
  walk (suc depth) marks s at size few passed arrives = Acc.intro s (λ to g.
      let on = onward s to g g.at g.there in
      elim (cases_Bool (is_cut cuts to.node)) [
        | inl cut ↦ arrives_here s to g arrives cut
        | inr inside ↦ walk depth (set marks s.node true) to g.there (length-set marks s.node true ∙ size)
            (omega (arith, few, fewer marks s at size passed))
            (passed_on marks s.node on.place to.node (inner_edge s.node on.place to.node on.edge inside) passed)
            (arrives_later s to g arrives inside)
      ])

  from_cut : (s : Station) → At s → Arrives s → WalksEnd p typing nodes c.links s
  from_cut s at arrives =
      let marks = replicate (length nodes) false in
      walk (open_count marks) marks s at (length-replicate (length nodes) false) (omega arith)
      (λ x m. absurd (none_marked (length nodes) x m)) arrives

  -- ---- turns

  pub record EndsIn (turn : Turn) (to : ℕ) (spot : Spot) : Type 0 where
    pub is : IsTurn c.rules turn
    pub cut : is.taken.to ≡ to
    pub slots : SlotsAre turn.valuation spot is.taken.last

  pub record Arrived (from : ℕ) (start : Spot) (to : ℕ) (end : Spot) : Type 0 where
    pub turn : Turn
    pub ends_in : EndsIn turn to end
    pub starts : ends_in.is.taken.from ≡ from
    pub first : SlotsAre turn.valuation start ends_in.is.taken.first

  rules_are : AllZip (IsRuleOf linked cuts) c.are.paths c.rules
  rules_are = subst (λ (ps : List Path). AllZip (IsRuleOf linked cuts) ps c.rules)
      (take_all (length c.rules) c.are.paths (omega (arith, c.are.whole))) c.are.are.are

  arrive : (s : Station) (at : At s) (places : List ℕ) (to : ℕ) (rides : List (Leg × Stop)) (spots : List Spot) → is_cut cuts s.node ≡ true
      → end_of nodes cuts s.node places ≡ Some to → rides_from linked s.node places ≡ Some rides
      → IsWalk (types_of p.world) (stop_of s at) s.spot rides spots → Arrived s.node s.spot to (last_of s.spot spots)
  arrive s at places to rides spots cut ends goes walked =
      let path : Path = record { from = s.node; places = places } in
      let found = c.are.all.all path (record { starts = cut; to = to; ends = ends }) in
      let rule = beside (IsRuleOf linked cuts) c.are.paths c.rules found.0 path rules_are found.1 in
      let tells = meets (types_of p.world) linked cuts path rule.other s.spot spots c.ready c.are.are.are_sizes rule.alike
      (record { stop = stop_of s at; rides = rides; starts = stop_is s at; goes = goes; walk = walked }) in
      record {
        turn = record { rule = found.0; valuation = tells.valuation };
        ends_in = record {
          is = record { taken = rule.other; is = rule.there; meets = tells.meets };
          cut = ap (λ (r : PathRule). r.to) rule.alike.is ∙ some_is (sym rule.alike.ends ∙ ends);
          slots = tells.last;
        };
        starts = ap (λ (r : PathRule). r.from) rule.alike.is;
        first = tells.first;
      }

  follows : (turn : Turn) (from : ℕ) (spot : Spot) (to : ℕ) (end : Spot) (e : EndsIn turn from spot) (a : Arrived from spot to end)
      → Follows c.rules turn a.turn
  follows turn from spot to end e a = record {
    before = e.is;
    after = a.ends_in.is;
    cut = e.cut ∙ sym a.starts;
    values = λ weigh g i j s t s_at t_at same sort.
        agree_at weigh g turn.valuation a.turn.valuation spot s t s.size t.size sort same
        (slot_at turn.valuation spot e.is.taken.last i s e.slots s_at)
        (slot_at a.turn.valuation spot a.ends_in.is.taken.first j t a.first t_at);
  }

  ends_from : (turn : Turn) → Acc (λ (v u : Turn). Follows c.rules u v) turn → (s : Station) → is_cut cuts s.node ≡ true
      → EndsIn turn s.node s.spot → At s → WalksEnd p typing nodes c.links s
  ends_from turn (Acc.intro t h) s cut e at =
      from_cut s at (λ own places to rides spots ends goes walked next there.
      let a = arrive s own places to rides spots cut ends goes walked in
      ends_from a.turn (h a.turn (follows turn s.node s.spot to (last_of s.spot spots) e a))
      (record { node = to; spot = last_of s.spot spots }) next a.ends_in there)

  first_cut : (list : List ℕ) → slice_get list 0 ≡ Some 0 → is_cut list 0 ≡ true
  first_cut [] e = absurd (none-some 0 e)
  first_cut (x ∷ xs) e = or_left (x == 0) (list_any (λ cut. cut == 0) xs) (eq-eqb x 0 (some_is e))

  pub walks_end_at_root : (spot : Spot) → At (record { node = 0; spot = spot })
      → WalksEnd p typing nodes c.links (record { node = 0; spot = spot })
  walks_end_at_root spot at =
      let cut = first_cut cuts c.ready.first in
      from_cut (record { node = 0; spot = spot }) at (λ own places to rides spots ends goes walked next there.
      let a = arrive (record { node = 0; spot = spot }) own places to rides spots cut ends goes walked in
      ends_from a.turn (c.ends a.turn) (record { node = to; spot = last_of spot spots }) next a.ends_in there)

  -- ---- runs

  after_typed : (b : Bool) (machine after : MachineState) → IsAfter p b machine after → IsTypedState p typing machine
      → IsTypedState p typing after
  after_typed false machine after is typed = subst (IsTypedState p typing) (sym is) typed
  after_typed true machine after is typed = subst (GoesTyped p typing) is (typed_steps p typing closed widths typing_is machine typed)

  typed_by : (state : AbstractState) (machine : MachineState) (meaning : Meaning) (by : By) (links : List Link) (to : ℕ)
      (next : AbstractState) (after : MachineState) (meaning_after : Meaning)
      → GoesBy p state machine meaning by links to next after meaning_after → IsTypedState p typing machine → IsTypedState p typing after
  typed_by state machine meaning (ways.Expand named) links to next after meaning_after goes typed = after_typed goes.link.step
      machine after goes.is_after typed
  typed_by state machine meaning (ways.Instance target entries) links to next after meaning_after goes typed = subst
      (IsTypedState p typing) (sym goes.edge.same) typed
  typed_by state machine meaning ways.End links to next after meaning_after goes typed = absurd goes
  typed_by state machine meaning ways.Todo links to next after meaning_after goes typed = absurd goes

  ends_by : (state : AbstractState) (machine : MachineState) (meaning : Meaning) (by : By) (links : List Link) (to : ℕ)
      (next : AbstractState) (after : MachineState) (meaning_after : Meaning)
      → GoesBy p state machine meaning by links to next after meaning_after → Ends p after → Ends p machine
  ends_by state machine meaning (ways.Expand named) links to next after meaning_after goes ends = ends_before p goes.link.step
      machine after goes.is_after ends
  ends_by state machine meaning (ways.Instance target entries) links to next after meaning_after goes ends = subst (Ends p)
      goes.edge.same ends
  ends_by state machine meaning ways.End links to next after meaning_after goes ends = absurd goes
  ends_by state machine meaning ways.Todo links to next after meaning_after goes ends = absurd goes

  -- a state at a node ends there, or goes on to one at another node
  pub record Moves (s : Station) : Type 0 where
    pub to : Station
    pub goes : Goes s to
    pub before : Ends p to.spot.machine → Ends p s.spot.machine

  pub next_of : (s : Station) (at : At s) → EndsHere p at.node s.spot.machine ⊎ Moves s
  next_of s at =
      let found = beside (IsGoodNode p typing nodes) nodes c.links s.node at.node c.graph.each at.is in
      let met : IsMet p typing at.node.state s.spot.machine s.spot.meaning =
      record {
        program = good_program p closed;
        typing_is = typing_is;
        good = good_by p typing nodes at.node.state at.node.by
            found.other found.alike;
        typed = at.typed;
        fits = at.fits;
      } in
      elim (holds p typing nodes root c.links closed widths c.graph s.node at.node found.other at.is found.there s.spot.machine
      s.spot.meaning met) [
        | inl e ↦ inl e
        | inr on ↦ inr (record {
          to = record { node = on.to; spot = record { machine = on.after; meaning = on.meaning_after } };
          goes = record {
            at = at;
            there = record {
              node = on.successor;
              is = on.is;
              fits = on.fits;
              typed = typed_by at.node.state s.spot.machine s.spot.meaning at.node.by found.other on.to on.successor.state on.after
                  on.meaning_after on.by at.typed;
            };
            own = found.other;
            are = found.there;
            by = on.by;
          };
          before = ends_by at.node.state s.spot.machine s.spot.meaning at.node.by found.other on.to on.successor.state on.after
              on.meaning_after on.by;
        })
      ]

  pub runs_from : (s : Station) → WalksEnd p typing nodes c.links s → At s → Ends p s.spot.machine
  runs_from s (Acc.intro t h) at = elim (next_of s at) [
    | inl e ↦ ends_now p s.spot.machine e.1
    | inr on ↦ on.before (runs_from on.to (h on.to on.goes) on.goes.there)
  ]

  pub last_ends : (s : Station) (at : At s) → IsLast p typing nodes c.links s → at.node.by ≡ ways.End
  last_ends s at last = elim (next_of s at) [
    | inl e ↦ e.0
    | inr on ↦ absurd (last on.to on.goes)
  ]

-- ---- the laws

pub walks_end : StepsAreTyped → WalksMeetRules → GraphsHoldRuns → CertifiedWalksEnd
walks_end typed_steps meets holds p typing nodes cuts root closed widths typing_is c spot at =
    walks_end_at_root p typing nodes cuts root c closed widths typing_is holds typed_steps meets spot at

pub last_nodes_end : StepsAreTyped → WalksMeetRules → GraphsHoldRuns → LastNodesEnd
last_nodes_end typed_steps meets holds p typing nodes cuts root closed widths typing_is c station at last =
    last_ends p typing nodes cuts root c closed widths typing_is holds typed_steps meets station at last

pub runs_end : StepsAreTyped → RunsAreNeverStuck → FittingStatesAreTyped → FittingStatesAreDescribed
    → WalksMeetRules → GraphsHoldRuns → CertifiedRunsEnd
runs_end typed_steps never_stuck are_typed are_described meets holds p typing desc nodes cuts closed widths typing_is
    own c state fits =
    let typed = are_typed p desc typing state closed typing_is own fits in
    let spot : Spot = record { machine = state; meaning = input_values (fits.args ++ state.statics) } in
    let rooted = c.graph.rooted in
    let at : IsAt p typing nodes (record { node = 0; spot = spot }) = record {
      node = rooted.node;
      is = rooted.is;
      fits = subst (λ (s : AbstractState). Fits (types_of p.world) s state spot.meaning) (sym rooted.state_is)
          (are_described p desc state closed own fits);
      typed = typed;
    } in
    let walks = walks_end_at_root p typing nodes cuts (initial_of p desc) c closed widths typing_is holds typed_steps
    meets spot at in (
      runs_from p typing nodes cuts (initial_of p desc) c closed widths typing_is holds typed_steps meets
          (record { node = 0; spot = spot }) walks at,
      never_stuck p typing closed widths typing_is state typed,
    )
