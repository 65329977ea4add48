-- Walks to End nodes end as the graph's report says.
use Rattle.std.proofs.Common.{◌≡◌, ◌⊎◌, ◌∙◌, ◌++◌, inl, inr, ℕ, zero, suc, Bool, true, false, List, [], ◌∷◌, map, Option, Some}
use Rattle.std.proofs.Common.{None, slice_get}
use Rattle.std.proofs.Common.{refl, sym, ap, subst}
use Rattle.std.specs.Option.{option_map_or}
use Rattle.std.proofs.lemmas.Option.{none-some}
use mathlib.Core.WellFounded.{Acc}
use Rattle.list_views.specs.Lists.{Has}
use Rattle.number_graphs.specs.Graphs.{IsWay}
use Rattle.number_graphs.specs.Lists.{Edge}
use Rattle.jvm_values.proofs.Options.{some_is}
use Rattle.jvm_values.specs.declared.heap.Value.TheVariants as values
use Rattle.jvm_values.specs.declared.heap.Object.{Object}
use Rattle.jvm_values.specs.declared.heap.Object.TheVariants.{Instance}
use Rattle.jvm_values.specs.declared.state.Mode.{Mode}
use Rattle.jvm_values.specs.declared.state.Mode.TheVariants.{Normal, Throwing}
use Rattle.jvm_values.specs.States.{MachineState}
use Rattle.abs_cells.specs.declared.cells.Cell.TheVariants.{Obj}
use Rattle.abs_cells.specs.AbstractStates.{AbstractState}
use Rattle.abs_cells.specs.Fits.{Meaning, Fits, FitsMode, IsObject}
use Rattle.class_world.specs.WorldTypes.{types_of}
use Rattle.class_program.specs.Programs.{Program, IsClosed}
use Rattle.class_program.specs.Widths.{HasWidths}
use Rattle.class_program.proofs.GoodPrograms.{good_program}
use Rattle.frame_types.specs.Tables.{CodeTypes}
use Rattle.code_verify.specs.Typings.{IsTypingOf}
use Rattle.jvm_step.specs.Running.{Step, step, step_on, run, IsEnd}
use Rattle.code_verify.specs.TypedStates.{IsTypedState}
use Rattle.jvm_run.specs.Laws.{GoesTyped, StepsAreTyped}
use Rattle.input_desc.specs.Initial.{initial_of}
use Rattle.input_root.specs.Roots.{input_values, FittingStatesAreTyped, FittingStatesAreDescribed}
use Rattle.path_rules.specs.Walks.{Spot, WalksMeetRules}
use Rattle.term_graph.specs.declared.links.Link.{Link}
use Rattle.term_graph.specs.declared.nodes.By.{By}
use Rattle.term_graph.specs.declared.nodes.By.TheVariants as ways
use Rattle.term_graph.specs.Graphs.{GraphNode, successors}
use Rattle.cert_check.specs.abs_expand.Laws.{IsAfter, IsMet}
use Rattle.cert_check.proofs.abs_expand.ZipLists.{beside}
use Rattle.cert_check.specs.graph_check.Good.{GraphOk, IsGoodNode}
use Rattle.cert_check.specs.graph_check.Laws.{GoesBy, GoesOn, GraphsHoldRuns}
use Rattle.cert_check.proofs.graph_check.Excluding.{good_by}
use Rattle.cert_check.specs.Walks.{Station, IsAt, GoesTo, WalksEnd}
use Rattle.cert_check.proofs.Ending.{walks_end_at_root}
use Rattle.throw_report.specs.declared.ways.Report.{Report}
use Rattle.throw_report.specs.Reports.{rows_of, IsReached, IsReport}
use Rattle.throw_report.specs.Endings.{EndsBy, EndsAsReported}
use Rattle.throw_report.specs.Laws.{HasObject, WalksToEnd, WalksEndAsReported, CertifiedRunsEndAsReported}
use Rattle.throw_report.proofs.LastSteps.{normal_end, throwing_end}
use Rattle.throw_report.proofs.Thrown.{ends_throw}

-- ---- runs

-- the run of one step more begins with that step
step_first : (p : Program) (machine after : MachineState) → step p machine ≡ Step.Going after → (count : ℕ)
    → run p (suc count) machine ≡ run p count after
unfolding step_on
step_first p machine after e zero = e
step_first p machine after e (suc count) = ap (step_on p) (step_first p machine after e count)

ends_before : (p : Program) (report : Report) (steps : Bool) (machine after : MachineState) → IsAfter p steps machine after
    → EndsAsReported p report after → EndsAsReported p report machine
ends_before p report false machine after is h = subst (EndsAsReported p report) is h
ends_before p report true machine after is h = record {
  steps = suc h.steps;
  last = h.last;
  leads = step_first p machine after is h.steps ∙ h.leads;
  ends = h.ends;
}

-- ---- edges

stands_in : (xs : List ℕ) (n x : ℕ) → slice_get xs n ≡ Some x → Has xs x
stands_in [] n x e = absurd (none-some x e)
stands_in (y ∷ ys) zero x e = inl (some_is e)
stands_in (y ∷ ys) (suc n) x e = inr (stands_in ys n x e)

row_there : (nodes : List GraphNode) (n : ℕ) (node : GraphNode) → slice_get nodes n ≡ Some node
    → slice_get (rows_of nodes) n ≡ Some (successors node.by)
row_there [] n node e = absurd (none-some node e)
row_there (x ∷ xs) zero node e = ap (λ (y : GraphNode). Some (successors y.by)) (some_is e)
row_there (x ∷ xs) (suc n) node e = row_there xs n node e

edge_there : (nodes : List GraphNode) (n to : ℕ) (node : GraphNode) → slice_get nodes n ≡ Some node → Has (successors node.by) to
    → Edge (rows_of nodes) n to
edge_there nodes n to node is h = subst (λ (row : List ℕ). Has row to)
    (sym (ap (λ (o : Option (List ℕ)). option_map_or (λ (row : List ℕ). row) o []) (row_there nodes n node is))) h

way_on : (graph : List (List ℕ)) (way : List ℕ) (a b c : ℕ) → IsWay (Edge graph) a way b → Edge graph b c
    → IsWay (Edge graph) a (way ++ b ∷ []) c
way_on graph [] a b c w e = (w, e)
way_on graph (next ∷ way) a b c w e = (w.0, way_on graph way next b c w.1 e)

reached_on : (nodes : List GraphNode) (n to : ℕ) → IsReached nodes n → Edge (rows_of nodes) n to → IsReached nodes to
reached_on nodes n to (inl z) e = inr ([], subst (λ (k : ℕ). Edge (rows_of nodes) k to) z e)
reached_on nodes n to (inr leads) e = inr (leads.0 ++ n ∷ [], way_on (rows_of nodes) leads.0 0 n to leads.1 e)

-- ---- a good graph and its report

module _ (p : Program) (typing : ℕ → CodeTypes) (nodes : List GraphNode) (root : AbstractState) (links : List (List Link))
    (report : Report) (closed : IsClosed p) (widths : HasWidths p) (typing_is : IsTypingOf p typing)
    (good : GraphOk p typing nodes root links) (is_report : IsReport nodes report) (holds : GraphsHoldRuns) where
  abbrev At : Station → Type 0
  At s = IsAt p typing nodes s

  -- ---- the last step

  module _ (s : Station) (at : At s) (reached : IsReached nodes s.node) (by_end : at.node.by ≡ ways.End)
      (end : IsEnd (step p s.spot.machine)) where
    abbrev machine : MachineState
    machine = s.spot.machine

    returned : at.node.state.throwing ≡ None → machine.mode ≡ Normal → EndsBy report machine (step p machine)
    returned normal mode =
        let last = normal_end p machine mode end in
        subst (EndsBy report machine) (sym last.1) (is_report.returns.1 (record {
          state = at.node.state;
          ends = record { number = s.node; node = at.node; is = at.is; counts = reached; ends = by_end; state_is = refl };
          normal = normal;
        }))

    threw_object : (id r : ℕ) → at.node.state.throwing ≡ Some id → s.spot.meaning id ≡ values.Ref r → (class : ℕ) (fields : List ℕ)
        → IsObject machine.heap (s.spot.meaning id) (λ (object : Object). object ≡ Instance class (map s.spot.meaning fields))
        → slice_get machine.heap.objects r ≡ Some (Instance class (map s.spot.meaning fields))
    threw_object id r thrown names class fields h =
        let e : values.Ref h.place ≡ values.Ref r = sym h.names ∙ names in
        let same : h.place ≡ r = cc in
        subst (λ (n : ℕ). slice_get machine.heap.objects n ≡ Some (Instance class (map s.spot.meaning fields))) same
        (h.stands ∙ ap Some h.holds)

    threw : (id r : ℕ) → at.node.state.throwing ≡ Some id → machine.mode ≡ Throwing r → s.spot.meaning id ≡ values.Ref r
        → EndsBy report machine (step p machine)
    threw id r thrown mode names =
        let last = throwing_end p machine r mode end in
        let object : HasObject at.node.state id = ends_throw p typing nodes root links good s.node at.node at.is by_end id thrown in
        subst (EndsBy report machine) (sym last) (record {
          class = object.class;
          fields = map s.spot.meaning object.fields;
          object = threw_object id r thrown names object.class object.fields
              (at.fits.cells id (Obj object.class object.fields) object.cell);
          listed = (is_report.throws object.class).1 (record {
            state = at.node.state;
            ends = record { number = s.node; node = at.node; is = at.is; counts = reached; ends = by_end; state_is = refl };
            id = id;
            thrown = thrown;
            fields = object.fields;
            cell = object.cell;
          });
        })

    by_mode : (thrown : Option ℕ) (mode : Mode) → at.node.state.throwing ≡ thrown → machine.mode ≡ mode
        → FitsMode s.spot.meaning thrown mode → EndsBy report machine (step p machine)
    by_mode None Normal t m h = returned t m
    by_mode None (Throwing r) t m h = absurd h
    by_mode (Some id) Normal t m h = absurd h
    by_mode (Some id) (Throwing r) t m h = threw id r t m h

    ends_here : EndsAsReported p report machine
    ends_here = record {
      steps = 0;
      last = machine;
      leads = refl;
      ends = by_mode at.node.state.throwing machine.mode refl refl at.fits.mode;
    }

  -- ---- one edge

  goes_by : (state : AbstractState) (m : MachineState) (meaning : Meaning) (by : By) (own : List Link) (to : ℕ)
      (next : AbstractState) (after : MachineState) (meaning_after : Meaning)
      → GoesBy p state m meaning by own to next after meaning_after
      → Has (successors by) to × (EndsAsReported p report after → EndsAsReported p report m)
  goes_by state m meaning (ways.Expand named) own to next after meaning_after g = (
    stands_in named g.n to g.is_named,
    ends_before p report g.link.step m after g.is_after,
  )
  goes_by state m meaning (ways.Instance target entries) own to next after meaning_after g = (
    inl (sym g.is_target),
    λ h. subst (EndsAsReported p report) g.edge.same h,
  )
  goes_by state m meaning ways.End own to next after meaning_after g = absurd g
  goes_by state m meaning ways.Todo own to next after meaning_after g = absurd g

  -- ---- walks

  -- an End node goes on to none
  none_on : (s : Station) (at : At s) (own : List Link) → at.node.by ≡ ways.End → GoesOn p nodes at.node own s.spot.machine s.spot.meaning
      → ⊥
  none_on s at own by_end on = subst (λ (b : By). GoesBy p at.node.state s.spot.machine s.spot.meaning b own on.to on.successor.state
      on.after on.meaning_after) by_end on.by

  last_step : (s : Station) (at : At s) → at.node.by ≡ ways.End → IsEnd (step p s.spot.machine)
  last_step s at by_end =
      let found = beside (IsGoodNode p typing nodes) nodes links s.node at.node good.each at.is in
      let met : IsMet p typing at.node.state s.spot.machine s.spot.meaning = record {
        program = good_program p closed;
        typing_is = typing_is;
        good = good_by p typing nodes at.node.state at.node.by found.other found.alike;
        typed = at.typed;
        fits = at.fits;
      } in
      elim (holds p typing nodes root links closed widths good s.node at.node found.other at.is found.there s.spot.machine
      s.spot.meaning met) as (λ o. IsEnd (step p s.spot.machine)) [
        | inl e ↦ e.1
        | inr on ↦ absurd (none_on s at found.other by_end on)
      ]

  pub walk_ends : (walk : List Station) (s : Station) → IsReached nodes s.node → WalksToEnd p typing nodes links s walk
      → EndsAsReported p report s.spot.machine
  walk_ends [] s reached h = ends_here s h.0 reached h.1 (last_step s h.0 h.1)
  walk_ends (next ∷ rest) s reached h =
      let by = goes_by h.0.at.node.state s.spot.machine s.spot.meaning h.0.at.node.by h.0.own next.node h.0.there.node.state
      next.spot.machine next.spot.meaning h.0.by in
      by.1
      (walk_ends rest next
      (reached_on nodes s.node next.node reached (edge_there nodes s.node next.node h.0.at.node h.0.at.is by.0)) h.1)

-- ---- the laws

pub walks_end_reported : GraphsHoldRuns → WalksEndAsReported
walks_end_reported holds nodes report is_report p typing root links closed widths typing_is good spot walk h = walk_ends p typing nodes
    root links report closed widths typing_is good is_report holds walk (record { node = 0; spot = spot }) (inl refl) h

-- a station from which every walk is finite has one to an End node
pub record ToEnd (p : Program) (typing : ℕ → CodeTypes) (nodes : List GraphNode) (links : List (List Link)) (s : Station) : Type 0 where
  pub walk : List Station
  pub ends : WalksToEnd p typing nodes links s walk

module _ (p : Program) (typing : ℕ → CodeTypes) (nodes : List GraphNode) (root : AbstractState) (links : List (List Link))
    (closed : IsClosed p) (widths : HasWidths p) (typing_is : IsTypingOf p typing) (good : GraphOk p typing nodes root links)
    (holds : GraphsHoldRuns) (typed_steps : StepsAreTyped) where
  after_typed : (b : Bool) (before after : MachineState) → IsAfter p b before after → IsTypedState p typing before
      → IsTypedState p typing after
  after_typed false before after is typed = subst (IsTypedState p typing) (sym is) typed
  after_typed true before after is typed = subst (GoesTyped p typing) is (typed_steps p typing closed widths typing_is before typed)

  typed_by : (state : AbstractState) (before : MachineState) (meaning : Meaning) (by : By) (own : List Link) (to : ℕ)
      (next : AbstractState) (after : MachineState) (meaning_after : Meaning)
      → GoesBy p state before meaning by own to next after meaning_after → IsTypedState p typing before → IsTypedState p typing after
  typed_by state before meaning (ways.Expand named) own to next after meaning_after goes typed = after_typed goes.link.step before after
      goes.is_after typed
  typed_by state before meaning (ways.Instance target entries) own to next after meaning_after goes typed = subst (IsTypedState p typing)
      (sym goes.edge.same) typed
  typed_by state before meaning ways.End own to next after meaning_after goes typed = absurd goes
  typed_by state before meaning ways.Todo own to next after meaning_after goes typed = absurd goes

  record Moves (s : Station) : Type 0 where
    pub to : Station
    pub goes : GoesTo p typing nodes links s to

  -- the run ends there, and the node says so, or it goes on to another station
  next_of : (s : Station) (at : IsAt p typing nodes s) → (at.node.by ≡ ways.End) ⊎ Moves s
  next_of s at =
      let found = beside (IsGoodNode p typing nodes) nodes links s.node at.node good.each at.is in
      let met : IsMet p typing at.node.state s.spot.machine s.spot.meaning = record {
        program = good_program p closed;
        typing_is = typing_is;
        good = good_by p typing nodes at.node.state at.node.by found.other found.alike;
        typed = at.typed;
        fits = at.fits;
      } in
      elim (holds p typing nodes root links closed widths good s.node at.node found.other at.is found.there s.spot.machine
      s.spot.meaning met) as (λ o. (at.node.by ≡ ways.End) ⊎ Moves s) [
        | inl e ↦ inl e.0
        | inr on ↦ inr (record {
          to = record { node = on.to; spot = record { machine = on.after; meaning = on.meaning_after } };
          goes = record {
            at = at;
            there = record {
              node = on.successor;
              is = on.is;
              fits = on.fits;
              typed = typed_by at.node.state s.spot.machine s.spot.meaning at.node.by found.other on.to on.successor.state on.after
                  on.meaning_after on.by at.typed;
            };
            own = found.other;
            are = found.there;
            by = on.by;
          };
        })
      ]

  pub to_end : (s : Station) → WalksEnd p typing nodes links s → IsAt p typing nodes s → ToEnd p typing nodes links s
  to_end s (Acc.intro t h) at = elim (next_of s at) as (λ o. ToEnd p typing nodes links s) [
    | inl e ↦ record { walk = []; ends = (at, e) }
    | inr on ↦
        let rest = to_end on.to (h on.to on.goes) on.goes.there in
        record { walk = on.to ∷ rest.walk; ends = (on.goes, rest.ends) }
  ]

pub certified_end_reported : StepsAreTyped → FittingStatesAreTyped → FittingStatesAreDescribed → WalksMeetRules → GraphsHoldRuns
    → CertifiedRunsEndAsReported
certified_end_reported typed_steps are_typed are_described meets holds p typing desc nodes cuts report closed widths typing_is own c
    is_report state fits =
    let spot : Spot = record { machine = state; meaning = input_values (fits.args ++ state.statics) } in
    let rooted = c.graph.rooted in
    let at : IsAt p typing nodes (record { node = 0; spot = spot }) = record {
      node = rooted.node;
      is = rooted.is;
      fits = subst (λ (s : AbstractState). Fits (types_of p.world) s state spot.meaning) (sym rooted.state_is)
          (are_described p desc state closed own fits);
      typed = are_typed p desc typing state closed typing_is own fits;
    } in
    let ended = walks_end_at_root p typing nodes cuts (initial_of p desc) c closed widths typing_is holds typed_steps meets spot at in
    let found = to_end p typing nodes (initial_of p desc) c.links closed widths typing_is c.graph holds typed_steps
    (record { node = 0; spot = spot }) ended at in
    walks_end_reported holds nodes report is_report p typing (initial_of p desc) c.links closed widths typing_is c.graph spot found.walk
    found.ends
