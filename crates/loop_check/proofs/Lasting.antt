-- No run ends where a graph has no End node and no cycle without a step.
use Rattle.std.proofs.Common.{◌≡◌, ◌⊎◌, ◌∙◌, ◌++◌, inl, inr, ℕ, zero, suc, ◌<◌, Bool, true, false, List, length, set, replicate, Some, slice_get}
use Rattle.std.proofs.Common.{refl, sym, ap, subst, arith}
use Rattle.std.proofs.lemmas.List.{length-set, length-replicate}
use Rattle.std.proofs.lemmas.Option.{slice_get_within}
use Rattle.list_views.specs.Lists.{Has}
use Rattle.list_views.proofs.Marks.{none_marked}
use Rattle.number_graphs.specs.Lists.{Edge}
use Rattle.jvm_values.specs.States.{MachineState}
use Rattle.abs_cells.specs.AbstractStates.{AbstractState}
use Rattle.abs_cells.specs.Fits.{Meaning, Fits}
use Rattle.class_world.specs.WorldTypes.{types_of}
use Rattle.class_program.specs.Programs.{Program, IsClosed}
use Rattle.class_program.specs.Widths.{HasWidths}
use Rattle.class_program.proofs.GoodPrograms.{good_program}
use Rattle.frame_types.specs.Tables.{CodeTypes}
use Rattle.code_verify.specs.Typings.{IsTypingOf}
use Rattle.code_verify.specs.TypedStates.{IsTypedState}
use Rattle.jvm_run.specs.jvm_step.Running.{Step, step, step_on, run}
use Rattle.jvm_run.specs.Laws.{GoesTyped, StepsAreTyped}
use Rattle.input_desc.specs.Initial.{initial_of}
use Rattle.input_root.specs.Roots.{input_values, FittingStatesAreTyped, FittingStatesAreDescribed}
use Rattle.term_graph.specs.declared.links.Link.{Link}
use Rattle.term_graph.specs.declared.nodes.By.{By}
use Rattle.term_graph.specs.declared.nodes.By.TheVariants as ways
use Rattle.term_graph.specs.Graphs.{GraphNode}
use Rattle.graph_check.specs.abs_expand.Laws.{IsAfter, IsMet}
use Rattle.graph_check.proofs.abs_expand.ZipLists.{beside}
use Rattle.graph_check.specs.Good.{GraphOk, IsGoodNode}
use Rattle.graph_check.specs.Laws.{GoesBy, GraphsHoldRuns}
use Rattle.graph_check.proofs.Excluding.{good_by}
use Rattle.loop_check.specs.Loops.{HasNoEnd, HasNoIdleCycle, idle_row, idle_rows}
use Rattle.loop_check.specs.Laws.{LoopsNeverEnd}
use Rattle.loop_check.proofs.Waiting.{child_idle, idle_edge, unset, AreBehind, one_less, fresh, one_behind}

-- the run of one step more begins with that step
step_first : (p : Program) (machine after : MachineState) → step p machine ≡ Step.Going after → (count : ℕ)
    → run p (suc count) machine ≡ run p count after
unfolding step_on
step_first p machine after e zero = e
step_first p machine after e (suc count) = ap (step_on p) (step_first p machine after e count)

-- the run goes on after so many steps
abbrev Lasts : Program → ℕ → MachineState → Type 0
Lasts p count state = (after : MachineState) × (run p count state ≡ Step.Going after)

module _ (p : Program) (typing : ℕ → CodeTypes) (nodes : List GraphNode) (root : AbstractState) (links : List (List Link))
    (closed : IsClosed p) (widths : HasWidths p) (typing_is : IsTypingOf p typing) (good : GraphOk p typing nodes root links)
    (no_end : HasNoEnd nodes) (no_idle : HasNoIdleCycle nodes links) (holds : GraphsHoldRuns)
    (typed_steps : StepsAreTyped) where
  -- a typed state of the machine that fits the node of a number
  pub record Stands (n : ℕ) (machine : MachineState) : Type 0 where
    pub node : GraphNode
    pub is : slice_get nodes n ≡ Some node
    pub meaning : Meaning
    pub fits : Fits (types_of p.world) node.state machine meaning
    pub typed : IsTypedState p typing machine

  -- it goes on by one step, or as it is along an edge that is none
  abbrev Moves : ℕ → MachineState → ℕ → MachineState → Type 0
  Moves n machine to after = (step p machine ≡ Step.Going after) ⊎ ((after ≡ machine) × Edge (idle_rows nodes links) n to)

  record Next (n : ℕ) (machine : MachineState) : Type 0 where
    pub to : ℕ
    pub after : MachineState
    pub there : Stands to after
    pub moves : Moves n machine to after

  after_typed : (b : Bool) (machine after : MachineState) → IsAfter p b machine after → IsTypedState p typing machine
      → IsTypedState p typing after
  after_typed false machine after is typed = subst (IsTypedState p typing) (sym is) typed
  after_typed true machine after is typed = subst (GoesTyped p typing) is (typed_steps p typing closed widths typing_is machine typed)

  by_step : (b : Bool) (n to : ℕ) (machine after : MachineState) → IsAfter p b machine after
      → (b ≡ false → Edge (idle_rows nodes links) n to) → Moves n machine to after
  by_step true n to machine after is idle = inl is
  by_step false n to machine after is idle = inr (is, idle refl)

  goes_by : (n to : ℕ) (node : GraphNode) (own : List Link) (by : By) (state : AbstractState) (machine after : MachineState)
      (meaning meaning_after : Meaning) (next : AbstractState) → slice_get nodes n ≡ Some node → slice_get links n ≡ Some own
      → node.by ≡ by → GoesBy p state machine meaning by own to next after meaning_after → IsTypedState p typing machine
      → Moves n machine to after × IsTypedState p typing after
  goes_by n to node own (ways.Expand named) state machine after meaning meaning_after next is are e g typed = (
    by_step g.link.step n to machine after g.is_after (λ f. idle_edge nodes links n to node own is are
        (subst (λ (b : By). Has (idle_row b own) to) (sym e) (child_idle own g.n to named g.link g.is_link g.is_named f))),
    after_typed g.link.step machine after g.is_after typed,
  )
  goes_by n to node own (ways.Instance target entries) state machine after meaning meaning_after next is are e g typed = (
    inr (
      g.edge.same,
      idle_edge nodes links n to node own is are (subst (λ (b : By). Has (idle_row b own) to) (sym e) (inl (sym g.is_target))),
    ),
    subst (IsTypedState p typing) (sym g.edge.same) typed,
  )
  goes_by n to node own ways.End state machine after meaning meaning_after next is are e g typed = absurd g
  goes_by n to node own ways.Todo state machine after meaning meaning_after next is are e g typed = absurd g

  next_of : (n : ℕ) (machine : MachineState) → Stands n machine → Next n machine
  next_of n machine at =
      let found = beside (IsGoodNode p typing nodes) nodes links n at.node good.each at.is in
      let met : IsMet p typing at.node.state machine at.meaning = record {
        program = good_program p closed;
        typing_is = typing_is;
        good = good_by p typing nodes at.node.state at.node.by found.other found.alike;
        typed = at.typed;
        fits = at.fits;
      } in
      elim (holds p typing nodes root links closed widths good n at.node found.other at.is found.there machine at.meaning met) as
      (λ o. Next n machine) [
        | inl e ↦ absurd (no_end n (record { node = at.node; is = at.is; ends = e.0 }))
        | inr on ↦
            let goes = goes_by n on.to at.node found.other at.node.by at.node.state machine on.after at.meaning on.meaning_after
            on.successor.state at.is found.there refl on.by at.typed in
            record {
              to = on.to;
              after = on.after;
              there = record { node = on.successor; is = on.is; meaning = on.meaning_after; fits = on.fits; typed = goes.1 };
              moves = goes.0;
            }
      ]

  -- ---- so many steps

  -- One step more, where so many are made from every state that stands at a node. The nodes from which ways of edges that are no steps lead
  -- here are marked; fewer than `fuel` marks are left.
  one_more : (count : ℕ) → ((n : ℕ) (machine : MachineState) → Stands n machine → Lasts p count machine) → (fuel : ℕ) (marks : List Bool)
      (n : ℕ) (machine : MachineState) → length marks ≡ length nodes → AreBehind (idle_rows nodes links) marks n → unset marks < fuel
      → Stands n machine → Lasts p (suc count) machine
  one_more count so_many zero marks n machine long behind less at = absurd (omega (arith, less))
  one_more count so_many (suc fuel) marks n machine long behind less at =
      let next = next_of n machine at in
      elim next.moves as (λ o. Lasts p (suc count) machine) [
        | inl e ↦
            let rest = so_many next.to next.after next.there in
            (rest.0, step_first p machine next.after e count ∙ rest.1)
        | inr idle ↦
            let there = slice_get_within nodes next.to next.there.node next.there.is in
            let open_there = fresh (idle_rows nodes links) marks n next.to no_idle behind idle.1 in
            let fewer = one_less marks next.to (omega (arith, there, long)) open_there in
            subst (λ (m : MachineState). Lasts p (suc count) m) idle.0
            (one_more count so_many fuel (set marks next.to true) next.to next.after (length-set marks next.to true ∙ long)
            (one_behind (idle_rows nodes links) marks n next.to behind idle.1) (omega (arith, fewer, less)) next.there)
      ]

  pub all_last : (count n : ℕ) (machine : MachineState) → Stands n machine → Lasts p count machine
  all_last zero n machine at = (machine, refl)
  all_last (suc count) n machine at =
      let marks : List Bool = replicate (length nodes) false in
      one_more count (λ m state there. all_last count m state there) (suc (unset marks)) marks n machine
      (length-replicate (length nodes) false) (λ b e. absurd (none_marked (length nodes) b e)) (omega arith) at

pub never_end : StepsAreTyped → FittingStatesAreTyped → FittingStatesAreDescribed → GraphsHoldRuns → LoopsNeverEnd
never_end typed_steps are_typed are_described holds p typing desc nodes closed widths typing_is own r state fits count =
    let rooted = r.graph.rooted in
    all_last p typing nodes (initial_of p desc) r.links closed widths typing_is r.graph r.no_end r.no_idle holds typed_steps count 0
    state (record {
      node = rooted.node;
      is = rooted.is;
      meaning = input_values (fits.args ++ state.statics);
      fits = subst (λ (s : AbstractState). Fits (types_of p.world) s state (input_values (fits.args ++ state.statics)))
          (sym rooted.state_is) (are_described p desc state closed own fits);
      typed = are_typed p desc typing state closed typing_is own fits;
    })
