-- Every state that a description fits has a run that ends after at most a bound's value of instructions.
use Rattle.std.proofs.Common.{◌≡◌, ◌∙◌, ℕ, ◌+◌, ◌*◌, ◌≤◌, true, List, [], ◌∷◌, ◌++◌, length, Some, slice_get, refl, sym, subst, arith}
use Rattle.std.specs.Prelude.{◌==◌}
use Rattle.std.specs.List.{list_any}
use Rattle.std.proofs.lemmas.Bool.{eq-eqb, or_left}
use Rattle.std.proofs.lemmas.List.Elements.{All-from_recursion}
use Rattle.std.proofs.lemmas.Nat.{mul-le}
use Rattle.std.proofs.lemmas.Option.{none-some, same_Some}
use Rattle.abs_cells.specs.AbstractStates.{AbstractState}
use Rattle.abs_cells.specs.Fits.{Fits}
use Rattle.abs_cells.specs.Sound.{IsWellFormed}
use Rattle.class_world.specs.WorldTypes.{types_of}
use Rattle.class_program.specs.Programs.{Program}
use Rattle.class_program.specs.Widths.{HasWidths}
use Rattle.code_verify.specs.Typings.{IsTypingOf}
use Rattle.jvm_values.specs.States.{MachineState}
use Rattle.jvm_run.specs.jvm_step.Running.{run, IsEnd}
use Rattle.jvm_run.specs.Laws.{StepsAreTyped}
use Rattle.input_desc.specs.declared.desc.Desc.{Desc}
use Rattle.input_desc.specs.Fitting.{FitsDescription}
use Rattle.input_root.specs.Roots.{input_values, FittingStatesAreTyped, FittingStatesAreDescribed}
use Rattle.descent.specs.declared.proof.RankStep.{RankStep}
use Rattle.descent.specs.Conditions.{AreRules, IsRanked}
use Rattle.descent.specs.Steps.{ClosedProofsEnd}
use Rattle.term_graph.specs.Graphs.{GraphNode}
use Rattle.term_enc.specs.Laws.{IsDescribed, TermsFillPatterns}
use Rattle.path_rules.specs.Conditions.{AreBounded, AreGood, IsReady}
use Rattle.path_rules.specs.Paths.{is_cut}
use Rattle.path_rules.specs.RuleLimits.{RulesFit}
use Rattle.path_rules.specs.Walks.{Spot, WalksMeetRules}
use Rattle.cert_check.specs.plan_links.Laws.{LinksFit}
use Rattle.cert_check.proofs.abs_expand.ZipLists.{beside}
use Rattle.cert_check.specs.graph_check.Good.{IsGoodNode}
use Rattle.cert_check.specs.graph_check.Laws.{GraphsHoldRuns}
use Rattle.cert_check.proofs.graph_check.Excluding.{good_by}
use Rattle.cert_check.specs.Certified.{IsCertified}
use Rattle.cert_check.specs.Valid.{Case, IsValid}
use Rattle.cert_check.specs.Walks.{Station, IsAt}
use Rattle.cert_check.proofs.Bounded.{all_bounded}
use Rattle.cert_check.proofs.Ending.{walks_end_at_root}
use Rattle.cert_check.proofs.Preparing.{prepared}
use Rattle.bound_text.specs.declared.texts.BoundEntry.{BoundEntry}
use Rattle.bound_check.specs.declared.bound.Bound.{Bound}
use Rattle.bound_check.specs.declared.bound.RootForm.{RootForm}
use Rattle.bound_check.specs.Bounds.{AreSizedIds, TermsWorth}
use Rattle.bound_check.specs.Laws.{IsBounded, BoundsHold}
use Rattle.bound_check.specs.Parts.{untaken_at}
use Rattle.bound_check.proofs.LawRoots.{root_worth}
use Rattle.bound_check.proofs.LawRuns.{stop_of, stop_sizes, fits_stop, run_counted}
use Rattle.bound_check.proofs.LawTerms.{RootWorth, chain_bounded}

first_cut : (cuts : List ℕ) → slice_get cuts 0 ≡ Some 0 → is_cut cuts 0 ≡ true
first_cut [] e = absurd (none-some 0 e)
first_cut (x ∷ xs) e = or_left (x == 0) (list_any (λ (cut : ℕ). cut == 0) xs) (eq-eqb x 0 (same_Some x 0 e))

-- the most steps between cuts, for each turn and once more
in_all : (count most turns untaken constant sum : ℕ) → count ≤ most * (1 + turns) + 1 → turns ≤ untaken + sum → constant ≡ 1 + untaken
    → count ≤ most * (constant + sum) + 1
in_all count most turns untaken constant sum h few e =
    let more = mul-le most (1 + turns) most (constant + sum) (omega arith) (omega (arith, few, e)) in
    omega (arith, h, more)

-- terms' worth and a run that ends after few instructions for each turn
bounded : (p : Program) (desc : Desc) (bound : Bound) (state : MachineState) (fits : FitsDescription p desc state) (turns untaken sum : ℕ)
    → bound.constant ≡ 1 + untaken → TermsWorth state (input_values (fits.args ++ state.statics)) bound.terms sum
    → (count : ℕ) → IsEnd (run p count state) → count ≤ bound.steps * (1 + turns) + 1 → turns ≤ untaken + sum
    → IsBounded p desc bound state fits
bounded p desc bound state fits turns untaken sum constant worth count ends within few = record {
  value = bound.steps * (bound.constant + sum) + 1;
  worth = record { sum = sum; terms = worth; is = refl };
  count = count;
  within = in_all count bound.steps turns untaken bound.constant sum within few constant;
  ends = ends;
}

module _ (closed_ends : ClosedProofsEnd) (links_fit : LinksFit) (rules_fit : RulesFit) (typed_steps : StepsAreTyped)
    (are_typed : FittingStatesAreTyped) (are_described : FittingStatesAreDescribed) (meets : WalksMeetRules) (holds : GraphsHoldRuns)
    (filled : TermsFillPatterns) where
  -- a valid certificate's graph and cuts are such as paths take
  ready : (case : Case) (valid : IsValid case) → HasWidths case.program → IsTypingOf case.program case.typing
      → IsReady case.nodes valid.links case.cuts
  ready case valid widths typing_is =
      let good : AreGood case.nodes valid.links =
      prepared links_fit case.program case.typing widths case.nodes case.root valid.links typing_is valid.graph in
      record {
        states = good.states;
        nodes = good.nodes;
        first = valid.cuts.first;
        rise = valid.cuts.rise;
        cut_nodes = valid.cuts.nodes;
      }

  -- its rules are such as proofs take
  rules_are : (case : Case) (valid : IsValid case) → HasWidths case.program → IsTypingOf case.program case.typing → AreRules valid.rules
  rules_are case valid widths typing_is =
      rules_fit case.nodes valid.links case.cuts valid.rules (ready case valid widths typing_is)
      (All-from_recursion (λ (n : GraphNode). AreBounded n.state) case.nodes
      (all_bounded case.program case.typing case.nodes case.nodes valid.links valid.graph.each)) valid.paths.1

  pub bounds_hold : BoundsHold
  bounds_hold case valid desc entries bound root closed widths typing_is own steps bounds state fits =
      let p = case.program in
      let rules_good = rules_are case valid widths typing_is in
      let c : IsCertified p case.typing case.nodes case.cuts case.root = record {
        links = valid.links;
        graph = valid.graph;
        ready = ready case valid widths typing_is;
        cut = valid.paths.0;
        rules = valid.rules;
        are = valid.paths.1;
        ends = closed_ends valid.rules (record { steps = case.steps }) rules_good steps valid.proof;
      } in
      let spot : Spot = record { machine = state; meaning = input_values (fits.args ++ state.statics) } in
      let s : Station = record { node = 0; spot = spot } in
      let rooted = valid.graph.rooted in
      let at : IsAt p case.typing case.nodes s = record {
        node = rooted.node;
        is = rooted.is;
        fits = subst (λ (a : AbstractState). Fits (types_of p.world) a state spot.meaning) (sym root ∙ sym rooted.state_is)
            (are_described p desc state closed own fits);
        typed = are_typed p desc case.typing state closed typing_is own fits;
      } in
      let finite = walks_end_at_root p case.typing case.nodes case.cuts case.root c
      closed widths typing_is holds typed_steps meets spot at in
      let is_bound = bounds.1 in
      let ran = run_counted p case.typing case.nodes case.cuts case.root c closed widths typing_is holds typed_steps meets bound.steps
      is_bound.most.enough s at (first_cut case.cuts valid.cuts.first) finite in
      let stop = stop_of p case.typing case.nodes case.cuts case.root c closed widths typing_is holds typed_steps meets s at in
      let found = beside (IsGoodNode p case.typing case.nodes) case.nodes valid.links 0 rooted.node valid.graph.each rooted.is in
      let good : IsWellFormed rooted.node.state =
      (good_by p case.typing case.nodes rooted.node.state rooted.node.by found.other found.alike).sound.well_formed in
      let described : IsDescribed (types_of p.world) rooted.node.state state spot.meaning = record {
        good = good;
        fits = at.fits;
        closed = (fits_stop p case.typing case.nodes case.cuts case.root c closed widths typing_is holds typed_steps meets s at).closed;
      } in
      let are_sized : AreSizedIds rooted.node.state is_bound.sized =
      subst (λ (a : AbstractState). AreSizedIds a is_bound.sized) (sym rooted.state_is) is_bound.are_sized in
      let worths : (rank : RankStep) (entry : BoundEntry) → IsRanked rank
      → RootWorth valid.rules state spot.meaning case.root is_bound.sized ran.turns rank entry =
      λ rank entry ranked. subst (λ (a : AbstractState). RootWorth valid.rules state spot.meaning a is_bound.sized ran.turns rank entry)
      rooted.state_is
      (root_worth stop (stop_sizes p case.typing case.nodes case.cuts case.root c closed widths typing_is holds typed_steps meets s at)
      good (types_of p.world) spot described filled is_bound.sized are_sized valid.rules ran.turns ran.begins rank entry ranked) in
      let b = chain_bounded valid.rules case.steps entries rules_good steps valid.proof bounds.0 state spot.meaning case.root
      is_bound.sized ran.turns ran.chain worths in
      bounded p desc bound state fits (length ran.turns) (untaken_at case.steps 0) b.sum is_bound.constant
      (subst (λ (ts : List (ℕ × RootForm)). TermsWorth state spot.meaning ts b.sum) (sym is_bound.terms) b.worth) ran.count ran.ends
      ran.bound b.few
