use Rattle.std.proofs.Common.{◌∙◌, sym, subst, arith, Option, List, ℕ}
use Rattle.graph_build.specs.inner.Working.{NodeMatches}
use Rattle.graph_build.proofs.Climbing.{is_found, one_passed, all_passed}
use Rattle.graph_build.proofs.due.first_found.Goals as goal

pub match_with-requires-clause-state : goal.match_with-requires-clause-state
match_with-requires-clause-state g c = subst (λ m. g.G.Grower.good m c.args.state.now) (sym c.loop-u.invariant.same) c.requires.state

pub match_with-requires-clause-node : goal.match_with-requires-clause-node
match_with-requires-clause-node g c = subst (λ m. g.G.Grower.good m c.at.result.now.state) (sym c.loop-u.invariant.same)
    (c.requires.good c.loop-u.u c.at.result.now.state c.at.result.now.by c.at.ensures)

pub returns-in-Some : goal.returns-in-Some
returns-in-Some g c =
    let rules = g.G.Grower.rules (g.G.Grower.meaning c.args.grower.now) in
    let node = c.at.result.now in
    let told = subst (λ m. NodeMatches (g.G.Grower.rules m) c.args.state.now node c.in_ok-map.field-0) c.loop-u.invariant.same
    c.in_ok-map.ensures.found in
    record {
      found = is_found rules c.args.graph.now c.args.state.now c.loop-u.u c.loop-u.invariant.passed node c.at.ensures
          c.in_ok-map.field-0 c.in-Some.map c.in-Some.is told;
      same = c.match_with.ensures.same ∙ c.loop-u.invariant.same;
    }

pub loop-u-preserved : goal.loop-u-preserved
loop-u-preserved g c =
    let rules = g.G.Grower.rules (g.G.Grower.meaning c.args.grower.now) in
    let node = c.at.result.now in
    let told = subst (λ m. NodeMatches (g.G.Grower.rules m) c.args.state.now node c.in_ok-map.field-0) c.loop-u.invariant.same
    c.in_ok-map.ensures.found in
    record {
      passed = one_passed rules c.args.graph.now c.args.state.now c.loop-u.u c.loop-u.invariant.passed node c.at.ensures
          (subst (λ (found : Option (List (ℕ × ℕ))). NodeMatches rules c.args.state.now node found) c.in_default.is told);
      same = c.match_with.ensures.same ∙ c.loop-u.invariant.same;
    }

pub returns : goal.returns
returns g c = record {
  found = all_passed (g.G.Grower.rules (g.G.Grower.meaning c.args.grower.now)) c.args.graph.now c.args.state.now c.loop-u.u
      c.loop-u.invariant.passed (omega (arith, c.loop-u-test.false, c.count-u-end.ensures));
  same = c.loop-u.invariant.same;
}
