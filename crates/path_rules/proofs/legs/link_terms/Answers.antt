use Rattle.std.proofs.Common.{List, ℕ, ℤ, sym, subst, arith, drop}
use Rattle.path_rules.proofs.Collecting.{AreCollected, one_collected, collected_fits}
use Rattle.path_rules.proofs.legs.link_terms.Goals as goal

pub with_term-requires : goal.with_term-requires
with_term-requires g c =
    collected_fits c.args.stop.now.first c.args.stop.now.node.state c.args.after.now.first c.args.after.now.node.state
    c.args.terms.now c.loop-left.left _ c.variable_by-term.result c.as_slice.result.now c.loop-left-test.true
    c.loop-left.invariant.within c.requires.small c.variable_by-term.ensures
    (subst (λ (s : List (ℕ × ℤ)). AreCollected c.args.stop.now.first c.args.stop.now.node.state c.args.after.now.first
    c.args.after.now.node.state (drop c.loop-left.left c.args.terms.now) s) (sym c.as_slice.ensures) c.loop-left.invariant.made)

pub loop-left-preserved : goal.loop-left-preserved
loop-left-preserved g c =
    let within = c.loop-left.invariant.within in
    record {
      within = omega (arith, within);
      made =
          one_collected c.args.stop.now.first c.args.stop.now.node.state c.args.after.now.first c.args.after.now.node.state
          c.args.terms.now c.loop-left.left _ c.variable_by-term.result c.as_slice.result.now c.in_ok-sum.sum
          c.loop-left-test.true within c.variable_by-term.ensures c.in_ok-sum.ensures
          (subst (λ (s : List (ℕ × ℤ)). AreCollected c.args.stop.now.first c.args.stop.now.node.state c.args.after.now.first
          c.args.after.now.node.state (drop c.loop-left.left c.args.terms.now) s) (sym c.as_slice.ensures)
          c.loop-left.invariant.made);
    }
