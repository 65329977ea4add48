use Rattle.std.proofs.Common.{ℕ, List, ◌∙◌, ap, arith}
use Rattle.bound_check.specs.inner.Words.{untaken_of_step}
use Rattle.bound_check.proofs.Counting.{one_counted}
use Rattle.bound_check.proofs.parts.untaken.Goals as goal

pub loop-left-preserved : goal.loop-left-preserved
loop-left-preserved c = record {
  few = let l = c.loop-left.invariant.few in omega (arith, l);
  counted = one_counted c.args.steps.now c.loop-left.left c.index-steps-left.result c.loop-left.counts.items c.in_ok-count.count
      c.loop-left-test.true c.loop-left.invariant.few c.index-steps-left.is c.loop-left.invariant.counted
      (c.in_ok-count.ensures ∙ ap (λ (cs : List ℕ). untaken_of_step cs c.index-steps-left.result) c.as_slice.ensures.value);
}
