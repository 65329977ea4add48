use Rattle.std.proofs.Common.{refl}
use Rattle.lin_core.proofs.Coefficients.{rise_wider}
use Rattle.rank_forms.proofs.Weighed.{ones_more, rise_more}
use Rattle.rank_forms.proofs.weights.ones_of.Goals as goal

pub loop-class-preserved : goal.loop-class-preserved
loop-class-preserved c = record {
  ones = ones_more c.args.classes.now c.loop-class.class-index _ _ c.loop-class.low _ c.loop-class.weights _ _
      c.loop-class-test.true refl c.in_ok-low.ensures.next c.in_ok-low.ensures.one c.loop-class.invariant.ones;
  rise = rise_more _ c.loop-class.low _ c.loop-class.weights _ c.in_ok-low.ensures.next c.in_ok-low.ensures.one
      c.loop-class.invariant.rise;
  low = c.in_ok-low.ensures.small;
}

pub returns-clause-rise : goal.returns-clause-rise
returns-clause-rise c = rise_wider 0 c.loop-class.low 4294967296 c.loop-class.weights c.loop-class.invariant.low
    c.loop-class.invariant.rise
