use Rattle.std.proofs.Common.{refl}
use Rattle.input_fits.proofs.Marking.{one_region}
use Rattle.input_fits.proofs.regions.regions.Goals as goal

pub loop-value-preserved : goal.loop-value-preserved
loop-value-preserved c = one_region c.args.heap.now c.args.values.now c.loop-value.value-index _ _ c.loop-value.found c.push.new.self
    c.in_ok-region.field-0 c.loop-value-test.true refl c.loop-value.invariant c.in_ok-region.ensures c.in_ok-push.ensures.items
