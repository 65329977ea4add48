use Rattle.std.proofs.Common.{ℕ, ◌==◌, refl}
use Rattle.abs_reach.proofs.Dropped.{next_any, end_any}
use Rattle.abs_reach.proofs.dropping.put_ids.Goals as goal

pub loop-id-init : goal.loop-id-init
loop-id-init c n l = refl

pub loop-id-preserved : goal.loop-id-preserved
loop-id-preserved c n l = next_any (λ (x : ℕ). x == n) c.args.ids.now c.loop-id.id-index 0 c.loop-id-test.true _ _ _
    (c.put_id.ensures n l) (c.loop-id.invariant n l)

pub returns : goal.returns
returns c n l = end_any (λ (x : ℕ). x == n) c.args.ids.now c.loop-id.id-index c.loop-id-test.false _ _ (c.loop-id.invariant n l)
