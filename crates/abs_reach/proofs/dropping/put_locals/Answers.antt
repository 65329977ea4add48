use Rattle.std.proofs.Common.{◌∙◌, ◌||◌, Bool, ap, refl, None}
use Rattle.abs_cells.specs.IdSets.{has_id}
use Rattle.abs_reach.proofs.Dropped.{next_any, end_any, local_is, locals_are}
use Rattle.abs_reach.proofs.dropping.put_locals.Goals as goal

pub loop-local-init : goal.loop-local-init
loop-local-init c n l = refl

pub loop-local-preserved : goal.loop-local-preserved
loop-local-preserved c n l = next_any (local_is n) c.args.locals.now c.loop-local.local-index None c.loop-local-test.true _ _ _
    (c.put_local.ensures n l) (c.loop-local.invariant n l)

pub returns : goal.returns
returns c n l = end_any (local_is n) c.args.locals.now c.loop-local.local-index c.loop-local-test.false _ _
    (c.loop-local.invariant n l) ∙ ap (λ (b : Bool). has_id c.args.set.now n || b) (locals_are n c.args.locals.now)
