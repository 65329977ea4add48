use Rattle.std.proofs.Common.{◌∙◌}
use Rattle.filled_graphs.proofs.Noting.{unnamed_next}
use Rattle.filled_graphs.proofs.origins.all_unnamed.Goals as goal

pub loop-number-preserved : goal.loop-number-preserved
loop-number-preserved g c =
    c.in_ok-push.ensures.items
    ∙ unnamed_next (g.S.PartSource.parts c.args.parts.now) c.loop-number.number c.in_ok-unnamed.field-0 c.loop-number.origins
    c.in_ok-unnamed.ensures c.loop-number.invariant
