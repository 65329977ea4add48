use Rattle.std.proofs.Common.{◌∙◌}
use Rattle.descent.proofs.Placing.{split_told}
use Rattle.descent.proofs.splits.split_fault.Goals as goal

pub returns : goal.returns
returns c = split_told c.args.rules.now c.args.set.now c.args.parts.now c.args.steps.now _ _ c.in_default.ensures
    (c.as_slice.ensures ∙ c.in_ok-placed.ensures) c.order_fault.ensures
