use Rattle.std.proofs.Common.{◌∙◌, sym}
use Rattle.abs_turns.proofs.Placing.{bottom_turned}
use Rattle.abs_plans.proofs.abs_rows.statics.bottom_with.Goals as goal

pub returns : goal.returns
returns c = bottom_turned c.args.n c.args.id c.args.frames c.at.result.now c.in_ok-frame.frame
    (sym c.is_empty.ensures ∙ c.if-is_empty.false) c.at.ensures c.in_ok-frame.ensures
