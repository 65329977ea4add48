use Rattle.std.proofs.Common.{◌∙◌, ◌-◌, length, refl, sym}
use Rattle.abs_turns.proofs.Placing.{last_turned}
use Rattle.abs_turns.proofs.spot.last_split.Goals as goal

pub returns : goal.returns
returns c = last_turned c.args.frames.now (length c.args.frames.now - 1) c.index-frames-last.result
    (sym c.is_empty.ensures ∙ c.if-is_empty.false) refl c.index-frames-last.is
