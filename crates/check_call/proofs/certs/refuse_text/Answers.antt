use Rattle.std.proofs.Common.{◌∙◌}
use Rattle.check_call.proofs.Saying.{text_said}
use Rattle.check_call.proofs.certs.refuse_text.Goals as goal

pub returns-in_ok-cause-in_default : goal.returns-in_ok-cause-in_default
returns-in_ok-cause-in_default c = text_said c.args.fault c.as_slice.result.now c.refused.result c.in_default.not-Memory
    (c.as_slice.ensures ∙ c.in_ok-cause-in_default.ensures) c.refused.ensures
