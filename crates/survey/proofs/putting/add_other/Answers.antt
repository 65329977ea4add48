use Rattle.std.proofs.Common.{◌∙◌}
use Rattle.survey.proofs.Truths.{other_grows}
use Rattle.survey.proofs.putting.add_other.Goals as goal

pub returns : goal.returns
returns c = other_grows c.args.text.now c.add_line.new.text c.as_slice.result.now c.args.head c.args.rest.now
    (c.as_slice.ensures ∙ c.in_ok-line.ensures) c.in_ok-add_line.ensures
