use Rattle.chain_proofs.specs.Stuck.{HasNoForm}
use Rattle.chain_proofs.proofs.forms.linear_step.Goals as goal

pub other_step-requires-clause-none : goal.other_step-requires-clause-none
other_step-requires-clause-none c = record { plain = c.requires.plain; stepwise = c.in_ok-step.ensures.none c.in-None.is }
