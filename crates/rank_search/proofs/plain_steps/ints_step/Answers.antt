use Rattle.std.proofs.Common.{subst}
use Rattle.rank_forms.specs.Reasons.{TellsEach, TellsInts}
use Rattle.rank_search.proofs.PlainSteps.{no_ints_step}
use Rattle.rank_search.proofs.plain_steps.ints_step.Goals as goal

pub returns-in-None-clause-none : goal.returns-in-None-clause-none
returns-in-None-clause-none c e = no_ints_step c.args.rules.now c.args.form.now c.requires.rules c.requires.form
    (subst (TellsEach (TellsInts c.args.form.now) c.args.rules.now) c.in-None.is c.in_ok-all.ensures)
