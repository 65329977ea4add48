use Rattle.std.proofs.Common.{subst}
use Rattle.rank_forms.specs.Forms.{TellsAll}
use Rattle.rank_search.proofs.StepRanked.{no_rank}
use Rattle.rank_search.proofs.stepping.step_rank.Goals as goal

pub returns-in-None-clause-none : goal.returns-in-None-clause-none
returns-in-None-clause-none c e = no_rank c.args.form.now.negative c.args.rules.now c.args.form.now.place c.requires.form
    (subst (TellsAll c.args.form.now.negative c.args.rules.now c.args.form.now.place) c.in-None.is c.in_ok-all.ensures)
