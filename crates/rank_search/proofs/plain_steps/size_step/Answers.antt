use Rattle.std.proofs.Common.{List, Some, subst, sym}
use Rattle.rank_forms.specs.declared.following.Followed.{Followed}
use Rattle.rank_forms.specs.Reasons.{TellsEach}
use Rattle.rank_forms.specs.SizeReasons.{TellsSizeAt}
use Rattle.rank_search.proofs.SizeForms.{no_size_step}
use Rattle.rank_search.proofs.plain_steps.size_step.Goals as goal

pub returns-in-None-clause-none : goal.returns-in-None-clause-none
returns-in-None-clause-none c e = no_size_step c.args.rules.now c.args.place.now c.requires.rules c.requires.form
    (subst (TellsEach (TellsSizeAt c.args.place.now) c.args.rules.now) c.in-None.is c.in_ok-all.ensures)

pub follow_all_sizes-requires : goal.follow_all_sizes-requires
follow_all_sizes-requires c = c.requires.rules.paths.limits

pub size_step_of-requires-clause-followed : goal.size_step_of-requires-clause-followed
size_step_of-requires-clause-followed c = subst (λ (l : List Followed). TellsEach (TellsSizeAt c.args.place.now) c.args.rules.now
    (Some l)) (sym c.as_slice.ensures)
    (subst (TellsEach (TellsSizeAt c.args.place.now) c.args.rules.now) c.in-Some.is c.in_ok-all.ensures)
