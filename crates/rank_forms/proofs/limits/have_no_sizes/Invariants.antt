use Rattle.std.proofs.Common.{drop}
use Rattle.rank_forms.specs.RankSteps.{HaveNoSizes}
use Rattle.rank_forms.proofs.limits.have_no_sizes.Given as goal

abbrev pub invariant-loop-form : goal.invariant-loop-form
invariant-loop-form l = HaveNoSizes (drop l.form-index l.forms) → HaveNoSizes l.forms
