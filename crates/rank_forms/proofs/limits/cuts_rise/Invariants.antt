use Rattle.std.proofs.Common.{drop}
use Rattle.rank_forms.specs.RankSteps.{FormsRise}
use Rattle.rank_forms.proofs.limits.cuts_rise.Given as goal

abbrev pub invariant-loop-form : goal.invariant-loop-form
invariant-loop-form l = FormsRise l.low (drop l.form-index l.forms) → FormsRise 0 l.forms
