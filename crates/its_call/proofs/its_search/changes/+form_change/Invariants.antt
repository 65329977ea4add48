use Rattle.std.proofs.Common.{length}
use Rattle.its_call.proofs.its_search.changes.+form_change.Given as goal

abbrev pub decreases-form_change : goal.decreases-form_change
decreases-form_change l = length l.form.now
