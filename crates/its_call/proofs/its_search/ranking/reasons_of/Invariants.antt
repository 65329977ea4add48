use Rattle.std.proofs.Common.{◌≡◌, drop}
use Rattle.its_call.specs.its_search.inner.Following.{reasons_of}
use Rattle.its_call.proofs.Plain.{behind}
use Rattle.its_call.proofs.its_search.ranking.reasons_of.Given as goal

abbrev pub invariant-loop-term : goal.invariant-loop-term
invariant-loop-term l = behind l.reasons (reasons_of l.count l.rows (drop l.term-index l.form)) ≡ reasons_of l.count l.rows l.form
