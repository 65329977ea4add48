use Rattle.std.proofs.Common.{◌≡◌, drop}
use Rattle.its_call.specs.its_search.inner.Following.{follow_each}
use Rattle.its_call.proofs.Plain.{behind}
use Rattle.its_call.proofs.its_search.ranking.follow_all.Given as goal

abbrev pub invariant-loop-rule : goal.invariant-loop-rule
invariant-loop-rule l = behind l.all (follow_each l.count l.form (drop l.rule-index l.rules)) ≡ follow_each l.count l.form l.rules
