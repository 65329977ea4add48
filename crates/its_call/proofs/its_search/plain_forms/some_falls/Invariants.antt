use Rattle.std.proofs.Common.{◌≡◌, drop}
use Rattle.std.specs.List.{list_any}
use Rattle.its_call.specs.its_search.Forms.{falls}
use Rattle.its_call.proofs.its_search.plain_forms.some_falls.Given as goal

abbrev pub invariant-loop-rule : goal.invariant-loop-rule
invariant-loop-rule l = list_any (falls l.count l.form) (drop l.rule-index l.rules) ≡ list_any (falls l.count l.form) l.rules
