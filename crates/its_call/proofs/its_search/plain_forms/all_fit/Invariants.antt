use Rattle.std.proofs.Common.{◌≡◌, drop}
use Rattle.std.specs.List.{list_all}
use Rattle.its_call.specs.its_search.Forms.{fits}
use Rattle.its_call.proofs.its_search.plain_forms.all_fit.Given as goal

abbrev pub invariant-loop-rule : goal.invariant-loop-rule
invariant-loop-rule l = list_all (fits l.count l.form) (drop l.rule-index l.rules) ≡ list_all (fits l.count l.form) l.rules
