use Rattle.std.proofs.Common.{◌≡◌, drop}
use Rattle.rank_forms.specs.Forms.{slots_for}
use Rattle.rank_forms.proofs.forms.slots_for.Given as goal

abbrev pub invariant-loop-rule : goal.invariant-loop-rule
invariant-loop-rule l = slots_for (drop l.rule-index l.rules) l.cut ≡ slots_for l.rules l.cut
