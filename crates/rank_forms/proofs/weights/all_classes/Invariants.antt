use Rattle.std.proofs.Common.{◌≡◌, ◌++◌, drop}
use Rattle.rank_forms.specs.Weighing.{all_classes}
use Rattle.rank_forms.proofs.weights.all_classes.Given as goal

abbrev pub invariant-loop-rule : goal.invariant-loop-rule
invariant-loop-rule l = l.classes ++ all_classes (drop l.rule-index l.rules) ≡ all_classes l.rules
