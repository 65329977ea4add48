use Rattle.std.proofs.Common.{◌≡◌, ◌++◌, drop}
use Rattle.rank_forms.specs.Weighing.{classes_of}
use Rattle.rank_forms.proofs.weights.add_classes.Given as goal

abbrev pub invariant-loop-class : goal.invariant-loop-class
invariant-loop-class l = l.classes ++ classes_of (drop l.class-index l.weights) ≡ l.initial.classes ++ classes_of l.weights
