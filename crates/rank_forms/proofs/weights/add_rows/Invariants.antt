use Rattle.std.proofs.Common.{◌≡◌, ◌++◌, drop}
use Rattle.rank_forms.specs.Weighing.{row_classes}
use Rattle.rank_forms.proofs.weights.add_rows.Given as goal

abbrev pub invariant-loop-row : goal.invariant-loop-row
invariant-loop-row l = l.classes ++ row_classes (drop l.row-index l.rows) ≡ l.initial.classes ++ row_classes l.rows
