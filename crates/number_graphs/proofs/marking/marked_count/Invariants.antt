use Rattle.std.proofs.Common.{◌≡◌, ◌+◌, ◌≤◌, drop}
use Rattle.number_graphs.specs.Marking.{marked_count}
use Rattle.number_graphs.proofs.marking.marked_count.Given as goal

abbrev pub invariant-loop-mark : goal.invariant-loop-mark
invariant-loop-mark l = record {
  few : l.count ≤ l.mark-index;
  counted : l.count + marked_count (drop l.mark-index l.marks) ≡ marked_count l.marks;
}
