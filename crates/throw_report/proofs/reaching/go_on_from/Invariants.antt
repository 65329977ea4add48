use Rattle.std.proofs.Common.{◌≡◌, drop}
use Rattle.number_graphs.specs.Marking.{visit}
use Rattle.throw_report.proofs.reaching.go_on_from.Given as goal

abbrev pub invariant-loop-number : goal.invariant-loop-number
invariant-loop-number l = visit (drop l.number-index l.row) (record { marks = l.marks.items; todo = l.todo }) ≡ visit l.row
    (record { marks = l.initial.marks.items; todo = l.initial.todo })
