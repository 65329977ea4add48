use Rattle.std.proofs.Common.{◌≡◌, ◌-◌, [], length}
use Rattle.descent.specs.inner.Inserting.{insert_all}
use Rattle.descent.proofs.grouping.put_all.Given as goal

abbrev pub invariant-loop-rule : goal.invariant-loop-rule
invariant-loop-rule l = insert_all l.table l.rule (length l.table - l.rule) l.classes.items ≡ insert_all l.table 0 (length l.table) []
