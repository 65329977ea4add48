use Rattle.table_cases.specs.entry_cases.ReadClasses.{AreRead}
use Rattle.table_cases.proofs.entry_cases.classes.read_all.Given as goal

abbrev pub invariant-loop-file : goal.invariant-loop-file
invariant-loop-file l = AreRead l.classes.items
