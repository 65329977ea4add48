use Rattle.class_world.specs.inner.Once.{AreSought}
use Rattle.class_world.proofs.roster.Roster.sought_table.Given as goal

abbrev pub invariant-loop-class : goal.invariant-loop-class
invariant-loop-class l = AreSought l.self.classes l.class l.rows
