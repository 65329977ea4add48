use Rattle.std.proofs.Common.{◌≡◌, length}
use Rattle.class_world.specs.class_read.View.{method_content}
use Rattle.class_world.specs.Worlds.{classes_of}
use Rattle.class_program.specs.inner.Rows.{IsRow}
use Rattle.class_program.proofs.selections.row_of.Given as goal

abbrev pub invariant-loop-class : goal.invariant-loop-class
invariant-loop-class l = IsRow (classes_of l.world) (method_content l.named) l.row × (length l.row ≡ l.class)
