use Rattle.std.proofs.Common.{sym}
use Rattle.class_world.specs.class_read.View.{method_content}
use Rattle.class_world.specs.Worlds.{classes_of}
use Rattle.class_program.proofs.Rows.{row_found}
use Rattle.class_program.proofs.runs.call_selections.Goals as goal

pub selections-requires : goal.selections-requires
selections-requires c = row_found (classes_of c.args.world.now) _ c.args.call.now.method (method_content c.in-Some.method.now) _
    c.in_ok-add-in-Some.ensures (sym c.in-Some.ensures) c.row.ensures
