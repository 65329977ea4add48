use Rattle.class_world.specs.class_read.View.{method_content}
use Rattle.class_world.specs.Worlds.{classes_of}
use Rattle.class_program.proofs.Rows.{row_found}
use Rattle.class_program.proofs.program.Program.selected_by.Goals as goal

pub selected-requires : goal.selected-requires
selected-requires c =
    let p = c.args.self.now in
    row_found (classes_of p.world) p.selections c.args.method (method_content c.args.named.now) _ p.rows c.requires c.row.ensures
