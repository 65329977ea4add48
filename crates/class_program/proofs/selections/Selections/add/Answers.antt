use Rattle.class_world.specs.class_read.View.{method_content}
use Rattle.class_world.specs.Worlds.{classes_of}
use Rattle.class_program.proofs.Rows.{rows_more}
use Rattle.class_program.proofs.selections.Selections.add.Goals as goal

pub returns-in_ok-put : goal.returns-in_ok-put
returns-in_ok-put c = rows_more (classes_of c.args.world.now) c.args.self.now _ c.args.method (method_content c.args.named.now) _
    c.requires.rows c.requires.named c.in_ok-row_of.ensures c.in_ok-put.ensures
