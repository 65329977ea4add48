use Rattle.std.proofs.Common.{◌<◌, length}
use Rattle.class_program.specs.Views.{program_of}
use Rattle.abs_turns.specs.Table.{class_of_cell, cell_here}
use Rattle.abs_plans.proofs.Calling.{selects}
use Rattle.abs_plans.proofs.calls.answer_of.Goals as goal

pub returns : goal.returns
returns g c = selects (program_of c.program.result.now) c.args.spot.now.program c.args.op.now c.class_of.result
    (class_of_cell (cell_here c.args.spot.now c.args.x)) c.selected_for.result c.program.ensures c.class_of.ensures.is
    c.class_of.ensures.low c.selected_for.ensures
