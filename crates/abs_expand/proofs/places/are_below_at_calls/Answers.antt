use Rattle.std.proofs.Common.{◌∙◌, arith}
use Rattle.std.specs.Prelude.{is_some}
use Rattle.abs_cells.specs.AbstractStates.{AbstractFrame}
use Rattle.class_program.specs.Views.{program_of}
use Rattle.abs_expand.specs.BadStates.{call_at}
use Rattle.abs_expand.proofs.Placed.{tested_below}
use Rattle.abs_expand.proofs.places.are_below_at_calls.Goals as goal

pub returns : goal.returns
returns g c = c.are_at_calls.ensures
    ∙ tested_below (λ (frame : AbstractFrame). is_some (call_at (program_of c.args.program.now) frame)) c.args.state.now.frames
    c.frames-frames.result.now c.frames-frames.ensures (omega arith)
