use Rattle.std.proofs.Common.{◌≡◌, drop}
use Rattle.std.specs.Prelude.{is_some}
use Rattle.std.specs.List.{list_all}
use Rattle.abs_cells.specs.AbstractStates.{AbstractFrame}
use Rattle.class_program.specs.Views.{program_of}
use Rattle.abs_expand.specs.BadStates.{call_at}
use Rattle.abs_expand.proofs.places.are_at_calls.Given as goal

abbrev pub invariant-loop-frame : goal.invariant-loop-frame
invariant-loop-frame l = list_all (λ (frame : AbstractFrame). is_some (call_at (program_of l.program) frame))
    (drop l.frame-index l.frames) ≡ list_all (λ (frame : AbstractFrame). is_some (call_at (program_of l.program) frame)) l.frames
