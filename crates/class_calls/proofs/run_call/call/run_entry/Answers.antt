use Rattle.class_world.specs.Worlds.{classes_of}
use Rattle.class_program.specs.Views.{program_of}
use Rattle.class_calls.proofs.Answering.{program_refused, entry_runs}
use Rattle.class_calls.proofs.run_call.call.run_entry.Goals as goal

pub returns-in-Err : goal.returns-in-Err
returns-in-Err c = program_refused c.args.fuel c.args.text (classes_of c.args.world) c.args.entry c.in-Err.refused c.in-Err.ensures.refused

pub returns-in-Ok : goal.returns-in-Ok
returns-in-Ok c = entry_runs c.args.fuel c.args.text (classes_of c.args.world) c.args.entry (program_of c.in-Ok.program) _
    c.in-Ok.ensures.program c.run_program.ensures
