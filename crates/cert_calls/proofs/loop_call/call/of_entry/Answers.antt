use Rattle.class_world.specs.Worlds.{classes_of}
use Rattle.class_program.specs.Views.{program_of}
use Rattle.cert_calls.specs.loop_call.inner.Words.{Shows}
use Rattle.cert_calls.proofs.Stepping.{program_refused, entry_goes}
use Rattle.cert_calls.proofs.loop_call.call.of_entry.Goals as goal

pub returns-in-Err : goal.returns-in-Err
returns-in-Err c = program_refused (Shows c.args.cert.now) c.args.text c.args.given (classes_of c.args.world) c.args.entry
    c.in-Err.refused c.in-Err.ensures.refused

pub returns-in-Ok : goal.returns-in-Ok
returns-in-Ok c = entry_goes (Shows c.args.cert.now) c.args.text c.args.given (classes_of c.args.world) c.args.entry
    (program_of c.in-Ok.program) _ c.in-Ok.ensures.program c.of_program.ensures
