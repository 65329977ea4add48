use Rattle.class_world.specs.Worlds.{classes_of}
use Rattle.class_calls.proofs.Answering.{world_refused, entry_is_refused, named_runs}
use Rattle.class_calls.proofs.run_call.call.run_named.Goals as goal

pub returns-in-Err : goal.returns-in-Err
returns-in-Err c = world_refused c.args.fuel c.args.text c.args.classes.items c.in-Err.refused c.in-Err.ensures.refused

pub returns-in-Err-entry_of : goal.returns-in-Err-entry_of
returns-in-Err-entry_of c = entry_is_refused c.args.fuel c.args.text c.args.classes.items (classes_of c.in-Ok.world)
    c.in-Err-entry_of.refused c.in-Ok.ensures.world c.in-Err-entry_of.ensures.refused

pub returns-in-Ok-entry_of : goal.returns-in-Ok-entry_of
returns-in-Ok-entry_of c = named_runs c.args.fuel c.args.text c.args.classes.items (classes_of c.in-Ok.world) c.in-Ok-entry_of.entry
    _ c.in-Ok.ensures.world c.in-Ok-entry_of.ensures.entry c.run_entry.ensures
