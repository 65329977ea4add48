use Rattle.class_world.specs.Worlds.{classes_of}
use Rattle.cert_calls.specs.loop_call.inner.Words.{Shows}
use Rattle.cert_calls.proofs.Stepping.{world_refused, classes_go}
use Rattle.cert_calls.proofs.loop_call.call.of_classes.Goals as goal

pub returns-in-Err : goal.returns-in-Err
returns-in-Err c = world_refused (Shows c.args.cert.now) c.args.text c.args.given c.args.classes.items c.in-Err.refused
    c.in-Err.ensures.refused

pub returns-in-Ok : goal.returns-in-Ok
returns-in-Ok c = classes_go (Shows c.args.cert.now) c.args.text c.args.given c.args.classes.items (classes_of c.in-Ok.world) _
    c.in-Ok.ensures.world c.of_world.ensures
