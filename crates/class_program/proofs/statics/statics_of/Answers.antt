use Rattle.class_world.specs.Worlds.{classes_of}
use Rattle.class_program.specs.Statics.{statics_in}
use Rattle.class_program.proofs.StaticLists.{classes_step}
use Rattle.class_program.proofs.statics.statics_of.Goals as goal

pub loop-class-preserved : goal.loop-class-preserved
loop-class-preserved c =
    classes_step (statics_in (classes_of c.args.world.now) c.args.named.now) c.loop-class.statics _ c.loop-class.class
    c.loop-class.invariant c.in_ok-add_statics.ensures
