use Rattle.std.proofs.Common.{sym, ◌∙◌}
use Rattle.class_world.specs.Worlds.{classes_of}
use Rattle.class_program.proofs.Closed.{made_within}
use Rattle.class_program.proofs.receivers.is_receiver.Goals as goal

pub is_below-requires : goal.is_below-requires
is_below-requires c = made_within (classes_of c.args.world.now) c.args.class (sym c.has_instances.ensures ∙ c.if-has_instances.true)
