use Rattle.std.proofs.Common.{sym, ◌∙◌}
use Rattle.class_world.specs.Worlds.{classes_of}
use Rattle.class_program.proofs.Closed.{made_within}
use Rattle.class_program.proofs.class_operand.new_made.Goals as goal

pub new_differs-requires : goal.new_differs-requires
new_differs-requires c = made_within (classes_of c.args.world.now) c.args.class
    (sym c.has_instances.ensures ∙ c.if-not-has_instances.false)
