use Rattle.std.proofs.Common.{subst}
use Rattle.abs_cells.specs.AbstractStates.{AbstractState}
use Rattle.abs_reach.specs.Instances.{InstanceOf}
use Rattle.class_program.specs.class_world.WorldTypes.{types_of}
use Rattle.class_program.specs.Views.{program_of}
use Rattle.graph_check.proofs.leaving.matched.Goals as goal

pub returns-in-Ok-clause-links : goal.returns-in-Ok-clause-links
returns-in-Ok-clause-links g c = (
  c.in_ok-node.node,
  (
    c.in_ok-node.ensures.node,
    (
      subst (λ (s : AbstractState). InstanceOf (types_of (program_of c.args.program.now).world).sub c.args.state.now s
          c.args.map.now) c.state.ensures c.in-Ok.ensures.ok,
      c.new.ensures,
    ),
  ),
)
