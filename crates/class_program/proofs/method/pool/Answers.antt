use Rattle.std.proofs.Common.{ap}
use Rattle.class_world.specs.Worlds.{classes_of}
use Rattle.class_program.proofs.GoingThrough.{pool_from}
use Rattle.class_program.proofs.method.pool.Goals as goal

pub returns : goal.returns
returns c = pool_from (classes_of c.args.world.now) c.args.class c.view-view.result.now _ c.view-view.ensures
    (ap (λ x. x.pool) c.view.view_is)
