use Rattle.std.proofs.Common.{ℕ, List, sym, subst}
use Rattle.abs_reach.specs.Instances.{InstanceOf}
use Rattle.class_world.specs.WorldTypes.{types_of}
use Rattle.class_program.specs.Views.{program_of}
use Rattle.prove_core.proofs.grower.matched.Goals as goal

pub returns-in-Some : goal.returns-in-Some
returns-in-Some g c = λ typing.
    subst (λ (entries : List (ℕ × ℕ)). InstanceOf (types_of (program_of c.args.program.now).world).sub c.args.state.now
    c.args.other.now entries)
    (sym c.from_vec.ensures) (rw c.in-Some.is at c.in_ok-map.ensures)
