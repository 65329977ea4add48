use Rattle.std.proofs.Common.{ℕ, Option, not, false, ap, ◌∙◌}
use Rattle.std.specs.Option.{option_map_or}
use Rattle.class_world.specs.Worlds.{classes_of}
use Rattle.class_world.specs.Resolve.{method_ref, method_at}
use Rattle.class_program.specs.JvmDiffers.{has_code, declares_other}
use Rattle.class_program.proofs.jvm_differs.declares_other.Goals as goal

pub returns-in-Some : goal.returns-in-Some
unfolding declares_other
returns-in-Some c =
    ap not c.has_code.ensures
    ∙ ap (λ (o : Option ℕ). option_map_or
    (λ i. not (option_map_or (has_code c.args.code.now)
    (method_at (classes_of c.args.world.now) (method_ref (c.args.class, i))) false)) o false) c.in-Some.ensures.place

pub returns-in-None : goal.returns-in-None
unfolding declares_other
returns-in-None c =
    ap (λ (o : Option ℕ). option_map_or
    (λ i. not (option_map_or (has_code c.args.code.now)
    (method_at (classes_of c.args.world.now) (method_ref (c.args.class, i))) false)) o false) c.in-None.ensures.place
