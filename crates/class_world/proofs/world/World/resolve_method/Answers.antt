use Rattle.std.proofs.Common.{◌≡◌, ◌++◌, ap, ◌∙◌}
use Rattle.std.specs.Option.{option_map}
use Rattle.class_world.specs.World.{line_of}
use Rattle.class_world.specs.declared.resolve.Wanted.TheVariants.{Method}
use Rattle.class_world.specs.Resolve.{first_found, method_ref, resolve_method, superinterfaces_of}
use Rattle.class_world.specs.inner.Seeking.{place_in}
use Rattle.class_world.proofs.Seeking.{found_below, found_over}
use Rattle.class_world.proofs.world.World.resolve_method.Goals as goal
use Rattle.class_world.proofs.world.World.resolve_method.Goals.{in-Some, in-None}

pub returns : goal.returns
unfolding resolve_method
returns c =
    let world = c.args.self.now.roster.classes in
    let place = place_in world Method c.args.name.now c.args.desc.now in
    let line = line_of world c.args.class in
    let over = superinterfaces_of world c.args.class in
    let found : c.match-first_along.found ≡ first_found place (line ++ over) =
    elim c.match-first_along.branch [
      | in-Some w ↦ found_below place line over c.first_along.result _ _ c.first_along.ensures w.in-Some.is w.found-is
      | in-None w ↦ found_over place line over c.first_along.result _ c.first_along.ensures w.in-None.is
          (w.found-is ∙ w.first_in_interfaces-found.ensures)
    ] in
    c.method_ref.ensures ∙ ap (option_map method_ref) found
