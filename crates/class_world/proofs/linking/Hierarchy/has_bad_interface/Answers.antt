use Rattle.std.proofs.Common.{ℕ, Bool, not, ap, ◌∙◌}
use Rattle.std.specs.List.{list_any}
use Rattle.class_world.specs.World.{interfaces_of, is_interface_class}
use Rattle.class_world.specs.inner.Once.{interfaces_once}
use Rattle.class_world.proofs.Onces.{any_once}
use Rattle.class_world.proofs.linking.Hierarchy.has_bad_interface.Goals as goal

pub returns : goal.returns
unfolding interfaces_once
returns c =
    let world = c.args.self.now.roster.now.classes in
    let other : ℕ → Bool = λ k. not (is_interface_class world k) in
    c.has_other_kind.ensures ∙ ap (list_any other) c.interfaces_once.ensures ∙ any_once other (interfaces_of world c.args.class)
