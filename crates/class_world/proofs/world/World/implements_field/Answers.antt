use Rattle.std.proofs.Common.{refl, ap, sym, ◌∙◌}
use Rattle.std.specs.List.{list_any}
use Rattle.class_world.specs.World.{interfaces_of}
use Rattle.class_world.specs.inner.Once.{interfaces_once}
use Rattle.class_world.specs.Hidden.{has_field_above, implements_field}
use Rattle.class_world.proofs.HiddenFields.{any_at, any_past, interface_within}
use Rattle.class_world.proofs.Onces.{any_once}
use Rattle.class_world.proofs.world.World.implements_field.Goals as goal

pub has_field_above-requires : goal.has_field_above-requires
has_field_above-requires c = interface_within c.args.self.now.roster.classes c.args.class c.loop-interface.interface-index _ 0 _
    c.interfaces_once-interface-items.ensures c.loop-interface-test.true refl

pub returns-then-has_field_above : goal.returns-then-has_field_above
unfolding implements_field interfaces_once
returns-then-has_field_above c =
    let classes = c.args.self.now.roster.classes in
    let p = has_field_above classes c.args.name.now c.args.desc.now in
    any_at p _ c.loop-interface.interface-index 0 _ c.loop-interface.invariant c.loop-interface-test.true
    (sym c.has_field_above.ensures ∙ c.if-has_field_above.true)
    ∙ ap (list_any p) c.interfaces_once-interface-items.ensures ∙ any_once p (interfaces_of classes c.args.class)

pub returns : goal.returns
unfolding implements_field interfaces_once
returns c =
    let classes = c.args.self.now.roster.classes in
    let p = has_field_above classes c.args.name.now c.args.desc.now in
    any_past p _ c.loop-interface.interface-index _ c.loop-interface.invariant c.loop-interface-test.false
    ∙ ap (list_any p) c.interfaces_once-interface-items.ensures ∙ any_once p (interfaces_of classes c.args.class)
