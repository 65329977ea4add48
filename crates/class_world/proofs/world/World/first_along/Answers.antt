use Rattle.std.proofs.Common.{refl, ap, sym, ◌∙◌, length, arith}
use Rattle.std.specs.Option.{option_map}
use Rattle.class_world.specs.World.{super_of, line_of, line_from}
use Rattle.class_world.specs.inner.Seeking.{place_in}
use Rattle.class_world.proofs.Chain.{with_class, found_by, starts, comes_to, stops, ends}
use Rattle.class_world.proofs.world.World.first_along.Goals as goal

pub loop-init : goal.loop-init
loop-init c =
    let classes = c.args.self.now.roster.classes in
    starts (super_of classes) (with_class (place_in classes c.args.wanted c.args.name.now c.args.desc.now)) _ (length classes)
    c.args.class refl

pub returns-in_err-here : goal.returns-in_err-here
unfolding line_of
returns-in_err-here c =
    let classes = c.args.self.now.roster.classes in
    let super = super_of classes in
    let g = with_class (place_in classes c.args.wanted c.args.name.now c.args.desc.now) in
    c.from_residual.ensures ∙ stops super g _ _ c.loop.next c.loop.invariant c.in_err-here.was
    ∙ sym (found_by (place_in classes c.args.wanted c.args.name.now c.args.desc.now) (line_from super (length classes) c.args.class))

pub returns-in-Some : goal.returns-in-Some
unfolding line_of
returns-in-Some c =
    let classes = c.args.self.now.roster.classes in
    let super = super_of classes in
    let g = with_class (place_in classes c.args.wanted c.args.name.now c.args.desc.now) in
    comes_to super g _ (length classes) c.loop.counter c.in_ok-here.here c.loop.next _ (c.in_ok-here.here, c.in-Some.place)
    (omega (arith, c.len-end.ensures, c.loop-test.true)) c.loop.invariant c.in_ok-here.was
    (ap (option_map (λ i. (c.in_ok-here.here, i))) (sym c.place_in.ensures ∙ c.in-Some.is)) refl
    ∙ sym (found_by (place_in classes c.args.wanted c.args.name.now c.args.desc.now) (line_from super (length classes) c.args.class))

pub returns : goal.returns
unfolding line_of
returns c =
    let classes = c.args.self.now.roster.classes in
    let super = super_of classes in
    let g = with_class (place_in classes c.args.wanted c.args.name.now c.args.desc.now) in
    ends super g _ (length classes) c.loop.counter c.loop.next (omega (arith, c.len-end.ensures, c.loop-test.false))
    c.loop.invariant ∙ sym
    (found_by (place_in classes c.args.wanted c.args.name.now c.args.desc.now) (line_from super (length classes) c.args.class))
