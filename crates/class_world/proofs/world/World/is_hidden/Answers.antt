use Rattle.std.proofs.Common.{refl, length, arith, eq-eqb, ne_eqb}
use Rattle.class_world.specs.World.{super_of, line_of}
use Rattle.class_world.specs.Hidden.{implements_field, is_hidden}
use Rattle.class_world.proofs.HiddenFields.{seek_starts, seek_ends_at, seek_comes_to, seek_goes_on, seek_ends}
use Rattle.class_world.proofs.world.World.is_hidden.Goals as goal

pub loop-init : goal.loop-init
loop-init c =
    let classes = c.args.self.now.roster.classes in
    seek_starts (super_of classes) (implements_field classes c.args.name.now c.args.desc.now) c.args.declaring _ (length classes)
    c.args.class refl

pub returns-then-here-declaring : goal.returns-then-here-declaring
unfolding is_hidden line_of
returns-then-here-declaring c =
    let classes = c.args.self.now.roster.classes in
    seek_ends_at (super_of classes) (implements_field classes c.args.name.now c.args.desc.now) c.args.declaring _ (length classes)
    c.loop.counter c.in-Some.here c.loop.next
    (omega (arith, c.len-end.ensures, c.loop-test.true)) c.loop.invariant c.in-Some.is
    (eq-eqb c.in-Some.here c.args.declaring c.if-here-declaring.true)

pub returns-then-implements_field : goal.returns-then-implements_field
unfolding is_hidden line_of
returns-then-implements_field c =
    let classes = c.args.self.now.roster.classes in
    seek_comes_to (super_of classes) (implements_field classes c.args.name.now c.args.desc.now) c.args.declaring _ (length classes)
    c.loop.counter c.in-Some.here c.loop.next _
    (omega (arith, c.len-end.ensures, c.loop-test.true)) c.loop.invariant c.in-Some.is
    (ne_eqb c.in-Some.here c.args.declaring c.if-here-declaring.false) c.implements_field.ensures c.if-implements_field.true

pub loop-preserved : goal.loop-preserved
loop-preserved c =
    let classes = c.args.self.now.roster.classes in
    seek_goes_on (super_of classes) (implements_field classes c.args.name.now c.args.desc.now) c.args.declaring _ (length classes)
    c.loop.counter c.in-Some.here c.loop.next _ _
    (omega (arith, c.len-end.ensures, c.loop-test.true)) c.loop.invariant c.in-Some.is
    (ne_eqb c.in-Some.here c.args.declaring c.if-here-declaring.false) c.implements_field.ensures c.if-implements_field.false
    c.super_of-next.ensures

pub returns : goal.returns
unfolding is_hidden line_of
returns c =
    let classes = c.args.self.now.roster.classes in
    seek_ends (super_of classes) (implements_field classes c.args.name.now c.args.desc.now) c.args.declaring _ (length classes)
    c.loop.counter c.loop.next (omega (arith, c.len-end.ensures, c.loop-test.false)) c.loop.invariant
