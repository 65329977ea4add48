use Rattle.std.proofs.Common.{◌≡◌, ◌++◌, ◌-◌, ℕ, arith, ap, ◌∙◌, length, map, replicate, []}
use Rattle.jvm_values.specs.declared.typing.FrameType.{FrameType}
use Rattle.jvm_values.specs.declared.typing.PlaceType.TheVariants as places
use Rattle.class_program.specs.class_world.Worlds.{classes_of}
use Rattle.class_program.specs.class_world.WorldTypes.{types_of}
use Rattle.code_verify.specs.Operands.{place_of}
use Rattle.code_verify.proofs.Beginning.{frame_is}
use Rattle.code_verify.proofs.method.entry_frame.Goals as goal

pub returns : goal.returns
returns c =
    let frame : FrameType = record { locals = c.loop.locals; stack = c.new.result } in
    let e : c.loop.counter ≡ c.args.method.now.max_locals = omega
    (arith, c.loop-test.false, c.loop.auto.counter, c.loop.auto.counter-end, c.len-counter.ensures, c.from-end.ensures, c.requires) in
    frame_is frame (map (place_of (types_of (classes_of c.args.world.now))) c.args.method.now.params ++ replicate
    (c.args.method.now.max_locals - length c.args.method.now.params) places.Unset) []
    (c.loop.invariant ∙ ap (λ (k : ℕ). map (place_of (types_of (classes_of c.args.world.now))) c.args.method.now.params ++ replicate
    (k - length c.args.method.now.params) places.Unset) e)
    c.new.ensures
