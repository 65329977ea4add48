use Rattle.std.proofs.Common.{sym, ◌∙◌}
use Rattle.class_world.specs.Worlds.{classes_of}
use Rattle.class_world.proofs.HiddenFields.{any_at, any_past}
use Rattle.class_program.specs.JvmDiffers.{declares_other}
use Rattle.class_program.proofs.jvm_differs.some_declares_other.Goals as goal

pub returns-then-declares_other : goal.returns-then-declares_other
returns-then-declares_other c =
    any_at (declares_other (classes_of c.args.world.now) c.args.name.now c.args.desc.now c.args.code.now) _
    c.loop-class.class-index 0 _ c.loop-class.invariant c.loop-class-test.true
    (sym c.declares_other.ensures ∙ c.if-declares_other.true)

pub returns : goal.returns
returns c =
    any_past (declares_other (classes_of c.args.world.now) c.args.name.now c.args.desc.now c.args.code.now) _
    c.loop-class.class-index _ c.loop-class.invariant c.loop-class-test.false
