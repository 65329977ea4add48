use Rattle.std.proofs.Common.{◌∙◌, ap}
use Rattle.class_program.specs.Statics.{fields_in}
use Rattle.class_program.proofs.StaticLists.{methods_step, methods_done}
use Rattle.class_program.proofs.statics.fields_named.Goals as goal

pub loop-method-preserved : goal.loop-method-preserved
loop-method-preserved c =
    methods_step (λ m. fields_in m.insns) c.args.methods.now c.loop-method.method-index _ c.loop-method.fields _ _ _
    c.loop-method.invariant c.loop-method-test.true (ap fields_in c.as_slice.ensures.list
    ∙ ap (λ m. fields_in m.insns) c.method-item.is) c.in_ok-add_fields.ensures

pub returns : goal.returns
returns c = methods_done c.args.methods.now c.loop-method.method-index c.loop-method.fields c.loop-method.invariant
    c.loop-method-test.false
