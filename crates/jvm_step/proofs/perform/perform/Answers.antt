use Rattle.std.proofs.Common.{◌≡◌, ◌∙◌, List, Some, refl, ap, subst}
use Rattle.std.proofs.lemmas.Result.{on_err_weaker}
use Rattle.jvm_values.specs.declared.heap.Value.TheVariants as values
use Rattle.jvm_values.specs.States.{frame_of}
use Rattle.class_program.specs.class_world.Worlds.{classes_of}
use Rattle.class_program.specs.declared.op.Op.TheVariants as ops
use Rattle.class_program.specs.declared.program.StaticField.{StaticField}
use Rattle.class_program.specs.Views.{program_of}
use Rattle.op_forms.specs.declared.form.Form.{Form as FormSeen}
use Rattle.op_forms.specs.Forms.{form_seen}
use Rattle.jvm_step.specs.declared.after.After.TheVariants as afters
use Rattle.jvm_step.specs.Acts.{Acts}
use Rattle.jvm_step.specs.Effects.{types_of, putstatic_effect}
use Rattle.jvm_step.specs.Steps.{work_seen}
use Rattle.jvm_step.proofs.Doing.{frame_acts, frame_tries, heap_acts, heap_tries, statics_acts, tries_as, acts_as}
use Rattle.jvm_step.proofs.Wanted.{any_err, wants_as, constant_wants, iload_wants, aload_wants, getstatic_wants, shuffle_wants}
use Rattle.jvm_step.proofs.Wanted.{new_wants, newarray_wants, anewarray_wants}
use Rattle.jvm_step.proofs.CallOps.{virtual_op, interface_op}
use Rattle.jvm_step.proofs.perform.perform.Goals as goal

pub returns-in-Nop-clause-effect : goal.returns-in-Nop-clause-effect
returns-in-Nop-clause-effect c = acts_as (program_of c.args.program.now) c.args.method.now
    (work_seen c.args.frame.now c.args.statics.now c.args.heap.now) _ _ afters.Next
    (work_seen c.args.frame.now c.args.statics.now c.args.heap.now) (ap form_seen c.in-Nop.is) refl

pub returns-in-AconstNull-clause-effect : goal.returns-in-AconstNull-clause-effect
returns-in-AconstNull-clause-effect c = tries_as (program_of c.args.program.now) c.args.method.now
    (work_seen c.args.frame.now c.args.statics.now c.args.heap.now) _ _ c.push.result
    (work_seen c.push.new.frame c.args.statics.now c.args.heap.now) (ap form_seen c.in-AconstNull.is)
    (frame_tries (work_seen c.args.frame.now c.args.statics.now c.args.heap.now) _ c.push.result (frame_of c.push.new.frame)
    c.push.ensures.effect)

pub returns-in-Iconst-clause-effect : goal.returns-in-Iconst-clause-effect
returns-in-Iconst-clause-effect c = tries_as (program_of c.args.program.now) c.args.method.now
    (work_seen c.args.frame.now c.args.statics.now c.args.heap.now) _ _ c.push_int.result
    (work_seen c.push_int.new.frame c.args.statics.now c.args.heap.now) (ap form_seen c.in-Iconst.is)
    (frame_tries (work_seen c.args.frame.now c.args.statics.now c.args.heap.now) _ c.push_int.result (frame_of c.push_int.new.frame)
    c.push_int.ensures.effect)

pub returns-in-Iload-clause-effect : goal.returns-in-Iload-clause-effect
returns-in-Iload-clause-effect c = tries_as (program_of c.args.program.now) c.args.method.now
    (work_seen c.args.frame.now c.args.statics.now c.args.heap.now) _ _ c.iload.result
    (work_seen c.iload.new.frame c.args.statics.now c.args.heap.now) (ap form_seen c.in-Iload.is)
    (frame_tries (work_seen c.args.frame.now c.args.statics.now c.args.heap.now) _ c.iload.result (frame_of c.iload.new.frame)
    c.iload.ensures.effect)

pub returns-in-Aload-clause-effect : goal.returns-in-Aload-clause-effect
returns-in-Aload-clause-effect c = tries_as (program_of c.args.program.now) c.args.method.now
    (work_seen c.args.frame.now c.args.statics.now c.args.heap.now) _ _ c.aload.result
    (work_seen c.aload.new.frame c.args.statics.now c.args.heap.now) (ap form_seen c.in-Aload.is)
    (frame_tries (work_seen c.args.frame.now c.args.statics.now c.args.heap.now) _ c.aload.result (frame_of c.aload.new.frame)
    c.aload.ensures.effect)

pub returns-in-Istore-clause-effect : goal.returns-in-Istore-clause-effect
returns-in-Istore-clause-effect c = acts_as (program_of c.args.program.now) c.args.method.now
    (work_seen c.args.frame.now c.args.statics.now c.args.heap.now) _ _ c.istore.result
    (work_seen c.istore.new.frame c.args.statics.now c.args.heap.now) (ap form_seen c.in-Istore.is)
    (frame_acts (work_seen c.args.frame.now c.args.statics.now c.args.heap.now) _ c.istore.result (frame_of c.istore.new.frame)
    c.istore.ensures.effect)

pub returns-in-Astore-clause-effect : goal.returns-in-Astore-clause-effect
returns-in-Astore-clause-effect c = acts_as (program_of c.args.program.now) c.args.method.now
    (work_seen c.args.frame.now c.args.statics.now c.args.heap.now) _ _ c.astore.result
    (work_seen c.astore.new.frame c.args.statics.now c.args.heap.now) (ap form_seen c.in-Astore.is)
    (frame_acts (work_seen c.args.frame.now c.args.statics.now c.args.heap.now) _ c.astore.result (frame_of c.astore.new.frame)
    c.astore.ensures.effect)

pub returns-in-Iinc-clause-effect : goal.returns-in-Iinc-clause-effect
returns-in-Iinc-clause-effect c = acts_as (program_of c.args.program.now) c.args.method.now
    (work_seen c.args.frame.now c.args.statics.now c.args.heap.now) _ _ c.add_to_local.result
    (work_seen c.add_to_local.new.frame c.args.statics.now c.args.heap.now) (ap form_seen c.in-Iinc.is)
    (frame_acts (work_seen c.args.frame.now c.args.statics.now c.args.heap.now) _ c.add_to_local.result
    (frame_of c.add_to_local.new.frame) c.add_to_local.ensures.effect)

pub returns-in-Shuffle-clause-effect : goal.returns-in-Shuffle-clause-effect
returns-in-Shuffle-clause-effect c = tries_as (program_of c.args.program.now) c.args.method.now
    (work_seen c.args.frame.now c.args.statics.now c.args.heap.now) _ _ c.shuffle.result
    (work_seen c.shuffle.new.frame c.args.statics.now c.args.heap.now) (ap form_seen c.in-Shuffle.is)
    (frame_tries (work_seen c.args.frame.now c.args.statics.now c.args.heap.now) _ c.shuffle.result (frame_of c.shuffle.new.frame)
    c.shuffle.ensures.effect)

pub returns-in-Arith-clause-effect : goal.returns-in-Arith-clause-effect
returns-in-Arith-clause-effect c = acts_as (program_of c.args.program.now) c.args.method.now
    (work_seen c.args.frame.now c.args.statics.now c.args.heap.now) _ _ c.arith.result
    (work_seen c.arith.new.frame c.args.statics.now c.args.heap.now) (ap form_seen c.in-Arith.is)
    (frame_acts (work_seen c.args.frame.now c.args.statics.now c.args.heap.now) _ c.arith.result (frame_of c.arith.new.frame)
    c.arith.ensures.effect)

pub returns-in-Ineg-clause-effect : goal.returns-in-Ineg-clause-effect
returns-in-Ineg-clause-effect c = acts_as (program_of c.args.program.now) c.args.method.now
    (work_seen c.args.frame.now c.args.statics.now c.args.heap.now) _ _ c.ineg.result
    (work_seen c.ineg.new.frame c.args.statics.now c.args.heap.now) (ap form_seen c.in-Ineg.is)
    (frame_acts (work_seen c.args.frame.now c.args.statics.now c.args.heap.now) _ c.ineg.result (frame_of c.ineg.new.frame)
    c.ineg.ensures.effect)

pub returns-in-Narrow-clause-effect : goal.returns-in-Narrow-clause-effect
returns-in-Narrow-clause-effect c = acts_as (program_of c.args.program.now) c.args.method.now
    (work_seen c.args.frame.now c.args.statics.now c.args.heap.now) _ _ c.narrow.result
    (work_seen c.narrow.new.frame c.args.statics.now c.args.heap.now) (ap form_seen c.in-Narrow.is)
    (frame_acts (work_seen c.args.frame.now c.args.statics.now c.args.heap.now) _ c.narrow.result (frame_of c.narrow.new.frame)
    c.narrow.ensures.effect)

pub returns-in-If-clause-effect : goal.returns-in-If-clause-effect
returns-in-If-clause-effect c = acts_as (program_of c.args.program.now) c.args.method.now
    (work_seen c.args.frame.now c.args.statics.now c.args.heap.now) _ _ c.jump_if.result
    (work_seen c.jump_if.new.frame c.args.statics.now c.args.heap.now) (ap form_seen c.in-If.is)
    (frame_acts (work_seen c.args.frame.now c.args.statics.now c.args.heap.now) _ c.jump_if.result (frame_of c.jump_if.new.frame)
    c.jump_if.ensures.effect)

pub returns-in-IfIcmp-clause-effect : goal.returns-in-IfIcmp-clause-effect
returns-in-IfIcmp-clause-effect c = acts_as (program_of c.args.program.now) c.args.method.now
    (work_seen c.args.frame.now c.args.statics.now c.args.heap.now) _ _ c.jump_if_ints.result
    (work_seen c.jump_if_ints.new.frame c.args.statics.now c.args.heap.now) (ap form_seen c.in-IfIcmp.is)
    (frame_acts (work_seen c.args.frame.now c.args.statics.now c.args.heap.now) _ c.jump_if_ints.result
    (frame_of c.jump_if_ints.new.frame) c.jump_if_ints.ensures.effect)

pub returns-in-IfAcmpeq-clause-effect : goal.returns-in-IfAcmpeq-clause-effect
returns-in-IfAcmpeq-clause-effect c = acts_as (program_of c.args.program.now) c.args.method.now
    (work_seen c.args.frame.now c.args.statics.now c.args.heap.now) _ _ c.jump_if_same.result
    (work_seen c.jump_if_same.new.frame c.args.statics.now c.args.heap.now) (ap form_seen c.in-IfAcmpeq.is)
    (frame_acts (work_seen c.args.frame.now c.args.statics.now c.args.heap.now) _ c.jump_if_same.result
    (frame_of c.jump_if_same.new.frame) c.jump_if_same.ensures.effect)

pub returns-in-IfAcmpne-clause-effect : goal.returns-in-IfAcmpne-clause-effect
returns-in-IfAcmpne-clause-effect c = acts_as (program_of c.args.program.now) c.args.method.now
    (work_seen c.args.frame.now c.args.statics.now c.args.heap.now) _ _ c.jump_if_same-in-IfAcmpne.result
    (work_seen c.jump_if_same-in-IfAcmpne.new.frame c.args.statics.now c.args.heap.now) (ap form_seen c.in-IfAcmpne.is)
    (frame_acts (work_seen c.args.frame.now c.args.statics.now c.args.heap.now) _ c.jump_if_same-in-IfAcmpne.result
    (frame_of c.jump_if_same-in-IfAcmpne.new.frame) c.jump_if_same-in-IfAcmpne.ensures.effect)

pub returns-in-Ifnull-clause-effect : goal.returns-in-Ifnull-clause-effect
returns-in-Ifnull-clause-effect c = acts_as (program_of c.args.program.now) c.args.method.now
    (work_seen c.args.frame.now c.args.statics.now c.args.heap.now) _ _ c.jump_if_null.result
    (work_seen c.jump_if_null.new.frame c.args.statics.now c.args.heap.now) (ap form_seen c.in-Ifnull.is)
    (frame_acts (work_seen c.args.frame.now c.args.statics.now c.args.heap.now) _ c.jump_if_null.result
    (frame_of c.jump_if_null.new.frame) c.jump_if_null.ensures.effect)

pub returns-in-Ifnonnull-clause-effect : goal.returns-in-Ifnonnull-clause-effect
returns-in-Ifnonnull-clause-effect c = acts_as (program_of c.args.program.now) c.args.method.now
    (work_seen c.args.frame.now c.args.statics.now c.args.heap.now) _ _ c.jump_if_null-in-Ifnonnull.result
    (work_seen c.jump_if_null-in-Ifnonnull.new.frame c.args.statics.now c.args.heap.now) (ap form_seen c.in-Ifnonnull.is)
    (frame_acts (work_seen c.args.frame.now c.args.statics.now c.args.heap.now) _ c.jump_if_null-in-Ifnonnull.result
    (frame_of c.jump_if_null-in-Ifnonnull.new.frame) c.jump_if_null-in-Ifnonnull.ensures.effect)

pub returns-in-Goto-clause-effect : goal.returns-in-Goto-clause-effect
returns-in-Goto-clause-effect c = acts_as (program_of c.args.program.now) c.args.method.now
    (work_seen c.args.frame.now c.args.statics.now c.args.heap.now) _ _ c.goto.result
    (work_seen c.args.frame.now c.args.statics.now c.args.heap.now) (ap form_seen c.in-Goto.is)
    (frame_acts (work_seen c.args.frame.now c.args.statics.now c.args.heap.now) _ c.goto.result (frame_of c.args.frame.now) c.goto.ensures)

pub returns-in-Tableswitch-clause-effect : goal.returns-in-Tableswitch-clause-effect
returns-in-Tableswitch-clause-effect c = acts_as (program_of c.args.program.now) c.args.method.now
    (work_seen c.args.frame.now c.args.statics.now c.args.heap.now) _ _ c.switch_from.result
    (work_seen c.switch_from.new.frame c.args.statics.now c.args.heap.now) (ap form_seen c.in-Tableswitch.is)
    (frame_acts (work_seen c.args.frame.now c.args.statics.now c.args.heap.now) _ c.switch_from.result
    (frame_of c.switch_from.new.frame) c.switch_from.ensures.effect)

pub returns-in-Lookupswitch-clause-effect : goal.returns-in-Lookupswitch-clause-effect
returns-in-Lookupswitch-clause-effect c = acts_as (program_of c.args.program.now) c.args.method.now
    (work_seen c.args.frame.now c.args.statics.now c.args.heap.now) _ _ c.lookupswitch.result
    (work_seen c.lookupswitch.new.frame c.args.statics.now c.args.heap.now) (ap form_seen c.in-Lookupswitch.is)
    (frame_acts (work_seen c.args.frame.now c.args.statics.now c.args.heap.now) _ c.lookupswitch.result
    (frame_of c.lookupswitch.new.frame) c.lookupswitch.ensures.effect)

pub returns-in-Ireturn-clause-effect : goal.returns-in-Ireturn-clause-effect
returns-in-Ireturn-clause-effect c = acts_as (program_of c.args.program.now) c.args.method.now
    (work_seen c.args.frame.now c.args.statics.now c.args.heap.now) _ _ c.ireturn.result
    (work_seen c.args.frame.now c.args.statics.now c.args.heap.now) (ap form_seen c.in-Ireturn.is)
    (frame_acts (work_seen c.args.frame.now c.args.statics.now c.args.heap.now) _ c.ireturn.result (frame_of c.args.frame.now)
    (c.ireturn.ensures c.args.method.now.result))

pub returns-in-Areturn-clause-effect : goal.returns-in-Areturn-clause-effect
returns-in-Areturn-clause-effect c = acts_as (program_of c.args.program.now) c.args.method.now
    (work_seen c.args.frame.now c.args.statics.now c.args.heap.now) _ _ c.areturn.result
    (work_seen c.args.frame.now c.args.statics.now c.args.heap.now) (ap form_seen c.in-Areturn.is)
    (frame_acts (work_seen c.args.frame.now c.args.statics.now c.args.heap.now) _ c.areturn.result (frame_of c.args.frame.now)
    (c.areturn.ensures (types_of (classes_of c.args.program.now.world)) c.args.method.now.result c.args.heap.now))

pub returns-in-Return-clause-effect : goal.returns-in-Return-clause-effect
returns-in-Return-clause-effect c = acts_as (program_of c.args.program.now) c.args.method.now
    (work_seen c.args.frame.now c.args.statics.now c.args.heap.now) _ _ c.return_nothing.result
    (work_seen c.args.frame.now c.args.statics.now c.args.heap.now) (ap form_seen c.in-Return.is)
    (frame_acts (work_seen c.args.frame.now c.args.statics.now c.args.heap.now) _ c.return_nothing.result
    (frame_of c.args.frame.now) (c.return_nothing.ensures c.args.method.now.result))

pub returns-in-Getstatic-clause-effect : goal.returns-in-Getstatic-clause-effect
returns-in-Getstatic-clause-effect c = tries_as (program_of c.args.program.now) c.args.method.now
    (work_seen c.args.frame.now c.args.statics.now c.args.heap.now) _ _ c.getstatic.result
    (work_seen c.getstatic.new.frame c.args.statics.now c.args.heap.now) (ap form_seen c.in-Getstatic.is)
    (frame_tries (work_seen c.args.frame.now c.args.statics.now c.args.heap.now) _ c.getstatic.result
    (frame_of c.getstatic.new.frame) c.getstatic.ensures.effect)

pub returns-in-Putstatic-clause-effect : goal.returns-in-Putstatic-clause-effect
returns-in-Putstatic-clause-effect c = acts_as (program_of c.args.program.now) c.args.method.now
    (work_seen c.args.frame.now c.args.statics.now c.args.heap.now) _ _ c.putstatic.result
    (work_seen c.putstatic.new.frame c.putstatic.new.statics c.args.heap.now) (ap form_seen c.in-Putstatic.is)
    (statics_acts (work_seen c.args.frame.now c.args.statics.now c.args.heap.now) _ c.putstatic.result
    (frame_of c.putstatic.new.frame) c.putstatic.new.statics
    ((subst (λ (fields : List StaticField). Acts
    (putstatic_effect (types_of (classes_of c.args.program.now.world)) fields c.in-Putstatic.place c.args.heap.now
    (frame_of c.args.frame.now) c.args.statics.now) c.putstatic.result (frame_of c.args.frame.now, c.args.statics.now)
    (frame_of c.putstatic.new.frame, c.putstatic.new.statics)) c.as_slice.ensures
    (c.putstatic.ensures.effect (types_of (classes_of c.args.program.now.world)) c.args.heap.now))))

pub returns-in-Getfield-clause-effect : goal.returns-in-Getfield-clause-effect
returns-in-Getfield-clause-effect c = acts_as (program_of c.args.program.now) c.args.method.now
    (work_seen c.args.frame.now c.args.statics.now c.args.heap.now) _ _ c.getfield.result
    (work_seen c.getfield.new.frame c.args.statics.now c.args.heap.now) (ap form_seen c.in-Getfield.is)
    (frame_acts (work_seen c.args.frame.now c.args.statics.now c.args.heap.now) _ c.getfield.result (frame_of c.getfield.new.frame)
    (c.getfield.ensures.effect (types_of (classes_of c.args.program.now.world))))

pub returns-in-Putfield-clause-effect : goal.returns-in-Putfield-clause-effect
returns-in-Putfield-clause-effect c = acts_as (program_of c.args.program.now) c.args.method.now
    (work_seen c.args.frame.now c.args.statics.now c.args.heap.now) _ _ c.putfield.result
    (work_seen c.putfield.new.frame c.args.statics.now c.putfield.new.heap) (ap form_seen c.in-Putfield.is)
    (heap_acts (work_seen c.args.frame.now c.args.statics.now c.args.heap.now) _ c.putfield.result (frame_of c.putfield.new.frame)
    c.putfield.new.heap (c.putfield.ensures.effect (types_of (classes_of c.args.program.now.world))))

pub returns-in-Invokevirtual-clause-effect : goal.returns-in-Invokevirtual-clause-effect
returns-in-Invokevirtual-clause-effect c = acts_as (program_of c.args.program.now) c.args.method.now
    (work_seen c.args.frame.now c.args.statics.now c.args.heap.now) _ _ c.invoke_selected.result
    (work_seen c.args.frame.now c.args.statics.now c.args.heap.now) (ap form_seen c.in-Invokevirtual.is)
    (frame_acts (work_seen c.args.frame.now c.args.statics.now c.args.heap.now) _ c.invoke_selected.result
    (frame_of c.args.frame.now)
    (c.invoke_selected.ensures (ops.Invokevirtual c.in-Invokevirtual.call.now)
    (virtual_op _ c.in-Invokevirtual.call.now (c.requires.here ∙ ap (λ (f : FormSeen). Some (form_seen f)) c.in-Invokevirtual.is))))

pub returns-in-Invokespecial-clause-effect : goal.returns-in-Invokespecial-clause-effect
returns-in-Invokespecial-clause-effect c = acts_as (program_of c.args.program.now) c.args.method.now
    (work_seen c.args.frame.now c.args.statics.now c.args.heap.now) _ _ c.invokespecial.result
    (work_seen c.args.frame.now c.args.statics.now c.args.heap.now) (ap form_seen c.in-Invokespecial.is)
    (frame_acts (work_seen c.args.frame.now c.args.statics.now c.args.heap.now) _ c.invokespecial.result (frame_of c.args.frame.now)
    (c.invokespecial.ensures (classes_of c.args.program.now.world) c.args.method.now.class c.args.heap.now))

pub returns-in-Invokestatic-clause-effect : goal.returns-in-Invokestatic-clause-effect
returns-in-Invokestatic-clause-effect c = acts_as (program_of c.args.program.now) c.args.method.now
    (work_seen c.args.frame.now c.args.statics.now c.args.heap.now) _ _ c.invokestatic.result
    (work_seen c.args.frame.now c.args.statics.now c.args.heap.now) (ap form_seen c.in-Invokestatic.is)
    (frame_acts (work_seen c.args.frame.now c.args.statics.now c.args.heap.now) _ c.invokestatic.result (frame_of c.args.frame.now)
    (c.invokestatic.ensures (types_of (classes_of c.args.program.now.world)) c.args.heap.now))

pub returns-in-Invokeinterface-clause-effect : goal.returns-in-Invokeinterface-clause-effect
returns-in-Invokeinterface-clause-effect c = acts_as (program_of c.args.program.now) c.args.method.now
    (work_seen c.args.frame.now c.args.statics.now c.args.heap.now) _ _ c.invoke_selected-in-Invokeinterface.result
    (work_seen c.args.frame.now c.args.statics.now c.args.heap.now) (ap form_seen c.in-Invokeinterface.is)
    (frame_acts (work_seen c.args.frame.now c.args.statics.now c.args.heap.now) _ c.invoke_selected-in-Invokeinterface.result
    (frame_of c.args.frame.now) (c.invoke_selected-in-Invokeinterface.ensures (ops.Invokeinterface c.in-Invokeinterface.call.now)
    (interface_op _ c.in-Invokeinterface.call.now
    (c.requires.here ∙ ap (λ (f : FormSeen). Some (form_seen f)) c.in-Invokeinterface.is))))

pub returns-in-New-clause-effect : goal.returns-in-New-clause-effect
returns-in-New-clause-effect c = tries_as (program_of c.args.program.now) c.args.method.now
    (work_seen c.args.frame.now c.args.statics.now c.args.heap.now) _ _ c.new_object.result
    (work_seen c.new_object.new.frame c.args.statics.now c.new_object.new.heap) (ap form_seen c.in-New.is)
    (heap_tries (work_seen c.args.frame.now c.args.statics.now c.args.heap.now) _ c.new_object.result
    (frame_of c.new_object.new.frame) c.new_object.new.heap c.new_object.ensures.effect)

pub returns-in-Newarray-clause-effect : goal.returns-in-Newarray-clause-effect
returns-in-Newarray-clause-effect c = tries_as (program_of c.args.program.now) c.args.method.now
    (work_seen c.args.frame.now c.args.statics.now c.args.heap.now) _ _ c.newarray.result
    (work_seen c.newarray.new.frame c.args.statics.now c.newarray.new.heap) (ap form_seen c.in-Newarray.is)
    (heap_tries (work_seen c.args.frame.now c.args.statics.now c.args.heap.now) _ c.newarray.result (frame_of c.newarray.new.frame)
    c.newarray.new.heap c.newarray.ensures.effect)

pub returns-in-Anewarray-clause-effect : goal.returns-in-Anewarray-clause-effect
returns-in-Anewarray-clause-effect c = tries_as (program_of c.args.program.now) c.args.method.now
    (work_seen c.args.frame.now c.args.statics.now c.args.heap.now) _ _ c.anewarray.result
    (work_seen c.anewarray.new.frame c.args.statics.now c.anewarray.new.heap) (ap form_seen c.in-Anewarray.is)
    (heap_tries (work_seen c.args.frame.now c.args.statics.now c.args.heap.now) _ c.anewarray.result
    (frame_of c.anewarray.new.frame) c.anewarray.new.heap c.anewarray.ensures.effect)

pub returns-in-Arraylength-clause-effect : goal.returns-in-Arraylength-clause-effect
returns-in-Arraylength-clause-effect c = acts_as (program_of c.args.program.now) c.args.method.now
    (work_seen c.args.frame.now c.args.statics.now c.args.heap.now) _ _ c.arraylength.result
    (work_seen c.arraylength.new.frame c.args.statics.now c.args.heap.now) (ap form_seen c.in-Arraylength.is)
    (frame_acts (work_seen c.args.frame.now c.args.statics.now c.args.heap.now) _ c.arraylength.result
    (frame_of c.arraylength.new.frame) c.arraylength.ensures.effect)

pub returns-in-NumberLoad-clause-effect : goal.returns-in-NumberLoad-clause-effect
returns-in-NumberLoad-clause-effect c = acts_as (program_of c.args.program.now) c.args.method.now
    (work_seen c.args.frame.now c.args.statics.now c.args.heap.now) _ _ c.number_load.result
    (work_seen c.number_load.new.frame c.args.statics.now c.args.heap.now) (ap form_seen c.in-NumberLoad.is)
    (frame_acts (work_seen c.args.frame.now c.args.statics.now c.args.heap.now) _ c.number_load.result
    (frame_of c.number_load.new.frame) c.number_load.ensures.effect)

pub returns-in-Aaload-clause-effect : goal.returns-in-Aaload-clause-effect
returns-in-Aaload-clause-effect c = acts_as (program_of c.args.program.now) c.args.method.now
    (work_seen c.args.frame.now c.args.statics.now c.args.heap.now) _ _ c.aaload.result
    (work_seen c.aaload.new.frame c.args.statics.now c.args.heap.now) (ap form_seen c.in-Aaload.is)
    (frame_acts (work_seen c.args.frame.now c.args.statics.now c.args.heap.now) _ c.aaload.result (frame_of c.aaload.new.frame)
    c.aaload.ensures.effect)

pub returns-in-NumberStore-clause-effect : goal.returns-in-NumberStore-clause-effect
returns-in-NumberStore-clause-effect c = acts_as (program_of c.args.program.now) c.args.method.now
    (work_seen c.args.frame.now c.args.statics.now c.args.heap.now) _ _ c.number_store.result
    (work_seen c.number_store.new.frame c.args.statics.now c.number_store.new.heap) (ap form_seen c.in-NumberStore.is)
    (heap_acts (work_seen c.args.frame.now c.args.statics.now c.args.heap.now) _ c.number_store.result
    (frame_of c.number_store.new.frame) c.number_store.new.heap c.number_store.ensures.effect)

pub returns-in-Aastore-clause-effect : goal.returns-in-Aastore-clause-effect
returns-in-Aastore-clause-effect c = acts_as (program_of c.args.program.now) c.args.method.now
    (work_seen c.args.frame.now c.args.statics.now c.args.heap.now) _ _ c.aastore.result
    (work_seen c.aastore.new.frame c.args.statics.now c.aastore.new.heap) (ap form_seen c.in-Aastore.is)
    (heap_acts (work_seen c.args.frame.now c.args.statics.now c.args.heap.now) _ c.aastore.result (frame_of c.aastore.new.frame)
    c.aastore.new.heap c.aastore.ensures.effect)

pub returns-in-Athrow-clause-effect : goal.returns-in-Athrow-clause-effect
returns-in-Athrow-clause-effect c = acts_as (program_of c.args.program.now) c.args.method.now
    (work_seen c.args.frame.now c.args.statics.now c.args.heap.now) _ _ c.athrow.result
    (work_seen c.args.frame.now c.args.statics.now c.args.heap.now) (ap form_seen c.in-Athrow.is)
    (frame_acts (work_seen c.args.frame.now c.args.statics.now c.args.heap.now) _ c.athrow.result (frame_of c.args.frame.now)
    (c.athrow.ensures (types_of (classes_of c.args.program.now.world)) c.args.heap.now))

pub returns-in-Checkcast-clause-effect : goal.returns-in-Checkcast-clause-effect
returns-in-Checkcast-clause-effect c = acts_as (program_of c.args.program.now) c.args.method.now
    (work_seen c.args.frame.now c.args.statics.now c.args.heap.now) _ _ c.checkcast.result
    (work_seen c.args.frame.now c.args.statics.now c.args.heap.now) (ap form_seen c.in-Checkcast.is)
    (frame_acts (work_seen c.args.frame.now c.args.statics.now c.args.heap.now) _ c.checkcast.result (frame_of c.args.frame.now)
    c.checkcast.ensures)

pub returns-in-Instanceof-clause-effect : goal.returns-in-Instanceof-clause-effect
returns-in-Instanceof-clause-effect c = acts_as (program_of c.args.program.now) c.args.method.now
    (work_seen c.args.frame.now c.args.statics.now c.args.heap.now) _ _ c.instanceof.result
    (work_seen c.instanceof.new.frame c.args.statics.now c.args.heap.now) (ap form_seen c.in-Instanceof.is)
    (frame_acts (work_seen c.args.frame.now c.args.statics.now c.args.heap.now) _ c.instanceof.result
    (frame_of c.instanceof.new.frame) c.instanceof.ensures.effect)

-- ---- want of memory

pub returns-in-AconstNull-clause-memory : goal.returns-in-AconstNull-clause-memory
returns-in-AconstNull-clause-memory c = wants_as (program_of c.args.program.now) c.args.method.now
    (work_seen c.args.frame.now c.args.statics.now c.args.heap.now) c.args.frame.now.stack.1 _ _ c.push.result
    (ap form_seen c.in-AconstNull.is)
    (on_err_weaker c.push.result
    (constant_wants (work_seen c.args.frame.now c.args.statics.now c.args.heap.now) c.args.frame.now.stack.1 values.Null)
    c.push.ensures.memory)

pub returns-in-Iconst-clause-memory : goal.returns-in-Iconst-clause-memory
returns-in-Iconst-clause-memory c = wants_as (program_of c.args.program.now) c.args.method.now
    (work_seen c.args.frame.now c.args.statics.now c.args.heap.now) c.args.frame.now.stack.1 _ _ c.push_int.result
    (ap form_seen c.in-Iconst.is)
    (on_err_weaker c.push_int.result
    (constant_wants (work_seen c.args.frame.now c.args.statics.now c.args.heap.now) c.args.frame.now.stack.1
    (values.Int c.in-Iconst.n)) c.push_int.ensures.memory)

pub returns-in-Iload-clause-memory : goal.returns-in-Iload-clause-memory
returns-in-Iload-clause-memory c = wants_as (program_of c.args.program.now) c.args.method.now
    (work_seen c.args.frame.now c.args.statics.now c.args.heap.now) c.args.frame.now.stack.1 _ _ c.iload.result
    (ap form_seen c.in-Iload.is)
    (on_err_weaker c.iload.result
    (iload_wants (work_seen c.args.frame.now c.args.statics.now c.args.heap.now) c.args.frame.now.stack.1 c.in-Iload.n)
    c.iload.ensures.memory)

pub returns-in-Aload-clause-memory : goal.returns-in-Aload-clause-memory
returns-in-Aload-clause-memory c = wants_as (program_of c.args.program.now) c.args.method.now
    (work_seen c.args.frame.now c.args.statics.now c.args.heap.now) c.args.frame.now.stack.1 _ _ c.aload.result
    (ap form_seen c.in-Aload.is)
    (on_err_weaker c.aload.result
    (aload_wants (work_seen c.args.frame.now c.args.statics.now c.args.heap.now) c.args.frame.now.stack.1 c.in-Aload.n)
    c.aload.ensures.memory)

pub returns-in-Getstatic-clause-memory : goal.returns-in-Getstatic-clause-memory
returns-in-Getstatic-clause-memory c = wants_as (program_of c.args.program.now) c.args.method.now
    (work_seen c.args.frame.now c.args.statics.now c.args.heap.now) c.args.frame.now.stack.1 _ _ c.getstatic.result
    (ap form_seen c.in-Getstatic.is)
    (on_err_weaker c.getstatic.result (getstatic_wants (work_seen c.args.frame.now c.args.statics.now c.args.heap.now)
    c.args.frame.now.stack.1 c.in-Getstatic.place) c.getstatic.ensures.memory)

pub returns-in-Shuffle-clause-memory : goal.returns-in-Shuffle-clause-memory
returns-in-Shuffle-clause-memory c = wants_as (program_of c.args.program.now) c.args.method.now
    (work_seen c.args.frame.now c.args.statics.now c.args.heap.now) c.args.frame.now.stack.1 _ _ c.shuffle.result
    (ap form_seen c.in-Shuffle.is)
    (on_err_weaker c.shuffle.result
    (shuffle_wants (work_seen c.args.frame.now c.args.statics.now c.args.heap.now) c.args.frame.now.stack.1
    c.in-Shuffle.reordering) c.shuffle.ensures.full)

pub returns-in-New-clause-memory : goal.returns-in-New-clause-memory
returns-in-New-clause-memory c = wants_as (program_of c.args.program.now) c.args.method.now
    (work_seen c.args.frame.now c.args.statics.now c.args.heap.now) c.args.frame.now.stack.1 _ _ c.new_object.result
    (ap form_seen c.in-New.is)
    (any_err c.new_object.result (new_wants (work_seen c.args.frame.now c.args.statics.now c.args.heap.now) c.args.frame.now.stack.1
    (types_of (classes_of c.args.program.now.world)) c.in-New.t))

pub returns-in-Newarray-clause-memory : goal.returns-in-Newarray-clause-memory
returns-in-Newarray-clause-memory c = wants_as (program_of c.args.program.now) c.args.method.now
    (work_seen c.args.frame.now c.args.statics.now c.args.heap.now) c.args.frame.now.stack.1 _ _ c.newarray.result
    (ap form_seen c.in-Newarray.is)
    (any_err c.newarray.result
    (newarray_wants (work_seen c.args.frame.now c.args.statics.now c.args.heap.now) c.args.frame.now.stack.1 c.in-Newarray.kind))

pub returns-in-Anewarray-clause-memory : goal.returns-in-Anewarray-clause-memory
returns-in-Anewarray-clause-memory c = wants_as (program_of c.args.program.now) c.args.method.now
    (work_seen c.args.frame.now c.args.statics.now c.args.heap.now) c.args.frame.now.stack.1 _ _ c.anewarray.result
    (ap form_seen c.in-Anewarray.is)
    (any_err c.anewarray.result (anewarray_wants (work_seen c.args.frame.now c.args.statics.now c.args.heap.now)
    c.args.frame.now.stack.1 c.in-Anewarray.t))
