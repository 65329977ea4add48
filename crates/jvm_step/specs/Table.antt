-- The machine's table: the effect of each form of instruction, in a method of a program (JVM specification, section 6.5).
use Rattle.std.specs.Prelude.{true, false, List, Option, Some}
use Rattle.std.specs.Option.{option_map}
use Rattle.jvm_values.specs.declared.heap.Value.{Value}
use Rattle.jvm_values.specs.declared.heap.Value.TheVariants as values
use Rattle.jvm_values.specs.declared.heap.Heap.{Heap}
use Rattle.jvm_values.specs.States.{MachineFrame}
use Rattle.class_program.specs.declared.op.Op.TheVariants as ops
use Rattle.class_program.specs.declared.program.Method.{Method}
use Rattle.op_forms.specs.Forms.{Form}
use Rattle.op_forms.specs.Forms.Form.{Nop, AconstNull, Iconst, Iload, Aload, Istore, Astore, Iinc, Shuffle, Arith, Ineg, Narrow, If}
use Rattle.op_forms.specs.Forms.Form.{IfIcmp, IfAcmpeq, IfAcmpne, Ifnull, Ifnonnull, Goto, Tableswitch, Lookupswitch, Ireturn}
use Rattle.op_forms.specs.Forms.Form.{Areturn, Return, Getstatic, Putstatic, Getfield, Putfield, Invokevirtual, Invokespecial}
use Rattle.op_forms.specs.Forms.Form.{Invokestatic, Invokeinterface, New, Newarray, Anewarray, Arraylength, NumberLoad, Aaload}
use Rattle.op_forms.specs.Forms.Form.{NumberStore, Aastore, Athrow, Checkcast, Instanceof}
use Rattle.class_program.specs.Programs.{Program}
use Rattle.jvm_step.specs.Effects.{Effect, effect_on, types_of, constant_effect, iload_effect, aload_effect, istore_effect}
use Rattle.jvm_step.specs.Effects.{astore_effect, iinc_effect, shuffle_effect, arith_effect, ineg_effect, narrow_effect, if_effect}
use Rattle.jvm_step.specs.Effects.{if_icmp_effect, if_acmp_effect, if_null_effect, goto_effect, tableswitch_effect}
use Rattle.jvm_step.specs.Effects.{lookupswitch_effect, invokestatic_effect, invokespecial_effect, selecting_effect, ireturn_effect}
use Rattle.jvm_step.specs.Effects.{areturn_effect, return_effect, athrow_effect, getstatic_effect, putstatic_effect}
use Rattle.jvm_step.specs.Effects.{getfield_effect, putfield_effect, new_effect, newarray_effect, anewarray_effect}
use Rattle.jvm_step.specs.Effects.{arraylength_effect, number_load_effect, aaload_effect, number_store_effect, aastore_effect}
use Rattle.jvm_step.specs.Effects.{checkcast_effect, instanceof_effect}

-- what an instruction works on: the frame that runs it, the values of the static fields, and the heap
pub record Work : Type 0 where
  pub frame : MachineFrame
  pub statics : List Value
  pub heap : Heap

-- an effect on the running frame alone, as one on the frame, the static fields and the heap
abbrev pub on_frame : Work → Option (Effect MachineFrame) → Option (Effect Work)
on_frame work effect = option_map (effect_on (λ frame. record work { frame = frame })) effect

-- an effect on the running frame and the heap, as one on the frame, the static fields and the heap
abbrev pub on_heap : Work → Option (Effect (MachineFrame × Heap)) → Option (Effect Work)
on_heap work effect = option_map (effect_on (λ x. record work { frame = x.0; heap = x.1 })) effect

-- an effect on the running frame and the static fields, as one on the frame, the static fields and the heap
abbrev pub on_statics : Work → Option (Effect (MachineFrame × List Value)) → Option (Effect Work)
on_statics work effect = option_map (effect_on (λ x. record work { frame = x.0; statics = x.1 })) effect

-- the machine's table: what each form of instruction does, in a method of a program; none where the machine is stuck. Each
-- row names its section of the JVM specification.
abbrev pub effect_of : Program → Method → Form → Work → Option (Effect Work)
-- 6.5.nop
effect_of p m Nop work = Some (Effect.Next work)
-- 6.5.aconst_null
effect_of p m AconstNull work = on_frame work (constant_effect values.Null work.frame)
-- 6.5.iconst_<i>, 6.5.bipush, 6.5.sipush, 6.5.ldc
effect_of p m (Iconst n) work = on_frame work (constant_effect (values.Int n) work.frame)
-- 6.5.iload, 6.5.iload_<n>
effect_of p m (Iload n) work = on_frame work (iload_effect n work.frame)
-- 6.5.aload, 6.5.aload_<n>
effect_of p m (Aload n) work = on_frame work (aload_effect n work.frame)
-- 6.5.istore, 6.5.istore_<n>
effect_of p m (Istore n) work = on_frame work (istore_effect n work.frame)
-- 6.5.astore, 6.5.astore_<n>
effect_of p m (Astore n) work = on_frame work (astore_effect n work.frame)
-- 6.5.iinc
effect_of p m (Iinc n by) work = on_frame work (iinc_effect n by work.frame)
-- 6.5.pop, 6.5.pop2, 6.5.dup, 6.5.dup_x1, 6.5.dup_x2, 6.5.dup2, 6.5.dup2_x1, 6.5.dup2_x2, 6.5.swap
effect_of p m (Shuffle shuffle) work = on_frame work (shuffle_effect shuffle work.frame)
-- 6.5.iadd, 6.5.isub, 6.5.imul, 6.5.idiv, 6.5.irem, 6.5.ishl, 6.5.ishr, 6.5.iushr, 6.5.iand, 6.5.ior, 6.5.ixor
effect_of p m (Arith op) work = on_frame work (arith_effect op work.frame)
-- 6.5.ineg
effect_of p m Ineg work = on_frame work (ineg_effect work.frame)
-- 6.5.i2b, 6.5.i2c, 6.5.i2s
effect_of p m (Narrow kind) work = on_frame work (narrow_effect kind work.frame)
-- 6.5.if<cond>
effect_of p m (If cond place) work = on_frame work (if_effect cond place work.frame)
-- 6.5.if_icmp<cond>
effect_of p m (IfIcmp cond place) work = on_frame work (if_icmp_effect cond place work.frame)
-- 6.5.if_acmp<cond>
effect_of p m (IfAcmpeq place) work = on_frame work (if_acmp_effect true place work.frame)
-- 6.5.if_acmp<cond>
effect_of p m (IfAcmpne place) work = on_frame work (if_acmp_effect false place work.frame)
-- 6.5.ifnull
effect_of p m (Ifnull place) work = on_frame work (if_null_effect true place work.frame)
-- 6.5.ifnonnull
effect_of p m (Ifnonnull place) work = on_frame work (if_null_effect false place work.frame)
-- 6.5.goto, 6.5.goto_w
effect_of p m (Goto place) work = on_frame work (goto_effect place work.frame)
-- 6.5.tableswitch
effect_of p m (Tableswitch default low targets) work = on_frame work (tableswitch_effect default low targets work.frame)
-- 6.5.lookupswitch
effect_of p m (Lookupswitch default cases) work = on_frame work (lookupswitch_effect default cases work.frame)
-- 6.5.ireturn
effect_of p m Ireturn work = on_frame work (ireturn_effect m.result work.frame)
-- 6.5.areturn
effect_of p m Areturn work = on_frame work (areturn_effect (types_of p.world) m.result work.heap work.frame)
-- 6.5.return
effect_of p m Return work = on_frame work (return_effect m.result work.frame)
-- 6.5.getstatic
effect_of p m (Getstatic place) work = on_frame work (getstatic_effect place work.statics work.frame)
-- 6.5.putstatic
effect_of p m (Putstatic place) work = on_statics work
    (putstatic_effect (types_of p.world) p.statics place work.heap work.frame work.statics)
-- 6.5.getfield
effect_of p m (Getfield used) work = on_frame work (getfield_effect (types_of p.world) used work.heap work.frame)
-- 6.5.putfield
effect_of p m (Putfield used) work = on_heap work (putfield_effect (types_of p.world) used work.frame work.heap)
-- 6.5.invokevirtual
effect_of p m (Invokevirtual call) work = on_frame work (selecting_effect p (ops.Invokevirtual call) call work.heap work.frame)
-- 6.5.invokespecial
effect_of p m (Invokespecial call) work = on_frame work (invokespecial_effect p.world m.class call work.heap work.frame)
-- 6.5.invokestatic
effect_of p m (Invokestatic call) work = on_frame work (invokestatic_effect (types_of p.world) call work.heap work.frame)
-- 6.5.invokeinterface
effect_of p m (Invokeinterface call) work = on_frame work (selecting_effect p (ops.Invokeinterface call) call work.heap work.frame)
-- 6.5.new
effect_of p m (New t) work = on_heap work (new_effect (types_of p.world) t work.frame work.heap)
-- 6.5.newarray
effect_of p m (Newarray kind) work = on_heap work (newarray_effect kind work.frame work.heap)
-- 6.5.anewarray
effect_of p m (Anewarray t) work = on_heap work (anewarray_effect t work.frame work.heap)
-- 6.5.arraylength
effect_of p m Arraylength work = on_frame work (arraylength_effect work.heap work.frame)
-- 6.5.iaload, 6.5.baload, 6.5.caload, 6.5.saload
effect_of p m (NumberLoad for) work = on_frame work (number_load_effect for work.heap work.frame)
-- 6.5.aaload
effect_of p m Aaload work = on_frame work (aaload_effect work.heap work.frame)
-- 6.5.iastore, 6.5.bastore, 6.5.castore, 6.5.sastore
effect_of p m (NumberStore for) work = on_heap work (number_store_effect for work.frame work.heap)
-- 6.5.aastore
effect_of p m Aastore work = on_heap work (aastore_effect (types_of p.world) work.frame work.heap)
-- 6.5.athrow
effect_of p m Athrow work = on_frame work (athrow_effect (types_of p.world) work.heap work.frame)
-- 6.5.checkcast
effect_of p m (Checkcast t) work = on_frame work (checkcast_effect (types_of p.world) t work.heap work.frame)
-- 6.5.instanceof
effect_of p m (Instanceof t) work = on_frame work (instanceof_effect (types_of p.world) t work.heap work.frame)
