-- The table: at each form that is built the machine's step is as the plan says.
use Rattle.std.proofs.Common.{◌≡◌, ◌∙◌, ℕ, true, false, Option, Some, refl, sym, ap, subst}
use Rattle.std.specs.Option.{option_map_or}
use Rattle.jvm_values.specs.declared.ints.IntOp.{IntOp}
use Rattle.jvm_values.specs.declared.ints.IntOp.TheVariants as operators
use Rattle.jvm_values.specs.States.{MachineState}
use Rattle.abs_cells.specs.AbstractStates.{AbstractState}
use Rattle.abs_cells.specs.Fits.{Meaning}
use Rattle.jvm_step.specs.class_program.declared.op.Op.{Op}
use Rattle.jvm_step.specs.class_program.declared.op.Op.TheVariants as ops
use Rattle.jvm_step.specs.class_program.Programs.{Program}
use Rattle.jvm_step.specs.op_forms.Forms.{Form, form_of}
use Rattle.jvm_step.specs.op_forms.Forms.Form.{Nop, AconstNull, Iconst, Iload, Aload, Istore, Astore, Iinc, Shuffle, Arith, Ineg, Narrow, If}
use Rattle.jvm_step.specs.op_forms.Forms.Form.{IfIcmp, IfAcmpeq, IfAcmpne, Ifnull, Ifnonnull, Goto, Tableswitch, Lookupswitch, Ireturn}
use Rattle.jvm_step.specs.op_forms.Forms.Form.{Areturn, Return, Getstatic, Putstatic, Getfield, Putfield, Invokevirtual, Invokespecial}
use Rattle.jvm_step.specs.op_forms.Forms.Form.{Invokestatic, Invokeinterface, New, Newarray, Anewarray, Arraylength, NumberLoad, Aaload}
use Rattle.jvm_step.specs.op_forms.Forms.Form.{NumberStore, Aastore, Athrow, Checkcast, Instanceof}
use Rattle.jvm_step.specs.op_forms.Widths.{IsFormInWidth}
use Rattle.jvm_step.proofs.op_forms.Widths.{increment_int}
use Rattle.jvm_step.proofs.op_forms.Plain.{is_of_two, is_plain, plain_forms}
use Rattle.frame_types.specs.Tables.{CodeTypes}
use Rattle.object_steps.specs.code_verify.Rows.{types_after}
use Rattle.jvm_step.specs.Table.{effect_of}
use Rattle.object_steps.specs.abs_expand.Table.{row_of}
use Rattle.object_steps.proofs.jvm_run.Named.{IsNamed}
use Rattle.step_laws.proofs.Arrays.{numbers_made, references_made, number_read}
use Rattle.object_steps.proofs.Calls.{static_called, special_called, selecting_called}
use Rattle.object_steps.proofs.Casts.{cast_checked, type_tested}
use Rattle.object_steps.proofs.IntSteps.{is_operator}
use Rattle.object_steps.proofs.Moves.{nothing_done, pushed_null, constant, load_int, load_reference, store_int, store_reference}
use Rattle.object_steps.proofs.Moves.{increment, shuffle, arithmetic, negation, narrowing, comparing_zero, comparing, jumping}
use Rattle.object_steps.proofs.Moves.{table_switching, lookup_switching}
use Rattle.object_steps.proofs.Objects.{field_read, length_taken, thrown, made}
use Rattle.object_steps.proofs.Returns.{int_returned, reference_returned, nothing_returned}
use Rattle.step_laws.proofs.Fields.{field_put}
use Rattle.step_laws.proofs.Writes.{item_read, number_stored, item_written}
use Rattle.object_steps.proofs.References.{null_test, equal_test}
use Rattle.object_steps.proofs.Statics.{static_read, static_put}
use Rattle.object_steps.proofs.form_steps.Standing.{Stands, here, Work_}
use Rattle.object_steps.proofs.form_steps.TurnKinds.{Meets}

-- an operator that an instruction has is no narrowing
op_of_two : (op : Op) (operator : IntOp) → form_of op ≡ Some (Arith operator) → is_operator operator ≡ true
op_of_two (ops.Plain insn) operator e = two operator (sym (ap (λ (f : Option Form). option_map_or is_plain f true) e) ∙ plain_forms insn)
  where
    two : (o : IntOp) → is_of_two o ≡ true → is_operator o ≡ true
    two operators.Add t = refl
    two operators.Sub t = refl
    two operators.Mul t = refl
    two operators.Div t = refl
    two operators.Rem t = refl
    two operators.Shl t = refl
    two operators.Shr t = refl
    two operators.Ushr t = refl
    two operators.And t = refl
    two operators.Or t = refl
    two operators.Xor t = refl
    two (operators.Narrow kind) t = t
op_of_two (ops.Constant x) operator e = absurd cc
op_of_two (ops.Getstatic x) operator e = absurd cc
op_of_two (ops.Putstatic x) operator e = absurd cc
op_of_two (ops.Getfield x) operator e = absurd cc
op_of_two (ops.Putfield x) operator e = absurd cc
op_of_two (ops.Invokevirtual x) operator e = absurd cc
op_of_two (ops.Invokespecial x) operator e = absurd cc
op_of_two (ops.Invokestatic x) operator e = absurd cc
op_of_two (ops.Invokeinterface x) operator e = absurd cc
op_of_two (ops.New x) operator e = absurd cc
op_of_two (ops.Anewarray x) operator e = absurd cc
op_of_two (ops.Checkcast x) operator e = absurd cc
op_of_two (ops.Instanceof x) operator e = absurd cc

module _ (p : Program) (typing : ℕ → CodeTypes) (state : AbstractState) (machine : MachineState) (meaning : Meaning)
    (s : Stands p typing state machine meaning) (widths : IsFormInWidth s.form) where
  is_effect : (f : Form) → s.form ≡ f → effect_of p s.method s.form (Work_ p typing state machine meaning s) ≡ effect_of p s.method
      f (Work_ p typing state machine meaning s)
  is_effect f e = ap (λ (g : Form). effect_of p s.method g (Work_ p typing state machine meaning s)) e

  types_of_form : (f : Form) → s.form ≡ f → types_after p s.method f s.there ≡ Some s.after
  types_of_form f e = sym (ap (λ (g : Form). types_after p s.method g s.there) e) ∙ s.types_are

  named_as : (f : Form) → s.form ≡ f → IsNamed p s.method.class s.op f
  named_as f e = subst (IsNamed p s.method.class s.op) e s.named

  pub covered : (f : Form) → s.form ≡ f → Meets p state machine meaning (row_of (here p typing state machine meaning s) f)
  covered Nop e = nothing_done p typing state machine meaning s (is_effect Nop e)
  covered AconstNull e = pushed_null p typing state machine meaning s (is_effect AconstNull e)
  covered (Iconst n) e = constant p typing state machine meaning s n (is_effect (Iconst n) e)
  covered (Iload n) e = load_int p typing state machine meaning s n (types_of_form (Iload n) e) (is_effect (Iload n) e)
  covered (Aload n) e = load_reference p typing state machine meaning s n (types_of_form (Aload n) e) (is_effect (Aload n) e)
  covered (Istore n) e = store_int p typing state machine meaning s n (is_effect (Istore n) e)
  covered (Astore n) e = store_reference p typing state machine meaning s n (is_effect (Astore n) e)
  covered (Iinc n by) e = increment p typing state machine meaning s n by (increment_int by (subst IsFormInWidth e widths))
      (types_of_form (Iinc n by) e) (is_effect (Iinc n by) e)
  covered (Shuffle shuffle_) e = shuffle p typing state machine meaning s shuffle_ (is_effect (Shuffle shuffle_) e)
  covered (Arith o) e = arithmetic p typing state machine meaning s o (op_of_two s.op o (s.runs.is_form ∙ ap Some e))
      (is_effect (Arith o) e)
  covered Ineg e = negation p typing state machine meaning s (is_effect Ineg e)
  covered (Narrow kind) e = narrowing p typing state machine meaning s kind (is_effect (Narrow kind) e)
  covered (If condition place) e = comparing_zero p typing state machine meaning s condition place (is_effect (If condition place) e)
  covered (IfIcmp condition place) e = comparing p typing state machine meaning s condition place (is_effect (IfIcmp condition place) e)
  covered (IfAcmpeq place) e = equal_test p typing state machine meaning s true place (is_effect (IfAcmpeq place) e)
  covered (IfAcmpne place) e = equal_test p typing state machine meaning s false place (is_effect (IfAcmpne place) e)
  covered (Ifnull place) e = null_test p typing state machine meaning s true place (is_effect (Ifnull place) e)
  covered (Ifnonnull place) e = null_test p typing state machine meaning s false place (is_effect (Ifnonnull place) e)
  covered (Goto place) e = jumping p typing state machine meaning s place (is_effect (Goto place) e)
  covered (Tableswitch default low targets) e = table_switching p typing state machine meaning s default low targets
      (is_effect (Tableswitch default low targets) e)
  covered (Lookupswitch default cases) e = lookup_switching p typing state machine meaning s default cases
      (is_effect (Lookupswitch default cases) e)
  covered Ireturn e = int_returned p typing state machine meaning s (is_effect Ireturn e)
  covered Areturn e = reference_returned p typing state machine meaning s (is_effect Areturn e)
  covered Return e = nothing_returned p typing state machine meaning s (is_effect Return e)
  covered (Getstatic place) e = static_read p typing state machine meaning s place (is_effect (Getstatic place) e)
  covered (Putstatic place) e = static_put p typing state machine meaning s place (is_effect (Putstatic place) e)
  covered (Getfield used) e = field_read p typing state machine meaning s used (is_effect (Getfield used) e)
  covered (Putfield used) e = field_put p typing state machine meaning s used (named_as (Putfield used) e) (is_effect (Putfield used) e)
  covered (Invokevirtual call) e = selecting_called p typing state machine meaning s (ops.Invokevirtual call) call
      (is_effect (Invokevirtual call) e)
  covered (Invokespecial call) e = special_called p typing state machine meaning s call (is_effect (Invokespecial call) e)
  covered (Invokestatic call) e = static_called p typing state machine meaning s call (is_effect (Invokestatic call) e)
  covered (Invokeinterface call) e = selecting_called p typing state machine meaning s (ops.Invokeinterface call) call
      (is_effect (Invokeinterface call) e)
  covered (New t) e = made p typing state machine meaning s t (named_as (New t) e) (is_effect (New t) e)
  covered (Newarray kind) e = numbers_made p typing state machine meaning s kind (is_effect (Newarray kind) e)
  covered (Anewarray t) e = references_made p typing state machine meaning s t (named_as (Anewarray t) e) (is_effect (Anewarray t) e)
  covered Arraylength e = length_taken p typing state machine meaning s (is_effect Arraylength e)
  covered (NumberLoad for) e = number_read p typing state machine meaning s for (is_effect (NumberLoad for) e)
  covered Aaload e = item_read p typing state machine meaning s (is_effect Aaload e)
  covered (NumberStore for) e = number_stored p typing state machine meaning s for (is_effect (NumberStore for) e)
  covered Aastore e = item_written p typing state machine meaning s (is_effect Aastore e)
  covered Athrow e = thrown p typing state machine meaning s (is_effect Athrow e)
  covered (Checkcast t) e = cast_checked p typing state machine meaning s t (named_as (Checkcast t) e) (is_effect (Checkcast t) e)
  covered (Instanceof t) e = type_tested p typing state machine meaning s t (named_as (Instanceof t) e) (is_effect (Instanceof t) e)
