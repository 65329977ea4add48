-- The effect of each form, where it stands in a typed state.
use Rattle.std.proofs.Common.{◌≡◌, ℕ, ℤ, Bool, true, false, eqb, List, [], ◌∷◌, ◌++◌, map, Option, Some, None, IsTrue, refl, sym}
use Rattle.std.proofs.Common.{ap, ◌∙◌, subst}
use Rattle.std.specs.List.{list_any}
use Rattle.jvm_values.specs.declared.heap.Value.TheVariants as values
use Rattle.jvm_values.specs.declared.typing.PlaceType.TheVariants as places
use Rattle.jvm_values.specs.States.{PlaceTypes}
use Rattle.jvm_values.proofs.Options.{some_is}
use Rattle.jvm_step.specs.op_forms.Forms.{Form}
use Rattle.jvm_step.specs.op_forms.Forms.Form.{Nop, AconstNull, Iconst, Iload, Aload, Istore, Astore, Iinc, Shuffle, Arith, Ineg, Narrow, If}
use Rattle.jvm_step.specs.op_forms.Forms.Form.{IfIcmp, IfAcmpeq, IfAcmpne, Ifnull, Ifnonnull, Goto, Tableswitch, Lookupswitch, Ireturn}
use Rattle.jvm_step.specs.op_forms.Forms.Form.{Areturn, Return, Getstatic, Putstatic, Getfield, Putfield, Invokevirtual, Invokespecial}
use Rattle.jvm_step.specs.op_forms.Forms.Form.{Invokestatic, Invokeinterface, New, Newarray, Anewarray, Arraylength, NumberLoad, Aaload}
use Rattle.jvm_step.specs.op_forms.Forms.Form.{NumberStore, Aastore, Athrow, Checkcast, Instanceof}
use Rattle.jvm_step.specs.op_forms.Widths.{IsFormInWidth}
use Rattle.code_verify.specs.Rows.{types_after}
use Rattle.code_verify.specs.Flows.{falls, jumps}
use Rattle.jvm_step.specs.Effects.{Effect}
use Rattle.jvm_step.specs.Table.{effect_of}
use Rattle.jvm_run.proofs.Forms.{Here, Stands, Well, WorkGood, left, well_frame, well_heap, well_statics}
use Rattle.jvm_run.proofs.Named.{IsNamed}
use Rattle.jvm_run.proofs.IntForms.{constant_well, arith_well, ineg_well, narrow_well, if_int_well, if_icmp_well, goto_well}
use Rattle.jvm_run.proofs.IntForms.{first_among, target_among, case_among, tableswitch_well, lookupswitch_well}
use Rattle.jvm_run.proofs.LocalForms.{iload_well, aload_well, istore_well, astore_well, iinc_well}
use Rattle.jvm_run.proofs.StackForms.{shuffle_well, if_null_well, if_acmp_well}
use Rattle.jvm_run.proofs.FieldForms.{getstatic_well, putstatic_well, getfield_well, putfield_well}
use Rattle.jvm_run.proofs.ArrayForms.{newarray_well, anewarray_well, arraylength_well, number_load_well, aaload_well}
use Rattle.jvm_run.proofs.ArrayForms.{number_store_well, aastore_well}
use Rattle.jvm_run.proofs.ObjectForms.{new_well, checkcast_well, instanceof_well, athrow_well, ireturn_well, areturn_well, return_well}
use Rattle.jvm_run.proofs.CallForms.{invokestatic_well, invokespecial_well, invokevirtual_well, invokeinterface_well}

-- the form leads to the next instruction
falling : (here : Here) (form : Form) → here.form ≡ form → falls form ≡ true → IsTrue (falls here.form)
falling here form p f = ap falls p ∙ f

-- it may jump to a place
leading : (here : Here) (form : Form) (place : ℕ) → here.form ≡ form → list_any (eqb place) (jumps form) ≡ true
    → IsTrue (list_any (eqb place) (jumps here.form))
leading here form place p j = subst (λ (f : Form). list_any (eqb place) (jumps f) ≡ true) (sym p) j

-- There is an effect, and what it makes has the types after the form.
pub effect_well : (here : Here) → Stands here → (form : Form) → here.form ≡ form
    → IsNamed here.program here.method.class here.op form → IsFormInWidth form → (after : PlaceTypes)
    → types_after here.program here.method form here.before ≡ Some after
    → Well here (WorkGood here after) (effect_of here.program here.method form here.work)
effect_well here s Nop p n i after e = well_frame here s after (Some (Effect.Next here.work.frame))
    ((falling here Nop p refl), left here s after here.before.stack here.work.frame.stack (sym (some_is e)) s.stack)
effect_well here s AconstNull p n i after e = well_frame here s after _
    (constant_well here s (falling here AconstNull p refl) places.Null values.Null after tt e)
effect_well here s (Iconst c) p n i after e = well_frame here s after _
    (constant_well here s (falling here (Iconst c) p refl) places.Int (values.Int c) after i e)
effect_well here s (Iload k) p n i after e = well_frame here s after _ (iload_well here s (falling here (Iload k) p refl) k after e)
effect_well here s (Aload k) p n i after e = well_frame here s after _ (aload_well here s (falling here (Aload k) p refl) k after e)
effect_well here s (Istore k) p n i after e = well_frame here s after _ (istore_well here s (falling here (Istore k) p refl) k after e)
effect_well here s (Astore k) p n i after e = well_frame here s after _ (astore_well here s (falling here (Astore k) p refl) k after e)
effect_well here s (Iinc k by) p n i after e = well_frame here s after _ (iinc_well here s (falling here (Iinc k by) p refl) k by after e)
effect_well here s (Shuffle shuffle) p n i after e = well_frame here s after _
    (shuffle_well here s (falling here (Shuffle shuffle) p refl) shuffle after e)
effect_well here s (Arith op) p n i after e = well_frame here s after _ (arith_well here s (falling here (Arith op) p refl) op after e)
effect_well here s Ineg p n i after e = well_frame here s after _ (ineg_well here s (falling here Ineg p refl) after e)
effect_well here s (Narrow kind) p n i after e = well_frame here s after _
    (narrow_well here s (falling here (Narrow kind) p refl) kind after e)
effect_well here s (If test place) p n i after e = well_frame here s after _
    (if_int_well here s (falling here (If test place) p refl) test place after
    (leading here (If test place) place p (first_among place [])) e)
effect_well here s (IfIcmp test place) p n i after e = well_frame here s after _
    (if_icmp_well here s (falling here (IfIcmp test place) p refl) test place after
    (leading here (IfIcmp test place) place p (first_among place [])) e)
effect_well here s (IfAcmpeq place) p n i after e = well_frame here s after _
    (if_acmp_well here s (falling here (IfAcmpeq place) p refl) true place after
    (leading here (IfAcmpeq place) place p (first_among place [])) e)
effect_well here s (IfAcmpne place) p n i after e = well_frame here s after _
    (if_acmp_well here s (falling here (IfAcmpne place) p refl) false place after
    (leading here (IfAcmpne place) place p (first_among place [])) e)
effect_well here s (Ifnull place) p n i after e = well_frame here s after _
    (if_null_well here s (falling here (Ifnull place) p refl) true place after
    (leading here (Ifnull place) place p (first_among place [])) e)
effect_well here s (Ifnonnull place) p n i after e = well_frame here s after _
    (if_null_well here s (falling here (Ifnonnull place) p refl) false place after
    (leading here (Ifnonnull place) place p (first_among place [])) e)
effect_well here s (Goto place) p n i after e = well_frame here s after _
    (goto_well here s place after (leading here (Goto place) place p (first_among place [])) e)
effect_well here s (Tableswitch default low targets) p n i after e = well_frame here s after _
    (tableswitch_well here s default low targets after
    (λ key. leading here (Tableswitch default low targets) _ p (target_among default targets [] key)) e)
effect_well here s (Lookupswitch default cases) p n i after e = well_frame here s after _
    (lookupswitch_well here s default cases after (λ key. leading here (Lookupswitch default cases) _ p (case_among default cases key)) e)
effect_well here s Ireturn p n i after e = well_frame here s after _ (ireturn_well here s after e)
effect_well here s Areturn p n i after e = well_frame here s after _ (areturn_well here s after e)
effect_well here s Return p n i after e = well_frame here s after _ (return_well here s after e)
effect_well here s (Getstatic place) p n i after e = well_frame here s after _
    (getstatic_well here s (falling here (Getstatic place) p refl) place after e)
effect_well here s (Putstatic place) p n i after e = well_statics here s after _
    (putstatic_well here s (falling here (Putstatic place) p refl) place after e)
effect_well here s (Getfield used) p n i after e = well_frame here s after _
    (getfield_well here s (falling here (Getfield used) p refl) used n after e)
effect_well here s (Putfield used) p n i after e = well_heap here s after _
    (putfield_well here s (falling here (Putfield used) p refl) used n after e)
effect_well here s (Invokevirtual call) p n i after e = well_frame here s after _ (invokevirtual_well here s call n.0 n.1 after e)
effect_well here s (Invokespecial call) p n i after e = well_frame here s after _ (invokespecial_well here s call n.0 n.1 after e)
effect_well here s (Invokestatic call) p n i after e = well_frame here s after _ (invokestatic_well here s call n.0 n.1 after e)
effect_well here s (Invokeinterface call) p n i after e = well_frame here s after _ (invokeinterface_well here s call n.0 n.1 after e)
effect_well here s (New t) p n i after e = well_heap here s after _ (new_well here s (falling here (New t) p refl) t n after e)
effect_well here s (Newarray kind) p n i after e = well_heap here s after _
    (newarray_well here s (falling here (Newarray kind) p refl) kind after e)
effect_well here s (Anewarray t) p n i after e = well_heap here s after _
    (anewarray_well here s (falling here (Anewarray t) p refl) t n.0 n.1 after e)
effect_well here s Arraylength p n i after e = well_frame here s after _
    (arraylength_well here s (falling here Arraylength p refl) after e)
effect_well here s (NumberLoad for) p n i after e = well_frame here s after _
    (number_load_well here s (falling here (NumberLoad for) p refl) for after e)
effect_well here s Aaload p n i after e = well_frame here s after _ (aaload_well here s (falling here Aaload p refl) after e)
effect_well here s (NumberStore for) p n i after e = well_heap here s after _
    (number_store_well here s (falling here (NumberStore for) p refl) for after e)
effect_well here s Aastore p n i after e = well_heap here s after _ (aastore_well here s (falling here Aastore p refl) after e)
effect_well here s Athrow p n i after e = well_frame here s after _ (athrow_well here s after e)
effect_well here s (Checkcast t) p n i after e = well_frame here s after _
    (checkcast_well here s (falling here (Checkcast t) p refl) t n after e)
effect_well here s (Instanceof t) p n i after e = well_frame here s after _
    (instanceof_well here s (falling here (Instanceof t) p refl) t after e)
