use Rattle.std.proofs.Common.{◌≡◌, ◌∙◌, ℕ, pos, true, false, List, Some, refl, ap}
use Rattle.std.specs.Option.{option_map}
use Rattle.jvm_values.specs.declared.types.Slot.TheVariants as slots
use Rattle.abs_cells.specs.declared.cells.Cell.TheVariants as cells
use Rattle.abs_turns.specs.op_forms.declared.form.Form.{Form as FormSeen}
use Rattle.abs_turns.specs.op_forms.Forms.{form_seen, shuffled}
use Rattle.abs_turns.specs.Plans.{steps, on_stack}
use Rattle.abs_turns.specs.Turns.{known, id, with_stack, goes_on, pushes, turns_of, branches}
use Rattle.abs_turns.specs.Switches.{table_keys, lookup_keys}
use Rattle.abs_turns.specs.Table.{one_step, step_if, number_cell, store_plan, negation_plan, narrow_plan, switch_plan, null_plan}
use Rattle.abs_turns.specs.Table.{equal_plan, getfield_plan, putfield_plan, putstatic_plan, array_plan, length_plan}
use Rattle.abs_turns.specs.Table.{number_load_plan, number_store_plan, aaload_plan, aastore_plan, checkcast_plan, instanceof_plan}
use Rattle.abs_turns.specs.Table.{value_plan, athrow_plan, unary, binary}
use Rattle.abs_plans.proofs.Calling.{virtual_row, interface_row}
use Rattle.abs_plans.proofs.MadePlans.{row_made}
use Rattle.abs_plans.proofs.planning.row.Goals as goal

pub returns-in-Nop : goal.returns-in-Nop
returns-in-Nop g c = row_made c.args.spot.now c.args.form.now _ _ c.goes_to.result c.in-Nop.is
    (ap (λ (k : ℕ). one_step (goes_on c.args.spot.now k c.args.stack.0)) c.next.ensures
    ∙ ap (λ (s : List ℕ). one_step (goes_on c.args.spot.now c.args.spot.now.next s)) c.requires.stack) c.goes_to.ensures

pub returns-in-AconstNull : goal.returns-in-AconstNull
returns-in-AconstNull g c = row_made c.args.spot.now c.args.form.now _ _ c.push_null.result c.in-AconstNull.is
    (ap (λ (s : List ℕ). one_step (pushes c.args.spot.now cells.Null s)) c.requires.stack) c.push_null.ensures

pub returns-in-Iconst : goal.returns-in-Iconst
returns-in-Iconst g c = row_made c.args.spot.now c.args.form.now _ _ c.constant.result c.in-Iconst.is
    (ap (λ (s : List ℕ). one_step (pushes c.args.spot.now (number_cell c.in-Iconst.n) s)) c.requires.stack) c.constant.ensures

pub returns-in-Iload : goal.returns-in-Iload
returns-in-Iload g c = row_made c.args.spot.now c.args.form.now _ _ c.load.result c.in-Iload.is refl c.load.ensures

pub returns-in-Aload : goal.returns-in-Aload
returns-in-Aload g c = row_made c.args.spot.now c.args.form.now _ _ c.load-in-Aload.result c.in-Aload.is refl c.load-in-Aload.ensures

pub returns-in-Istore : goal.returns-in-Istore
returns-in-Istore g c = row_made c.args.spot.now c.args.form.now _ _ c.store.result c.in-Istore.is
    (ap (λ (s : List ℕ). store_plan c.args.spot.now c.in-Istore.n s) c.requires.stack) c.store.ensures

pub returns-in-Astore : goal.returns-in-Astore
returns-in-Astore g c = row_made c.args.spot.now c.args.form.now _ _ c.store-in-Astore.result c.in-Astore.is
    (ap (λ (s : List ℕ). store_plan c.args.spot.now c.in-Astore.n s) c.requires.stack) c.store-in-Astore.ensures

pub returns-in-Iinc : goal.returns-in-Iinc
returns-in-Iinc g c = row_made c.args.spot.now c.args.form.now _ _ c.increment.result c.in-Iinc.is refl c.increment.ensures

pub returns-in-Shuffle : goal.returns-in-Shuffle
returns-in-Shuffle g c = row_made c.args.spot.now c.args.form.now _ _ c.reorder.result c.in-Shuffle.is
    (ap (λ (s : List ℕ). step_if (option_map (goes_on c.args.spot.now c.args.spot.now.next) (shuffled c.in-Shuffle.reordering s)))
    c.requires.stack) c.reorder.ensures

pub returns-in-Arith : goal.returns-in-Arith
returns-in-Arith g c = row_made c.args.spot.now c.args.form.now _ _ c.arithmetic.result c.in-Arith.is
    (ap (λ (s : List ℕ). binary s
    (λ a b rest. steps (turns_of c.args.spot.now c.in-Arith.op (id a) (id b)
    (with_stack c.args.spot.now c.args.spot.now.next rest) on_stack))) c.requires.stack) c.arithmetic.ensures

pub returns-in-Ineg : goal.returns-in-Ineg
returns-in-Ineg g c = row_made c.args.spot.now c.args.form.now _ _ c.negation.result c.in-Ineg.is
    (ap (λ (s : List ℕ). negation_plan c.args.spot.now s) c.requires.stack) c.negation.ensures

pub returns-in-Narrow : goal.returns-in-Narrow
returns-in-Narrow g c = row_made c.args.spot.now c.args.form.now _ _ c.narrowing.result c.in-Narrow.is
    (ap (λ (s : List ℕ). narrow_plan c.args.spot.now c.in-Narrow.kind s) c.requires.stack) c.narrowing.ensures

pub returns-in-If : goal.returns-in-If
returns-in-If g c = row_made c.args.spot.now c.args.form.now _ _ c.compare_zero.result c.in-If.is
    (ap (λ (s : List ℕ). unary s
    (λ a rest. steps (branches c.args.spot.now c.in-If.cond (id a) (known (pos 0)) c.in-If.place rest false))) c.requires.stack)
    c.compare_zero.ensures

pub returns-in-IfIcmp : goal.returns-in-IfIcmp
returns-in-IfIcmp g c = row_made c.args.spot.now c.args.form.now _ _ c.compare_two.result c.in-IfIcmp.is
    (ap (λ (s : List ℕ). binary s
    (λ a b rest. steps (branches c.args.spot.now c.in-IfIcmp.cond (id a) (id b) c.in-IfIcmp.place rest true))) c.requires.stack)
    c.compare_two.ensures

pub returns-in-IfAcmpeq : goal.returns-in-IfAcmpeq
returns-in-IfAcmpeq g c = row_made c.args.spot.now c.args.form.now _ _ c.compare_references.result c.in-IfAcmpeq.is
    (ap (λ (s : List ℕ). equal_plan c.args.spot.now true c.in-IfAcmpeq.place s) c.requires.stack) c.compare_references.ensures

pub returns-in-IfAcmpne : goal.returns-in-IfAcmpne
returns-in-IfAcmpne g c = row_made c.args.spot.now c.args.form.now _ _ c.compare_references-in-IfAcmpne.result c.in-IfAcmpne.is
    (ap (λ (s : List ℕ). equal_plan c.args.spot.now false c.in-IfAcmpne.place s) c.requires.stack) c.compare_references-in-IfAcmpne.ensures

pub returns-in-Ifnull : goal.returns-in-Ifnull
returns-in-Ifnull g c = row_made c.args.spot.now c.args.form.now _ _ c.compare_null.result c.in-Ifnull.is
    (ap (λ (s : List ℕ). null_plan c.args.spot.now true c.in-Ifnull.place s) c.requires.stack) c.compare_null.ensures

pub returns-in-Ifnonnull : goal.returns-in-Ifnonnull
returns-in-Ifnonnull g c = row_made c.args.spot.now c.args.form.now _ _ c.compare_null-in-Ifnonnull.result c.in-Ifnonnull.is
    (ap (λ (s : List ℕ). null_plan c.args.spot.now false c.in-Ifnonnull.place s) c.requires.stack) c.compare_null-in-Ifnonnull.ensures

pub returns-in-Goto : goal.returns-in-Goto
returns-in-Goto g c = row_made c.args.spot.now c.args.form.now _ _ c.goes_to-in-Goto.result c.in-Goto.is
    (ap (λ (s : List ℕ). one_step (goes_on c.args.spot.now c.in-Goto.place s)) c.requires.stack) c.goes_to-in-Goto.ensures

pub returns-in-Tableswitch : goal.returns-in-Tableswitch
returns-in-Tableswitch g c = row_made c.args.spot.now c.args.form.now _ _ c.table_switch.result c.in-Tableswitch.is
    (ap (λ (s : List ℕ). switch_plan c.args.spot.now c.in-Tableswitch.default
    (table_keys c.in-Tableswitch.low c.in-Tableswitch.targets.now) s) c.requires.stack) c.table_switch.ensures

pub returns-in-Lookupswitch : goal.returns-in-Lookupswitch
returns-in-Lookupswitch g c = row_made c.args.spot.now c.args.form.now _ _ c.lookup_switch.result c.in-Lookupswitch.is
    (ap (λ (s : List ℕ). switch_plan c.args.spot.now c.in-Lookupswitch.default (lookup_keys c.in-Lookupswitch.cases.now) s)
    c.requires.stack) c.lookup_switch.ensures

pub returns-in-Ireturn : goal.returns-in-Ireturn
returns-in-Ireturn g c = row_made c.args.spot.now c.args.form.now _ _ c.return_value.result c.in-Ireturn.is
    (ap (λ (s : List ℕ). value_plan c.args.spot.now s) c.requires.stack) c.return_value.ensures

pub returns-in-Areturn : goal.returns-in-Areturn
returns-in-Areturn g c = row_made c.args.spot.now c.args.form.now _ _ c.return_value-in-Areturn.result c.in-Areturn.is
    (ap (λ (s : List ℕ). value_plan c.args.spot.now s) c.requires.stack) c.return_value-in-Areturn.ensures

pub returns-in-Return : goal.returns-in-Return
returns-in-Return g c = row_made c.args.spot.now c.args.form.now _ _ c.return_nothing.result c.in-Return.is refl c.return_nothing.ensures

pub returns-in-Getstatic : goal.returns-in-Getstatic
returns-in-Getstatic g c = row_made c.args.spot.now c.args.form.now _ _ c.read_static.result c.in-Getstatic.is refl c.read_static.ensures

pub returns-in-Putstatic : goal.returns-in-Putstatic
returns-in-Putstatic g c = row_made c.args.spot.now c.args.form.now _ _ c.write_static.result c.in-Putstatic.is
    (ap (λ (s : List ℕ). putstatic_plan c.args.spot.now c.in-Putstatic.place s) c.requires.stack) c.write_static.ensures

pub returns-in-Getfield : goal.returns-in-Getfield
returns-in-Getfield g c = row_made c.args.spot.now c.args.form.now _ _ c.read_field.result c.in-Getfield.is
    (ap (λ (s : List ℕ). getfield_plan c.args.spot.now c.in-Getfield.used s) c.requires.stack) c.read_field.ensures

pub returns-in-Putfield : goal.returns-in-Putfield
returns-in-Putfield g c = row_made c.args.spot.now c.args.form.now _ _ c.write_field.result c.in-Putfield.is
    (ap (λ (s : List ℕ). putfield_plan c.args.spot.now c.in-Putfield.used s) c.requires.stack) c.write_field.ensures

pub returns-in-Invokevirtual : goal.returns-in-Invokevirtual
returns-in-Invokevirtual g c = row_made c.args.spot.now c.args.form.now _ _ c.call_selecting.result c.in-Invokevirtual.is
    (virtual_row c.args.spot.now c.args.op.now c.in-Invokevirtual.call.now
    (c.requires.form ∙ ap (λ (f : FormSeen). Some (form_seen f)) c.in-Invokevirtual.is)) c.call_selecting.ensures

pub returns-in-Invokespecial : goal.returns-in-Invokespecial
returns-in-Invokespecial g c = row_made c.args.spot.now c.args.form.now _ _ c.call_special.result c.in-Invokespecial.is refl
    c.call_special.ensures

pub returns-in-Invokestatic : goal.returns-in-Invokestatic
returns-in-Invokestatic g c = row_made c.args.spot.now c.args.form.now _ _ c.call_static.result c.in-Invokestatic.is refl
    c.call_static.ensures

pub returns-in-Invokeinterface : goal.returns-in-Invokeinterface
returns-in-Invokeinterface g c = row_made c.args.spot.now c.args.form.now _ _ c.call_selecting-in-Invokeinterface.result
    c.in-Invokeinterface.is
    (interface_row c.args.spot.now c.args.op.now c.in-Invokeinterface.call.now
    (c.requires.form ∙ ap (λ (f : FormSeen). Some (form_seen f)) c.in-Invokeinterface.is)) c.call_selecting-in-Invokeinterface.ensures

pub returns-in-New : goal.returns-in-New
returns-in-New g c = row_made c.args.spot.now c.args.form.now _ _ c.new_object.result c.in-New.is refl c.new_object.ensures

pub returns-in-Newarray : goal.returns-in-Newarray
returns-in-Newarray g c = row_made c.args.spot.now c.args.form.now _ _ c.new_array.result c.in-Newarray.is
    (ap (λ (s : List ℕ). array_plan c.args.spot.now (slots.Num c.in-Newarray.kind) s) c.requires.stack) c.new_array.ensures

pub returns-in-Anewarray : goal.returns-in-Anewarray
returns-in-Anewarray g c = row_made c.args.spot.now c.args.form.now _ _ c.new_array-in-Anewarray.result c.in-Anewarray.is
    (ap (λ (s : List ℕ). array_plan c.args.spot.now (slots.Ref c.in-Anewarray.t) s) c.requires.stack) c.new_array-in-Anewarray.ensures

pub returns-in-Arraylength : goal.returns-in-Arraylength
returns-in-Arraylength g c = row_made c.args.spot.now c.args.form.now _ _ c.array_length.result c.in-Arraylength.is
    (ap (λ (s : List ℕ). length_plan c.args.spot.now s) c.requires.stack) c.array_length.ensures

pub returns-in-NumberLoad : goal.returns-in-NumberLoad
returns-in-NumberLoad g c = row_made c.args.spot.now c.args.form.now _ _ c.load_number.result c.in-NumberLoad.is
    (ap (λ (s : List ℕ). number_load_plan c.args.spot.now s) c.requires.stack) c.load_number.ensures

pub returns-in-Aaload : goal.returns-in-Aaload
returns-in-Aaload g c = row_made c.args.spot.now c.args.form.now _ _ c.load_item.result c.in-Aaload.is
    (ap (λ (s : List ℕ). aaload_plan c.args.spot.now s) c.requires.stack) c.load_item.ensures

pub returns-in-NumberStore : goal.returns-in-NumberStore
returns-in-NumberStore g c = row_made c.args.spot.now c.args.form.now _ _ c.store_number.result c.in-NumberStore.is
    (ap (λ (s : List ℕ). number_store_plan c.args.spot.now s) c.requires.stack) c.store_number.ensures

pub returns-in-Aastore : goal.returns-in-Aastore
returns-in-Aastore g c = row_made c.args.spot.now c.args.form.now _ _ c.store_item.result c.in-Aastore.is
    (ap (λ (s : List ℕ). aastore_plan c.args.spot.now s) c.requires.stack) c.store_item.ensures

pub returns-in-Athrow : goal.returns-in-Athrow
returns-in-Athrow g c = row_made c.args.spot.now c.args.form.now _ _ c.throw_object.result c.in-Athrow.is
    (ap (λ (s : List ℕ). athrow_plan c.args.spot.now s) c.requires.stack) c.throw_object.ensures

pub returns-in-Checkcast : goal.returns-in-Checkcast
returns-in-Checkcast g c = row_made c.args.spot.now c.args.form.now _ _ c.check_cast.result c.in-Checkcast.is
    (ap (λ (s : List ℕ). checkcast_plan c.args.spot.now c.in-Checkcast.t s) c.requires.stack) c.check_cast.ensures

pub returns-in-Instanceof : goal.returns-in-Instanceof
returns-in-Instanceof g c = row_made c.args.spot.now c.args.form.now _ _ c.test_type.result c.in-Instanceof.is
    (ap (λ (s : List ℕ). instanceof_plan c.args.spot.now c.in-Instanceof.t s) c.requires.stack) c.test_type.ensures
