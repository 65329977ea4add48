-- The plan of a form, whatever it is: its references are tested, and then its row comes.
use Rattle.std.specs.Prelude.{◌≡◌, ℕ, List, [], ◌∷◌, refl}
use Rattle.std.specs.List.{AllByRecursion}
use Rattle.jvm_values.specs.declared.typing.PlaceType.{PlaceType}
use Rattle.jvm_values.specs.TypedHeaps.{WorldTypes}
use Rattle.class_program.specs.declared.op.Op.{Op}
use Rattle.op_forms.specs.Forms.{Form}
use Rattle.op_forms.specs.Forms.Form.{Nop, AconstNull, Iconst, Iload, Aload, Istore, Astore, Iinc, Shuffle, Arith, Ineg, Narrow, If}
use Rattle.op_forms.specs.Forms.Form.{IfIcmp, IfAcmpeq, IfAcmpne, Ifnull, Ifnonnull, Goto, Tableswitch, Lookupswitch, Ireturn}
use Rattle.op_forms.specs.Forms.Form.{Areturn, Return, Getstatic, Putstatic, Getfield, Putfield, Invokevirtual, Invokespecial}
use Rattle.op_forms.specs.Forms.Form.{Invokestatic, Invokeinterface, New, Newarray, Anewarray, Arraylength, NumberLoad, Aaload}
use Rattle.op_forms.specs.Forms.Form.{NumberStore, Aastore, Athrow, Checkcast, Instanceof}
use Rattle.frame_types.specs.Tables.{CodeTypes}
use Rattle.abs_turns.specs.Needs.{Passing, passes, fails, splits, passing_id, after_test, tested, operands_of}
use Rattle.abs_turns.specs.Plans.{Plan}
use Rattle.abs_turns.specs.Table.{types_here, row_of, taken_by, plan_of_form}
use Rattle.abs_turns.specs.Turns.{Here}
use Rattle.place_sorts.specs.Laws.{ResultsStayInts, BranchesStayInts}
use Rattle.place_sorts.proofs.Spots.{Spot, StandsAt, GrowsPlan}
use Rattle.place_sorts.proofs.MoveRows as moves
use Rattle.place_sorts.proofs.ObjectRows as objects
use Rattle.place_sorts.proofs.CallRows as calls
use Rattle.place_sorts.proofs.ReturnRows as returns

module _ (results : ResultsStayInts) (branches : BranchesStayInts) (typing : ℕ → CodeTypes) (here : Here) (spot : Spot typing here)
    (op : Op) where
  abbrev Types : WorldTypes
  Types = types_here here

  abbrev Stands : Form → Type 0
  Stands form = StandsAt typing here spot op form

  abbrev Plans : Plan → Type 0
  Plans = GrowsPlan typing here spot

  row_grows : (form : Form) → Stands form → Plans (row_of here form)
  row_grows Nop s = moves.nop_grows typing here spot op s
  row_grows AconstNull s = moves.null_grows typing here spot op s
  row_grows (Iconst n) s = moves.constant_grows typing here spot op n s
  row_grows (Iload n) s = moves.iload_grows typing here spot op n s
  row_grows (Aload n) s = moves.aload_grows typing here spot op n s
  row_grows (Istore n) s = moves.istore_grows typing here spot op n s
  row_grows (Astore n) s = moves.astore_grows typing here spot op n s
  row_grows (Iinc n by) s = moves.iinc_grows typing here spot op results n by s
  row_grows (Shuffle shuffle) s = moves.shuffle_grows typing here spot op shuffle s
  row_grows (Arith operator) s = moves.arith_grows typing here spot op results operator s
  row_grows Ineg s = moves.negation_grows typing here spot op results s
  row_grows (Narrow kind) s = moves.narrow_grows typing here spot op results kind s
  row_grows (If cond place) s = moves.zero_grows typing here spot op branches cond place s
  row_grows (IfIcmp cond place) s = moves.two_grow typing here spot op branches cond place s
  row_grows (IfAcmpeq place) s = moves.acmpeq_grows typing here spot op place s
  row_grows (IfAcmpne place) s = moves.acmpne_grows typing here spot op place s
  row_grows (Ifnull place) s = moves.ifnull_grows typing here spot op place s
  row_grows (Ifnonnull place) s = moves.ifnonnull_grows typing here spot op place s
  row_grows (Goto place) s = moves.goto_grows typing here spot op place s
  row_grows (Tableswitch default low targets) s = moves.table_grows typing here spot op default low targets s
  row_grows (Lookupswitch default cases) s = moves.lookup_grows typing here spot op default cases s
  row_grows Ireturn s = returns.ireturn_grows typing here spot op s
  row_grows Areturn s = returns.areturn_grows typing here spot op s
  row_grows Return s = returns.return_grows typing here spot op s
  row_grows (Getstatic place) s = moves.getstatic_grows typing here spot op place s
  row_grows (Putstatic place) s = moves.putstatic_grows typing here spot op results place s
  row_grows (Getfield used) s = objects.getfield_grows typing here spot op used s
  row_grows (Putfield used) s = objects.putfield_grows typing here spot op results used s
  row_grows (Invokevirtual call) s = calls.virtual_grows typing here spot op call s
  row_grows (Invokespecial call) s = calls.special_grows typing here spot op call s
  row_grows (Invokestatic call) s = calls.static_grows typing here spot op call s
  row_grows (Invokeinterface call) s = calls.interface_grows typing here spot op call s
  row_grows (New t) s = objects.new_grows typing here spot op t s
  row_grows (Newarray kind) s = objects.newarray_grows typing here spot op kind s
  row_grows (Anewarray t) s = objects.anewarray_grows typing here spot op t s
  row_grows Arraylength s = objects.length_grows typing here spot op s
  row_grows (NumberLoad for) s = objects.number_load_grows typing here spot op branches for s
  row_grows Aaload s = objects.aaload_grows typing here spot op branches s
  row_grows (NumberStore for) s = objects.number_store_grows typing here spot op branches for s
  row_grows Aastore s = objects.aastore_grows typing here spot op branches s
  row_grows Athrow s = returns.athrow_grows typing here spot op s
  row_grows (Checkcast t) s = objects.checkcast_grows typing here spot op t s
  row_grows (Instanceof t) s = objects.instanceof_grows typing here spot op t s

  abbrev AllPass : List (PlaceType × ℕ) → Type 0
  AllPass operands = AllByRecursion (λ (operand : PlaceType × ℕ). passing_id Types here.state operand.0 operand.1 ≡ passes) operands

  after_grows : (passing : Passing) (x : ℕ) (plan : Plan) → (passing ≡ passes → Plans plan) → Plans (after_test passing x plan)
  after_grows passes x plan h = h refl
  after_grows fails x plan h = tt
  after_grows splits x plan h = tt

  tested_grows : (operands : List (PlaceType × ℕ)) (plan : Plan) → (AllPass operands → Plans plan)
      → Plans (tested Types here.state operands plan)
  tested_grows [] plan h = h tt
  tested_grows (operand ∷ operands) plan h =
      after_grows (passing_id Types here.state operand.0 operand.1) operand.1 (tested Types here.state operands plan)
      (λ e. tested_grows operands plan (λ a. h (e, a)))

  pub form_grows : (form : Form) → (AllPass (operands_of (taken_by form) here.places here.frame.stack) → Stands form)
      → Plans (plan_of_form here form)
  form_grows form s = tested_grows (operands_of (taken_by form) here.places here.frame.stack) (row_of here form)
      (λ a. row_grows form (s a))
