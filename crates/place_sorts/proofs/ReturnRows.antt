-- Returns and throws: a caller goes on with what it waits for, and an object is thrown with an empty stack.
use Rattle.std.proofs.Common.{◌≡◌, ◌∙◌, ℕ, true, false, List, [], ◌∷◌, ◌++◌, drop, take, Option}
use Rattle.std.proofs.Common.{Some, None, refl, sym, ap, subst}
use Rattle.std.specs.Option.{option_map, option_map_or, option_and_then, option_to_list}
use Rattle.std.proofs.lemmas.Bool.{false≢true}
use Rattle.std.proofs.lemmas.Option.{none-some}
use Rattle.jvm_values.specs.declared.types.Slot.{Slot}
use Rattle.jvm_values.specs.declared.types.Slot.TheVariants as slots
use Rattle.jvm_values.specs.declared.typing.PlaceType.{PlaceType}
use Rattle.jvm_values.specs.States.{PlaceTypes}
use Rattle.jvm_values.specs.Subtyping.{class_type}
use Rattle.jvm_values.specs.TypedHeaps.{WorldTypes}
use Rattle.jvm_values.proofs.Options.{some_is}
use Rattle.jvm_run.proofs.Placed.{Placed, placed, next_taken, at_has}
use Rattle.jvm_run.proofs.Returning.{call_after}
use Rattle.jvm_run.proofs.Stepping.{insn_there, stands_at}
use Rattle.abs_cells.specs.declared.cells.Cell.{Cell}
use Rattle.abs_cells.specs.declared.cells.Cell.TheVariants as cells
use Rattle.abs_cells.specs.AbstractStates.{AbstractFrame, AbstractState}
use Rattle.abs_cells.specs.Cells.{cell_at, HasCell}
use Rattle.abs_cells.specs.Sound.{is_object}
use Rattle.abs_reach.specs.Instances.{is_no_int}
use Rattle.abs_ints.proofs.OperatorCases.{if_either}
use Rattle.class_world.specs.BuiltIns.{throwable}
use Rattle.class_program.specs.declared.op.Op.{Op}
use Rattle.class_program.specs.declared.program.Method.{Method}
use Rattle.class_program.specs.Good.{IsGoodMethod, IsGoodOp}
use Rattle.class_program.specs.Programs.{op_at, insn_at}
use Rattle.class_program.specs.Selected.{CanRun}
use Rattle.class_program.proofs.Got.{all_at}
use Rattle.op_forms.specs.Forms.{Form}
use Rattle.op_forms.specs.Forms.Form.{Ireturn, Areturn, Return, Athrow}
use Rattle.frame_types.specs.Tables.{CodeTypes, Takes}
use Rattle.code_verify.specs.declared.want.Want.TheVariants as wants
use Rattle.code_verify.specs.Operands.{place_of}
use Rattle.code_verify.specs.Rows.{with_result, ireturn_types, areturn_types, return_types}
use Rattle.code_verify.specs.TypedStates.{argument_count}
use Rattle.abs_turns.specs.Needs.{may_be_null}
use Rattle.abs_turns.specs.Plans.{Plan, by_null}
use Rattle.abs_turns.specs.Table.{types_here, is_null_cell, unless_null, step_if, one_step, returned_to, value_plan}
use Rattle.abs_turns.specs.Table.{athrow_plan, row_of}
use Rattle.abs_turns.specs.Turns.{Here, moves, emptied}
use Rattle.abs_expand.specs.BadStates.{HasStackOf, call_takes, call_at, statics_under, HasCallersStack, IsCallerPlaced}
use Rattle.abs_expand.specs.BadStates.{AreCallersPlaced}
use Rattle.place_sorts.proofs.Waiting.{calls_take}
use Rattle.place_sorts.specs.Growing.{IsWaiting, AreWaiting}
use Rattle.place_sorts.proofs.Keeping.{KeepsSorts, locals_kept, fields_kept, stack_kept, callers_kept}
use Rattle.place_sorts.proofs.Landing.{running_lands, IsPassed, pop}
use Rattle.place_sorts.proofs.Spots.{Spot, StandsAt, Grows, GrowsPlan, thrown_lands, some_frame, acts}
use Rattle.place_sorts.proofs.ObjectRows.{unless_null_grows}

-- what a method gives back
abbrev IsResult : WorldTypes → AbstractState → Option Slot → Option ℕ → Type 0
IsResult types state (Some slot) (Some x) = IsPassed types state slot x
IsResult types state None None = Unit {0}
IsResult types state _ _ = ⊥

result_stack : (types : WorldTypes) (state : AbstractState) (result : Option Slot) (value : Option ℕ) (below : List PlaceType)
    (stack : List ℕ) → IsResult types state result value → HasStackOf state below stack
    → HasStackOf state (with_result (option_map (place_of types) result) below) (option_to_list value ++ stack)
result_stack types state (Some slot) (Some x) below stack r h = (r, h)
result_stack types state (Some slot) None below stack r h = absurd r
result_stack types state None (Some x) below stack r h = absurd r
result_stack types state None None below stack r h = h

result_kept : (types : WorldTypes) (state after : AbstractState) → KeepsSorts state after
    → (result : Option Slot) (value : Option ℕ) → IsResult types state result value → IsResult types after result value
result_kept types state after keeps (Some slot) (Some x) r = (stack_kept state after keeps (place_of types slot ∷ []) (x ∷ []) (r, tt)).0
result_kept types state after keeps (Some slot) None r = absurd r
result_kept types state after keeps None (Some x) r = absurd r
result_kept types state after keeps None None r = tt

object_in : (found : Option Cell) (state : AbstractState) (x : ℕ) → cell_at state x ≡ found → HasCell is_no_int state x
    → may_be_null found ≡ false → is_null_cell found ≡ false → HasCell is_object state x
object_in None state x e has m z = absurd (none-some has.cell (sym e ∙ has.is))
object_in (Some (cells.Int interval)) state x e has m z = absurd (false≢true (ap is_no_int (some_is (sym e ∙ has.is)) ∙ has.sort_is))
object_in (Some cells.Null) state x e has m z = absurd (false≢true (sym z))
object_in (Some (cells.Obj class ids)) state x e has m z = record { cell = cells.Obj class ids; is = e; sort_is = refl }
object_in (Some (cells.Nums kind len)) state x e has m z = record { cell = cells.Nums kind len; is = e; sort_is = refl }
object_in (Some (cells.Refs element len shape)) state x e has m z = record { cell = cells.Refs element len shape; is = e; sort_is = refl }
object_in (Some (cells.Unk bound true shape)) state x e has m z = absurd (false≢true (sym m))
object_in (Some (cells.Unk bound false shape)) state x e has m z = record { cell = cells.Unk bound false shape; is = e; sort_is = refl }

module _ (typing : ℕ → CodeTypes) (here : Here) (spot : Spot typing here) (op : Op) where
  abbrev Types : WorldTypes
  Types = types_here here

  abbrev Stands : Form → Type 0
  Stands form = StandsAt typing here spot op form

  abbrev Plans : Plan → Type 0
  Plans = GrowsPlan typing here spot

  -- ---- returns

  -- a caller with the place behind its call
  record GoesOn (caller : AbstractFrame) (below : List AbstractFrame) (value : Option ℕ) : Type 0 where
    to : ℕ
    next_is : option_and_then (λ found. found.1) (insn_at here.program.methods caller.method caller.pc) ≡ Some to
    grows : Grows typing here spot
        (moves (record { method = caller.method; pc = to; locals = caller.locals; stack = option_to_list value ++ caller.stack } ∷ below))

  goes_on_of : (caller : AbstractFrame) (below : List AbstractFrame) (value : Option ℕ)
      → IsResult Types here.state spot.placed.method.result value
      → IsCallerPlaced here.program typing here.state (statics_under here.program below) caller
      → AreCallersPlaced here.program typing here.state below → IsWaiting here.program here.frame.method caller
      → AreWaiting here.program caller.method below → GoesOn caller below value
  goes_on_of caller below value r c callers w waiting =
      let p = here.program in
      let own : Method = c.placed.method in
      let at : Placed p own (typing caller.method) caller.pc c.there = placed p own (typing caller.method) caller.pc c.there
      ((spot.typings caller.method own c.placed.is_method).each caller.pc c.there c.placed.is_there) in
      let stands : op_at p.methods caller.method caller.pc ≡ Some at.op = stands_at p caller.method caller.pc own at.op at.next
      c.placed.is_method at.insn_is in
      let same : w.op ≡ at.op = some_is (sym w.stands ∙ stands) in
      let runs : CanRun p at.op here.frame.method = subst (λ (o : Op). CanRun p o here.frame.method) same w.runs in
      let method : IsGoodMethod p own = all_at (IsGoodMethod p) p.methods caller.method own spot.good.methods c.placed.is_method in
      let good : IsGoodOp p own at.op = at_has (IsGoodOp p own) own.insns caller.pc (at.op, at.next) method.insns at.insn_is in
      let after = call_after p own.class own at.op here.frame.method at.form c.there at.after good.named runs at.form_is at.types_are in
      let goes = next_taken p own (typing caller.method) caller.pc c.there at after.falls_on in
      let result_is : spot.placed.method.result ≡ after.result = ap (λ (m : Method). m.result)
      (some_is (sym spot.placed.is_method ∙ after.is_method)) ∙ after.result_is in
      let given : IsResult Types here.state after.result value = subst (λ (o : Option Slot). IsResult Types here.state o value)
      result_is r in
      let count_is : call_at p caller ≡ Some (argument_count at.op) = ap (λ (o : Option Op). option_map_or call_takes o None) stands
      ∙ calls_take p at.op here.frame.method runs in
      let below_places : List PlaceType = drop (argument_count at.op) c.there.stack in
      let stack : HasStackOf here.state below_places caller.stack = subst
      (λ (o : Option ℕ). HasCallersStack here.state o c.there.stack caller.stack) count_is c.stack in
      let types_then : PlaceTypes = record {
        locals = c.there.locals;
        stack = with_result (option_map (place_of Types) after.result)
            below_places;
      } in
      let taken : Takes Types (typing caller.method) (record { to = goes.to; frame = types_then }) =
      subst (λ (a : PlaceTypes). Takes Types (typing caller.method) (record { to = goes.to; frame = a })) after.after_is goes.taken in
      record {
        to = goes.to;
        next_is = ap (option_and_then (λ (found : Op × Option ℕ). found.1))
            (insn_there p caller.method caller.pc own at.op at.next c.placed.is_method at.insn_is) ∙ goes.next_is;
        grows = record {
          changed = tt;
          act = tt;
          placed = λ after_ x keeps made t. (
            running_lands p typing after_ (statics_under p below) own caller.method goes.to types_then caller.locals
                (option_to_list value ++ caller.stack) c.placed.is_method taken c.placed.count
                (locals_kept here.state after_ keeps c.there.locals (take own.max_locals caller.locals) c.placed.locals)
                (fields_kept here.state after_ keeps (statics_under p below) (drop own.max_locals caller.locals) c.placed.fields)
                (result_stack Types after_ after.result value below_places caller.stack
                (result_kept Types here.state after_ keeps after.result value given)
                (stack_kept here.state after_ keeps below_places caller.stack stack)) t,
            callers_kept here.state after_ keeps p typing below callers,
          );
          waiting = waiting;
          framed = λ e. cc;
          thrown = λ x e. absurd (none-some x e);
        };
      }

  returned_grows : (value : Option ℕ) → IsResult Types here.state spot.placed.method.result value
      → Plans (returned_to here value here.below)
  returned_grows value r = by here.below spot.callers spot.waiting
    where
      by : (below : List AbstractFrame) → AreCallersPlaced here.program typing here.state below
          → AreWaiting here.program here.frame.method below → Plans (returned_to here value below)
      by [] c w = tt
      by (caller ∷ below) c w =
          let go = goes_on_of caller below value r c.0 c.1 w.0 w.1 in
          subst (λ (found : Option ℕ). Plans
          (step_if (option_map (λ place. moves
          (record caller { pc = place; stack = option_to_list value ++ caller.stack } ∷ below)) found)))
          (sym go.next_is) (go.grows, tt)

  pub ireturn_grows : Stands Ireturn → Plans (row_of here Ireturn)
  ireturn_grows s = by spot.placed.method.result refl s.types_are here.frame.stack spot.stack
    where
      by : (result : Option Slot) → spot.placed.method.result ≡ result → ireturn_types Types result spot.there ≡ Some s.after
          → (stack : List ℕ) → HasStackOf here.state spot.there.stack stack → Plans (value_plan here stack)
      by result q e [] h = tt
      by None q e (x ∷ rest) h = absurd (none-some s.after e)
      by (Some (slots.Ref t)) q e (x ∷ rest) h = absurd (none-some s.after e)
      by (Some (slots.Num kind)) q e (x ∷ rest) h =
          let a = acts typing here spot op Ireturn s (wants.Int ∷ []) None e in
          let one = pop Types here.state wants.Int [] a.below spot.there.stack x rest a.taken_is h in
          returned_grows (Some x) (subst (λ (o : Option Slot). IsResult Types here.state o (Some x)) (sym q) one.sort)

  pub areturn_grows : Stands Areturn → Plans (row_of here Areturn)
  areturn_grows s = by spot.placed.method.result refl s.types_are here.frame.stack spot.stack
    where
      by : (result : Option Slot) → spot.placed.method.result ≡ result → areturn_types Types result spot.there ≡ Some s.after
          → (stack : List ℕ) → HasStackOf here.state spot.there.stack stack → Plans (value_plan here stack)
      by result q e [] h = tt
      by None q e (x ∷ rest) h = absurd (none-some s.after e)
      by (Some (slots.Num kind)) q e (x ∷ rest) h = absurd (none-some s.after e)
      by (Some (slots.Ref t)) q e (x ∷ rest) h =
          let a = acts typing here spot op Areturn s (wants.Below t ∷ []) None e in
          let one = pop Types here.state (wants.Below t) [] a.below spot.there.stack x rest a.taken_is h in
          returned_grows (Some x) (subst (λ (o : Option Slot). IsResult Types here.state o (Some x)) (sym q) one.sort)

  pub return_grows : Stands Return → Plans (row_of here Return)
  return_grows s = by spot.placed.method.result refl s.types_are
    where
      by : (result : Option Slot) → spot.placed.method.result ≡ result → return_types result spot.there ≡ Some s.after
          → Plans (returned_to here None here.below)
      by (Some slot) q e = absurd (none-some s.after e)
      by None q e = returned_grows None (subst (λ (o : Option Slot). IsResult Types here.state o None) (sym q) tt)

  -- ---- throws

  pub athrow_grows : Stands Athrow → Plans (row_of here Athrow)
  athrow_grows s = by here.frame.stack spot.stack
    where
      thrown : (x : ℕ) → HasCell is_object here.state x → Grows typing here spot (record (moves (emptied here)) { throwing = Some x })
      thrown x has = record {
        changed = tt;
        act = tt;
        placed = λ after y keeps made t. thrown_lands typing here spot after x keeps t;
        waiting = spot.waiting;
        framed = some_frame typing here spot here.frame.pc here.frame.locals [];
        thrown = λ y e. record { object = subst (HasCell is_object here.state) (some_is e) has; changed = refl; act = refl };
      }

      by : (stack : List ℕ) → HasStackOf here.state spot.there.stack stack → Plans (athrow_plan here stack)
      by [] h = tt
      by (x ∷ rest) h =
          let a = acts typing here spot op Athrow s (wants.Below (class_type throwable) ∷ []) None s.types_are in
          let one = pop Types here.state (wants.Below (class_type throwable)) [] a.below spot.there.stack x rest a.taken_is h in
          if_either Plans (may_be_null (cell_at here.state x)) (by_null x)
          (unless_null here x (one_step (record (moves (emptied here)) { throwing = Some x }))) (λ _. tt) (λ m.
          unless_null_grows typing here spot op x _
          (λ z. (thrown x (object_in (cell_at here.state x) here.state x refl one.sort m z), tt)))
