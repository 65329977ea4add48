-- Each step of each plan that makes no id sends none, and its rows name none.
use Rattle.std.proofs.Common.{◌≡◌, ◌==◌, ℕ, ℤ, pos, Bool, true, false, not, ◌&&◌, ◌||◌, if◌then◌else◌, List, [], ◌∷◌, length}
use Rattle.std.proofs.Common.{Option, Some, None, refl}
use Rattle.std.specs.Prelude.{slice_get, slice_set, filter}
use Rattle.std.specs.List.{AllByRecursion, find}
use Rattle.std.specs.Option.{option_map, option_map_or, option_and_then}
use Rattle.list_views.proofs.Quantified.{all_joined}
use Rattle.abs_cells.specs.lin_core.Intervals.{Bounds}
use Rattle.jvm_values.specs.declared.ints.IntOp.{IntOp}
use Rattle.jvm_values.specs.declared.ints.IntOp.TheVariants.{Add, Sub}
use Rattle.jvm_values.specs.declared.ints.Cond.{Cond}
use Rattle.jvm_values.specs.declared.types.Kind.{Kind}
use Rattle.jvm_values.specs.declared.types.Base.{Base}
use Rattle.jvm_values.specs.declared.types.Base.TheVariants as bases
use Rattle.jvm_values.specs.declared.types.Slot.{Slot}
use Rattle.jvm_values.specs.declared.types.Slot.TheVariants as slots
use Rattle.jvm_values.specs.declared.types.Ty.{Ty}
use Rattle.jvm_values.specs.declared.typing.PlaceType.{PlaceType}
use Rattle.jvm_values.specs.declared.typing.PlaceType.TheVariants as places
use Rattle.jvm_values.specs.States.{PlaceTypes}
use Rattle.jvm_values.specs.Subtyping.{class_type}
use Rattle.jvm_values.specs.TypedHeaps.{WorldTypes}
use Rattle.abs_cells.specs.declared.cells.Cell.{Cell}
use Rattle.abs_cells.specs.declared.cells.Cell.TheVariants as cells
use Rattle.abs_cells.specs.AbstractStates.{AbstractFrame, AbstractState}
use Rattle.abs_cells.specs.Cells.{cell_at}
use Rattle.abs_cells.specs.PairLists.{has}
use Rattle.abs_ints.specs.IntIntervals.{meet_of}
use Rattle.abs_ints.proofs.OperatorCases.{if_either}
use Rattle.class_program.specs.class_world.BuiltIns.{throwable, null_pointer_exception, negative_array_size_exception, array_store_exception}
use Rattle.class_program.specs.declared.op.Op.{Op}
use Rattle.class_program.specs.declared.op.Op.TheVariants as ops
use Rattle.class_program.specs.declared.op.Call.{Call}
use Rattle.class_program.specs.declared.op.FieldUse.{FieldUse}
use Rattle.class_program.specs.declared.program.CatchRange.{CatchRange}
use Rattle.class_program.specs.declared.program.Method.{Method}
use Rattle.class_program.specs.declared.program.StaticField.{StaticField}
use Rattle.class_program.specs.declared.selected.Selected.{Selected}
use Rattle.class_program.specs.declared.selected.Selected.TheVariants as answers
use Rattle.class_program.specs.Programs.{Program, insn_at}
use Rattle.class_program.specs.class_world.WorldTypes.{types_of}
use Rattle.abs_plans.specs.FrameTypesTables.{CodeTypes}
use Rattle.abs_plans.specs.code_verify.Flows.{covers}
use Rattle.abs_plans.specs.jvm_step.Effects.{answer_of}
use Rattle.abs_plans.specs.OpFormsForms.{Form, form_of, shuffled}
use Rattle.abs_plans.specs.OpFormsForms.Form.{Nop, AconstNull, Iconst, Iload, Aload, Istore, Astore, Iinc, Shuffle, Arith, Ineg, Narrow, If}
use Rattle.abs_plans.specs.OpFormsForms.Form.{IfIcmp, IfAcmpeq, IfAcmpne, Ifnull, Ifnonnull, Goto, Tableswitch, Lookupswitch, Ireturn}
use Rattle.abs_plans.specs.OpFormsForms.Form.{Areturn, Return, Getstatic, Putstatic, Getfield, Putfield, Invokevirtual, Invokespecial}
use Rattle.abs_plans.specs.OpFormsForms.Form.{Invokestatic, Invokeinterface, New, Newarray, Anewarray, Arraylength, NumberLoad, Aaload}
use Rattle.abs_plans.specs.OpFormsForms.Form.{NumberStore, Aastore, Athrow, Checkcast, Instanceof}
use Rattle.term_graph.specs.declared.links.LinkRow.{LinkRow}
use Rattle.abs_plans.specs.abs_turns.Needs.{Passing, passes, fails, splits, after_test, passing_id, tested, operands_of, may_be_null}
use Rattle.abs_plans.specs.abs_turns.Needs.{need_null, is_unknown, known_partner, split_unknown, split_below, need_class, need_object}
use Rattle.abs_plans.specs.abs_turns.Plans.{Turn, Plan, nowhere, on_stack, in_local, in_bottom, in_field, steps, by_null, by_equal, no_child}
use Rattle.abs_plans.specs.abs_turns.Plans.{no_rows}
use Rattle.abs_plans.specs.abs_turns.Switches.{table_keys, lookup_keys, parts_of}
use Rattle.abs_plans.specs.abs_turns.Throwing.{takes, handled, is_open, caught_plan, if_passes, throwing_plan}
use Rattle.abs_plans.specs.abs_turns.Turns.{Here, known, id, frames_at, with_stack, emptied, moves, goes_on, pushes, throws, throws_after}
use Rattle.abs_plans.specs.abs_turns.Turns.{interval_of_id, turns_of, branches}
use Rattle.abs_plans.specs.abs_turns.Table.{types_here, place_under, cell_here, is_null_here, unless_null, accessed, local_here, step_if}
use Rattle.abs_plans.specs.abs_turns.Table.{one_step, load_plan, store_plan, increment_plan, negation_plan, narrow_plan, switch_plan, jump_if}
use Rattle.abs_plans.specs.abs_turns.Table.{null_plan, equal_plan, field_id, getfield_plan, on_instance, put_slot, putfield_plan, bottom_with}
use Rattle.abs_plans.specs.abs_turns.Table.{static_local, getstatic_plan, put_static, putstatic_plan, new_of_base, array_turn, natural}
use Rattle.abs_plans.specs.abs_turns.Table.{negative, array_plan, length_id, items_of, length_plan, access_at, access_of, number_load_plan}
use Rattle.abs_plans.specs.abs_turns.Table.{number_store_plan, aaload_plan, aastore_plan, Cast, checkcast_of, instanceof_of, with_bound}
use Rattle.abs_plans.specs.abs_turns.Table.{bounded, cell_bound, is_bound_below, may_be_below, is_known_cell, undecided, cast_plan}
use Rattle.abs_plans.specs.abs_turns.Table.{checkcast_plan, instanceof_plan, invokes, runs_or_lacks, static_plan, receiver_of, special_plan}
use Rattle.abs_plans.specs.abs_turns.Table.{class_of_cell, answered, selecting_plan, returned_to, value_plan, athrow_plan, binary, unary}
use Rattle.abs_plans.specs.abs_turns.Table.{row_of, taken_by, plan_of_form}
use Rattle.abs_plans.specs.Planning.{plan_here, plan_in, plan_of}
use Rattle.steady_plans.specs.Steps.{SendsNone, IsSteady, AreSteady}
use Rattle.steady_plans.proofs.SteadyTurns.{still, maker, AreSame, operator_steady, kinds_steady, branches_steady, switch_steady}
use Rattle.steady_plans.proofs.SteadyTurns.{mapped_there, access_steady}

-- ---- needs

need_null_steady : (state : AbstractState) (x : ℕ) (plan : Plan) → AreSteady plan → AreSteady (need_null state x plan)
need_null_steady state x plan h = if_either AreSteady (may_be_null (cell_at state x)) (by_null x) plan (λ e. tt) (λ e. h)

unknown_steady : (x : ℕ) (t : Ty) (partner : Option ℕ) → AreSteady (split_unknown x t partner)
unknown_steady x t None = tt
unknown_steady x t (Some y) = tt

split_steady : (state : AbstractState) (x : ℕ) (place : PlaceType) → AreSteady (split_below state x place)
split_steady state x places.Unset = tt
split_steady state x places.Int = tt
split_steady state x places.Null = tt
split_steady state x (places.Ref t) = unknown_steady x t (known_partner state x)

need_object_steady : (state : AbstractState) (x : ℕ) (place : PlaceType) (plan : Plan) → AreSteady plan
    → AreSteady (need_object state x place plan)
need_object_steady state x place plan h =
    need_null_steady state x (need_class state x place plan)
    (if_either AreSteady (is_unknown (cell_at state x)) (split_below state x place) plan (λ e. split_steady state x place) (λ e. h))

after_steady : (passing : Passing) (x : ℕ) (plan : Plan) → AreSteady plan → AreSteady (after_test passing x plan)
after_steady passes x plan h = h
after_steady fails x plan h = tt
after_steady splits x plan h = tt

tested_steady : (types : WorldTypes) (state : AbstractState) (operands : List (PlaceType × ℕ)) (plan : Plan) → AreSteady plan
    → AreSteady (tested types state operands plan)
tested_steady types state [] plan h = h
tested_steady types state (operand ∷ operands) plan h =
    after_steady (passing_id types state operand.0 operand.1) operand.1 (tested types state operands plan)
    (tested_steady types state operands plan h)

-- ---- rows

module _ (here : Here) where
  moved : (frames : List AbstractFrame) → IsSteady (moves frames)
  moved frames = still (moves frames) refl refl

  goes : (place : ℕ) (stack : List ℕ) → IsSteady (goes_on here place stack)
  goes place stack = moved (with_stack here place stack)

  thrown : (class : ℕ) → AreSteady (steps (throws here class ∷ []))
  thrown class = (maker (throws here class) refl, tt)

  unless_null_steady : (x : ℕ) (plan : Plan) → AreSteady plan → AreSteady (unless_null here x plan)
  unless_null_steady x plan h =
      if_either AreSteady (is_null_here here x) (steps (throws here null_pointer_exception ∷ [])) plan
      (λ e. thrown null_pointer_exception) (λ e. h)

  accessed_steady : (depth x : ℕ) (plan : Plan) → AreSteady plan → AreSteady (accessed here depth x plan)
  accessed_steady depth x plan h =
      need_object_steady here.state x (place_under here depth) (unless_null here x plan) (unless_null_steady x plan h)

  may_be : {X : Type 0} (f : X → Plan) (o : Option X) → ((x : X) → AreSteady (f x)) → AreSteady (option_map_or f o no_child)
  may_be f None h = tt
  may_be f (Some x) h = h x

  pushed : (found : Option ℕ) (stack : List ℕ) → AreSteady (step_if (option_map (λ x. goes_on here here.next (x ∷ stack)) found))
  pushed found stack = mapped_there here (λ (x : ℕ). goes_on here here.next (x ∷ stack)) found (λ x. goes here.next (x ∷ stack))

  one_taken : (stack : List ℕ) (plan : ℕ → List ℕ → Plan) → ((a : ℕ) (rest : List ℕ) → AreSteady (plan a rest))
      → AreSteady (unary stack plan)
  one_taken [] plan h = tt
  one_taken (a ∷ rest) plan h = h a rest

  two_taken : (stack : List ℕ) (plan : ℕ → ℕ → List ℕ → Plan) → ((a b : ℕ) (rest : List ℕ) → AreSteady (plan a b rest))
      → AreSteady (binary stack plan)
  two_taken [] plan h = tt
  two_taken (b ∷ []) plan h = tt
  two_taken (b ∷ a ∷ rest) plan h = h a b rest

  -- ---- locals and ints

  stored : (n : ℕ) (stack : List ℕ) → AreSteady (store_plan here n stack)
  stored n [] = tt
  stored n (x ∷ stack) = (moved (frames_at here here.next (slice_set here.frame.locals n (Some x)) stack), tt)

  incremented : (n : ℕ) (by : ℤ) (found : Option ℕ) → AreSteady (increment_plan here n by found)
  incremented n by None = tt
  incremented n by (Some x) = operator_steady here Add (id x) (known by) (with_stack here here.next here.frame.stack) (in_local n)

  negated : (stack : List ℕ) → AreSteady (negation_plan here stack)
  negated [] = tt
  negated (a ∷ rest) = operator_steady here Sub (known (pos 0)) (id a) (with_stack here here.next rest) on_stack

  narrowed : (kind : Kind) (stack : List ℕ) → AreSteady (narrow_plan here kind stack)
  narrowed kind [] = tt
  narrowed kind (a ∷ rest) =
      kinds_steady here kind a (goes_on here here.next (a ∷ rest)) (with_stack here here.next rest) on_stack (goes here.next (a ∷ rest))

  switched : (default : ℕ) (keys : List (ℤ × ℕ)) (stack : List ℕ) → AreSteady (switch_plan here default keys stack)
  switched default keys [] = tt
  switched default keys (a ∷ rest) = switch_steady here a rest (parts_of default keys)

  -- ---- references

  jumped : (wanted is : Bool) (place : ℕ) (stack : List ℕ) → AreSteady (jump_if here wanted is place stack)
  jumped wanted is place stack = (goes (if (if wanted then is else not is) then place else here.next) stack, tt)

  null_tested : (wanted : Bool) (place : ℕ) (stack : List ℕ) → AreSteady (null_plan here wanted place stack)
  null_tested wanted place [] = tt
  null_tested wanted place (a ∷ stack) =
      need_null_steady here.state a (jump_if here wanted (is_null_here here a) place stack)
      (jumped wanted (is_null_here here a) place stack)

  equal_tested : (wanted : Bool) (place : ℕ) (stack : List ℕ) → AreSteady (equal_plan here wanted place stack)
  equal_tested wanted place [] = tt
  equal_tested wanted place (b ∷ []) = tt
  equal_tested wanted place (b ∷ a ∷ stack) =
      if_either AreSteady (a == b) (jump_if here wanted true place stack) _ (λ e. jumped wanted true place stack) (λ e.
      need_null_steady here.state a _ (need_null_steady here.state b _ (
      if_either AreSteady (is_null_here here a && is_null_here here b) (jump_if here wanted true place stack) _
      (λ f. jumped wanted true place stack) (λ f.
      if_either AreSteady (is_null_here here a || is_null_here here b) (jump_if here wanted false place stack) _
      (λ g. jumped wanted false place stack) (λ g.
      if_either AreSteady (has a b here.state.eq) (by_equal a b) (jump_if here wanted false place stack) (λ h. tt)
      (λ h. jumped wanted false place stack))))))

  -- ---- fields

  field_read : (used : FieldUse) (stack : List ℕ) → AreSteady (getfield_plan here used stack)
  field_read used [] = tt
  field_read used (k ∷ stack) = accessed_steady 0 k _ (pushed (field_id (cell_here here k) used.place) stack)

  put : (slot : Slot) (k place x : ℕ) (stack : List ℕ) (class : ℕ) (ids : List ℕ)
      → AreSteady (put_slot here slot k place x stack class ids)
  put (slots.Num kind) k place x stack class ids =
      let kept = record (moves (with_stack here here.next stack)) { changed = (k, cells.Obj class (slice_set ids place x)) ∷ [] } in
      kinds_steady here kind x kept (with_stack here here.next stack) (in_field k place) (still kept refl refl)
  put (slots.Ref t) k place w stack class ids = (still _ refl refl, tt)

  of_instance : (found : Option Cell) (plan : ℕ → List ℕ → Plan) → ((class : ℕ) (ids : List ℕ) → AreSteady (plan class ids))
      → AreSteady (on_instance found plan)
  of_instance None plan h = tt
  of_instance (Some (cells.Int interval)) plan h = tt
  of_instance (Some cells.Null) plan h = tt
  of_instance (Some (cells.Obj class ids)) plan h = h class ids
  of_instance (Some (cells.Nums kind len)) plan h = tt
  of_instance (Some (cells.Refs element len shape)) plan h = tt
  of_instance (Some (cells.Unk bound nullable shape)) plan h = tt

  field_put : (used : FieldUse) (stack : List ℕ) → AreSteady (putfield_plan here used stack)
  field_put used [] = tt
  field_put used (x ∷ []) = tt
  field_put used (x ∷ k ∷ stack) =
      accessed_steady 1 k _
      (of_instance (cell_here here k) (put_slot here used.slot k used.place x stack) (put used.slot k used.place x stack))

  put_field : (slot : Slot) (n x : ℕ) (stack : List ℕ) → AreSteady (put_static here slot n x stack)
  put_field (slots.Num kind) n x stack =
      let kept = moves (bottom_with n x (with_stack here here.next stack)) in
      kinds_steady here kind x kept (with_stack here here.next stack) (in_bottom n)
      (moved (bottom_with n x (with_stack here here.next stack)))
  put_field (slots.Ref t) n x stack = (moved (bottom_with n x (with_stack here here.next stack)), tt)

  static_put : (place : ℕ) (stack : List ℕ) → AreSteady (putstatic_plan here place stack)
  static_put place [] = tt
  static_put place (x ∷ stack) =
      may_be (λ (field : StaticField). put_static here field.slot (static_local here place) x stack) (slice_get here.program.statics place)
      (λ field. put_field field.slot (static_local here place) x stack)

  -- ---- new objects and arrays

  made : (base : Base) → AreSteady (new_of_base here base)
  made (bases.Class class) = (maker _ refl, tt)
  made (bases.Num kind) = tt

  array_made : (slot : Slot) (stack : List ℕ) → AreSteady (array_plan here slot stack)
  array_made slot [] = tt
  array_made slot (count ∷ stack) =
      all_joined IsSteady _ _
      (mapped_there here (array_turn here slot count stack) (meet_of (interval_of_id here.state count) natural)
      (λ both. maker (array_turn here slot count stack both) refl))
      (mapped_there here (λ (both : Bounds). throws_after here ((count, cells.Int both) ∷ []) no_rows negative_array_size_exception)
      (meet_of (interval_of_id here.state count) negative)
      (λ both. maker (throws_after here ((count, cells.Int both) ∷ []) no_rows negative_array_size_exception) refl))

  -- ---- arrays

  length_read : (stack : List ℕ) → AreSteady (length_plan here stack)
  length_read [] = tt
  length_read (k ∷ stack) = accessed_steady 0 k _ (pushed (length_id (cell_here here k)) stack)

  access : (depth k index : ℕ) (length_ : Option ℕ) (good : List (ℕ × Cell) → (ℕ → List LinkRow) → List Turn)
      → ((narrowed : List (ℕ × Cell)) (rows : ℕ → List LinkRow) → AreSame rows → AllByRecursion IsSteady (good narrowed rows))
      → AreSteady (access_of here depth k index length_ good)
  access depth k index length_ good h =
      accessed_steady depth k _ (may_be (λ (len : ℕ). access_at here index len good) length_ (λ len. access_steady here index len good h))

  number_read : (stack : List ℕ) → AreSteady (number_load_plan here stack)
  number_read [] = tt
  number_read (index ∷ []) = tt
  number_read (index ∷ k ∷ stack) = access 1 k index (length_id (cell_here here k)) _ (λ narrowed rows same. (maker _ refl, tt))

  item_read : (stack : List ℕ) → AreSteady (aaload_plan here stack)
  item_read [] = tt
  item_read (index ∷ []) = tt
  item_read (index ∷ k ∷ stack) = access 1 k index (items_of here k index) _ (λ narrowed rows same. (maker _ refl, tt))

  number_stored : (stack : List ℕ) → AreSteady (number_store_plan here stack)
  number_stored [] = tt
  number_stored (value ∷ []) = tt
  number_stored (value ∷ index ∷ []) = tt
  number_stored (value ∷ index ∷ k ∷ stack) =
      access 2 k index (length_id (cell_here here k)) _ (λ narrowed rows same. (λ e. record { goal = refl; rows = same }, tt))

  if_not : (b : Bool) (turn : Turn) → IsSteady turn → AllByRecursion IsSteady (if b then [] else turn ∷ [])
  if_not true turn h = tt
  if_not false turn h = (h, tt)

  item_written : (stack : List ℕ) → AreSteady (aastore_plan here stack)
  item_written [] = tt
  item_written (value ∷ []) = tt
  item_written (value ∷ index ∷ []) = tt
  item_written (value ∷ index ∷ k ∷ stack) =
      access 2 k index (length_id (cell_here here k)) _ (λ narrowed rows same. (
        λ e. record { goal = refl; rows = same },
        if_not (is_null_here here value) (throws_after here narrowed rows array_store_exception)
            (maker (throws_after here narrowed rows array_store_exception) refl),
      ))

  -- ---- casts

  record IsSteadyCast (cast : Cast) : Type 0 where
    passed : IsSteady cast.passed
    failed : IsSteady cast.failed
    null : IsSteady cast.null

  bound_steady : (x : ℕ) (lower : Option Cell) (turn : Turn) → IsSteady turn → IsSteady (with_bound x lower turn)
  bound_steady x None turn h = h
  bound_steady x (Some cell) turn h = λ e. let s = h e in record { goal = s.goal; rows = s.rows }

  undecided_steady : (t : Ty) (x : ℕ) (cast : Cast) → IsSteadyCast cast → AllByRecursion IsSteady (undecided here t x cast)
  undecided_steady t x cast h =
      all_joined IsSteady _ (cast.failed ∷ [])
      (if_either (AllByRecursion IsSteady) (may_be_below here t (cell_bound (cell_here here x))) _ []
      (λ e. (
        bound_steady x (option_and_then (bounded (types_here here) ((types_here here).erase t)) (cell_here here x)) cast.passed
            h.passed,
        tt,
      )) (λ e. tt))
      (h.failed, tt)

  cast_steady : (t : Ty) (x : ℕ) (asks : Bool) (cast : Cast) → IsSteadyCast cast → AreSteady (cast_plan here t x asks cast)
  cast_steady t x asks cast h =
      if_either AreSteady (is_null_here here x) (one_step cast.null) _ (λ e. (h.null, tt)) (λ e.
      if_either AreSteady (is_bound_below here t (cell_bound (cell_here here x))) _ _ (λ f.
      if_either AreSteady asks (need_null here.state x (one_step cast.passed)) (one_step cast.passed)
      (λ g. need_null_steady here.state x (one_step cast.passed) (h.passed, tt)) (λ g. (h.passed, tt))) (λ f.
      need_null_steady here.state x _ (
      if_either AreSteady (is_known_cell (cell_here here x)) (one_step cast.failed) (steps (undecided here t x cast)) (λ g. (h.failed, tt))
      (λ g. undecided_steady t x cast h))))

  cast_checked : (t : Ty) (stack : List ℕ) → AreSteady (checkcast_plan here t stack)
  cast_checked t [] = tt
  cast_checked t (x ∷ stack) = cast_steady t x false (checkcast_of here (x ∷ stack)) (record {
    passed = goes here.next (x ∷ stack);
    failed = maker (checkcast_of here (x ∷ stack)).failed refl;
    null = goes here.next (x ∷ stack);
  })

  type_tested : (t : Ty) (stack : List ℕ) → AreSteady (instanceof_plan here t stack)
  type_tested t [] = tt
  type_tested t (x ∷ stack) = cast_steady t x true (instanceof_of here stack) (record {
    passed = maker (instanceof_of here stack).passed refl;
    failed = maker (instanceof_of here stack).failed refl;
    null = maker (instanceof_of here stack).null refl;
  })

  -- ---- calls and returns

  invoked : (count number : ℕ) → AreSteady (invokes here count number)
  invoked count number = may_be _ (slice_get here.program.methods number) (λ method. (moved _, tt))

  run_or_lacking : (count : ℕ) (target : Option ℕ) → AreSteady (runs_or_lacks here count target)
  run_or_lacking count None = thrown _
  run_or_lacking count (Some number) = invoked count number

  specially : (call : Call) → AreSteady (special_plan here call)
  specially call =
      may_be _ (receiver_of here call) (λ x. need_null_steady here.state x _ (unless_null_steady x _ (run_or_lacking _ call.target)))

  answer : (count : ℕ) (found : Option Selected) → AreSteady (answered here count found)
  answer count (Some (answers.Method number)) = invoked count number
  answer count (Some answers.Abstract) = thrown _
  answer count (Some answers.NoInterface) = thrown _
  answer count None = tt

  selecting : (op : Op) (call : Call) → AreSteady (selecting_plan here op call)
  selecting op call =
      may_be _ (receiver_of here call)
      (λ x. accessed_steady (length call.params) x _ (answer _ (answer_of here.program op (class_of_cell (cell_here here x)))))

  returned : (value : Option ℕ) (below : List AbstractFrame) → AreSteady (returned_to here value below)
  returned value [] = tt
  returned value (caller ∷ below) =
      mapped_there here _ (option_and_then (λ found. found.1) (insn_at here.program.methods caller.method caller.pc)) (λ place. moved _)

  value_returned : (stack : List ℕ) → AreSteady (value_plan here stack)
  value_returned [] = tt
  value_returned (x ∷ stack) = returned (Some x) here.below

  raised : (stack : List ℕ) → AreSteady (athrow_plan here stack)
  raised [] = tt
  raised (x ∷ stack) = need_null_steady here.state x _
      (unless_null_steady x _ (still (record (moves (emptied here)) { throwing = Some x }) refl refl, tt))

  -- ---- the table

  row_steady : (form : Form) → AreSteady (row_of here form)
  row_steady Nop = (goes here.next here.frame.stack, tt)
  row_steady AconstNull = (maker (pushes here cells.Null here.frame.stack) refl, tt)
  row_steady (Iconst n) = (maker _ refl, tt)
  row_steady (Iload n) = pushed (local_here here n) here.frame.stack
  row_steady (Aload n) = pushed (local_here here n) here.frame.stack
  row_steady (Istore n) = stored n here.frame.stack
  row_steady (Astore n) = stored n here.frame.stack
  row_steady (Iinc n by) = incremented n by (local_here here n)
  row_steady (Shuffle shuffle) = mapped_there here (goes_on here here.next) (shuffled shuffle here.frame.stack)
      (λ stack. goes here.next stack)
  row_steady (Arith op) =
      two_taken here.frame.stack (λ a b rest. steps (turns_of here op (id a) (id b) (with_stack here here.next rest) on_stack))
      (λ a b rest. operator_steady here op (id a) (id b) (with_stack here here.next rest) on_stack)
  row_steady Ineg = negated here.frame.stack
  row_steady (Narrow kind) = narrowed kind here.frame.stack
  row_steady (If cond place) =
      one_taken here.frame.stack (λ a rest. steps (branches here cond (id a) (known (pos 0)) place rest false))
      (λ a rest. branches_steady here cond (id a) (known (pos 0)) place rest false)
  row_steady (IfIcmp cond place) =
      two_taken here.frame.stack (λ a b rest. steps (branches here cond (id a) (id b) place rest true))
      (λ a b rest. branches_steady here cond (id a) (id b) place rest true)
  row_steady (IfAcmpeq place) = equal_tested true place here.frame.stack
  row_steady (IfAcmpne place) = equal_tested false place here.frame.stack
  row_steady (Ifnull place) = null_tested true place here.frame.stack
  row_steady (Ifnonnull place) = null_tested false place here.frame.stack
  row_steady (Goto place) = (goes place here.frame.stack, tt)
  row_steady (Tableswitch default low targets) = switched default (table_keys low targets) here.frame.stack
  row_steady (Lookupswitch default cases) = switched default (lookup_keys cases) here.frame.stack
  row_steady Ireturn = value_returned here.frame.stack
  row_steady Areturn = value_returned here.frame.stack
  row_steady Return = returned None here.below
  row_steady (Getstatic place) = pushed _ here.frame.stack
  row_steady (Putstatic place) = static_put place here.frame.stack
  row_steady (Getfield used) = field_read used here.frame.stack
  row_steady (Putfield used) = field_put used here.frame.stack
  row_steady (Invokevirtual call) = selecting (ops.Invokevirtual call) call
  row_steady (Invokespecial call) = specially call
  row_steady (Invokestatic call) = may_be (invokes here (length call.params)) call.target (λ number. invoked (length call.params) number)
  row_steady (Invokeinterface call) = selecting (ops.Invokeinterface call) call
  row_steady (New t) = made t.base
  row_steady (Newarray kind) = array_made (slots.Num kind) here.frame.stack
  row_steady (Anewarray t) = array_made (slots.Ref t) here.frame.stack
  row_steady Arraylength = length_read here.frame.stack
  row_steady (NumberLoad for) = number_read here.frame.stack
  row_steady Aaload = item_read here.frame.stack
  row_steady (NumberStore for) = number_stored here.frame.stack
  row_steady Aastore = item_written here.frame.stack
  row_steady Athrow = raised here.frame.stack
  row_steady (Checkcast t) = cast_checked t here.frame.stack
  row_steady (Instanceof t) = type_tested t here.frame.stack

  form_steady : (form : Form) → AreSteady (plan_of_form here form)
  form_steady form =
      tested_steady (types_here here) here.state (operands_of (taken_by form) here.places here.frame.stack) (row_of here form)
      (row_steady form)

-- ---- while a handler is looked for

module _ (types : WorldTypes) (state : AbstractState) (x : ℕ) (frame : AbstractFrame) where
  handled_steady : (below : List AbstractFrame) (range : Option CatchRange) → AreSteady (handled x frame below range)
  handled_steady below (Some range) = (still _ refl refl, tt)
  handled_steady [] None = tt
  handled_steady (caller ∷ below) None = (still _ refl refl, tt)

  caught_steady : (below : List AbstractFrame) (ranges : List CatchRange) → AreSteady (caught_plan types state x frame below ranges)
  caught_steady below ranges =
      if_either AreSteady (is_open types state x ranges) _ _ (λ e. split_steady state x (places.Ref (class_type throwable)))
      (λ e. handled_steady below (find (takes types state x) ranges))

  passed_steady : (passing : Passing) (plan : Plan) → AreSteady plan → AreSteady (if_passes passing plan)
  passed_steady passes plan h = h
  passed_steady fails plan h = tt
  passed_steady splits plan h = tt

  throwing_steady : (below : List AbstractFrame) (table : List CatchRange) → AreSteady (throwing_plan types state x frame below table)
  throwing_steady below table =
      passed_steady (passing_id types state (places.Ref (class_type throwable)) x)
      (caught_plan types state x frame below (filter (covers frame.pc) table))
      (caught_steady below (filter (covers frame.pc) table))

-- ---- the plan of a state

module _ (p : Program) (typing : ℕ → CodeTypes) (state : AbstractState) where
  here_steady : (frame : AbstractFrame) (below : List AbstractFrame) (form : Option Form) (next : Option ℕ) (there : Option PlaceTypes)
      → AreSteady (plan_here p typing state frame below form next there)
  here_steady frame below None next there = tt
  here_steady frame below (Some form) next None = tt
  here_steady frame below (Some form) next (Some there) =
      form_steady (record {
        program = p;
        state = state;
        frame = frame;
        below = below;
        places = there.stack;
        next = option_map_or
            (λ place. place) next frame.pc;
      }) form

  mode_steady : (throwing : Option ℕ) (frames : List AbstractFrame) → AreSteady (plan_in p typing state throwing frames)
  mode_steady None [] = tt
  mode_steady (Some x) [] = tt
  mode_steady (Some x) (frame ∷ below) =
      throwing_steady (types_of p.world) state x frame below
      (option_map_or (λ (m : Method). m.table) (slice_get p.methods frame.method) [])
  mode_steady None (frame ∷ below) =
      here_steady frame below (option_map_or (λ (x : Op × Option ℕ). form_of x.0) (insn_at p.methods frame.method frame.pc) None)
      (option_map_or (λ (x : Op × Option ℕ). x.1) (insn_at p.methods frame.method frame.pc) None) (typing frame.method frame.pc)

  pub plan_steady : AreSteady (plan_of p typing state)
  plan_steady = mode_steady state.throwing state.frames
