-- Each step of each form keeps the sorts of ids and has rows such as the rules of paths take.
use Rattle.std.proofs.Common.{◌≡◌, ◌∙◌, ◌==◌, ◌+◌, ℕ, ℤ, pos, Bool, true, false, not, ◌&&◌, ◌||◌, if◌then◌else◌, List, [], ◌∷◌}
use Rattle.std.proofs.Common.{length, Option, Some, None, slice_get, refl, sym, ap, subst}
use Rattle.std.specs.Prelude.{slice_set}
use Rattle.std.specs.List.{AllByRecursion}
use Rattle.std.specs.Option.{option_map, option_map_or, option_and_then}
use Rattle.list_views.proofs.Options.{then_some}
use Rattle.std.proofs.lemmas.Option.{none-some}
use Rattle.jvm_values.proofs.Options.{some_is}
use Rattle.list_views.proofs.Quantified.{all_joined}
use Rattle.lin_core.specs.Intervals.{Bounds}
use Rattle.jvm_values.specs.declared.ints.IntOp.{IntOp}
use Rattle.jvm_values.specs.declared.ints.IntOp.TheVariants.{Add, Sub}
use Rattle.jvm_values.specs.declared.ints.Cond.{Cond}
use Rattle.jvm_values.specs.declared.types.Kind.{Kind}
use Rattle.jvm_values.specs.declared.types.Base.{Base}
use Rattle.jvm_values.specs.declared.types.Base.TheVariants as bases
use Rattle.jvm_values.specs.declared.types.Slot.{Slot}
use Rattle.jvm_values.specs.declared.types.Slot.TheVariants as slots
use Rattle.jvm_values.specs.declared.types.Ty.{Ty}
use Rattle.jvm_values.specs.declared.typing.PlaceType.{PlaceType}
use Rattle.jvm_values.specs.declared.typing.PlaceType.TheVariants as places
use Rattle.jvm_values.specs.States.{PlaceTypes}
use Rattle.jvm_values.specs.TypedHeaps.{WorldTypes}
use Rattle.abs_cells.specs.declared.cells.Cell.{Cell}
use Rattle.abs_cells.specs.declared.cells.Cell.TheVariants as cells
use Rattle.abs_cells.specs.AbstractStates.{AbstractFrame, AbstractState}
use Rattle.abs_cells.specs.Cells.{is_int, cell_at, HasCell}
use Rattle.abs_cells.specs.PairLists.{has}
use Rattle.abs_cells.specs.Sound.{IsSound}
use Rattle.abs_ints.specs.IntIntervals.{meet_of}
use Rattle.abs_ints.proofs.OperatorCases.{if_either}
use Rattle.class_program.specs.class_world.BuiltIns.{null_pointer_exception, negative_array_size_exception, array_store_exception}
use Rattle.class_program.specs.class_world.WorldTypes.{types_of}
use Rattle.class_program.specs.declared.op.Op.{Op}
use Rattle.class_program.specs.declared.op.Op.TheVariants as ops
use Rattle.class_program.specs.declared.op.Call.{Call}
use Rattle.class_program.specs.declared.op.FieldUse.{FieldUse}
use Rattle.class_program.specs.declared.program.Method.{Method}
use Rattle.class_program.specs.declared.program.StaticField.{StaticField}
use Rattle.class_program.specs.declared.selected.Selected.{Selected}
use Rattle.class_program.specs.declared.selected.Selected.TheVariants as answers
use Rattle.class_program.specs.Programs.{Program, insn_at}
use Rattle.jvm_run.specs.jvm_step.Effects.{answer_of}
use Rattle.jvm_run.specs.OpFormsForms.{Form, shuffled}
use Rattle.jvm_run.specs.OpFormsForms.Form.{Nop, AconstNull, Iconst, Iload, Aload, Istore, Astore, Iinc, Shuffle, Arith, Ineg, Narrow, If}
use Rattle.jvm_run.specs.OpFormsForms.Form.{IfIcmp, IfAcmpeq, IfAcmpne, Ifnull, Ifnonnull, Goto, Tableswitch, Lookupswitch, Ireturn}
use Rattle.jvm_run.specs.OpFormsForms.Form.{Areturn, Return, Getstatic, Putstatic, Getfield, Putfield, Invokevirtual, Invokespecial}
use Rattle.jvm_run.specs.OpFormsForms.Form.{Invokestatic, Invokeinterface, New, Newarray, Anewarray, Arraylength, NumberLoad, Aaload}
use Rattle.jvm_run.specs.OpFormsForms.Form.{NumberStore, Aastore, Athrow, Checkcast, Instanceof}
use Rattle.jvm_run.specs.OpFormsWidths.{IsFormInWidth}
use Rattle.jvm_run.proofs.OpFormsWidths.{increment_int}
use Rattle.jvm_run.specs.code_verify.declared.want.Want.{Want}
use Rattle.jvm_run.specs.code_verify.declared.want.Want.TheVariants as wants
use Rattle.jvm_run.specs.code_verify.Rows.{acted, types_after}
use Rattle.term_graph.specs.declared.links.LinkRow.{LinkRow}
use Rattle.abs_expand.specs.BadStates.{HasStackOf}
use Rattle.abs_expand.specs.Needs.{may_be_null, need_null, is_unknown, known_partner, split_unknown, split_below, need_class, need_object}
use Rattle.abs_expand.specs.Plans.{Turn, Plan, on_stack, in_local, in_bottom, in_field, steps, by_null, by_equal, no_child, no_rows}
use Rattle.abs_expand.specs.Switches.{table_keys, lookup_keys}
use Rattle.abs_expand.specs.Turns.{Here, known, id, frames_at, with_stack, emptied, moves, goes_on, pushes, throws, throws_after}
use Rattle.abs_expand.specs.Turns.{interval_at, interval_of_id, turns_of, branches}
use Rattle.abs_expand.specs.Table.{types_here, place_under, cell_here, is_null_here, unless_null, accessed, local_here, step_if}
use Rattle.abs_expand.specs.Table.{one_step, store_plan, increment_plan, negation_plan, narrow_plan, switch_plan, jump_if}
use Rattle.abs_expand.specs.Table.{null_plan, equal_plan, field_id, getfield_plan, on_instance, put_slot, putfield_plan}
use Rattle.abs_expand.specs.Table.{bottom_with, static_local, put_static, putstatic_plan, new_of_base, array_turn, natural}
use Rattle.abs_expand.specs.Table.{negative, array_plan, length_id, items_length_id, items_of, length_plan, access_at, access_of}
use Rattle.abs_expand.specs.Table.{number_load_plan, number_store_plan, aaload_plan, aastore_plan, Cast, checkcast_of}
use Rattle.abs_expand.specs.Table.{instanceof_of, with_bound, bounded, cell_bound, is_bound_below, may_be_below, is_known_cell}
use Rattle.abs_expand.specs.Table.{undecided, cast_plan, checkcast_plan, instanceof_plan, invokes, runs_or_lacks, static_plan}
use Rattle.abs_expand.specs.Table.{receiver_of, special_plan, class_of_cell, answered, selecting_plan, returned_to, value_plan}
use Rattle.abs_expand.specs.Table.{athrow_plan, binary, unary, row_of}
use Rattle.steady_plans.proofs.EachRow.{each_sum, each_difference}
use Rattle.plan_links.proofs.SmallRows.{HasIntEnds, IsInt}
use Rattle.plan_links.proofs.Rows.{IsOver, sum_over, difference_over}
use Rattle.plan_links.proofs.Operands.{Asks, acted_asks, aaload_asks, top_int, under_top, local_asked, within, int_ends, length_int}
use Rattle.plan_links.proofs.Operands.{items_int}
use Rattle.plan_links.proofs.FitTurns.{mapped_there, IsOfSort, old_sort, int_sort, IsFit, AreFit, bare, operator_fit, ids_fit}
use Rattle.plan_links.proofs.FitTurns.{kinds_fit, compared_fit, zero_fit, switch_fit, IsInside, inside_turn, accessed_at}

-- ---- needs

module _ (state : AbstractState) where
  abbrev FitPlan : Plan → Type 0
  FitPlan = AreFit state

  pub need_null_fit : (x : ℕ) (plan : Plan) → FitPlan plan → FitPlan (need_null state x plan)
  need_null_fit x plan h = if_either FitPlan (may_be_null (cell_at state x)) (by_null x) plan (λ e. tt) (λ e. h)

  unknown_fit : (x : ℕ) (t : Ty) (partner : Option ℕ) → FitPlan (split_unknown x t partner)
  unknown_fit x t None = tt
  unknown_fit x t (Some y) = tt

  pub split_below_fit : (x : ℕ) (place : PlaceType) → FitPlan (split_below state x place)
  split_below_fit x places.Unset = tt
  split_below_fit x places.Int = tt
  split_below_fit x places.Null = tt
  split_below_fit x (places.Ref t) = unknown_fit x t (known_partner state x)

  need_class_fit : (x : ℕ) (place : PlaceType) (plan : Plan) → FitPlan plan → FitPlan (need_class state x place plan)
  need_class_fit x place plan h = if_either FitPlan (is_unknown (cell_at state x)) (split_below state x place) plan
      (λ e. split_below_fit x place) (λ e. h)

  need_object_fit : (x : ℕ) (place : PlaceType) (plan : Plan) → FitPlan plan → FitPlan (need_object state x place plan)
  need_object_fit x place plan h = need_null_fit x (need_class state x place plan) (need_class_fit x place plan h)

-- ---- rows

-- the types at the place are those that the form asks for, and the ids there are of them
pub record IsTypedForm (p : Program) (here : Here) (form : Form) : Type 0 where
  pub method : Method
  pub there : PlaceTypes
  pub after : PlaceTypes
  pub types_are : types_after p method form there ≡ Some after
  pub stack : HasStackOf here.state there.stack here.frame.stack
  pub locals : (n x : ℕ) → slice_get there.locals n ≡ Some places.Int → slice_get here.frame.locals n ≡ Some (Some x)
      → HasCell is_int here.state x

module _ (p : Program) (here : Here) (sound : IsSound (types_of p.world) here.state) where
  abbrev Types : WorldTypes
  Types = types_of p.world

  abbrev Fit : Turn → Type 0
  Fit = IsFit here.state

  abbrev Fits : Plan → Type 0
  Fits = AreFit here.state

  abbrev IsIntId : ℕ → Type 0
  IsIntId = HasCell is_int here.state

  ends : (x : ℕ) → HasIntEnds (interval_of_id here.state x)
  ends = int_ends Types here.state sound

  may_be : {X : Type 0} (f : X → Plan) (o : Option X) → ((x : X) → o ≡ Some x → Fits (f x)) → Fits (option_map_or f o no_child)
  may_be f None h = tt
  may_be f (Some x) h = h x refl

  -- ---- ints on the stack

  -- the types of the stack are asked for these
  pub record Takes (asks : List Want) : Type 0 where
    pub wanted : List PlaceType
    pub asked : Asks Types asks wanted
    pub typed : HasStackOf here.state wanted here.frame.stack

  one_int : (asks : List Want) (x : ℕ) (rest : List ℕ) → Takes (wants.Int ∷ asks) → here.frame.stack ≡ x ∷ rest → IsIntId x
  one_int asks x rest a e =
      (top_int Types here.state asks a.wanted x rest a.asked (subst (HasStackOf here.state a.wanted) e a.typed)).int

  two_ints : (b a : ℕ) (rest : List ℕ) → Takes (wants.Int ∷ wants.Int ∷ []) → here.frame.stack ≡ b ∷ a ∷ rest → IsIntId b × IsIntId a
  two_ints b a rest k e =
      let top = top_int Types here.state (wants.Int ∷ []) k.wanted b (a ∷ rest) k.asked
      (subst (HasStackOf here.state k.wanted) e k.typed) in
      (top.int, (top_int Types here.state [] top.wanted a rest top.left top.typed).int)

  second_int : (want : Want) (asks : List Want) (v x : ℕ) (rest : List ℕ) → Takes (want ∷ wants.Int ∷ asks)
      → here.frame.stack ≡ v ∷ x ∷ rest → IsIntId x
  second_int want asks v x rest a e =
      let under = under_top Types here.state want (wants.Int ∷ asks) a.wanted v (x ∷ rest) a.asked
      (subst (HasStackOf here.state a.wanted) e a.typed) in
      (top_int Types here.state asks under.wanted x rest under.left under.typed).int

  -- ---- steps without rows

  still : (frames : List AbstractFrame) → Fit (moves frames)
  still frames = bare here.state (moves frames) tt refl

  thrown : (class : ℕ) → Fits (steps (throws here class ∷ []))
  thrown class = (bare here.state (throws here class) tt refl, tt)

  unless_null_fit : (x : ℕ) (plan : Plan) → Fits plan → Fits (unless_null here x plan)
  unless_null_fit x plan h = if_either Fits (is_null_here here x) (steps (throws here null_pointer_exception ∷ [])) plan
      (λ e. thrown null_pointer_exception) (λ e. h)

  accessed_fit : (depth x : ℕ) (plan : Plan) → Fits plan → Fits (accessed here depth x plan)
  accessed_fit depth x plan h = need_object_fit here.state x (place_under here depth) (unless_null here x plan) (unless_null_fit x plan h)

  pushed : (found : Option ℕ) (stack : List ℕ) → Fits (step_if (option_map (λ x. goes_on here here.next (x ∷ stack)) found))
  pushed found stack = mapped_there Fit (λ (x : ℕ). goes_on here here.next (x ∷ stack)) found
      (λ x. still (with_stack here here.next (x ∷ stack)))

  stored : (n : ℕ) (stack : List ℕ) → Fits (store_plan here n stack)
  stored n [] = tt
  stored n (x ∷ stack) = (still (frames_at here here.next (slice_set here.frame.locals n (Some x)) stack), tt)

  -- ---- ints

  incremented : (n : ℕ) (by : ℤ) (found : Option ℕ) → IsInt by → IsTypedForm p here (Iinc n by) → local_here here n ≡ found
      → Fits (increment_plan here n by found)
  incremented n by None b t e = tt
  incremented n by (Some x) b t e =
      let local = then_some (λ (local : Option ℕ). local) (slice_get here.frame.locals n) x e in
      let given : slice_get here.frame.locals n ≡ Some (Some x) = local.1.0 ∙ ap Some local.1.1 in
      operator_fit here ends Add (id x) (known by) (with_stack here here.next here.frame.stack) (in_local n)
      (t.locals n x (local_asked n t.there t.after t.types_are) given) tt
      (within here.frame.locals n (Some x) given)
      (each_sum (IsOver (id x) (known by)) (sum_over x by b) (interval_of_id here.state x) (interval_at here.state (known by)))

  arithmetic : (op : IntOp) (stack : List ℕ) → Takes (wants.Int ∷ wants.Int ∷ []) → here.frame.stack ≡ stack
      → Fits (binary stack (λ a b rest. steps (turns_of here op (id a) (id b) (with_stack here here.next rest) on_stack)))
  arithmetic op [] k e = tt
  arithmetic op (b ∷ []) k e = tt
  arithmetic op (b ∷ a ∷ rest) k e = let two = two_ints b a rest k e in ids_fit here ends op a b (with_stack here here.next rest)
      on_stack two.1 two.0 tt

  negated : (stack : List ℕ) → Takes (wants.Int ∷ []) → here.frame.stack ≡ stack → Fits (negation_plan here stack)
  negated [] k e = tt
  negated (a ∷ rest) k e =
      operator_fit here ends Sub (known (pos 0)) (id a) (with_stack here here.next rest) on_stack tt (one_int [] a rest k e) tt
      (each_difference (IsOver (known (pos 0)) (id a)) (difference_over a) (interval_at here.state (known (pos 0)))
      (interval_of_id here.state a))

  narrowed : (kind : Kind) (stack : List ℕ) → Fits (narrow_plan here kind stack)
  narrowed kind [] = tt
  narrowed kind (a ∷ rest) = kinds_fit here ends kind a (goes_on here here.next (a ∷ rest)) (with_stack here here.next rest)
      on_stack (still (with_stack here here.next (a ∷ rest)))

  compared_to_zero : (cond : Cond) (place : ℕ) (stack : List ℕ) → Takes (wants.Int ∷ []) → here.frame.stack ≡ stack
      → Fits (unary stack (λ a rest. steps (branches here cond (id a) (known (pos 0)) place rest false)))
  compared_to_zero cond place [] k e = tt
  compared_to_zero cond place (a ∷ rest) k e = zero_fit here ends cond a place rest (one_int [] a rest k e)

  compared : (cond : Cond) (place : ℕ) (stack : List ℕ) → Takes (wants.Int ∷ wants.Int ∷ []) → here.frame.stack ≡ stack
      → Fits (binary stack (λ a b rest. steps (branches here cond (id a) (id b) place rest true)))
  compared cond place [] k e = tt
  compared cond place (b ∷ []) k e = tt
  compared cond place (b ∷ a ∷ rest) k e = let two = two_ints b a rest k e in compared_fit here ends cond a b place rest two.1 two.0

  switched : (default : ℕ) (keys : List (ℤ × ℕ)) (stack : List ℕ) → Takes (wants.Int ∷ []) → here.frame.stack ≡ stack
      → Fits (switch_plan here default keys stack)
  switched default keys [] k e = tt
  switched default keys (a ∷ rest) k e = switch_fit here ends a default keys rest (one_int [] a rest k e)

  -- ---- references

  jumped : (wanted is : Bool) (place : ℕ) (stack : List ℕ) → Fits (jump_if here wanted is place stack)
  jumped wanted is place stack = (still (with_stack here (if (if wanted then is else not is) then place else here.next) stack), tt)

  null_tested : (wanted : Bool) (place : ℕ) (stack : List ℕ) → Fits (null_plan here wanted place stack)
  null_tested wanted place [] = tt
  null_tested wanted place (a ∷ stack) = need_null_fit here.state a (jump_if here wanted (is_null_here here a) place stack)
      (jumped wanted (is_null_here here a) place stack)

  equal_tested : (wanted : Bool) (place : ℕ) (stack : List ℕ) → Fits (equal_plan here wanted place stack)
  equal_tested wanted place [] = tt
  equal_tested wanted place (b ∷ []) = tt
  equal_tested wanted place (b ∷ a ∷ stack) =
      if_either Fits (a == b) (jump_if here wanted true place stack) _ (λ e. jumped wanted true place stack) (λ e.
      need_null_fit here.state a _ (need_null_fit here.state b _ (
      if_either Fits (is_null_here here a && is_null_here here b) (jump_if here wanted true place stack) _
      (λ f. jumped wanted true place stack) (λ f.
      if_either Fits (is_null_here here a || is_null_here here b) (jump_if here wanted false place stack) _
      (λ g. jumped wanted false place stack) (λ g.
      if_either Fits (has a b here.state.eq) (by_equal a b) (jump_if here wanted false place stack) (λ h. tt)
      (λ h. jumped wanted false place stack))))))

  -- ---- fields

  field_read : (used : FieldUse) (stack : List ℕ) → Fits (getfield_plan here used stack)
  field_read used [] = tt
  field_read used (k ∷ stack) = accessed_fit 0 k _ (pushed (field_id (cell_here here k) used.place) stack)

  put : (slot : Slot) (k place x : ℕ) (stack : List ℕ) (class : ℕ) (ids : List ℕ)
      → cell_at here.state k ≡ Some (cells.Obj class ids) → Fits (put_slot here slot k place x stack class ids)
  put (slots.Num kind) k place x stack class ids e =
      kinds_fit here ends kind x
      (record (moves (with_stack here here.next stack)) { changed = (k, cells.Obj class (slice_set ids place x)) ∷ [] })
      (with_stack here here.next stack) (in_field k place)
      (bare here.state (record (moves (with_stack here here.next stack))
      { changed = (k, cells.Obj class (slice_set ids place x)) ∷ [] })
      (old_sort here.state k (cells.Obj class ids) (cells.Obj class (slice_set ids place x)) e refl, tt) refl)
  put (slots.Ref t) k place w stack class ids e = (bare here.state _ tt refl, tt)

  of_instance : (found : Option Cell) (plan : ℕ → List ℕ → Plan)
      → ((class : ℕ) (ids : List ℕ) → found ≡ Some (cells.Obj class ids) → Fits (plan class ids)) → Fits (on_instance found plan)
  of_instance None plan h = tt
  of_instance (Some (cells.Int interval)) plan h = tt
  of_instance (Some cells.Null) plan h = tt
  of_instance (Some (cells.Obj class ids)) plan h = h class ids refl
  of_instance (Some (cells.Nums kind len)) plan h = tt
  of_instance (Some (cells.Refs element len shape)) plan h = tt
  of_instance (Some (cells.Unk bound nullable shape)) plan h = tt

  field_put : (used : FieldUse) (stack : List ℕ) → Fits (putfield_plan here used stack)
  field_put used [] = tt
  field_put used (x ∷ []) = tt
  field_put used (x ∷ k ∷ stack) = accessed_fit 1 k _
      (of_instance (cell_here here k) (put_slot here used.slot k used.place x stack)
      (λ class ids e. put used.slot k used.place x stack class ids e))

  -- ---- static fields

  put_field : (slot : Slot) (n x : ℕ) (stack : List ℕ) → Fits (put_static here slot n x stack)
  put_field (slots.Num kind) n x stack = kinds_fit here ends kind x (moves (bottom_with n x (with_stack here here.next stack)))
      (with_stack here here.next stack) (in_bottom n) (still (bottom_with n x (with_stack here here.next stack)))
  put_field (slots.Ref t) n x stack = (still (bottom_with n x (with_stack here here.next stack)), tt)

  static_put : (place : ℕ) (stack : List ℕ) → Fits (putstatic_plan here place stack)
  static_put place [] = tt
  static_put place (x ∷ stack) = may_be (λ (field : StaticField). put_static here field.slot (static_local here place) x stack)
      (slice_get here.program.statics place) (λ field e. put_field field.slot (static_local here place) x stack)

  -- ---- new objects and arrays

  made : (base : Base) → Fits (new_of_base here base)
  made (bases.Class class) = (bare here.state _ tt refl, tt)
  made (bases.Num kind) = tt

  array_made : (slot : Slot) (stack : List ℕ) → Takes (wants.Int ∷ []) → here.frame.stack ≡ stack → Fits (array_plan here slot stack)
  array_made slot [] k e = tt
  array_made slot (count ∷ stack) k e =
      let int = one_int [] count stack k e in
      all_joined Fit _ _
      (mapped_there Fit (array_turn here slot count stack) (meet_of (interval_of_id here.state count) natural)
      (λ both. bare here.state (array_turn here slot count stack both) (int_sort here.state count both int, tt) refl))
      (mapped_there Fit (λ (both : Bounds). throws_after here ((count, cells.Int both) ∷ []) no_rows negative_array_size_exception)
      (meet_of (interval_of_id here.state count) negative)
      (λ both. bare here.state (throws_after here ((count, cells.Int both) ∷ []) no_rows negative_array_size_exception)
      (int_sort here.state count both int, tt) refl))

  -- ---- arrays

  length_read : (stack : List ℕ) → Fits (length_plan here stack)
  length_read [] = tt
  length_read (k ∷ stack) = accessed_fit 0 k _ (pushed (length_id (cell_here here k)) stack)

  abbrev Inside : List (ℕ × Cell) × (ℕ → List LinkRow) → Type 0
  Inside = IsInside here ends

  access : (depth k index : ℕ) (length_ : Option ℕ) (good : List (ℕ × Cell) → (ℕ → List LinkRow) → List Turn) → IsIntId index
      → ((len : ℕ) → length_ ≡ Some len → IsIntId len)
      → ((inside : List (ℕ × Cell) × (ℕ → List LinkRow)) → Inside inside → AllByRecursion Fit (good inside.0 inside.1))
      → Fits (access_of here depth k index length_ good)
  access depth k index length_ good hi hl fit = accessed_fit depth k _
      (may_be (λ (len : ℕ). access_at here index len good) length_ (λ len e. accessed_at here ends index len good hi (hl len e) fit))

  number_read : (stack : List ℕ) → ((x : ℕ) (rest : List ℕ) → stack ≡ x ∷ rest → IsIntId x) → Fits (number_load_plan here stack)
  number_read [] int = tt
  number_read (index ∷ []) int = tt
  number_read (index ∷ k ∷ stack) int =
      access 1 k index (length_id (cell_here here k)) _ (int index (k ∷ stack) refl)
      (λ len. length_int Types here.state sound k len (cell_here here k) refl)
      (λ inside h. (inside_turn here ends inside _ h refl refl, tt))

  -- an array isn't read at itself
  other_items : (b : Bool) (found : Option ℕ) (len : ℕ) → (if b then None else found) ≡ Some len → found ≡ Some len
  other_items true found len e = absurd (none-some len e)
  other_items false found len e = e

  item_read : (stack : List ℕ) → ((x : ℕ) (rest : List ℕ) → stack ≡ x ∷ rest → IsIntId x) → Fits (aaload_plan here stack)
  item_read [] int = tt
  item_read (index ∷ []) int = tt
  item_read (index ∷ k ∷ stack) int =
      access 1 k index (items_of here k index) _ (int index (k ∷ stack) refl)
      (λ len e. items_int Types here.state sound k len (cell_here here k) refl
      (other_items (k == index) (items_length_id (cell_here here k)) len e))
      (λ inside h. (inside_turn here ends inside _ h refl refl, tt))

  number_stored : (stack : List ℕ) → ((v x : ℕ) (rest : List ℕ) → stack ≡ v ∷ x ∷ rest → IsIntId x) → Fits (number_store_plan here stack)
  number_stored [] int = tt
  number_stored (value ∷ []) int = tt
  number_stored (value ∷ index ∷ []) int = tt
  number_stored (value ∷ index ∷ k ∷ stack) int =
      access 2 k index (length_id (cell_here here k)) _ (int value index (k ∷ stack) refl)
      (λ len. length_int Types here.state sound k len (cell_here here k) refl)
      (λ inside h. (inside_turn here ends inside _ h refl refl, tt))

  if_not : (b : Bool) (turn : Turn) → Fit turn → AllByRecursion Fit (if b then [] else turn ∷ [])
  if_not true turn h = tt
  if_not false turn h = (h, tt)

  item_written : (stack : List ℕ) → ((v x : ℕ) (rest : List ℕ) → stack ≡ v ∷ x ∷ rest → IsIntId x) → Fits (aastore_plan here stack)
  item_written [] int = tt
  item_written (value ∷ []) int = tt
  item_written (value ∷ index ∷ []) int = tt
  item_written (value ∷ index ∷ k ∷ stack) int =
      access 2 k index (length_id (cell_here here k)) _ (int value index (k ∷ stack) refl)
      (λ len. length_int Types here.state sound k len (cell_here here k) refl)
      (λ inside h. (
        inside_turn here ends inside _ h refl refl,
        if_not (is_null_here here value)
            (throws_after here inside.0 inside.1 array_store_exception)
            (inside_turn here ends inside (throws_after here inside.0 inside.1 array_store_exception) h refl refl),
      ))

  -- ---- casts

  record FitCast (cast : Cast) : Type 0 where
    passed : Fit cast.passed
    passed_plain : (cast.passed.changed ≡ []) × (cast.passed.rows ≡ no_rows)
    failed : Fit cast.failed
    null : Fit cast.null

  bound_kept : (t : Ty) (x : ℕ) (found : Option Cell) (cell : Cell) → cell_at here.state x ≡ found
      → option_and_then (bounded (types_here here) t) found ≡ Some cell → IsOfSort here.state (x, cell)
  bound_kept t x None cell at e = absurd cc
  bound_kept t x (Some (cells.Int interval)) cell at e = absurd cc
  bound_kept t x (Some cells.Null) cell at e = absurd cc
  bound_kept t x (Some (cells.Obj class ids)) cell at e = absurd cc
  bound_kept t x (Some (cells.Nums kind len)) cell at e = absurd cc
  bound_kept t x (Some (cells.Refs element len shape)) cell at e = absurd cc
  bound_kept t x (Some (cells.Unk bound nullable shape)) cell at e = by
      ((types_here here).sub t bound && not ((types_here here).sub bound t)) e
    where
      by : (b : Bool) → (if b then Some (cells.Unk t nullable shape) else None) ≡ Some cell → IsOfSort here.state (x, cell)
      by true f = subst (λ (c : Cell). IsOfSort here.state (x, c)) (some_is f)
          (old_sort here.state x (cells.Unk bound nullable shape) (cells.Unk t nullable shape) at refl)
      by false f = absurd (none-some cell f)

  with_bound_fit : (x : ℕ) (lower : Option Cell) (turn : Turn) → ((cell : Cell) → lower ≡ Some cell → IsOfSort here.state (x, cell))
      → Fit turn → turn.rows ≡ no_rows → Fit (with_bound x lower turn)
  with_bound_fit x None turn kept h e = h
  with_bound_fit x (Some cell) turn kept h e = bare here.state (with_bound x (Some cell) turn) (kept cell refl, tt) e

  undecided_fit : (t : Ty) (x : ℕ) (cast : Cast) → FitCast cast → AllByRecursion Fit (undecided here t x cast)
  undecided_fit t x cast h =
      all_joined Fit _ (cast.failed ∷ [])
      (if_either (AllByRecursion Fit) (may_be_below here t (cell_bound (cell_here here x))) _ []
      (λ e. (
        with_bound_fit x (option_and_then (bounded (types_here here) ((types_here here).erase t)) (cell_here here x))
            cast.passed (λ cell. bound_kept ((types_here here).erase t) x (cell_here here x) cell refl) h.passed
            h.passed_plain.1,
        tt,
      )) (λ e. tt))
      (h.failed, tt)

  cast_fit : (t : Ty) (x : ℕ) (asks : Bool) (cast : Cast) → FitCast cast → Fits (cast_plan here t x asks cast)
  cast_fit t x asks cast h =
      if_either Fits (is_null_here here x) (one_step cast.null) _ (λ e. (h.null, tt)) (λ e.
      if_either Fits (is_bound_below here t (cell_bound (cell_here here x))) _ _ (λ f.
      if_either Fits asks (need_null here.state x (one_step cast.passed)) (one_step cast.passed)
      (λ g. need_null_fit here.state x (one_step cast.passed) (h.passed, tt)) (λ g. (h.passed, tt))) (λ f.
      need_null_fit here.state x _ (
      if_either Fits (is_known_cell (cell_here here x)) (one_step cast.failed) (steps (undecided here t x cast))
      (λ g. (h.failed, tt)) (λ g. undecided_fit t x cast h))))

  cast_checked : (t : Ty) (stack : List ℕ) → Fits (checkcast_plan here t stack)
  cast_checked t [] = tt
  cast_checked t (x ∷ stack) = cast_fit t x false (checkcast_of here (x ∷ stack)) (record {
    passed = still (with_stack here here.next (x ∷ stack));
    passed_plain = (refl, refl);
    failed = bare here.state (checkcast_of here (x ∷ stack)).failed tt refl;
    null = still (with_stack here here.next (x ∷ stack));
  })

  type_tested : (t : Ty) (stack : List ℕ) → Fits (instanceof_plan here t stack)
  type_tested t [] = tt
  type_tested t (x ∷ stack) = cast_fit t x true (instanceof_of here stack) (record {
    passed = bare here.state (instanceof_of here stack).passed tt refl;
    passed_plain = (refl, refl);
    failed = bare here.state (instanceof_of here stack).failed tt refl;
    null = bare here.state (instanceof_of here stack).null tt refl;
  })

  -- ---- calls and returns

  invoked : (count number : ℕ) → Fits (invokes here count number)
  invoked count number = may_be _ (slice_get here.program.methods number) (λ method e. (still _, tt))

  run_or_lacking : (count : ℕ) (target : Option ℕ) → Fits (runs_or_lacks here count target)
  run_or_lacking count None = thrown _
  run_or_lacking count (Some number) = invoked count number

  statically : (call : Call) → Fits (static_plan here call)
  statically call = may_be (invokes here (length call.params)) call.target (λ number e. invoked (length call.params) number)

  specially : (call : Call) → Fits (special_plan here call)
  specially call = may_be _ (receiver_of here call)
      (λ x e. need_null_fit here.state x _ (unless_null_fit x _ (run_or_lacking (length call.params + 1) call.target)))

  answer : (count : ℕ) (selected : Option Selected) → Fits (answered here count selected)
  answer count None = tt
  answer count (Some (answers.Method number)) = invoked count number
  answer count (Some answers.Abstract) = thrown _
  answer count (Some answers.NoInterface) = thrown _

  selecting : (op : Op) (call : Call) → Fits (selecting_plan here op call)
  selecting op call = may_be _ (receiver_of here call)
      (λ x e. accessed_fit (length call.params) x _
      (answer (length call.params + 1) (answer_of here.program op (class_of_cell (cell_here here x)))))

  returned : (value : Option ℕ) (below : List AbstractFrame) → Fits (returned_to here value below)
  returned value [] = tt
  returned value (caller ∷ below) = mapped_there Fit _
      (option_and_then (λ found. found.1) (insn_at here.program.methods caller.method caller.pc)) (λ place. still _)

  value_returned : (stack : List ℕ) → Fits (value_plan here stack)
  value_returned [] = tt
  value_returned (x ∷ stack) = returned (Some x) here.below

  raised : (stack : List ℕ) → Fits (athrow_plan here stack)
  raised [] = tt
  raised (x ∷ stack) = need_null_fit here.state x _
      (unless_null_fit x _ (bare here.state (record (moves (emptied here)) { throwing = Some x }) tt refl, tt))

  -- ---- the table

  asks_of : (form : Form) (asks : List Want) (result : Option PlaceType)
      → ((m : Method) (there : PlaceTypes) → types_after p m form there ≡ acted Types asks result there) → IsTypedForm p here form
      → Takes asks
  asks_of form asks result is t = record {
    wanted = t.there.stack;
    asked = acted_asks Types asks result t.there t.after (sym (is t.method t.there) ∙ t.types_are);
    typed = t.stack;
  }

  items_asked : IsTypedForm p here Aaload → Takes (wants.Int ∷ [])
  items_asked t = record { wanted = t.there.stack; asked = aaload_asks Types t.there t.after t.types_are; typed = t.stack }

  pub row_fit : (form : Form) → IsTypedForm p here form → IsFormInWidth form → Fits (row_of here form)
  row_fit Nop e w = (still (with_stack here here.next here.frame.stack), tt)
  row_fit AconstNull e w = (bare here.state (pushes here cells.Null here.frame.stack) tt refl, tt)
  row_fit (Iconst n) e w = (bare here.state _ tt refl, tt)
  row_fit (Iload n) e w = pushed (local_here here n) here.frame.stack
  row_fit (Aload n) e w = pushed (local_here here n) here.frame.stack
  row_fit (Istore n) e w = stored n here.frame.stack
  row_fit (Astore n) e w = stored n here.frame.stack
  row_fit (Iinc n by) e w = incremented n by (local_here here n) (increment_int by w) e refl
  row_fit (Shuffle shuffle) e w = mapped_there Fit (goes_on here here.next) (shuffled shuffle here.frame.stack)
      (λ stack. still (with_stack here here.next stack))
  row_fit (Arith op) e w = arithmetic op here.frame.stack
      (asks_of (Arith op) (wants.Int ∷ wants.Int ∷ []) (Some places.Int) (λ m there. refl) e) refl
  row_fit Ineg e w = negated here.frame.stack (asks_of Ineg (wants.Int ∷ []) (Some places.Int) (λ m there. refl) e) refl
  row_fit (Narrow kind) e w = narrowed kind here.frame.stack
  row_fit (If cond place) e w = compared_to_zero cond place here.frame.stack
      (asks_of (If cond place) (wants.Int ∷ []) None (λ m there. refl) e) refl
  row_fit (IfIcmp cond place) e w = compared cond place here.frame.stack
      (asks_of (IfIcmp cond place) (wants.Int ∷ wants.Int ∷ []) None (λ m there. refl) e) refl
  row_fit (IfAcmpeq place) e w = equal_tested true place here.frame.stack
  row_fit (IfAcmpne place) e w = equal_tested false place here.frame.stack
  row_fit (Ifnull place) e w = null_tested true place here.frame.stack
  row_fit (Ifnonnull place) e w = null_tested false place here.frame.stack
  row_fit (Goto place) e w = (still (with_stack here place here.frame.stack), tt)
  row_fit (Tableswitch default low targets) e w = switched default (table_keys low targets) here.frame.stack
      (asks_of (Tableswitch default low targets) (wants.Int ∷ []) None (λ m there. refl) e) refl
  row_fit (Lookupswitch default cases) e w = switched default (lookup_keys cases) here.frame.stack
      (asks_of (Lookupswitch default cases) (wants.Int ∷ []) None (λ m there. refl) e) refl
  row_fit Ireturn e w = value_returned here.frame.stack
  row_fit Areturn e w = value_returned here.frame.stack
  row_fit Return e w = returned None here.below
  row_fit (Getstatic place) e w = pushed _ here.frame.stack
  row_fit (Putstatic place) e w = static_put place here.frame.stack
  row_fit (Getfield used) e w = field_read used here.frame.stack
  row_fit (Putfield used) e w = field_put used here.frame.stack
  row_fit (Invokevirtual call) e w = selecting (ops.Invokevirtual call) call
  row_fit (Invokespecial call) e w = specially call
  row_fit (Invokestatic call) e w = statically call
  row_fit (Invokeinterface call) e w = selecting (ops.Invokeinterface call) call
  row_fit (New t) e w = made t.base
  row_fit (Newarray kind) e w = array_made (slots.Num kind) here.frame.stack
      (asks_of (Newarray kind) (wants.Int ∷ []) _ (λ m there. refl) e) refl
  row_fit (Anewarray t) e w = array_made (slots.Ref t) here.frame.stack (asks_of (Anewarray t) (wants.Int ∷ []) _ (λ m there. refl) e) refl
  row_fit Arraylength e w = length_read here.frame.stack
  row_fit (NumberLoad for) e w = number_read here.frame.stack
      (λ x rest f. one_int (wants.Numbers for ∷ []) x rest
      (asks_of (NumberLoad for) (wants.Int ∷ wants.Numbers for ∷ []) (Some places.Int) (λ m there. refl) e) f)
  row_fit Aaload e w = item_read here.frame.stack (λ x rest f. one_int [] x rest (items_asked e) f)
  row_fit (NumberStore for) e w = number_stored here.frame.stack
      (λ v x rest f. second_int wants.Int (wants.Numbers for ∷ []) v x rest
      (asks_of (NumberStore for) (wants.Int ∷ wants.Int ∷ wants.Numbers for ∷ []) None (λ m there. refl) e) f)
  row_fit Aastore e w = item_written here.frame.stack
      (λ v x rest f. second_int wants.Reference (wants.References ∷ []) v x rest
      (asks_of Aastore (wants.Reference ∷ wants.Int ∷ wants.References ∷ []) None (λ m there. refl) e) f)
  row_fit Athrow e w = raised here.frame.stack
  row_fit (Checkcast t) e w = cast_checked t here.frame.stack
  row_fit (Instanceof t) e w = type_tested t here.frame.stack
