-- The plan of each form names ids that are there, and splits ids that can be split.
use Rattle.std.proofs.Common.{◌≡◌, ◌∙◌, ◌==◌, ◌<◌, ◌+◌, eqb, ℕ, ℤ, pos, Bool, true, false, ◌&&◌, ◌||◌}
use Rattle.std.proofs.Common.{if◌then◌else◌, List, [], ◌∷◌, ◌++◌, length, take, drop, reverse, Option, Some, None, slice_get}
use Rattle.std.proofs.Common.{refl, sym, ap, subst}
use Rattle.std.specs.Prelude.{slice_set}
use Rattle.std.specs.List.{AllByRecursion, find}
use Rattle.std.specs.Option.{option_map, option_and_then, option_map_or, option_to_list}
use Rattle.std.proofs.lemmas.Bool.{false≢true, and_parts, ne_eqb, eqb-false}
use Rattle.std.proofs.lemmas.Option.{none-some}
use Rattle.list_views.proofs.Quantified.{all_joined}
use Rattle.list_views.proofs.Options.{map_some, then_some}
use Rattle.abs_cells.specs.lin_core.Intervals.{Bounds}
use Rattle.jvm_values.specs.declared.ints.IntOp.TheVariants.{Add, Sub}
use Rattle.jvm_values.specs.declared.types.Kind.{Kind}
use Rattle.jvm_values.specs.declared.types.Ty.{Ty}
use Rattle.jvm_values.specs.declared.types.Slot.{Slot}
use Rattle.jvm_values.specs.declared.types.Slot.TheVariants as slots
use Rattle.jvm_values.specs.declared.typing.PlaceType.TheVariants as places
use Rattle.jvm_values.specs.declared.shape.Shape.{Shape}
use Rattle.jvm_values.specs.Subtyping.{class_type}
use Rattle.jvm_values.specs.TypedHeaps.{WorldTypes}
use Rattle.jvm_values.proofs.Options.{some_is}
use Rattle.abs_cells.specs.declared.cells.Cell.{Cell}
use Rattle.abs_cells.specs.declared.cells.Cell.TheVariants as cells
use Rattle.abs_cells.specs.AbstractStates.{AbstractFrame, AbstractState}
use Rattle.abs_cells.specs.Cells.{is_int, is_of_sort, ids_in, cell_in, cell_at, HasCell}
use Rattle.abs_cells.specs.PairLists.{has}
use Rattle.abs_cells.specs.Sound.{IsWellFormed, IsSound}
use Rattle.abs_turns.specs.abs_heap.Writing.{is_array_of_references}
use Rattle.abs_ints.specs.IntIntervals.{just, meet_of}
use Rattle.abs_ints.specs.Comparing.{related}
use Rattle.abs_ints.specs.declared.cases.IntCase.{IntCase}
use Rattle.abs_ints.specs.declared.cases.Way.TheVariants.{Taken}
use Rattle.abs_ints.specs.declared.relations.Relation.TheVariants.{Below, AtLeast}
use Rattle.abs_turns.specs.class_world.BuiltIns.{throwable, array_index_out_of_bounds_exception, negative_array_size_exception}
use Rattle.class_program.specs.declared.op.Op.{Op}
use Rattle.class_program.specs.declared.op.Call.{Call}
use Rattle.class_program.specs.declared.op.FieldUse.{FieldUse}
use Rattle.class_program.specs.declared.program.Method.{Method}
use Rattle.class_program.specs.declared.program.CatchRange.{CatchRange}
use Rattle.class_program.specs.declared.selected.Selected.{Selected}
use Rattle.class_program.specs.declared.selected.Selected.TheVariants as answers
use Rattle.class_program.specs.Programs.{insn_at}
use Rattle.abs_turns.specs.op_forms.declared.form.Shuffle.{Shuffle as StackShuffle}
use Rattle.abs_turns.specs.op_forms.Forms.{Form, shuffled}
use Rattle.abs_turns.specs.op_forms.Forms.Form.{Nop, AconstNull, Iconst, Iload, Aload, Istore, Astore, Iinc, Shuffle, Arith, Ineg, Narrow, If}
use Rattle.abs_turns.specs.op_forms.Forms.Form.{IfIcmp, IfAcmpeq, IfAcmpne, Ifnull, Ifnonnull, Goto, Tableswitch, Lookupswitch, Ireturn}
use Rattle.abs_turns.specs.op_forms.Forms.Form.{Areturn, Return, Getstatic, Putstatic, Getfield, Putfield, Invokevirtual, Invokespecial}
use Rattle.abs_turns.specs.op_forms.Forms.Form.{Invokestatic, Invokeinterface, New, Newarray, Anewarray, Arraylength, NumberLoad, Aaload}
use Rattle.abs_turns.specs.op_forms.Forms.Form.{NumberStore, Aastore, Athrow, Checkcast, Instanceof}
use Rattle.abs_turns.specs.term_graph.declared.links.LinkRow.{LinkRow}
use Rattle.abs_turns.specs.Plans.{on_stack, in_local, in_bottom, in_field, Turn, Plan, steps, by_equal, no_rows}
use Rattle.abs_turns.specs.Needs.{Passing, passes, fails, splits, passing, operands_of}
use Rattle.abs_turns.specs.Needs.{is_unknown}
use Rattle.abs_turns.specs.Turns.{Here, known, id, with_stack, moves, goes_on, throws, throws_after, interval_of_id, narrowings, rows_over}
use Rattle.abs_turns.specs.Switches.{table_keys, lookup_keys, parts_of}
use Rattle.abs_turns.specs.Table.{types_here, place_under, cell_here, is_null_here, unless_null, accessed, local_here, step_if}
use Rattle.abs_turns.specs.Table.{store_plan, increment_plan, negation_plan, narrow_plan, switch_plan, jump_if, null_plan}
use Rattle.abs_turns.specs.Table.{equal_plan, field_id, getfield_plan, on_instance, put_slot, putfield_plan, bottom_of, bottom_with}
use Rattle.abs_turns.specs.Table.{static_local, getstatic_plan, put_static, putstatic_plan, new_plan, array_turn, natural, negative}
use Rattle.abs_turns.specs.Table.{array_plan, length_id, items_length_id, items_of, length_plan, in_bounds, out_of_bounds}
use Rattle.abs_turns.specs.Table.{access_of, number_load_plan, number_store_plan, aaload_plan, aastore_plan, Cast, checkcast_of}
use Rattle.abs_turns.specs.Table.{instanceof_of, with_bound, bounded, cell_bound, is_bound_below, may_be_below, is_known_cell}
use Rattle.abs_turns.specs.Table.{undecided, cast_plan, checkcast_plan, instanceof_plan, invokes, runs_or_lacks, receiver_of}
use Rattle.abs_turns.specs.Table.{special_plan, answered, selecting_plan, returned_to, value_plan, athrow_plan, binary, unary}
use Rattle.abs_turns.specs.Table.{row_of, taken_by, plan_of_form}
use Rattle.abs_turns.specs.Throwing.{takes, handled, is_open, caught_plan, if_passes, throwing_plan}
use Rattle.abs_turns.specs.GoodPlans.{IsThere, HoldsIds, IsChange, IsGoodAct, IsGoodTurn, IsGoodPlan}
use Rattle.abs_turns.proofs.OptionLists.{if_there}
use Rattle.abs_turns.proofs.SoundCells.{cell_sound}
use Rattle.abs_plans.proofs.Holding.{local_held, set_held, reordered}
use Rattle.abs_plans.proofs.WellFormed.{names_there}
use Rattle.abs_plans.proofs.GoodTurns as turns
use Rattle.abs_plans.proofs.SplitPlans.{all_taken, all_dropped, all_turned, got, first_or, given_set, ids_set, either, may_be}
use Rattle.abs_plans.proofs.SplitPlans.{need_null_good, split_below_good, need_class_good, tested_good, NamesClasses}

module _ (here : Here) (sound : IsSound (types_here here) here.state) (below_held : AllByRecursion (HoldsIds here.state) here.below)
    (held : HoldsIds here.state here.frame) where
  abbrev Types : WorldTypes
  Types = types_here here

  good : IsWellFormed here.state
  good = sound.well_formed

  abbrev Holds : ℕ → Type 0
  Holds = IsThere here.state

  abbrev Good : Turn → Type 0
  Good = IsGoodTurn Types here.state

  abbrev Fine : Plan → Type 0
  Fine = IsGoodPlan Types here.state

  goes : (place : ℕ) (stack : List ℕ) → AllByRecursion Holds stack → Good (goes_on here place stack)
  goes = turns.goes_good Types here below_held held

  stack_fine : (place : ℕ) (stack : List ℕ) → AllByRecursion Holds stack
      → AllByRecursion (HoldsIds here.state) (with_stack here place stack)
  stack_fine = turns.stack_held Types here below_held held

  thrown_one : (class : ℕ) → Fine (steps (throws here class ∷ []))
  thrown_one class = (turns.throws_good Types here below_held held [] no_rows class tt, tt)

  unless_null_fine : (x : ℕ) (plan : Plan) → Fine plan → Fine (unless_null here x plan)
  unless_null_fine x plan h = either Fine (is_null_here here x) _ plan (λ e. thrown_one _) (λ e. h)

  accessed_fine : (depth x : ℕ) (plan : Plan) → Fine plan → Fine (accessed here depth x plan)
  accessed_fine depth x plan h = need_null_good Types here.state x _
      (need_class_good Types here.state x (place_under here depth) _ (unless_null_fine x plan h))

  found_local : (n x : ℕ) → local_here here n ≡ Some x → Holds x
  found_local n x e =
      let m = then_some (λ (local : Option ℕ). local) (slice_get here.frame.locals n) x e in
      local_held Holds here.frame.locals n x held.locals (m.1.0 ∙ ap Some m.1.1)

  -- a step that pushes an id, if there is one
  pushed_fine : (found : Option ℕ) (stack : List ℕ) → ((x : ℕ) → found ≡ Some x → Holds x) → AllByRecursion Holds stack
      → Fine (step_if (option_map (λ x. goes_on here here.next (x ∷ stack)) found))
  pushed_fine found stack h s =
      if_there Good (option_map (λ x. goes_on here here.next (x ∷ stack)) found) (λ turn e.
      let m = map_some (λ (x : ℕ). goes_on here here.next (x ∷ stack)) found turn e in
      subst Good m.1.1 (goes here.next (m.0 ∷ stack) (h m.0 m.1.0, s)))

  store_fine : (n : ℕ) (stack : List ℕ) → AllByRecursion Holds stack → Fine (store_plan here n stack)
  store_fine n [] s = tt
  store_fine n (x ∷ stack) s = (
    turns.moves_good Types here below_held held _
        (turns.frames_held Types here below_held held here.next (slice_set here.frame.locals n (Some x)) stack
        (set_held Holds here.frame.locals n x held.locals s.0) s.1),
    tt,
  )

  increment_fine : (n : ℕ) (by : ℤ) (found : Option ℕ) → ((x : ℕ) → found ≡ Some x → Holds x) → Fine (increment_plan here n by found)
  increment_fine n by None h = tt
  increment_fine n by (Some x) h =
      turns.operator_good Types here below_held held Add (id x) (known by) (with_stack here here.next here.frame.stack) (in_local n)
      (h x refl) tt
      (stack_fine here.next here.frame.stack held.stack) (λ r narrowed. refl)

  negation_fine : (stack : List ℕ) → AllByRecursion Holds stack → Fine (negation_plan here stack)
  negation_fine [] s = tt
  negation_fine (a ∷ stack) s =
      turns.operator_good Types here below_held held Sub (known (pos 0)) (id a) (with_stack here here.next stack) on_stack tt s.0
      (stack_fine here.next stack s.1)
      (λ r narrowed. refl)

  narrow_fine : (kind : Kind) (stack : List ℕ) → AllByRecursion Holds stack → Fine (narrow_plan here kind stack)
  narrow_fine kind [] s = tt
  narrow_fine kind (a ∷ stack) s =
      turns.kinds_good Types here below_held held kind a (goes_on here here.next (a ∷ stack)) (with_stack here here.next stack)
      on_stack (goes here.next (a ∷ stack) s)
      (stack_fine here.next stack s.1) (λ r narrowed. refl)

  shuffle_fine : (shuffle : StackShuffle) → Fine (row_of here (Shuffle shuffle))
  shuffle_fine shuffle =
      if_there Good (option_map (goes_on here here.next) (shuffled shuffle here.frame.stack)) (λ turn e.
      let m = map_some (goes_on here here.next) (shuffled shuffle here.frame.stack) turn e in
      subst Good m.1.1 (goes here.next m.0 (reordered Holds shuffle here.frame.stack m.0 held.stack m.1.0)))

  switched_fine : (default : ℕ) (keys : List (ℤ × ℕ)) (stack : List ℕ) → AllByRecursion Holds stack
      → Fine (switch_plan here default keys stack)
  switched_fine default keys [] s = tt
  switched_fine default keys (a ∷ stack) s = turns.switch_good Types here below_held held a stack (parts_of default keys) s.0 s.1

  unary_fine : (stack : List ℕ) (plan : ℕ → List ℕ → Plan) → AllByRecursion Holds stack
      → ((a : ℕ) (rest : List ℕ) → Holds a → AllByRecursion Holds rest → Fine (plan a rest)) → Fine (unary stack plan)
  unary_fine [] plan s h = tt
  unary_fine (a ∷ rest) plan s h = h a rest s.0 s.1

  binary_fine : (stack : List ℕ) (plan : ℕ → ℕ → List ℕ → Plan) → AllByRecursion Holds stack
      → ((a b : ℕ) (rest : List ℕ) → Holds a → Holds b → AllByRecursion Holds rest → Fine (plan a b rest)) → Fine (binary stack plan)
  binary_fine [] plan s h = tt
  binary_fine (b ∷ []) plan s h = tt
  binary_fine (b ∷ a ∷ rest) plan s h = h a b rest s.1.0 s.0 s.1.1

  -- ---- references

  jump_fine : (wanted is : Bool) (place : ℕ) (stack : List ℕ) → AllByRecursion Holds stack → Fine (jump_if here wanted is place stack)
  jump_fine wanted is place stack s = (goes _ stack s, tt)

  null_fine : (wanted : Bool) (place : ℕ) (stack : List ℕ) → AllByRecursion Holds stack → Fine (null_plan here wanted place stack)
  null_fine wanted place [] s = tt
  null_fine wanted place (a ∷ stack) s = need_null_good Types here.state a _ (jump_fine wanted (is_null_here here a) place stack s.1)

  equal_fine : (wanted : Bool) (place : ℕ) (stack : List ℕ) → AllByRecursion Holds stack → Fine (equal_plan here wanted place stack)
  equal_fine wanted place [] s = tt
  equal_fine wanted place (b ∷ []) s = tt
  equal_fine wanted place (b ∷ a ∷ stack) s =
      either Fine (a == b) _ _ (λ e. jump_fine wanted true place stack s.1.1) (λ apart.
      need_null_good Types here.state a _ (need_null_good Types here.state b _ (
      either Fine (is_null_here here a && is_null_here here b) _ _ (λ e. jump_fine wanted true place stack s.1.1) (λ e.
      either Fine (is_null_here here a || is_null_here here b) _ _ (λ f. jump_fine wanted false place stack s.1.1) (λ f.
      either Fine (has a b here.state.eq) (by_equal a b) _ (λ h. (h, eqb-false a b apart))
      (λ h. jump_fine wanted false place stack s.1.1))))))

  -- ---- fields

  named : (x : ℕ) (c : Cell) → cell_at here.state x ≡ Some c → AllByRecursion Holds (ids_in c)
  named x c e = names_there here.state good x c e

  field_held : (k place x : ℕ) (found : Option Cell) → cell_at here.state k ≡ found → field_id found place ≡ Some x → Holds x
  field_held k place x None e f = absurd (none-some x f)
  field_held k place x (Some (cells.Int interval)) e f = absurd (none-some x f)
  field_held k place x (Some cells.Null) e f = absurd (none-some x f)
  field_held k place x (Some (cells.Obj class ids)) e f = got Holds ids place x (named k (cells.Obj class ids) e) f
  field_held k place x (Some (cells.Nums kind len)) e f = absurd (none-some x f)
  field_held k place x (Some (cells.Refs element len shape)) e f = absurd (none-some x f)
  field_held k place x (Some (cells.Unk bound nullable shape)) e f = absurd (none-some x f)

  getfield_fine : (used : FieldUse) (stack : List ℕ) → AllByRecursion Holds stack → Fine (getfield_plan here used stack)
  getfield_fine used [] s = tt
  getfield_fine used (k ∷ stack) s = accessed_fine 0 k _
      (pushed_fine (field_id (cell_here here k) used.place) stack (λ x. field_held k used.place x (cell_here here k) refl) s.1)

  put_fine : (slot : Slot) (k place x : ℕ) (stack : List ℕ) → Holds k → Holds x → AllByRecursion Holds stack → (class : ℕ) (ids : List ℕ)
      → cell_at here.state k ≡ Some (cells.Obj class ids) → Fine (put_slot here slot k place x stack class ids)
  put_fine (slots.Num kind) k place x stack hk hx s class ids e =
      turns.kinds_good Types here below_held held kind x
      (record (moves (with_stack here here.next stack)) { changed = (k, cells.Obj class (slice_set ids place x)) ∷ [] })
      (with_stack here here.next stack)
      (in_field k place)
      (record {
        changed = (
          record {
            old = record { cell = cells.Obj class ids; is = e; sort_is = refl };
            names = ids_set Holds ids place x
                (named k (cells.Obj class ids) e) hx;
          },
          tt,
        );
        frames = stack_fine here.next stack s;
        thrown = tt;
        act = tt;
      })
      (stack_fine here.next stack s) (λ r narrowed. refl)
  put_fine (slots.Ref t) k place x stack hk hx s class ids e =
      (record { changed = tt; frames = stack_fine here.next stack s; thrown = tt; act = (hk, hx) }, tt)

  on_instance_fine : (k : ℕ) (found : Option Cell) (plan : ℕ → List ℕ → Plan)
      → ((class : ℕ) (ids : List ℕ) → found ≡ Some (cells.Obj class ids) → Fine (plan class ids))
      → Fine (on_instance found plan)
  on_instance_fine k None plan h = tt
  on_instance_fine k (Some (cells.Int interval)) plan h = tt
  on_instance_fine k (Some cells.Null) plan h = tt
  on_instance_fine k (Some (cells.Obj class ids)) plan h = h class ids refl
  on_instance_fine k (Some (cells.Nums kind len)) plan h = tt
  on_instance_fine k (Some (cells.Refs element len shape)) plan h = tt
  on_instance_fine k (Some (cells.Unk bound nullable shape)) plan h = tt

  putfield_fine : (used : FieldUse) (stack : List ℕ) → AllByRecursion Holds stack → Fine (putfield_plan here used stack)
  putfield_fine used [] s = tt
  putfield_fine used (x ∷ []) s = tt
  putfield_fine used (x ∷ k ∷ stack) s = accessed_fine 1 k _
      (on_instance_fine k (cell_here here k) _ (put_fine used.slot k used.place x stack s.1.0 s.0 s.1.1))

  -- ---- static fields

  bottom_held : HoldsIds here.state (bottom_of here)
  bottom_held = first_or (HoldsIds here.state) (reverse (here.frame ∷ here.below)) here.frame
      (all_turned (HoldsIds here.state) (here.frame ∷ here.below) (held, below_held)) held

  getstatic_fine : (place : ℕ) → Fine (getstatic_plan here place)
  getstatic_fine place =
      pushed_fine (option_and_then (λ local. local) (slice_get (bottom_of here).locals (static_local here place))) here.frame.stack (λ x e.
      let m = then_some (λ (local : Option ℕ). local) (slice_get (bottom_of here).locals (static_local here place)) x e in
      local_held Holds (bottom_of here).locals (static_local here place) x bottom_held.locals (m.1.0 ∙ ap Some m.1.1)) held.stack

  bottom_set : (n x : ℕ) (frames : List AbstractFrame) → Holds x → AllByRecursion (HoldsIds here.state) frames
      → AllByRecursion (HoldsIds here.state) (bottom_with n x frames)
  bottom_set n x [] h a = tt
  bottom_set n x (frame ∷ []) h a = (record { locals = set_held Holds frame.locals n x a.0.locals h; stack = a.0.stack }, tt)
  bottom_set n x (frame ∷ next ∷ rest) h a = (a.0, bottom_set n x (next ∷ rest) h a.1)

  put_static_fine : (slot : Slot) (n x : ℕ) (stack : List ℕ) → Holds x → AllByRecursion Holds stack → Fine (put_static here slot n x stack)
  put_static_fine (slots.Num kind) n x stack h s =
      turns.kinds_good Types here below_held held kind x (moves (bottom_with n x (with_stack here here.next stack)))
      (with_stack here here.next stack) (in_bottom n)
      (turns.moves_good Types here below_held held _
      (bottom_set n x (with_stack here here.next stack) h (stack_fine here.next stack s))) (stack_fine here.next stack s)
      (λ r narrowed. refl)
  put_static_fine (slots.Ref t) n x stack h s = (
    turns.moves_good Types here below_held held _
        (bottom_set n x (with_stack here here.next stack) h (stack_fine here.next stack s)),
    tt,
  )

  putstatic_fine : (place : ℕ) (stack : List ℕ) → AllByRecursion Holds stack → Fine (putstatic_plan here place stack)
  putstatic_fine place [] s = tt
  putstatic_fine place (x ∷ stack) s = may_be Fine _ (slice_get here.program.statics place)
      (λ field e. put_static_fine field.slot (static_local here place) x stack s.0 s.1) tt

  -- ---- objects and arrays

  new_fine : (t : Ty) (class : ℕ) → t ≡ class_type class → class < Types.classes → Fine (new_plan here t)
  new_fine t class e l =
      subst (λ (u : Ty). Fine (new_plan here u)) (sym e)
      (record { changed = tt; frames = stack_fine here.next here.frame.stack held.stack; thrown = tt; act = l }, tt)

  option_good : {X : Type 0} (f : X → Turn) (o : Option X) → ((x : X) → Good (f x)) → AllByRecursion Good (option_to_list (option_map f o))
  option_good f None h = tt
  option_good f (Some x) h = (h x, tt)

  -- an int that is narrowed before a throw
  narrowed_thrown : (x class : ℕ) → Holds x → (met : Option Bounds)
      → AllByRecursion Good (option_to_list (option_map (λ both. throws_after here ((x, cells.Int both) ∷ []) no_rows class) met))
  narrowed_thrown x class h met =
      option_good (λ both. throws_after here ((x, cells.Int both) ∷ []) no_rows class) met
      (λ both. turns.throws_good Types here below_held held ((x, cells.Int both) ∷ []) no_rows class
      (turns.narrow_one Types here below_held held x both h, tt))

  array_fine : (slot : Slot) (stack : List ℕ) → AllByRecursion Holds stack → Fine (array_plan here slot stack)
  array_fine slot [] s = tt
  array_fine slot (count ∷ stack) s =
      all_joined Good _ _
      (option_good (array_turn here slot count stack) (meet_of (interval_of_id here.state count) natural)
      (λ both. record {
        changed = (turns.narrow_one Types here below_held held count both s.0, tt);
        frames = stack_fine here.next
            stack s.1;
        thrown = tt;
        act = s.0;
      }))
      (narrowed_thrown count negative_array_size_exception s.0 (meet_of (interval_of_id here.state count) negative))

  length_held : (k len : ℕ) (found : Option Cell) → cell_at here.state k ≡ found → length_id found ≡ Some len → Holds len
  length_held k len None e f = absurd (none-some len f)
  length_held k len (Some (cells.Int interval)) e f = absurd (none-some len f)
  length_held k len (Some cells.Null) e f = absurd (none-some len f)
  length_held k len (Some (cells.Obj class ids)) e f = absurd (none-some len f)
  length_held k len (Some (cells.Nums kind n)) e f = subst Holds (some_is f) (named k (cells.Nums kind n) e).0
  length_held k len (Some (cells.Refs element n shape)) e f = subst Holds (some_is f) (named k (cells.Refs element n shape) e).0
  length_held k len (Some (cells.Unk bound nullable shape)) e f = absurd (none-some len f)

  length_fine : (stack : List ℕ) → AllByRecursion Holds stack → Fine (length_plan here stack)
  length_fine [] s = tt
  length_fine (k ∷ stack) s = accessed_fine 0 k _
      (pushed_fine (length_id (cell_here here k)) stack (λ len. length_held k len (cell_here here k) refl) s.1)

  -- what an index and a length are narrowed to
  abbrev AreChanges : List (ℕ × Cell) → Type 0
  AreChanges = AllByRecursion (IsChange here.state)

  -- two intervals to which they are narrowed
  pub record AreInside (index len : ℕ) (narrowed : List (ℕ × Cell)) : Type 0 where
    pub left : Bounds
    pub right : Bounds
    pub are : narrowings (id index) left (id len) right ≡ Some narrowed

  abbrev rows_of_case : ℕ → ℕ → IntCase → List (ℕ × Cell) → List (ℕ × Cell) × (ℕ → List LinkRow)
  rows_of_case index len case narrowed = (narrowed, rows_over (id index) (id len) case.rows)

  abbrev case_inside : ℕ → ℕ → IntCase → Option (List (ℕ × Cell) × (ℕ → List LinkRow))
  case_inside index len case = option_map (rows_of_case index len case) (narrowings (id index) case.left (id len) case.right)

  abbrev cases_inside : ℕ → ℕ → Bounds → Option (List (ℕ × Cell) × (ℕ → List LinkRow))
  cases_inside index len i = option_and_then (case_inside index len) (related Below Taken i (interval_of_id here.state len))

  are_inside : (index len : ℕ) (inside : List (ℕ × Cell) × (ℕ → List LinkRow)) → in_bounds here index len ≡ Some inside
      → AreInside index len inside.0
  are_inside index len inside e =
      let a = then_some (cases_inside index len) (meet_of (interval_of_id here.state index) natural) inside e in
      let b = then_some (case_inside index len) (related Below Taken a.0 (interval_of_id here.state len)) inside a.1.1 in
      let m = map_some (rows_of_case index len b.0) (narrowings (id index) b.0.left (id len) b.0.right) inside b.1.1 in
      subst (λ (x : List (ℕ × Cell) × (ℕ → List LinkRow)). AreInside index len x.0) m.1.1
      (record { left = b.0.left; right = b.0.right; are = m.1.0 })

  inside_changes : (index len : ℕ) (narrowed : List (ℕ × Cell)) → Holds index → Holds len → AreInside index len narrowed
      → AreChanges narrowed
  inside_changes index len narrowed hi hl a = turns.are_narrowed Types here below_held held (id index) (id len) hi hl a.left a.right
      narrowed a.are

  -- an id that is neither isn't narrowed
  one_other : (k index : ℕ) (cell : Cell) (rest : List (ℕ × Cell)) → (k ≡ index → ⊥) → cell_in ((index, cell) ∷ rest) k ≡ cell_in rest k
  one_other k index cell rest n = ap (λ (x : Bool). if x then Some cell else cell_in rest k) (ne_eqb index k (λ same. n (sym same)))

  narrowed_other : (k index len : ℕ) → (k ≡ index → ⊥) → (k ≡ len → ⊥)
      → (same : Bool) (met : Option Bounds) (a b : Bounds) (list : List (ℕ × Cell))
      → (if same then option_map (λ both. (index, cells.Int both) ∷ []) met else Some
      ((index, cells.Int a) ∷ (len, cells.Int b) ∷ [])) ≡ Some list
      → cell_in list k ≡ None
  narrowed_other k index len i l true None a b list e = absurd (none-some list e)
  narrowed_other k index len i l true (Some both) a b list e = ap (λ (xs : List (ℕ × Cell)). cell_in xs k) (sym (some_is e))
      ∙ one_other k index (cells.Int both) [] i
  narrowed_other k index len i l false met a b list e =
      ap (λ (xs : List (ℕ × Cell)). cell_in xs k) (sym (some_is e)) ∙ one_other k index (cells.Int a) ((len, cells.Int b) ∷ []) i
      ∙ one_other k len (cells.Int b) [] l

  inside_others : (index len : ℕ) (narrowed : List (ℕ × Cell)) → AreInside index len narrowed → (other : ℕ) → (other ≡ index → ⊥)
      → (other ≡ len → ⊥) → cell_in narrowed other ≡ None
  inside_others index len narrowed a other i l = narrowed_other other index len i l (index == len) (meet_of a.left a.right) a.left
      a.right narrowed a.are

  -- an index that isn't within the length
  abbrev past_turn : ℕ → ℕ → IntCase → List (ℕ × Cell) → Turn
  past_turn index len case narrowed = throws_after here narrowed (rows_over (id index) (id len) case.rows)
      array_index_out_of_bounds_exception

  abbrev past_of_case : ℕ → ℕ → IntCase → Option Turn
  past_of_case index len case = option_map (past_turn index len case) (narrowings (id index) case.left (id len) case.right)

  past_good : (index len : ℕ) → Holds index → Holds len → (cases : Option IntCase) (turn : Turn)
      → option_and_then (past_of_case index len) cases ≡ Some turn → Good turn
  past_good index len hi hl cases turn e =
      let a = then_some (past_of_case index len) cases turn e in
      let m = map_some (past_turn index len a.0) (narrowings (id index) a.0.left (id len) a.0.right) turn a.1.1 in
      let changes = turns.are_narrowed Types here below_held held (id index) (id len) hi hl a.0.left a.0.right m.0 m.1.0 in
      subst Good m.1.1 (turns.throws_good Types here below_held held m.0 (rows_over (id index) (id len) a.0.rows)
      array_index_out_of_bounds_exception changes)

  outside_good : (index len : ℕ) → Holds index → Holds len → AllByRecursion Good (out_of_bounds here index len)
  outside_good index len hi hl =
      all_joined Good _ _
      (narrowed_thrown index array_index_out_of_bounds_exception hi (meet_of (interval_of_id here.state index) negative))
      (if_there Good _ (past_good index len hi hl
      (related AtLeast Taken (interval_of_id here.state index) (interval_of_id here.state len))))

  access_fine : (depth k index : ℕ) (length : Option ℕ) (good_turns : List (ℕ × Cell) → (ℕ → List LinkRow) → List Turn) → Holds index
      → ((len : ℕ) → length ≡ Some len → Holds len)
      → ((len : ℕ) → length ≡ Some len → (narrowed : List (ℕ × Cell)) (rows : ℕ → List LinkRow) → AreChanges narrowed
      → ((other : ℕ) → (other ≡ index → ⊥) → (other ≡ len → ⊥) → cell_in narrowed other ≡ None)
      → AllByRecursion Good (good_turns narrowed rows))
      → Fine (access_of here depth k index length good_turns)
  access_fine depth k index length good_turns hi hl h =
      accessed_fine depth k _ (may_be Fine _ length (λ len e.
      all_joined Good _ _ (inside len e (in_bounds here index len) refl) (outside_good index len hi (hl len e))) tt)
    where
      inside : (len : ℕ) → length ≡ Some len → (found : Option (List (ℕ × Cell) × (ℕ → List LinkRow))) → in_bounds here index len ≡ found
          → AllByRecursion Good (option_map_or (λ inside. good_turns inside.0 inside.1) found [])
      inside len e None f = tt
      inside len e (Some i) f =
          let a = are_inside index len i f in
          h len e i.0 i.1 (inside_changes index len i.0 hi (hl len e) a) (inside_others index len i.0 a)

  any_length : (k : ℕ) (len : ℕ) → length_id (cell_here here k) ≡ Some len → Holds len
  any_length k len e = length_held k len (cell_here here k) refl e

  -- an array of references whose item is read at an index: its cell isn't one of those that are narrowed
  pub record IsItems (k len : ℕ) : Type 0 where
    pub there : Holds len
    pub array : HasCell is_array_of_references here.state k
    pub apart : k ≡ len → ⊥

  not_int : (k len : ℕ) (c : Cell) → cell_at here.state k ≡ Some c → is_int c ≡ false → HasCell is_int here.state len → k ≡ len → ⊥
  not_int k len c e n h same = false≢true (sym n ∙ ap (is_of_sort is_int) (sym e ∙ ap (cell_at here.state) same ∙ h.is) ∙ h.sort_is)

  items_are : (k len : ℕ) (found : Option Cell) → cell_at here.state k ≡ found → items_length_id found ≡ Some len → IsItems k len
  items_are k len None e f = absurd (none-some len f)
  items_are k len (Some (cells.Int interval)) e f = absurd (none-some len f)
  items_are k len (Some cells.Null) e f = absurd (none-some len f)
  items_are k len (Some (cells.Obj class ids)) e f = absurd (none-some len f)
  items_are k len (Some (cells.Nums kind n)) e f = absurd (none-some len f)
  items_are k len (Some (cells.Refs element n shape)) e f = record {
    there = subst Holds (some_is f) (named k (cells.Refs element n shape) e).0;
    array = record { cell = cells.Refs element n shape; is = e; sort_is = refl };
    apart = λ same. not_int k n (cells.Refs element n shape) e refl
        (cell_sound Types here.state sound k (cells.Refs element n shape) e).0 (same ∙ sym (some_is f));
  }
  items_are k len (Some (cells.Unk bound nullable shape)) e f = absurd (none-some len f)

  items_at : (k index len : ℕ) → items_of here k index ≡ Some len → (k ≡ index → ⊥) × IsItems k len
  items_at k index len e = at (k == index) refl e
    where
      at : (b : Bool) → eqb k index ≡ b → (if b then None else items_length_id (cell_here here k)) ≡ Some len
          → (k ≡ index → ⊥) × IsItems k len
      at true f h = absurd (none-some len h)
      at false f h = (eqb-false k index f, items_are k len (cell_here here k) refl h)

  number_load_fine : (stack : List ℕ) → AllByRecursion Holds stack → Fine (number_load_plan here stack)
  number_load_fine [] s = tt
  number_load_fine (index ∷ []) s = tt
  number_load_fine (index ∷ k ∷ stack) s =
      access_fine 1 k index (length_id (cell_here here k)) _ s.0 (any_length k)
      (λ len e narrowed rows n o. (record { changed = n; frames = stack_fine here.next stack s.1.1; thrown = tt; act = refl }, tt))

  number_store_fine : (stack : List ℕ) → AllByRecursion Holds stack → Fine (number_store_plan here stack)
  number_store_fine [] s = tt
  number_store_fine (value ∷ []) s = tt
  number_store_fine (value ∷ index ∷ []) s = tt
  number_store_fine (value ∷ index ∷ k ∷ stack) s =
      access_fine 2 k index (length_id (cell_here here k)) _ s.1.0 (any_length k)
      (λ len e narrowed rows n o. (record { changed = n; frames = stack_fine here.next stack s.1.1.1; thrown = tt; act = tt }, tt))

  aaload_fine : (stack : List ℕ) → AllByRecursion Holds stack → Fine (aaload_plan here stack)
  aaload_fine [] s = tt
  aaload_fine (index ∷ []) s = tt
  aaload_fine (index ∷ k ∷ stack) s = access_fine 1 k index (items_of here k index) _ s.0
      (λ len e. (items_at k index len e).1.there) (λ len e narrowed rows n o.
      let i = items_at k index len e in
      (record { changed = n; frames = stack_fine here.next stack s.1.1; thrown = tt; act = (i.1.array, o k i.0 i.1.apart) }, tt))

  if_good : (b : Bool) (turn : Turn) → Good turn → AllByRecursion Good (if b then [] else turn ∷ [])
  if_good true turn h = tt
  if_good false turn h = (h, tt)

  aastore_fine : (stack : List ℕ) → AllByRecursion Holds stack → Fine (aastore_plan here stack)
  aastore_fine [] s = tt
  aastore_fine (value ∷ []) s = tt
  aastore_fine (value ∷ index ∷ []) s = tt
  aastore_fine (value ∷ index ∷ k ∷ stack) s = access_fine 2 k index (length_id (cell_here here k)) _ s.1.0 (any_length k)
      (λ len e narrowed rows n o. (
        record { changed = n; frames = stack_fine here.next stack s.1.1.1; thrown = tt; act = (s.1.1.0, s.0) },
        if_good (is_null_here here value) _ (turns.throws_good Types here below_held held narrowed rows _ n),
      ))

  -- ---- casts

  pub record IsGoodCast (cast : Cast) : Type 0 where
    pub passed : Good cast.passed
    pub any_change : (changed : List (ℕ × Cell)) → IsGoodAct Types here.state changed cast.passed.act cast.passed.goal
    pub failed : Good cast.failed
    pub null : Good cast.null

  bound_good : (x : ℕ) (cell : Option Cell) (turn : Turn) → ((c : Cell) → cell ≡ Some c → IsChange here.state (x, c)) → Good turn
      → ((changed : List (ℕ × Cell)) → IsGoodAct Types here.state changed turn.act turn.goal) → Good (with_bound x cell turn)
  bound_good x None turn h g a = g
  bound_good x (Some cell) turn h g a = record
      { changed = (h cell refl, tt); frames = g.frames; thrown = g.thrown; act = a ((x, cell) ∷ []) }

  unknown_bounded : (t : Ty) (b : Bool) (x : ℕ) (bound : Ty) (nullable : Bool) (shape : Shape) (c : Cell)
      → cell_at here.state x ≡ Some (cells.Unk bound nullable shape)
      → (if b then Some (cells.Unk t nullable shape) else None) ≡ Some c → IsChange here.state (x, c)
  unknown_bounded t true x bound nullable shape c e f =
      subst (λ (d : Cell). IsChange here.state (x, d)) (some_is f)
      (record { old = record { cell = cells.Unk bound nullable shape; is = e; sort_is = refl }; names = tt })
  unknown_bounded t false x bound nullable shape c e f = absurd (none-some c f)

  bounded_change : (t : Ty) (x : ℕ) (found : Option Cell) (c : Cell) → cell_at here.state x ≡ found
      → option_and_then (bounded Types t) found ≡ Some c → IsChange here.state (x, c)
  bounded_change t x None c e f = absurd (none-some c f)
  bounded_change t x (Some (cells.Int interval)) c e f = absurd (none-some c f)
  bounded_change t x (Some cells.Null) c e f = absurd (none-some c f)
  bounded_change t x (Some (cells.Obj class ids)) c e f = absurd (none-some c f)
  bounded_change t x (Some (cells.Nums kind len)) c e f = absurd (none-some c f)
  bounded_change t x (Some (cells.Refs element len shape)) c e f = absurd (none-some c f)
  bounded_change t x (Some (cells.Unk bound nullable shape)) c e f = unknown_bounded t _ x bound nullable shape c e f

  if_first : (b : Bool) (turn : Turn) → Good turn → AllByRecursion Good (if b then turn ∷ [] else [])
  if_first true turn h = (h, tt)
  if_first false turn h = tt

  undecided_good : (t : Ty) (x : ℕ) (cast : Cast) → IsGoodCast cast → AllByRecursion Good (undecided here t x cast)
  undecided_good t x cast g =
      all_joined Good _ _
      (if_first (may_be_below here t (cell_bound (cell_here here x))) _
      (bound_good x (option_and_then (bounded Types (Types.erase t)) (cell_here here x)) cast.passed
      (λ c. bounded_change (Types.erase t) x (cell_here here x) c refl) g.passed g.any_change)) (g.failed, tt)

  cast_fine : (t : Ty) (x : ℕ) (asks : Bool) (cast : Cast) → IsGoodCast cast → Fine (cast_plan here t x asks cast)
  cast_fine t x asks cast g =
      either Fine (is_null_here here x) _ _ (λ e. (g.null, tt)) (λ e.
      either Fine (is_bound_below here t (cell_bound (cell_here here x))) _ _ (λ f.
      either Fine asks _ _ (λ a. need_null_good Types here.state x _ (g.passed, tt)) (λ a. (g.passed, tt))) (λ f.
      need_null_good Types here.state x _
      (either Fine (is_known_cell (cell_here here x)) _ _ (λ k. (g.failed, tt)) (λ k. undecided_good t x cast g))))

  checkcast_fine : (t : Ty) (stack : List ℕ) → AllByRecursion Holds stack → Fine (checkcast_plan here t stack)
  checkcast_fine t [] s = tt
  checkcast_fine t (x ∷ stack) s =
      cast_fine t x false (checkcast_of here (x ∷ stack)) (record {
        passed = goes here.next (x ∷ stack) s;
        any_change = λ changed. tt;
        failed = turns.throws_good Types here below_held held [] no_rows _ tt;
        null = goes here.next (x ∷ stack) s;
      })

  instanceof_fine : (t : Ty) (stack : List ℕ) → AllByRecursion Holds stack → Fine (instanceof_plan here t stack)
  instanceof_fine t [] s = tt
  instanceof_fine t (x ∷ stack) s =
      cast_fine t x true (instanceof_of here stack) (record {
        passed = turns.int_pushed Types here below_held held (just (pos 1)) stack s.1;
        any_change = λ changed. refl;
        failed = turns.int_pushed Types here below_held held (just (pos 0)) stack s.1;
        null = turns.int_pushed Types here below_held held (just (pos 0)) stack s.1;
      })

  -- ---- calls and returns

  invokes_fine : (count number : ℕ) → Fine (invokes here count number)
  invokes_fine count number =
      may_be Fine _ (slice_get here.program.methods number) (λ m e. (
        turns.moves_good Types here below_held held _ (
          record {
            locals = given_set Holds (reverse (take count here.frame.stack)) _
                (all_turned Holds (take count here.frame.stack) (all_taken Holds count here.frame.stack held.stack));
            stack = tt;
          },
          stack_fine here.frame.pc (drop count here.frame.stack) (all_dropped Holds count here.frame.stack held.stack),
        ),
        tt,
      )) tt

  runs_fine : (count : ℕ) (target : Option ℕ) → Fine (runs_or_lacks here count target)
  runs_fine count None = thrown_one _
  runs_fine count (Some number) = invokes_fine count number

  special_fine : (call : Call) → Fine (special_plan here call)
  special_fine call = may_be Fine _ (receiver_of here call)
      (λ x e. need_null_good Types here.state x _ (unless_null_fine x _ (runs_fine (length call.params + 1) call.target))) tt

  answered_fine : (count : ℕ) (answer : Option Selected) → Fine (answered here count answer)
  answered_fine count None = tt
  answered_fine count (Some (answers.Method number)) = invokes_fine count number
  answered_fine count (Some answers.Abstract) = thrown_one _
  answered_fine count (Some answers.NoInterface) = thrown_one _

  selecting_fine : (op : Op) (call : Call) → Fine (selecting_plan here op call)
  selecting_fine op call = may_be Fine _ (receiver_of here call)
      (λ x e. accessed_fine (length call.params) x _ (answered_fine (length call.params + 1) _)) tt

  value_held : (value : Option ℕ) (stack : List ℕ) → ((x : ℕ) → value ≡ Some x → Holds x) → AllByRecursion Holds stack
      → AllByRecursion Holds (option_to_list value ++ stack)
  value_held None stack h s = s
  value_held (Some x) stack h s = (h x refl, s)

  returned_fine : (value : Option ℕ) → ((x : ℕ) → value ≡ Some x → Holds x) → (below : List AbstractFrame)
      → AllByRecursion (HoldsIds here.state) below
      → Fine (returned_to here value below)
  returned_fine value h [] b = tt
  returned_fine value h (caller ∷ below) b =
      if_there Good _ (λ turn e.
      let m = map_some (λ (place : ℕ). moves (record caller { pc = place; stack = option_to_list value ++ caller.stack } ∷ below))
      (option_and_then (λ found. found.1) (insn_at here.program.methods caller.method caller.pc)) turn e in
      subst Good m.1.1 (turns.moves_good Types here below_held held _
      (record { locals = b.0.locals; stack = value_held value caller.stack h b.0.stack }, b.1)))

  value_fine : (stack : List ℕ) → AllByRecursion Holds stack → Fine (value_plan here stack)
  value_fine [] s = tt
  value_fine (x ∷ stack) s = returned_fine (Some x) (λ y e. subst Holds (some_is e) s.0) here.below below_held

  athrow_fine : (stack : List ℕ) → AllByRecursion Holds stack → Fine (athrow_plan here stack)
  athrow_fine [] s = tt
  athrow_fine (x ∷ stack) s =
      need_null_good Types here.state x _
      (unless_null_fine x _ (record { changed = tt; frames = stack_fine here.frame.pc [] tt; thrown = (s.0, tt); act = tt }, tt))

  -- ---- the table

  pub row_fine : (form : Form) → NamesClasses Types form → Fine (row_of here form)
  row_fine Nop n = (goes here.next here.frame.stack held.stack, tt)
  row_fine AconstNull n = (turns.null_pushed Types here below_held held here.frame.stack held.stack, tt)
  row_fine (Iconst k) n = (turns.int_pushed Types here below_held held (just k) here.frame.stack held.stack, tt)
  row_fine (Iload k) n = pushed_fine (local_here here k) here.frame.stack (found_local k) held.stack
  row_fine (Aload k) n = pushed_fine (local_here here k) here.frame.stack (found_local k) held.stack
  row_fine (Istore k) n = store_fine k here.frame.stack held.stack
  row_fine (Astore k) n = store_fine k here.frame.stack held.stack
  row_fine (Iinc k by) n = increment_fine k by (local_here here k) (found_local k)
  row_fine (Shuffle shuffle) n = shuffle_fine shuffle
  row_fine (Arith op) n =
      binary_fine here.frame.stack _ held.stack
      (λ a b rest ha hb s. turns.operator_good Types here below_held held op (id a) (id b) (with_stack here here.next rest) on_stack
      ha hb (stack_fine here.next rest s)
      (λ r narrowed. refl))
  row_fine Ineg n = negation_fine here.frame.stack held.stack
  row_fine (Narrow kind) n = narrow_fine kind here.frame.stack held.stack
  row_fine (If cond place) n =
      unary_fine here.frame.stack _ held.stack
      (λ a rest ha s. turns.branches_good Types here below_held held cond (id a) (known (pos 0)) place rest false ha tt s)
  row_fine (IfIcmp cond place) n =
      binary_fine here.frame.stack _ held.stack
      (λ a b rest ha hb s. turns.branches_good Types here below_held held cond (id a) (id b) place rest true ha hb s)
  row_fine (IfAcmpeq place) n = equal_fine true place here.frame.stack held.stack
  row_fine (IfAcmpne place) n = equal_fine false place here.frame.stack held.stack
  row_fine (Ifnull place) n = null_fine true place here.frame.stack held.stack
  row_fine (Ifnonnull place) n = null_fine false place here.frame.stack held.stack
  row_fine (Goto place) n = (goes place here.frame.stack held.stack, tt)
  row_fine (Tableswitch default low targets) n = switched_fine default (table_keys low targets) here.frame.stack held.stack
  row_fine (Lookupswitch default cases) n = switched_fine default (lookup_keys cases) here.frame.stack held.stack
  row_fine Ireturn n = value_fine here.frame.stack held.stack
  row_fine Areturn n = value_fine here.frame.stack held.stack
  row_fine Return n = returned_fine None (λ y e. absurd (none-some y e)) here.below below_held
  row_fine (Getstatic place) n = getstatic_fine place
  row_fine (Putstatic place) n = putstatic_fine place here.frame.stack held.stack
  row_fine (Getfield used) n = getfield_fine used here.frame.stack held.stack
  row_fine (Putfield used) n = putfield_fine used here.frame.stack held.stack
  row_fine (Invokevirtual call) n = selecting_fine _ call
  row_fine (Invokespecial call) n = special_fine call
  row_fine (Invokestatic call) n = may_be Fine _ call.target (λ number e. invokes_fine (length call.params) number) tt
  row_fine (Invokeinterface call) n = selecting_fine _ call
  row_fine (New t) n = new_fine t n.0 n.1.0 n.1.1
  row_fine (Newarray kind) n = array_fine (slots.Num kind) here.frame.stack held.stack
  row_fine (Anewarray t) n = array_fine (slots.Ref t) here.frame.stack held.stack
  row_fine Arraylength n = length_fine here.frame.stack held.stack
  row_fine (NumberLoad for) n = number_load_fine here.frame.stack held.stack
  row_fine Aaload n = aaload_fine here.frame.stack held.stack
  row_fine (NumberStore for) n = number_store_fine here.frame.stack held.stack
  row_fine Aastore n = aastore_fine here.frame.stack held.stack
  row_fine Athrow n = athrow_fine here.frame.stack held.stack
  row_fine (Checkcast t) n = checkcast_fine t here.frame.stack held.stack
  row_fine (Instanceof t) n = instanceof_fine t here.frame.stack held.stack

  pub form_fine : (form : Form) → NamesClasses Types form → Fine (plan_of_form here form)
  form_fine form n = tested_good Types here.state (operands_of (taken_by form) here.places here.frame.stack) (row_of here form)
      (row_fine form n)

-- ---- throwing

module _ (types : WorldTypes) (state : AbstractState) (x : ℕ) (there : IsThere state x) (frame : AbstractFrame)
    (held : HoldsIds state frame) (below : List AbstractFrame) (below_held : AllByRecursion (HoldsIds state) below) where
  handled_fine : (rest : List AbstractFrame) → AllByRecursion (HoldsIds state) rest → (range : Option CatchRange)
      → IsGoodPlan types state (handled x frame rest range)
  handled_fine rest b (Some range) =
      (record { changed = tt; frames = (record { locals = held.locals; stack = (there, tt) }, b); thrown = tt; act = tt }, tt)
  handled_fine [] b None = tt
  handled_fine (caller ∷ rest) b None =
      (record { changed = tt; frames = (record { locals = b.0.locals; stack = tt }, b.1); thrown = (there, tt); act = tt }, tt)

  caught_fine : (ranges : List CatchRange) → IsGoodPlan types state (caught_plan types state x frame below ranges)
  caught_fine ranges =
      either (IsGoodPlan types state) (is_open types state x ranges) _ _
      (λ e. split_below_good types state x (places.Ref (class_type throwable)) (and_parts (is_unknown (cell_at state x)) _ e).0)
      (λ e. handled_fine below below_held (find (takes types state x) ranges))

  if_passes_fine : (passing : Passing) (plan : Plan) → IsGoodPlan types state plan → IsGoodPlan types state (if_passes passing plan)
  if_passes_fine passes plan h = h
  if_passes_fine fails plan h = tt
  if_passes_fine splits plan h = tt

  pub throwing_fine : (table : List CatchRange) → IsGoodPlan types state (throwing_plan types state x frame below table)
  throwing_fine table = if_passes_fine _ _ (caught_fine _)
