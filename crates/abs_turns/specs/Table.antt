-- What becomes of an abstract state at an instruction: one equation for each form (JVM specification, section 6.5).
use Rattle.std.specs.Prelude.{ℕ, ℤ, pos, negsuc, ◌+◌, ◌-◌, ◌==◌, Bool, true, false, not, ◌&&◌, ◌||◌, if◌then◌else◌, List, [], ◌∷◌}
use Rattle.std.specs.Prelude.{◌++◌, length, reverse, take, drop, slice_get, slice_set, slice_index_or, Option, Some, None}
use Rattle.std.specs.List.{filter_map}
use Rattle.std.specs.Option.{option_map, option_and_then, option_map_or, option_to_list}
use Rattle.abs_cells.specs.lin_core.Intervals.{Bounds}
use Rattle.jvm_values.specs.declared.ints.IntOp.TheVariants.{Add, Sub}
use Rattle.jvm_values.specs.declared.types.Kind.{Kind}
use Rattle.jvm_values.specs.declared.types.Ty.{Ty}
use Rattle.jvm_values.specs.declared.types.Slot.{Slot}
use Rattle.jvm_values.specs.declared.types.Slot.TheVariants as slots
use Rattle.jvm_values.specs.declared.types.Base.{Base}
use Rattle.jvm_values.specs.declared.types.Base.TheVariants as bases
use Rattle.jvm_values.specs.declared.typing.PlaceType.{PlaceType}
use Rattle.jvm_values.specs.declared.typing.PlaceType.TheVariants as places
use Rattle.jvm_values.specs.Kinds.{least_of, greatest_of}
use Rattle.jvm_values.specs.States.{locals_from}
use Rattle.jvm_values.specs.TypedHeaps.{WorldTypes}
use Rattle.abs_cells.specs.declared.cells.Cell.{Cell}
use Rattle.abs_cells.specs.declared.cells.Cell.TheVariants as cells
use Rattle.abs_cells.specs.AbstractStates.{AbstractFrame}
use Rattle.abs_cells.specs.Cells.{is_known, is_comparable, type_of_cell, cell_at}
use Rattle.abs_cells.specs.PairLists.{has}
use Rattle.abs_ints.specs.IntIntervals.{just, all_ints, meet_of}
use Rattle.abs_ints.specs.Comparing.{related}
use Rattle.abs_ints.specs.declared.cases.IntCase.{IntCase}
use Rattle.abs_ints.specs.declared.cases.Way.TheVariants.{Taken}
use Rattle.abs_ints.specs.declared.relations.Relation.TheVariants.{Below, AtLeast}
use Rattle.jvm_step.specs.class_world.BuiltIns.{null_pointer_exception, array_index_out_of_bounds_exception, negative_array_size_exception}
use Rattle.jvm_step.specs.class_world.BuiltIns.{class_cast_exception, array_store_exception, incompatible_class_change_error}
use Rattle.jvm_step.specs.class_world.BuiltIns.{abstract_method_error}
use Rattle.jvm_step.specs.class_world.WorldTypes.{types_of}
use Rattle.jvm_step.specs.class_program.declared.op.Op.{Op}
use Rattle.jvm_step.specs.class_program.declared.op.Op.TheVariants as ops
use Rattle.jvm_step.specs.class_program.declared.op.Call.{Call}
use Rattle.jvm_step.specs.class_program.declared.op.FieldUse.{FieldUse}
use Rattle.jvm_step.specs.class_program.declared.program.Method.{Method}
use Rattle.jvm_step.specs.class_program.declared.selected.Selected.{Selected}
use Rattle.jvm_step.specs.class_program.declared.selected.Selected.TheVariants as answers
use Rattle.jvm_step.specs.class_program.Programs.{Program, insn_at}
use Rattle.jvm_step.specs.Effects.{answer_of}
use Rattle.jvm_step.specs.op_forms.declared.form.Shuffle.{Shuffle as StackShuffle}
use Rattle.jvm_step.specs.op_forms.declared.form.Shuffle.TheVariants.{Pop, Pop2, Dup, DupX1, DupX2, Dup2, Dup2X1, Dup2X2, Swap}
use Rattle.jvm_step.specs.op_forms.Forms.{Form, shuffled}
use Rattle.jvm_step.specs.op_forms.Forms.Form.{Nop, AconstNull, Iconst, Iload, Aload, Istore, Astore, Iinc, Shuffle, Arith, Ineg, Narrow, If}
use Rattle.jvm_step.specs.op_forms.Forms.Form.{IfIcmp, IfAcmpeq, IfAcmpne, Ifnull, Ifnonnull, Goto, Tableswitch, Lookupswitch, Ireturn}
use Rattle.jvm_step.specs.op_forms.Forms.Form.{Areturn, Return, Getstatic, Putstatic, Getfield, Putfield, Invokevirtual, Invokespecial}
use Rattle.jvm_step.specs.op_forms.Forms.Form.{Invokestatic, Invokeinterface, New, Newarray, Anewarray, Arraylength, NumberLoad, Aaload}
use Rattle.jvm_step.specs.op_forms.Forms.Form.{NumberStore, Aastore, Athrow, Checkcast, Instanceof}
use Rattle.abs_heap.specs.term_graph.declared.links.LinkRow.{LinkRow}
use Rattle.abs_turns.specs.Plans.{Turn, Plan, nothing, makes, writes, item, object, array, nowhere, on_stack, in_local, in_bottom}
use Rattle.abs_turns.specs.Plans.{in_field, ends, steps, by_equal, no_child, no_rows}
use Rattle.abs_turns.specs.Needs.{tested, operands_of, need_null, need_object}
use Rattle.abs_turns.specs.Turns.{Here, known, id, frames_at, with_stack, emptied, moves, goes_on, pushes, throws, throws_after}
use Rattle.abs_turns.specs.Turns.{interval_of_id, narrowings, rows_over, turns_of, turns_narrowing, branches, switch_turn}
use Rattle.abs_turns.specs.Switches.{table_keys, lookup_keys, parts_of}

-- ---- looking at operands

-- the types of the program's world: which are below which, and what fields classes have
abbrev pub types_here : Here → WorldTypes
types_here here = types_of here.program.world

-- the type that the typing gives the entry of the stack under so many others
abbrev pub place_under : Here → ℕ → PlaceType
place_under here depth = slice_index_or here.places depth places.Unset

-- the cell of an id in the state, if it has one
abbrev pub cell_here : Here → ℕ → Option Cell
cell_here here x = cell_at here.state x

-- a cell is that of null
abbrev pub is_null_cell : Option Cell → Bool
is_null_cell (Some cells.Null) = true
is_null_cell _ = false

-- an id is known to be null in the state
abbrev pub is_null_here : Here → ℕ → Bool
is_null_here here x = is_null_cell (cell_here here x)

-- a plan for a reference that is an object; for null there is the step that throws NullPointerException
abbrev pub unless_null : Here → ℕ → Plan → Plan
unless_null here x plan = if is_null_here here x then steps (throws here null_pointer_exception ∷ []) else plan

-- a plan for the receiver of an access, under so many entries of the stack: it is split until it is null, which throws
-- NullPointerException, or an object whose class is known
abbrev pub accessed : Here → ℕ → ℕ → Plan → Plan
accessed here depth x plan = need_object here.state x (place_under here depth) (unless_null here x plan)

-- the id in a local of the running frame; none where the local is unset
abbrev pub local_here : Here → ℕ → Option ℕ
local_here here n = option_and_then (λ local. local) (slice_get here.frame.locals n)

-- the plan of one step, if there is one, else no child
abbrev pub step_if : Option Turn → Plan
step_if turn = steps (option_to_list turn)

-- the plan with one step alone
abbrev pub one_step : Turn → Plan
one_step turn = steps (turn ∷ [])

-- ---- loads and stores of locals

-- a local goes on the stack (JVM specification 6.5.iload, 6.5.aload); an unset local has no child
abbrev pub load_plan : Here → ℕ → Plan
load_plan here n = step_if (option_map (λ x. goes_on here here.next (x ∷ here.frame.stack)) (local_here here n))

-- the top of the stack goes into a local (JVM specification 6.5.istore, 6.5.astore)
abbrev pub store_plan : Here → ℕ → List ℕ → Plan
store_plan here n [] = no_child
store_plan here n (x ∷ stack) = one_step (moves (frames_at here here.next (slice_set here.frame.locals n (Some x)) stack))

-- ---- ints

-- the sum of a local's int and a number goes into the local (JVM specification 6.5.iinc)
abbrev pub increment_plan : Here → ℕ → ℤ → Option ℕ → Plan
increment_plan here n by None = no_child
increment_plan here n by (Some x) = steps (turns_of here Add (id x) (known by) (with_stack here here.next here.frame.stack) (in_local n))

-- the top int is subtracted from 0, and the difference goes on the stack (JVM specification 6.5.ineg)
abbrev pub negation_plan : Here → List ℕ → Plan
negation_plan here [] = no_child
negation_plan here (a ∷ stack) = steps (turns_of here Sub (known (pos 0)) (id a) (with_stack here here.next stack) on_stack)

-- the top int is narrowed to a kind and goes back on the stack (JVM specification 6.5.i2b, 6.5.i2c, 6.5.i2s)
abbrev pub narrow_plan : Here → Kind → List ℕ → Plan
narrow_plan here kind [] = no_child
narrow_plan here kind (a ∷ stack) = steps
    (turns_narrowing here kind a (goes_on here here.next (a ∷ stack)) (with_stack here here.next stack) on_stack)

-- the top int goes to the target of its key, or to the default (JVM specification 6.5.tableswitch, 6.5.lookupswitch): a step for each key
-- and each gap between keys in which it may lie
abbrev pub switch_plan : Here → ℕ → List (ℤ × ℕ) → List ℕ → Plan
switch_plan here default keys [] = no_child
switch_plan here default keys (a ∷ stack) = steps (filter_map (switch_turn here a stack) (parts_of default keys))

-- ---- null and equality of references

-- a jump whose test has a known outcome: it is taken where the outcome is the wanted one, and else the next instruction comes
abbrev pub jump_if : Here → Bool → Bool → ℕ → List ℕ → Plan
jump_if here wanted is place stack = one_step (goes_on here (if (if wanted then is else not is) then place else here.next) stack)

-- a jump by whether the top reference is null (JVM specification 6.5.ifnull, 6.5.ifnonnull); a reference that may be either is split by
-- that first
abbrev pub null_plan : Here → Bool → ℕ → List ℕ → Plan
null_plan here wanted place [] = no_child
null_plan here wanted place (a ∷ stack) = need_null here.state a (jump_if here wanted (is_null_here here a) place stack)

-- a jump by whether the two top references are equal (JVM specification 6.5.if_acmp_cond). One id is equal to itself; else both are split
-- by null; two nulls are equal, null and an object aren't; and two objects are split by whether they are one where they may be, and else
-- differ
abbrev pub equal_plan : Here → Bool → ℕ → List ℕ → Plan
equal_plan here wanted place (b ∷ a ∷ stack) =
    if a == b then jump_if here wanted true place stack
    else need_null here.state a (need_null here.state b (
    if is_null_here here a && is_null_here here b then jump_if here wanted true place stack
    else if is_null_here here a || is_null_here here b then jump_if here wanted false place stack
    else if has a b here.state.eq then by_equal a b
    else jump_if here wanted false place stack))
equal_plan here wanted place _ = no_child

-- ---- fields

-- the id in a field of an instance's cell; none in another cell
abbrev pub field_id : Option Cell → ℕ → Option ℕ
field_id (Some (cells.Obj class ids)) place = slice_get ids place
field_id _ place = None

-- a field of the top object goes on the stack in its place (JVM specification 6.5.getfield)
abbrev pub getfield_plan : Here → FieldUse → List ℕ → Plan
getfield_plan here used [] = no_child
getfield_plan here used (k ∷ stack) = accessed here 0 k
    (step_if (option_map (λ x. goes_on here here.next (x ∷ stack)) (field_id (cell_here here k) used.place)))

-- a plan by the class of an instance's cell and the ids of its fields; another cell has no child
abbrev pub on_instance : Option Cell → (ℕ → List ℕ → Plan) → Plan
on_instance (Some (cells.Obj class ids)) plan = plan class ids
on_instance _ plan = no_child

-- an int goes into a field of the instance k as the field's kind keeps it (JVM specification 6.5.putfield): with its own id where it is
-- of the kind, else as a fresh id
abbrev pub put_int : Here → Kind → ℕ → ℕ → ℕ → List ℕ → ℕ → List ℕ → Plan
put_int here kind k place x stack class ids = steps (turns_narrowing here kind x
    (record (moves (with_stack here here.next stack)) { changed = (k, cells.Obj class (slice_set ids place x)) ∷ [] })
    (with_stack here here.next stack) (in_field k place))

-- a reference is written into a field of the object k (JVM specification 6.5.putfield)
abbrev pub put_reference : Here → ℕ → ℕ → ℕ → List ℕ → Plan
put_reference here k place w stack = one_step
    (record (moves (with_stack here here.next stack)) { act = writes (record { object = k; field = Some place; value = w }) })

-- a value goes into a field of the instance k, by the field's type: as an int, or as a reference
abbrev pub put_slot : Here → Slot → ℕ → ℕ → ℕ → List ℕ → ℕ → List ℕ → Plan
put_slot here (slots.Num kind) k place x stack class ids = put_int here kind k place x stack class ids
put_slot here (slots.Ref t) k place w stack class ids = put_reference here k place w stack

-- the top of the stack goes into a field of the object under it (JVM specification 6.5.putfield)
abbrev pub putfield_plan : Here → FieldUse → List ℕ → Plan
putfield_plan here used (x ∷ k ∷ stack) = accessed here 1 k (on_instance (cell_here here k) (put_slot here used.slot k used.place x stack))
putfield_plan here used _ = no_child

-- ---- static fields: their ids follow the locals of the bottom frame

-- the bottom frame, whose locals are followed by the ids of the static fields
abbrev pub bottom_of : Here → AbstractFrame
bottom_of here = slice_index_or (reverse (here.frame ∷ here.below)) 0 here.frame

-- how many locals the method of a number has
abbrev pub locals_of_method : Program → ℕ → ℕ
locals_of_method p number = option_map_or (λ (m : Method). m.max_locals) (slice_get p.methods number) 0

-- which local of the bottom frame holds the id of a static field: those of its method come first
abbrev pub static_local : Here → ℕ → ℕ
static_local here place = locals_of_method here.program (bottom_of here).method + place

-- a static field goes on the stack (JVM specification 6.5.getstatic)
abbrev pub getstatic_plan : Here → ℕ → Plan
getstatic_plan here place = step_if
    (option_map (λ x. goes_on here here.next (x ∷ here.frame.stack))
    (option_and_then (λ local. local) (slice_get (bottom_of here).locals (static_local here place))))

-- frames with another id in a local of the bottom one
abbrev pub bottom_with : ℕ → ℕ → List AbstractFrame → List AbstractFrame
bottom_with n x [] = []
bottom_with n x (frame ∷ []) = record frame { locals = slice_set frame.locals n (Some x) } ∷ []
bottom_with n x (frame ∷ next ∷ rest) = frame ∷ bottom_with n x (next ∷ rest)

-- a value goes into a static field, by the field's type: an int as the field's kind keeps it, a reference with its own id
abbrev pub put_static : Here → Slot → ℕ → ℕ → List ℕ → Plan
put_static here (slots.Num kind) n x stack = steps
    (turns_narrowing here kind x (moves (bottom_with n x (with_stack here here.next stack))) (with_stack here here.next stack)
    (in_bottom n))
put_static here (slots.Ref t) n x stack = one_step (moves (bottom_with n x (with_stack here here.next stack)))

-- the top of the stack goes into a static field (JVM specification 6.5.putstatic)
abbrev pub putstatic_plan : Here → ℕ → List ℕ → Plan
putstatic_plan here place [] = no_child
putstatic_plan here place (x ∷ stack) = option_map_or (λ field. put_static here field.slot (static_local here place) x stack)
    (slice_get here.program.statics place) no_child

-- ---- new objects and arrays

-- a new instance of a class goes on the stack; a primitive type has none
abbrev pub new_of_base : Here → Base → Plan
new_of_base here (bases.Class class) = one_step
    (record (moves (with_stack here here.next here.frame.stack)) { act = object class; goal = on_stack })
new_of_base here (bases.Num kind) = no_child

-- a new instance goes on the stack (JVM specification 6.5.new)
abbrev pub new_plan : Here → Ty → Plan
new_plan here t = new_of_base here t.base

-- the step that makes an array whose items are of a slot: the count is narrowed to numbers of at least 0, and its id is that of the
-- array's length
abbrev pub array_turn : Here → Slot → ℕ → List ℕ → Bounds → Turn
array_turn here slot count stack both = record (moves (with_stack here here.next stack))
    { changed = (count, cells.Int both) ∷ []; act = array slot count; goal = on_stack }

-- the ints of at least 0
abbrev pub natural : Bounds
natural = record { lo = pos 0; hi = all_ints.hi }

-- the ints below 0
abbrev pub negative : Bounds
negative = record { lo = all_ints.lo; hi = negsuc 0 }

-- a new array goes on the stack, as long as the top int says (JVM specification 6.5.newarray, 6.5.anewarray): a step that makes it where
-- the count may be at least 0, then one that throws NegativeArraySizeException where it may be below 0
abbrev pub array_plan : Here → Slot → List ℕ → Plan
array_plan here slot [] = no_child
array_plan here slot (count ∷ stack) = steps (
    option_to_list (option_map (array_turn here slot count stack) (meet_of (interval_of_id here.state count) natural))
    ++ option_to_list (option_map (λ both. throws_after here ((count, cells.Int both) ∷ []) no_rows negative_array_size_exception)
    (meet_of (interval_of_id here.state count) negative)))

-- ---- arrays

-- the id of an array's length in its cell; none in another cell
abbrev pub length_id : Option Cell → Option ℕ
length_id (Some (cells.Nums kind len)) = Some len
length_id (Some (cells.Refs element len shape)) = Some len
length_id _ = None

-- the id of the length of an array of references in its cell; none in another cell
abbrev pub items_length_id : Option Cell → Option ℕ
items_length_id (Some (cells.Refs element len shape)) = Some len
items_length_id _ = None

-- the length of the top array goes on the stack in its place (JVM specification 6.5.arraylength)
abbrev pub length_plan : Here → List ℕ → Plan
length_plan here [] = no_child
length_plan here (k ∷ stack) = accessed here 0 k
    (step_if (option_map (λ len. goes_on here here.next (len ∷ stack)) (length_id (cell_here here k))))

-- an access within an array's bounds, by the intervals of the index and of the length. Where the index is known to be outside, none: it
-- can't be at least 0 and below the length. Where it is known to be inside, or that is open, the cells of index and length, narrowed to
-- this case, and the rows of the child's link, which say that the index is below the length
abbrev pub in_bounds : Here → ℕ → ℕ → Option (List (ℕ × Cell) × (ℕ → List LinkRow))
in_bounds here index len = option_and_then
    (λ (i : Bounds). option_and_then
    (λ (case : IntCase). option_map (λ narrowed. (narrowed, rows_over (id index) (id len) case.rows))
    (narrowings (id index) case.left (id len) case.right)) (related Below Taken i (interval_of_id here.state len)))
    (meet_of (interval_of_id here.state index) natural)

-- the steps of an access outside an array's bounds, which throw ArrayIndexOutOfBoundsException, by the intervals of the index and of the
-- length. Where the index may be below 0, the first child, with the index narrowed to that and a link without rows; where it may be at
-- least the length, the next child, with both narrowed to that and a link that says so in rows. Where the index is known to be inside,
-- there is none
abbrev pub out_of_bounds : Here → ℕ → ℕ → List Turn
out_of_bounds here index len =
    option_to_list (option_map
    (λ both. throws_after here ((index, cells.Int both) ∷ []) no_rows array_index_out_of_bounds_exception)
    (meet_of (interval_of_id here.state index) negative))
    ++ option_to_list (option_and_then
    (λ (case : IntCase). option_map (λ narrowed. throws_after here narrowed (rows_over (id index) (id len) case.rows)
    array_index_out_of_bounds_exception) (narrowings (id index) case.left (id len) case.right))
    (related AtLeast Taken (interval_of_id here.state index) (interval_of_id here.state len)))

-- an access at an index, in an array whose length has an id. Where the index is known to be inside the bounds, the steps `good`, by what
-- is narrowed and by the link's rows; where it is known to be outside, the steps that throw; where it is open, both, the steps within the
-- bounds first
abbrev pub access_at : Here → ℕ → ℕ → (List (ℕ × Cell) → (ℕ → List LinkRow) → List Turn) → Plan
access_at here index len good = steps
    (option_map_or (λ inside. good inside.0 inside.1) (in_bounds here index len) [] ++ out_of_bounds here index len)

-- an access of the array k, under so many entries of the stack, at an index: k is split until it is null, which throws
-- NullPointerException, or known, and one without the wanted length has no child
abbrev pub access_of : Here → ℕ → ℕ → ℕ → Option ℕ → (List (ℕ × Cell) → (ℕ → List LinkRow) → List Turn) → Plan
access_of here depth k index length good = accessed here depth k (option_map_or (λ len. access_at here index len good) length no_child)

-- an access of the array k, of numbers or of references, under so many entries of the stack, at an index
abbrev pub access_plan : Here → ℕ → ℕ → ℕ → (List (ℕ × Cell) → (ℕ → List LinkRow) → List Turn) → Plan
access_plan here depth k index good = access_of here depth k index (length_id (cell_here here k)) good

-- the numbers of the kind of an array's items; all ints for another cell
abbrev pub of_kind : Option Cell → Bounds
of_kind (Some (cells.Nums kind len)) = record { lo = least_of kind; hi = greatest_of kind }
of_kind _ = all_ints

-- an item of an array of numbers goes on the stack, as a fresh id that is some number of the array's kind (JVM specification 6.5.iaload,
-- 6.5.baload, 6.5.caload, 6.5.saload)
abbrev pub number_load_plan : Here → List ℕ → Plan
number_load_plan here (index ∷ k ∷ stack) = access_plan here 1 k index
    (λ narrowed rows. record {
      changed = narrowed;
      frames = with_stack here here.next stack;
      throwing = None;
      act = makes
          (cells.Int (of_kind (cell_here here k)));
      goal = on_stack;
      rows = rows;
    } ∷ [])
number_load_plan here _ = no_child

-- a number goes into an array of numbers, whose cell doesn't tell its items (JVM specification 6.5.iastore, 6.5.bastore, 6.5.castore,
-- 6.5.sastore)
abbrev pub number_store_plan : Here → List ℕ → Plan
number_store_plan here (value ∷ index ∷ k ∷ stack) = access_plan here 2 k index
    (λ narrowed rows. record {
      changed = narrowed;
      frames = with_stack here here.next stack;
      throwing = None;
      act = nothing;
      goal =
          nowhere;
      rows = rows;
    } ∷ [])
number_store_plan here _ = no_child

-- the id of the length of an array of references whose item is read at an index, which is another id: in a good state it always is, since
-- one cell isn't an array's and an int's at once
abbrev pub items_of : Here → ℕ → ℕ → Option ℕ
items_of here k index = if k == index then None else items_length_id (cell_here here k)

-- an item of an array of references goes on the stack, as a fresh id (JVM specification 6.5.aaload); another cell has no child
abbrev pub aaload_plan : Here → List ℕ → Plan
aaload_plan here (index ∷ k ∷ stack) = access_of here 1 k index (items_of here k index)
    (λ narrowed rows. record {
      changed = narrowed;
      frames = with_stack here here.next stack;
      throwing = None;
      act = item k;
      goal =
          on_stack;
      rows = rows;
    } ∷ [])
aaload_plan here _ = no_child

-- a reference goes into an array of references (JVM specification 6.5.aastore): the step that writes it; then, unless it is null, one
-- that throws ArrayStoreException, since the array may have been made for a lower type
abbrev pub aastore_plan : Here → List ℕ → Plan
aastore_plan here (value ∷ index ∷ k ∷ stack) = access_plan here 2 k index (λ narrowed rows.
    record {
      changed = narrowed;
      frames = with_stack here here.next stack;
      throwing = None;
      act = writes
          (record { object = k; field = None; value = value });
      goal = nowhere;
      rows = rows;
    }
    ∷ (if is_null_here here value then [] else throws_after here narrowed rows array_store_exception ∷ []))
aastore_plan here _ = no_child

-- ---- casts and tests of types

-- the steps of a cast or of a test of a type: where the object is of the type, where it is not, and where the reference is null
pub record Cast : Type 0 where
  pub passed : Turn
  pub failed : Turn
  pub null : Turn

-- the steps of a cast: the stack stays where the object is of the type or null, and else ClassCastException is thrown (JVM specification
-- 6.5.checkcast)
abbrev pub checkcast_of : Here → List ℕ → Cast
checkcast_of here stack = record {
  passed = goes_on here here.next stack;
  failed = throws here class_cast_exception;
  null = goes_on
      here here.next stack;
}

-- the cell of one known int
abbrev pub number_cell : ℤ → Cell
number_cell n = cells.Int (just n)

-- the steps of a test of a type: 1 goes on the stack where the object is of the type, and 0 where it is not or is null (JVM specification
-- 6.5.instanceof)
abbrev pub instanceof_of : Here → List ℕ → Cast
instanceof_of here below = record {
  passed = pushes here (number_cell (pos 1)) below;
  failed = pushes here (number_cell (pos 0))
      below;
  null = pushes here (number_cell (pos 0)) below;
}

-- the cell of an object of unknown class that is of a type: the type becomes its bound where that is strictly lower, and else the cell
-- stays
abbrev pub bounded : WorldTypes → Ty → Cell → Option Cell
bounded types t (cells.Unk bound nullable shape) = if types.sub t bound && not (types.sub bound t) then Some
    (cells.Unk t nullable shape) else None
bounded types t _ = None

-- a step in which an id gets a cell with a lower bound, if there is one
abbrev pub with_bound : ℕ → Option Cell → Turn → Turn
with_bound x None turn = turn
with_bound x (Some cell) turn = record turn { changed = (x, cell) ∷ [] }

-- the type of a cell, below which its object's class lies, if there is a cell and it has a type
abbrev pub cell_bound : Option Cell → Option Ty
cell_bound cell = option_and_then type_of_cell cell

-- a cell's type is below a type, so that its object is of that type for sure
abbrev pub is_bound_below : Here → Ty → Option Ty → Bool
is_bound_below here t (Some s) = (types_here here).sub s t
is_bound_below here t None = false

-- a cell's object may be of a type: of the cell's type and the erased type one is below the other
abbrev pub may_be_below : Here → Ty → Option Ty → Bool
may_be_below here t (Some s) = is_comparable (types_here here).sub s ((types_here here).erase t)
may_be_below here t None = false

-- a cell is that of an object whose class is known
abbrev pub is_known_cell : Option Cell → Bool
is_known_cell cell = option_map_or is_known cell false

-- the steps of a cast or test where it isn't known whether an object is of the type: it is, where its cell's type allows that, and the
-- erased type becomes its bound where that is lower; then it is not
abbrev pub undecided : Here → Ty → ℕ → Cast → List Turn
undecided here t x cast =
    (if may_be_below here t (cell_bound (cell_here here x)) then with_bound x
    (option_and_then (bounded (types_here here) ((types_here here).erase t)) (cell_here here x)) cast.passed ∷ [] else [])
    ++ cast.failed ∷ []

-- the plan of a cast or of a test of a type (JVM specification 6.5.checkcast, 6.5.instanceof). Null has its step; an object whose cell's
-- type is below the type is of it, and a test, which asks that, splits by null first; other ids are split by null, and then an object of
-- known class is not of the type, and of others it isn't known
abbrev pub cast_plan : Here → Ty → ℕ → Bool → Cast → Plan
cast_plan here t x asks cast =
    if is_null_here here x then one_step cast.null
    else if is_bound_below here t (cell_bound (cell_here here x)) then
    (if asks then need_null here.state x (one_step cast.passed) else one_step cast.passed)
    else need_null here.state x (
    if is_known_cell (cell_here here x) then one_step cast.failed
    else steps (undecided here t x cast))

-- the top reference is cast to a type and stays on the stack (JVM specification 6.5.checkcast)
abbrev pub checkcast_plan : Here → Ty → List ℕ → Plan
checkcast_plan here t [] = no_child
checkcast_plan here t (x ∷ stack) = cast_plan here t x false (checkcast_of here (x ∷ stack))

-- whether the top reference is an object of a type goes on the stack in its place (JVM specification 6.5.instanceof)
abbrev pub instanceof_plan : Here → Ty → List ℕ → Plan
instanceof_plan here t [] = no_child
instanceof_plan here t (x ∷ stack) = cast_plan here t x true (instanceof_of here stack)

-- ---- calls and returns

-- the frame that a call begins with: at the method's first place, with the arguments in the first locals, the other locals unset and an
-- empty stack (JVM specification 2.6)
abbrev pub called_frame : ℕ → Method → List ℕ → AbstractFrame
called_frame number m arguments = record { method = number; pc = 0; locals = locals_from Some None m.max_locals arguments; stack = [] }

-- the method of a number is called: so many arguments leave the caller's stack, whose frame stays at the call, and the method's own frame
-- runs
abbrev pub invokes : Here → ℕ → ℕ → Plan
invokes here count number = option_map_or
    (λ (m : Method). one_step
    (moves (called_frame number m (reverse (take count here.frame.stack)) ∷ with_stack here here.frame.pc
    (drop count here.frame.stack)))) (slice_get here.program.methods number) no_child

-- the method that a call names is called; where it has no body AbstractMethodError is thrown
abbrev pub runs_or_lacks : Here → ℕ → Option ℕ → Plan
runs_or_lacks here count None = one_step (throws here abstract_method_error)
runs_or_lacks here count (Some number) = invokes here count number

-- a static method is called, with as many arguments as it has parameters (JVM specification 6.5.invokestatic)
abbrev pub static_plan : Here → Call → Plan
static_plan here call = option_map_or (invokes here (length call.params)) call.target no_child

-- the id of a call's receiver, which stands under the arguments
abbrev pub receiver_of : Here → Call → Option ℕ
receiver_of here call = slice_get here.frame.stack (length call.params)

-- a method is called without a selection by its receiver's class (JVM specification 6.5.invokespecial): the receiver is split by null,
-- and null throws NullPointerException
abbrev pub special_plan : Here → Call → Plan
special_plan here call = option_map_or
    (λ x. need_null here.state x (unless_null here x (runs_or_lacks here (length call.params + 1) call.target)))
    (receiver_of here call) no_child

-- the class by which an object's methods are selected: an instance's own, and java/lang/Object for an array
abbrev pub class_of_cell : Option Cell → ℕ
class_of_cell (Some (cells.Obj class ids)) = class
class_of_cell _ = 0

-- what the selection of a method leads to: the method is called; one without a body throws AbstractMethodError; an object whose class
-- doesn't implement the interface throws IncompatibleClassChangeError; and without an answer there is no child
abbrev pub answered : Here → ℕ → Option Selected → Plan
answered here count (Some (answers.Method number)) = invokes here count number
answered here count (Some answers.Abstract) = one_step (throws here abstract_method_error)
answered here count (Some answers.NoInterface) = one_step (throws here incompatible_class_change_error)
answered here count None = no_child

-- a method is called that the receiver's class selects (JVM specification 6.5.invokevirtual, 6.5.invokeinterface): the receiver is split
-- until it is null, which throws NullPointerException, or its class is known
abbrev pub selecting_plan : Here → Op → Call → Plan
selecting_plan here op call = option_map_or
    (λ x. accessed here (length call.params) x
    (answered here (length call.params + 1) (answer_of here.program op (class_of_cell (cell_here here x)))))
    (receiver_of here call) no_child

-- a method returns: its caller goes on after its call, with the result, if there is one, on its stack; without a caller the run ends (JVM
-- specification 2.6.4)
abbrev pub returned_to : Here → Option ℕ → List AbstractFrame → Plan
returned_to here value [] = ends
returned_to here value (caller ∷ below) = step_if
    (option_map (λ place. moves (record caller { pc = place; stack = option_to_list value ++ caller.stack } ∷ below))
    (option_and_then (λ found. found.1) (insn_at here.program.methods caller.method caller.pc)))

-- a method returns the top of its stack (JVM specification 6.5.ireturn, 6.5.areturn)
abbrev pub value_plan : Here → List ℕ → Plan
value_plan here [] = no_child
value_plan here (x ∷ stack) = returned_to here (Some x) here.below

-- the top object is thrown, and the stack is emptied (JVM specification 6.5.athrow); null throws NullPointerException
abbrev pub athrow_plan : Here → List ℕ → Plan
athrow_plan here [] = no_child
athrow_plan here (x ∷ stack) = need_null here.state x (unless_null here x (one_step (record (moves (emptied here)) { throwing = Some x })))

-- ---- the table

-- a plan by the two top entries of a stack, the lower one first, and what lies below them; a lower stack has no child
abbrev pub binary : List ℕ → (ℕ → ℕ → List ℕ → Plan) → Plan
binary (b ∷ a ∷ stack) plan = plan a b stack
binary _ plan = no_child

-- a plan by the top of a stack and what lies below it; an empty stack has no child
abbrev pub unary : List ℕ → (ℕ → List ℕ → Plan) → Plan
unary (a ∷ stack) plan = plan a stack
unary [] plan = no_child

-- what becomes of an abstract state at an instruction, by the instruction's form; each row names the sections of the JVM specification
abbrev pub row_of : Here → Form → Plan
-- 6.5.nop: the next instruction comes
row_of here Nop = one_step (goes_on here here.next here.frame.stack)
-- 6.5.aconst_null: null goes on the stack
row_of here AconstNull = one_step (pushes here cells.Null here.frame.stack)
-- 6.5.iconst_i, 6.5.bipush, 6.5.sipush, 6.5.ldc, 6.5.ldc_w: a number goes on the stack
row_of here (Iconst n) = one_step (pushes here (number_cell n) here.frame.stack)
-- 6.5.iload, 6.5.iload_n: a local with an int goes on the stack
row_of here (Iload n) = load_plan here n
-- 6.5.aload, 6.5.aload_n: a local with a reference goes on the stack
row_of here (Aload n) = load_plan here n
-- 6.5.istore, 6.5.istore_n: the top int goes into a local
row_of here (Istore n) = store_plan here n here.frame.stack
-- 6.5.astore, 6.5.astore_n: the top reference goes into a local
row_of here (Astore n) = store_plan here n here.frame.stack
-- 6.5.iinc: a number is added to a local
row_of here (Iinc n by) = increment_plan here n by (local_here here n)
-- 6.5.pop, 6.5.pop2, 6.5.dup, 6.5.dup_x1, 6.5.dup_x2, 6.5.dup2, 6.5.dup2_x1, 6.5.dup2_x2, 6.5.swap: the top entries are reordered
row_of here (Shuffle shuffle) = step_if (option_map (goes_on here here.next) (shuffled shuffle here.frame.stack))
-- 6.5.iadd, 6.5.isub, 6.5.imul, 6.5.idiv, 6.5.irem, 6.5.ishl, 6.5.ishr, 6.5.iushr, 6.5.iand, 6.5.ior, 6.5.ixor: an operator of two ints
row_of here (Arith op) = binary here.frame.stack
    (λ a b stack. steps (turns_of here op (id a) (id b) (with_stack here here.next stack) on_stack))
-- 6.5.ineg: the top int is subtracted from 0
row_of here Ineg = negation_plan here here.frame.stack
-- 6.5.i2b, 6.5.i2c, 6.5.i2s: the top int is narrowed to a kind
row_of here (Narrow kind) = narrow_plan here kind here.frame.stack
-- 6.5.if_cond: a jump by a comparison of the top int with 0
row_of here (If cond place) = unary here.frame.stack (λ a stack. steps (branches here cond (id a) (known (pos 0)) place stack false))
-- 6.5.if_icmp_cond: a jump by a comparison of the two top ints
row_of here (IfIcmp cond place) = binary here.frame.stack (λ a b stack. steps (branches here cond (id a) (id b) place stack true))
-- 6.5.if_acmp_cond: a jump where the two top references are equal
row_of here (IfAcmpeq place) = equal_plan here true place here.frame.stack
-- 6.5.if_acmp_cond: a jump where the two top references differ
row_of here (IfAcmpne place) = equal_plan here false place here.frame.stack
-- 6.5.ifnull: a jump where the top reference is null
row_of here (Ifnull place) = null_plan here true place here.frame.stack
-- 6.5.ifnonnull: a jump where the top reference is an object
row_of here (Ifnonnull place) = null_plan here false place here.frame.stack
-- 6.5.goto, 6.5.goto_w: a jump
row_of here (Goto place) = one_step (goes_on here place here.frame.stack)
-- 6.5.tableswitch: a jump by the top int, whose keys follow one another
row_of here (Tableswitch default low targets) = switch_plan here default (table_keys low targets) here.frame.stack
-- 6.5.lookupswitch: a jump by the top int, whose keys are listed
row_of here (Lookupswitch default cases) = switch_plan here default (lookup_keys cases) here.frame.stack
-- 6.5.ireturn: the method returns the top int
row_of here Ireturn = value_plan here here.frame.stack
-- 6.5.areturn: the method returns the top reference
row_of here Areturn = value_plan here here.frame.stack
-- 6.5.return: the method returns without a result
row_of here Return = returned_to here None here.below
-- 6.5.getstatic: a static field goes on the stack
row_of here (Getstatic place) = getstatic_plan here place
-- 6.5.putstatic: the top of the stack goes into a static field
row_of here (Putstatic place) = putstatic_plan here place here.frame.stack
-- 6.5.getfield: a field of the top object goes on the stack
row_of here (Getfield used) = getfield_plan here used here.frame.stack
-- 6.5.putfield: the top of the stack goes into a field of the object under it
row_of here (Putfield used) = putfield_plan here used here.frame.stack
-- 6.5.invokevirtual: a call of the method that the receiver's class selects
row_of here (Invokevirtual call) = selecting_plan here (ops.Invokevirtual call) call
-- 6.5.invokespecial: a call of the method that the instruction names, with a receiver
row_of here (Invokespecial call) = special_plan here call
-- 6.5.invokestatic: a call of the method that the instruction names, without a receiver
row_of here (Invokestatic call) = static_plan here call
-- 6.5.invokeinterface: a call of the method of an interface that the receiver's class selects
row_of here (Invokeinterface call) = selecting_plan here (ops.Invokeinterface call) call
-- 6.5.new: a new instance goes on the stack
row_of here (New t) = new_plan here t
-- 6.5.newarray: a new array of numbers goes on the stack
row_of here (Newarray kind) = array_plan here (slots.Num kind) here.frame.stack
-- 6.5.anewarray: a new array of references goes on the stack
row_of here (Anewarray t) = array_plan here (slots.Ref t) here.frame.stack
-- 6.5.arraylength: the length of the top array goes on the stack
row_of here Arraylength = length_plan here here.frame.stack
-- 6.5.iaload, 6.5.baload, 6.5.caload, 6.5.saload: an item of an array of numbers goes on the stack
row_of here (NumberLoad for) = number_load_plan here here.frame.stack
-- 6.5.aaload: an item of an array of references goes on the stack
row_of here Aaload = aaload_plan here here.frame.stack
-- 6.5.iastore, 6.5.bastore, 6.5.castore, 6.5.sastore: the top int goes into an array of numbers
row_of here (NumberStore for) = number_store_plan here here.frame.stack
-- 6.5.aastore: the top reference goes into an array of references
row_of here Aastore = aastore_plan here here.frame.stack
-- 6.5.athrow: the top object is thrown
row_of here Athrow = athrow_plan here here.frame.stack
-- 6.5.checkcast: the top reference is cast to a type
row_of here (Checkcast t) = checkcast_plan here t here.frame.stack
-- 6.5.instanceof: whether the top reference is an object of a type goes on the stack
row_of here (Instanceof t) = instanceof_plan here t here.frame.stack

-- ---- operands

-- how many entries a reordering of the stack takes (JVM specification 6.5.pop, 6.5.pop2, 6.5.dup, 6.5.dup_x1, 6.5.dup_x2, 6.5.dup2,
-- 6.5.dup2_x1, 6.5.dup2_x2, 6.5.swap)
abbrev pub shuffle_count : StackShuffle → ℕ
shuffle_count Pop = 1
shuffle_count Pop2 = 2
shuffle_count Dup = 1
shuffle_count DupX1 = 2
shuffle_count DupX2 = 3
shuffle_count Dup2 = 2
shuffle_count Dup2X1 = 3
shuffle_count Dup2X2 = 4
shuffle_count Swap = 2

-- how many entries an instruction takes from the stack, by its form (JVM specification 6.5)
abbrev pub taken_by : Form → ℕ
taken_by (Istore n) = 1
taken_by (Astore n) = 1
taken_by (Shuffle shuffle) = shuffle_count shuffle
taken_by (Arith op) = 2
taken_by Ineg = 1
taken_by (Narrow kind) = 1
taken_by (If cond place) = 1
taken_by (IfIcmp cond place) = 2
taken_by (IfAcmpeq place) = 2
taken_by (IfAcmpne place) = 2
taken_by (Ifnull place) = 1
taken_by (Ifnonnull place) = 1
taken_by (Tableswitch default low targets) = 1
taken_by (Lookupswitch default cases) = 1
taken_by Ireturn = 1
taken_by Areturn = 1
taken_by (Putstatic place) = 1
taken_by (Getfield used) = 1
taken_by (Putfield used) = 2
taken_by (Invokevirtual call) = length call.params + 1
taken_by (Invokespecial call) = length call.params + 1
taken_by (Invokestatic call) = length call.params
taken_by (Invokeinterface call) = length call.params + 1
taken_by (Newarray kind) = 1
taken_by (Anewarray t) = 1
taken_by Arraylength = 1
taken_by (NumberLoad for) = 2
taken_by Aaload = 2
taken_by (NumberStore for) = 3
taken_by Aastore = 3
taken_by Athrow = 1
taken_by (Checkcast t) = 1
taken_by (Instanceof t) = 1
taken_by _ = 0

-- the plan of a state at an instruction: the references among its operands are tested, and then what the table has for its form comes
abbrev pub plan_of_form : Here → Form → Plan
plan_of_form here form = tested (types_here here) here.state (operands_of (taken_by form) here.places here.frame.stack) (row_of here form)
