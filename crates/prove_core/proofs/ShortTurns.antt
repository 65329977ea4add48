-- The rows of every step of the table have short equations.
use Rattle.std.proofs.Common.{◌≡◌, ℕ, ◌+◌, ◌≤◌, ◌==◌, Bool, true, false, cond, if◌then◌else◌, List, [], ◌∷◌, ◌++◌, length, ℤ, pos}
use Rattle.std.proofs.Common.{Option, Some, None, inl, inr, refl, ap, arith, length-append}
use Rattle.std.specs.Prelude.{◌&&◌, ◌||◌, unsigned_abs, slice_get, slice_set, reverse, take, drop}
use Rattle.std.specs.List.{AllByRecursion, filter_map, cons_option}
use Rattle.std.specs.Option.{IfSome, option_map, option_and_then, option_map_or, option_to_list}
use Rattle.std.specs.Ordering.{int_eq}
use Rattle.abs_heap.proofs.ChangedCells.{either}
use Rattle.list_views.proofs.Quantified.{all_joined}
use Rattle.lin_core.specs.Intervals.{Bounds}
use Rattle.jvm_values.specs.declared.ints.IntOp.{IntOp}
use Rattle.jvm_values.specs.declared.ints.IntOp.TheVariants.{Add, Sub, Narrow as NarrowOp}
use Rattle.jvm_values.specs.declared.ints.Cond.{Cond}
use Rattle.jvm_values.specs.declared.types.Base.{Base}
use Rattle.jvm_values.specs.declared.types.Base.TheVariants as bases
use Rattle.jvm_values.specs.declared.types.Kind.{Kind}
use Rattle.jvm_values.specs.declared.types.Slot.{Slot}
use Rattle.jvm_values.specs.declared.types.Slot.TheVariants as slots
use Rattle.jvm_values.specs.declared.types.Ty.{Ty}
use Rattle.jvm_values.specs.declared.typing.PlaceType.{PlaceType}
use Rattle.jvm_values.specs.declared.typing.PlaceType.TheVariants as places
use Rattle.jvm_values.specs.TypedHeaps.{WorldTypes}
use Rattle.abs_cells.specs.declared.cells.Cell.{Cell}
use Rattle.abs_cells.specs.declared.cells.Cell.TheVariants as cells
use Rattle.abs_cells.specs.AbstractStates.{AbstractFrame, AbstractState}
use Rattle.abs_cells.specs.Cells.{cell_at}
use Rattle.abs_cells.specs.PairLists.{has}
use Rattle.abs_ints.specs.Comparing.{related, compared}
use Rattle.abs_ints.specs.Operating.{operated}
use Rattle.abs_ints.specs.IntIntervals.{meet_of}
use Rattle.abs_ints.specs.declared.cases.IntCase.{IntCase}
use Rattle.abs_ints.specs.declared.cases.ShortRow.{ShortRow}
use Rattle.abs_ints.specs.declared.cases.Way.TheVariants.{Taken}
use Rattle.abs_ints.specs.declared.relations.Relation.TheVariants.{Below, AtLeast}
use Rattle.class_world.specs.BuiltIns.{null_pointer_exception, array_index_out_of_bounds_exception, negative_array_size_exception}
use Rattle.class_world.specs.BuiltIns.{array_store_exception}
use Rattle.class_program.specs.declared.op.Op.{Op}
use Rattle.class_program.specs.declared.op.Op.TheVariants as ops
use Rattle.class_program.specs.declared.op.Call.{Call}
use Rattle.class_program.specs.declared.op.FieldUse.{FieldUse}
use Rattle.class_program.specs.declared.program.Method.{Method}
use Rattle.class_program.specs.declared.selected.Selected.{Selected}
use Rattle.class_program.specs.declared.selected.Selected.TheVariants as answers
use Rattle.class_program.specs.Programs.{insn_at}
use Rattle.abs_turns.specs.jvm_step.Effects.{answer_of}
use Rattle.op_forms.specs.Forms.{Form, shuffled}
use Rattle.op_forms.specs.Forms.Form.{Nop, AconstNull, Iconst, Iload, Aload, Istore, Astore, Iinc, Shuffle, Arith, Ineg, Narrow, If}
use Rattle.op_forms.specs.Forms.Form.{IfIcmp, IfAcmpeq, IfAcmpne, Ifnull, Ifnonnull, Goto, Tableswitch, Lookupswitch, Ireturn}
use Rattle.op_forms.specs.Forms.Form.{Areturn, Return, Getstatic, Putstatic, Getfield, Putfield, Invokevirtual, Invokespecial}
use Rattle.op_forms.specs.Forms.Form.{Invokestatic, Invokeinterface, New, Newarray, Anewarray, Arraylength, NumberLoad, Aaload}
use Rattle.op_forms.specs.Forms.Form.{NumberStore, Aastore, Athrow, Checkcast, Instanceof}
use Rattle.term_graph.specs.declared.links.Side.{Side}
use Rattle.term_graph.specs.declared.links.Side.TheVariants.{Before, After}
use Rattle.term_graph.specs.declared.links.LinkRow.{LinkRow}
use Rattle.abs_expand.specs.Needs.{Passing, passes, fails, splits, passing_id, after_test, tested, operands_of, may_be_null}
use Rattle.abs_expand.specs.Needs.{need_null, is_unknown, known_partner, split_unknown, split_below, need_class, need_object}
use Rattle.abs_expand.specs.Plans.{Goal, on_stack, in_local, in_bottom, in_field, Turn, Plan, ends, steps, by_null, by_class}
use Rattle.abs_expand.specs.Plans.{by_equal, makes, writes, item, nothing, nowhere, no_child, no_rows}
use Rattle.abs_expand.specs.Switches.{table_keys, lookup_keys, parts_of}
use Rattle.abs_expand.specs.Table.{types_here, place_under, cell_here, is_null_here, unless_null, accessed, local_here, step_if}
use Rattle.abs_expand.specs.Table.{load_plan, store_plan, increment_plan, negation_plan, narrow_plan, switch_plan, jump_if}
use Rattle.abs_expand.specs.Table.{null_plan, equal_plan, field_id, getfield_plan, on_instance, put_slot, putfield_plan}
use Rattle.abs_expand.specs.Table.{bottom_with, static_local, getstatic_plan, bottom_of, put_static, putstatic_plan, new_of_base}
use Rattle.abs_expand.specs.Table.{array_turn, natural, negative, array_plan, length_id, items_of, length_plan, of_kind, in_bounds}
use Rattle.abs_expand.specs.Table.{out_of_bounds, access_at, access_of, access_plan, number_load_plan, number_store_plan}
use Rattle.abs_expand.specs.Table.{aaload_plan, aastore_plan, Cast, checkcast_of, instanceof_of, with_bound, bounded, cell_bound}
use Rattle.abs_expand.specs.Table.{is_bound_below, may_be_below, is_known_cell, undecided, cast_plan, checkcast_plan}
use Rattle.abs_expand.specs.Table.{instanceof_plan, called_frame, invokes, runs_or_lacks, static_plan, receiver_of, special_plan}
use Rattle.abs_expand.specs.Table.{class_of_cell, answered, selecting_plan, returned_to, value_plan, athrow_plan, binary, unary}
use Rattle.abs_expand.specs.Table.{row_of, taken_by, plan_of_form}
use Rattle.abs_expand.specs.Turns.{Here, Operand, known, id, with_stack, emptied, goes_on, moves, throws, throws_after, interval_at}
use Rattle.abs_expand.specs.Turns.{interval_of_id, are_one, narrowings, term_of, terms_of, row_over, rows_over, turn_of_result}
use Rattle.abs_expand.specs.Turns.{turn_of_case, turns_of, turn_narrowing, turns_narrowing, narrows, rows_if, place_of_way}
use Rattle.abs_expand.specs.Turns.{branch_of_case, branches, switch_turn}
use Rattle.abs_turns.proofs.OptionLists.{each_any}
use Rattle.prove_core.specs.ShortLinks.{IsShortRow}
use Rattle.prove_core.proofs.ShortCases.{IsLow, AreLow, HasLow, operated_low, related_low, compared_low}

abbrev AreShort : List LinkRow → Type 0
AreShort rows = AllByRecursion IsShortRow rows

abbrev pub IsShortTurn : Turn → Type 0
IsShortTurn turn = (fresh : ℕ) → AllByRecursion IsShortRow (turn.rows fresh)

abbrev AreShortTurns : List Turn → Type 0
AreShortTurns turns = AllByRecursion IsShortTurn turns

-- the rows of the steps of a plan have short equations
abbrev pub IsShortPlan : Plan → Type 0
IsShortPlan ends = Unit {0}
IsShortPlan (steps turns) = AllByRecursion IsShortTurn turns
IsShortPlan (by_null x) = Unit {0}
IsShortPlan (by_class x wanted) = Unit {0}
IsShortPlan (by_equal x y) = Unit {0}

-- ---- lists and choices

put_one : {Y : Type 0} (P : Y → Type 0) (o : Option Y) (rest : List Y) → IfSome o P → AllByRecursion P rest
    → AllByRecursion P (cons_option o rest)
put_one P None rest h r = r
put_one P (Some y) rest h r = (h, r)

filtered : {X Y : Type 0} (Q : X → Type 0) (P : Y → Type 0) (f : X → Option Y) (xs : List X) → ((x : X) → Q x → IfSome (f x) P)
    → AllByRecursion Q xs → AllByRecursion P (filter_map f xs)
filtered Q P f [] h all = tt
filtered Q P f (x ∷ xs) h all = put_one P (f x) (filter_map f xs) (h x all.0) (filtered Q P f xs h all.1)

filtered_any : {X Y : Type 0} (P : Y → Type 0) (f : X → Option Y) (xs : List X) → ((x : X) → IfSome (f x) P)
    → AllByRecursion P (filter_map f xs)
filtered_any P f [] h = tt
filtered_any P f (x ∷ xs) h = put_one P (f x) (filter_map f xs) (h x) (filtered_any P f xs h)

if_mapped : {X Y : Type 0} (P : Y → Type 0) (f : X → Y) (o : Option X) → ((x : X) → P (f x)) → IfSome (option_map f o) P
if_mapped P f None h = tt
if_mapped P f (Some x) h = h x

if_then : {X Y : Type 0} (P : Y → Type 0) (f : X → Option Y) (o : Option X) → ((x : X) → IfSome (f x) P) → IfSome (option_and_then f o) P
if_then P f None h = tt
if_then P f (Some x) h = h x

if_both : {X Y : Type 0} (Q : X → Type 0) (P : Y → Type 0) (f : X → Option Y) (o : Option X) → IfSome o Q
    → ((x : X) → Q x → IfSome (f x) P) → IfSome (option_and_then f o) P
if_both Q P f None q h = tt
if_both Q P f (Some x) q h = h x q

listed : {Y : Type 0} (P : Y → Type 0) (o : Option Y) → IfSome o P → AllByRecursion P (option_to_list o)
listed P None h = tt
listed P (Some y) h = (h, tt)

given_or : {X Y : Type 0} (P : Y → Type 0) (f : X → Y) (o : Option X) (d : Y) → ((x : X) → P (f x)) → P d → P (option_map_or f o d)
given_or P f None d h k = k
given_or P f (Some x) d h k = h x

-- ---- rows over operands

abbrev sizes : List (Side × ℕ × ℤ) → ℕ
sizes [] = 0
sizes (term ∷ terms) = unsigned_abs term.2 + sizes terms

sizes_joined : (xs ys : List (Side × ℕ × ℤ)) → sizes (xs ++ ys) ≡ sizes xs + sizes ys
sizes_joined [] ys = omega arith
sizes_joined (x ∷ xs) ys = let e = sizes_joined xs ys in omega (arith, e)

-- at most one term, with a coefficient of at most a size
record IsOne (terms : List (Side × ℕ × ℤ)) (size : ℕ) : Type 0 where
  count : length terms ≤ 1
  small : sizes terms ≤ size

term_one : (side : Side) (x : ℕ) (times : ℤ) → IsOne (term_of side x times) (unsigned_abs times)
term_one side x times = either (λ (terms : List (Side × ℕ × ℤ)). IsOne terms (unsigned_abs times)) (int_eq times (pos 0)) []
    ((side, x, times) ∷ []) (record { count = omega arith; small = omega arith }) (record { count = omega arith; small = omega arith })

operand_one : (operand : Operand) (times : ℤ) → IsOne (terms_of operand times) (unsigned_abs times)
operand_one (known n) times = record { count = omega arith; small = omega arith }
operand_one (id x) times = term_one Before x times

none_over : (operand : Operand) (times : ℤ) → times ≡ pos 0 → length (terms_of operand times) ≡ 0
none_over (known n) times e = refl
none_over (id x) times e = ap (λ (t : ℤ). length (term_of Before x t)) e

row_short : (left right : Operand) (fresh : ℕ) (row : ShortRow) → IsLow row → IsShortRow (row_over left right fresh row)
row_short left right fresh row low kind a b c e =
    let first = terms_of left row.left in
    let second = terms_of right row.right in
    let third = term_of After fresh row.result in
    let one = operand_one left row.left in
    let two = operand_one right row.right in
    let three = term_one After fresh row.result in
    let n = one.count in
    let m = two.count in
    let k = three.count in
    let s = one.small in
    let t = two.small in
    let u = three.small in
    let long : length (first ++ (second ++ third)) ≡ length first + length (second ++ third) = length-append first (second ++ third) in
    let rest : length (second ++ third) ≡ length second + length third = length-append second third in
    let whole : length (first ++ (second ++ third)) ≡ 3 = ap (λ (terms : List (Side × ℕ × ℤ)). length terms) e in
    let sum : sizes (first ++ (second ++ third)) ≡ sizes first + sizes (second ++ third) = sizes_joined first (second ++ third) in
    let more : sizes (second ++ third) ≡ sizes second + sizes third = sizes_joined second third in
    let all : sizes (first ++ (second ++ third)) ≡ unsigned_abs a.2 + (unsigned_abs b.2 + (unsigned_abs c.2 + 0)) = ap sizes e in
    elim (low kind) as (λ o. unsigned_abs a.2 + (unsigned_abs b.2 + unsigned_abs c.2) ≤ 4096) [
      | inl none ↦ let z = none_over left row.left none in absurd (omega (arith, z, m, k, long, rest, whole))
      | inr (inl none) ↦ let z = none_over right row.right none in absurd (omega (arith, z, n, k, long, rest, whole))
      | inr (inr most) ↦ omega (arith, most, s, t, u, sum, more, all)
    ]

rows_short : (left right : Operand) (fresh : ℕ) (rows : List ShortRow) → AreLow rows → AreShort (rows_over left right rows fresh)
rows_short left right fresh [] low = tt
rows_short left right fresh (row ∷ rows) low = (row_short left right fresh row low.0, rows_short left right fresh rows low.1)

-- ---- steps

throws_short : (here : Here) (class : ℕ) → IsShortTurn (throws here class)
throws_short here class fresh = tt

result_short : (here : Here) (frames : List AbstractFrame) (goal : Goal) (narrowed : List (ℕ × Cell)) (rows : ℕ → List LinkRow)
    (result : Option Bounds) → ((fresh : ℕ) → AreShort (rows fresh)) → IsShortTurn (turn_of_result here frames goal narrowed rows result)
result_short here frames goal narrowed rows None h = h
result_short here frames goal narrowed rows (Some r) h = h

operator_short : (here : Here) (op : IntOp) (left right : Operand) (frames : List AbstractFrame) (goal : Goal)
    → AreShortTurns (turns_of here op left right frames goal)
operator_short here op left right frames goal =
    filtered HasLow IsShortTurn (turn_of_case here left right frames goal)
    (operated op (interval_at here.state left) (interval_at here.state right)) (λ case low.
    if_mapped IsShortTurn (λ (narrowed : List (ℕ × Cell)). turn_of_result here frames goal narrowed (rows_over left right case.rows)
    case.result) (narrowings left case.left right case.right) (λ narrowed.
    result_short here frames goal narrowed (rows_over left right case.rows) case.result
    (λ fresh. rows_short left right fresh case.rows low)))
    (operated_low op (interval_at here.state left) (interval_at here.state right))

rows_if_short : (with_rows : Bool) (rows : ℕ → List LinkRow) → ((fresh : ℕ) → AreShort (rows fresh)) → (fresh : ℕ)
    → AreShort (rows_if with_rows rows fresh)
rows_if_short true rows h = h
rows_if_short false rows h = λ fresh. tt

branches_short : (here : Here) (condition : Cond) (left right : Operand) (place : ℕ) (stack : List ℕ) (with_rows : Bool)
    → AreShortTurns (branches here condition left right place stack with_rows)
branches_short here condition left right place stack with_rows =
    filtered HasLow IsShortTurn (branch_of_case here left right place stack with_rows)
    (compared condition (are_one left right) (interval_at here.state left) (interval_at here.state right)) (λ case low.
    if_mapped IsShortTurn
    (λ (narrowed : List (ℕ × Cell)). narrows narrowed (with_stack here (place_of_way here place case.way) stack)
    (rows_if with_rows (rows_over left right case.rows))) (narrowings left case.left right case.right) (λ narrowed.
    rows_if_short with_rows (rows_over left right case.rows) (λ fresh. rows_short left right fresh case.rows low)))
    (compared_low condition (are_one left right) (interval_at here.state left) (interval_at here.state right))

kept_short : (kept : Turn) (frames : List AbstractFrame) (goal : Goal) (result : Option Bounds) → IsShortTurn kept
    → IsShortTurn (turn_narrowing kept frames goal result)
kept_short kept frames goal None h = h
kept_short kept frames goal (Some r) h = λ fresh. tt

narrowing_short : (here : Here) (kind : Kind) (x : ℕ) (kept : Turn) (frames : List AbstractFrame) (goal : Goal) → IsShortTurn kept
    → AreShortTurns (turns_narrowing here kind x kept frames goal)
narrowing_short here kind x kept frames goal h =
    each_any IsShortTurn (λ (case : IntCase). turn_narrowing kept frames goal case.result)
    (operated (NarrowOp kind) (interval_of_id here.state x) (interval_of_id here.state x))
    (λ case. kept_short kept frames goal case.result h)

switches_short : (here : Here) (x : ℕ) (stack : List ℕ) (parts : List (Option Bounds × ℕ))
    → AreShortTurns (filter_map (switch_turn here x stack) parts)
switches_short here x stack parts =
    filtered_any IsShortTurn (switch_turn here x stack) parts (λ part.
    if_mapped IsShortTurn (λ (all_joined : Bounds). narrows ((x, cells.Int all_joined) ∷ []) (with_stack here part.1 stack) no_rows)
    (option_and_then (meet_of (interval_of_id here.state x)) part.0) (λ all_joined fresh. tt))

-- ---- what comes before a step

null_needed : (state : AbstractState) (x : ℕ) (plan : Plan) → IsShortPlan plan → IsShortPlan (need_null state x plan)
null_needed state x plan h = either IsShortPlan (may_be_null (cell_at state x)) (by_null x) plan tt h

pub split_short : (state : AbstractState) (x : ℕ) (place : PlaceType) → IsShortPlan (split_below state x place)
split_short state x places.Unset = tt
split_short state x places.Int = tt
split_short state x places.Null = tt
split_short state x (places.Ref t) = at (known_partner state x)
  where
    at : (partner : Option ℕ) → IsShortPlan (split_unknown x t partner)
    at None = tt
    at (Some other) = tt

object_needed : (state : AbstractState) (x : ℕ) (place : PlaceType) (plan : Plan) → IsShortPlan plan
    → IsShortPlan (need_object state x place plan)
object_needed state x place plan h = null_needed state x (need_class state x place plan)
    (either IsShortPlan (is_unknown (cell_at state x)) (split_below state x place) plan (split_short state x place) h)

unless_short : (here : Here) (x : ℕ) (plan : Plan) → IsShortPlan plan → IsShortPlan (unless_null here x plan)
unless_short here x plan h = either IsShortPlan (is_null_here here x) (steps (throws here null_pointer_exception ∷ [])) plan
    (throws_short here null_pointer_exception, tt) h

accessed_short : (here : Here) (depth x : ℕ) (plan : Plan) → IsShortPlan plan → IsShortPlan (accessed here depth x plan)
accessed_short here depth x plan h = object_needed here.state x (place_under here depth) (unless_null here x plan)
    (unless_short here x plan h)

after_short : (passing : Passing) (x : ℕ) (plan : Plan) → IsShortPlan plan → IsShortPlan (after_test passing x plan)
after_short passes x plan h = h
after_short fails x plan h = tt
after_short splits x plan h = tt

tested_short : (types : WorldTypes) (state : AbstractState) (operands : List (PlaceType × ℕ)) (plan : Plan) → IsShortPlan plan
    → IsShortPlan (tested types state operands plan)
tested_short types state [] plan h = h
tested_short types state (operand ∷ operands) plan h = after_short (passing_id types state operand.0 operand.1) operand.1
    (tested types state operands plan) (tested_short types state operands plan h)

-- ---- the table

one_if : {X : Type 0} (f : X → Turn) (o : Option X) → ((x : X) → IsShortTurn (f x)) → IsShortPlan (step_if (option_map f o))
one_if f o h = listed IsShortTurn (option_map f o) (if_mapped IsShortTurn f o h)

unary_short : (stack : List ℕ) (plan : ℕ → List ℕ → Plan) → ((a : ℕ) (rest : List ℕ) → IsShortPlan (plan a rest))
    → IsShortPlan (unary stack plan)
unary_short [] plan h = tt
unary_short (a ∷ rest) plan h = h a rest

binary_short : (stack : List ℕ) (plan : ℕ → ℕ → List ℕ → Plan) → ((a b : ℕ) (rest : List ℕ) → IsShortPlan (plan a b rest))
    → IsShortPlan (binary stack plan)
binary_short [] plan h = tt
binary_short (b ∷ []) plan h = tt
binary_short (b ∷ a ∷ rest) plan h = h a b rest

module _ (here : Here) where
  load_short : (n : ℕ) → IsShortPlan (load_plan here n)
  load_short n = one_if (λ (x : ℕ). goes_on here here.next (x ∷ here.frame.stack)) (local_here here n) (λ x fresh. tt)

  store_short : (n : ℕ) (stack : List ℕ) → IsShortPlan (store_plan here n stack)
  store_short n [] = tt
  store_short n (x ∷ stack) = (λ fresh. tt, tt)

  increment_short : (n : ℕ) (by : ℤ) (found : Option ℕ) → IsShortPlan (increment_plan here n by found)
  increment_short n by None = tt
  increment_short n by (Some x) = operator_short here Add (id x) (known by) (with_stack here here.next here.frame.stack) (in_local n)

  negation_short : (stack : List ℕ) → IsShortPlan (negation_plan here stack)
  negation_short [] = tt
  negation_short (a ∷ stack) = operator_short here Sub (known (pos 0)) (id a) (with_stack here here.next stack) on_stack

  narrow_short : (kind : Kind) (stack : List ℕ) → IsShortPlan (narrow_plan here kind stack)
  narrow_short kind [] = tt
  narrow_short kind (a ∷ stack) = narrowing_short here kind a (goes_on here here.next (a ∷ stack)) (with_stack here here.next stack)
      on_stack (λ fresh. tt)

  switch_short : (default : ℕ) (keys : List (ℤ × ℕ)) (stack : List ℕ) → IsShortPlan (switch_plan here default keys stack)
  switch_short default keys [] = tt
  switch_short default keys (a ∷ stack) = switches_short here a stack (parts_of default keys)

  jump_short : (wanted is : Bool) (place : ℕ) (stack : List ℕ) → IsShortPlan (jump_if here wanted is place stack)
  jump_short wanted is place stack = (λ fresh. tt, tt)

  null_short : (wanted : Bool) (place : ℕ) (stack : List ℕ) → IsShortPlan (null_plan here wanted place stack)
  null_short wanted place [] = tt
  null_short wanted place (a ∷ stack) = null_needed here.state a (jump_if here wanted (is_null_here here a) place stack)
      (jump_short wanted (is_null_here here a) place stack)

  equal_short : (wanted : Bool) (place : ℕ) (stack : List ℕ) → IsShortPlan (equal_plan here wanted place stack)
  equal_short wanted place [] = tt
  equal_short wanted place (b ∷ []) = tt
  equal_short wanted place (b ∷ a ∷ stack) =
      either IsShortPlan (a == b) (jump_if here wanted true place stack) _ (jump_short wanted true place stack)
      (null_needed here.state a _ (null_needed here.state b _
      (either IsShortPlan (is_null_here here a && is_null_here here b) (jump_if here wanted true place stack) _
      (jump_short wanted true place stack)
      (either IsShortPlan (is_null_here here a || is_null_here here b) (jump_if here wanted false place stack) _
      (jump_short wanted false place stack)
      (either IsShortPlan (has a b here.state.eq) (by_equal a b) (jump_if here wanted false place stack) tt
      (jump_short wanted false place stack))))))

  getfield_short : (used : FieldUse) (stack : List ℕ) → IsShortPlan (getfield_plan here used stack)
  getfield_short used [] = tt
  getfield_short used (k ∷ stack) = accessed_short here 0 k _
      (one_if (λ (x : ℕ). goes_on here here.next (x ∷ stack)) (field_id (cell_here here k) used.place) (λ x fresh. tt))

  slot_short : (slot : Slot) (k place x : ℕ) (stack : List ℕ) (class : ℕ) (ids : List ℕ)
      → IsShortPlan (put_slot here slot k place x stack class ids)
  slot_short (slots.Num kind) k place x stack class ids = narrowing_short here kind x
      (record (moves (with_stack here here.next stack)) { changed = (k, cells.Obj class (slice_set ids place x)) ∷ [] })
      (with_stack here here.next stack) (in_field k place) (λ fresh. tt)
  slot_short (slots.Ref t) k place x stack class ids = (λ fresh. tt, tt)

  instance_short : (cell : Option Cell) (plan : ℕ → List ℕ → Plan) → ((class : ℕ) (ids : List ℕ) → IsShortPlan (plan class ids))
      → IsShortPlan (on_instance cell plan)
  instance_short None plan h = tt
  instance_short (Some (cells.Int interval)) plan h = tt
  instance_short (Some cells.Null) plan h = tt
  instance_short (Some (cells.Obj class ids)) plan h = h class ids
  instance_short (Some (cells.Nums kind len)) plan h = tt
  instance_short (Some (cells.Refs element len shape)) plan h = tt
  instance_short (Some (cells.Unk bound nullable shape)) plan h = tt

  putfield_short : (used : FieldUse) (stack : List ℕ) → IsShortPlan (putfield_plan here used stack)
  putfield_short used [] = tt
  putfield_short used (x ∷ []) = tt
  putfield_short used (x ∷ k ∷ stack) = accessed_short here 1 k _
      (instance_short (cell_here here k) (put_slot here used.slot k used.place x stack) (slot_short used.slot k used.place x stack))

  getstatic_short : (place : ℕ) → IsShortPlan (getstatic_plan here place)
  getstatic_short place = one_if (λ (x : ℕ). goes_on here here.next (x ∷ here.frame.stack))
      (option_and_then (λ (local : Option ℕ). local) (slice_get (bottom_of here).locals (static_local here place))) (λ x fresh. tt)

  static_short : (slot : Slot) (n x : ℕ) (stack : List ℕ) → IsShortPlan (put_static here slot n x stack)
  static_short (slots.Num kind) n x stack = narrowing_short here kind x (moves (bottom_with n x (with_stack here here.next stack)))
      (with_stack here here.next stack) (in_bottom n) (λ fresh. tt)
  static_short (slots.Ref t) n x stack = (λ fresh. tt, tt)

  putstatic_short : (place : ℕ) (stack : List ℕ) → IsShortPlan (putstatic_plan here place stack)
  putstatic_short place [] = tt
  putstatic_short place (x ∷ stack) = given_or IsShortPlan _ (slice_get here.program.statics place) no_child
      (λ field. static_short field.slot (static_local here place) x stack) tt

  base_short : (base : Base) → IsShortPlan (new_of_base here base)
  base_short (bases.Class class) = (λ fresh. tt, tt)
  base_short (bases.Num kind) = tt

  array_short : (slot : Slot) (stack : List ℕ) → IsShortPlan (array_plan here slot stack)
  array_short slot [] = tt
  array_short slot (count ∷ stack) =
      all_joined IsShortTurn
      (option_to_list (option_map (array_turn here slot count stack) (meet_of (interval_of_id here.state count) natural)))
      (option_to_list (option_map (λ (all_joined : Bounds). throws_after here ((count, cells.Int all_joined) ∷ []) no_rows
      negative_array_size_exception) (meet_of (interval_of_id here.state count) negative)))
      (one_if (array_turn here slot count stack) (meet_of (interval_of_id here.state count) natural) (λ all_joined fresh. tt))
      (one_if (λ (all_joined : Bounds). throws_after here ((count, cells.Int all_joined) ∷ []) no_rows
      negative_array_size_exception) (meet_of (interval_of_id here.state count) negative) (λ all_joined fresh. tt))

  length_short : (stack : List ℕ) → IsShortPlan (length_plan here stack)
  length_short [] = tt
  length_short (k ∷ stack) = accessed_short here 0 k _
      (one_if (λ (len : ℕ). goes_on here here.next (len ∷ stack)) (length_id (cell_here here k)) (λ len fresh. tt))

  -- ---- arrays

  abbrev AreShortBy : (ℕ → List LinkRow) → Type 0
  AreShortBy rows = (fresh : ℕ) → AreShort (rows fresh)

  abbrev narrowed_by : ℕ → ℕ → IntCase → Option (List (ℕ × Cell) × (ℕ → List LinkRow))
  narrowed_by index len case = option_map (λ (narrowed : List (ℕ × Cell)). (narrowed, rows_over (id index) (id len) case.rows))
      (narrowings (id index) case.left (id len) case.right)

  inside_short : (index len : ℕ)
      → IfSome (in_bounds here index len) (λ (inside : List (ℕ × Cell) × (ℕ → List LinkRow)). AreShortBy inside.1)
  inside_short index len =
      if_then (λ (inside : List (ℕ × Cell) × (ℕ → List LinkRow)). AreShortBy inside.1)
      (λ (i : Bounds). option_and_then (narrowed_by index len) (related Below Taken i (interval_of_id here.state len)))
      (meet_of (interval_of_id here.state index) natural) (λ i.
      if_both HasLow (λ (inside : List (ℕ × Cell) × (ℕ → List LinkRow)). AreShortBy inside.1) (narrowed_by index len)
      (related Below Taken i (interval_of_id here.state len)) (related_low Below Taken i (interval_of_id here.state len)) (λ case low.
      if_mapped (λ (inside : List (ℕ × Cell) × (ℕ → List LinkRow)). AreShortBy inside.1)
      (λ (narrowed : List (ℕ × Cell)). (narrowed, rows_over (id index) (id len) case.rows))
      (narrowings (id index) case.left (id len) case.right) (λ narrowed fresh. rows_short (id index) (id len) fresh case.rows low)))

  abbrev thrown_by : ℕ → ℕ → IntCase → Option Turn
  thrown_by index len case = option_map
      (λ (narrowed : List (ℕ × Cell)). throws_after here narrowed (rows_over (id index) (id len) case.rows)
      array_index_out_of_bounds_exception) (narrowings (id index) case.left (id len) case.right)

  outside_short : (index len : ℕ) → AreShortTurns (out_of_bounds here index len)
  outside_short index len =
      all_joined IsShortTurn
      (option_to_list (option_map (λ (all_joined : Bounds). throws_after here ((index, cells.Int all_joined) ∷ []) no_rows
      array_index_out_of_bounds_exception) (meet_of (interval_of_id here.state index) negative)))
      (option_to_list (option_and_then (thrown_by index len)
      (related AtLeast Taken (interval_of_id here.state index) (interval_of_id here.state len))))
      (one_if (λ (all_joined : Bounds). throws_after here ((index, cells.Int all_joined) ∷ []) no_rows
      array_index_out_of_bounds_exception) (meet_of (interval_of_id here.state index) negative) (λ all_joined fresh. tt))
      (listed IsShortTurn (option_and_then (thrown_by index len)
      (related AtLeast Taken (interval_of_id here.state index) (interval_of_id here.state len)))
      (if_both HasLow IsShortTurn (thrown_by index len)
      (related AtLeast Taken (interval_of_id here.state index) (interval_of_id here.state len))
      (related_low AtLeast Taken (interval_of_id here.state index) (interval_of_id here.state len)) (λ case low.
      if_mapped IsShortTurn (λ (narrowed : List (ℕ × Cell)). throws_after here narrowed (rows_over (id index) (id len) case.rows)
      array_index_out_of_bounds_exception) (narrowings (id index) case.left (id len) case.right)
      (λ narrowed fresh. rows_short (id index) (id len) fresh case.rows low))))

  good_short : (good : List (ℕ × Cell) → (ℕ → List LinkRow) → List Turn) (o : Option (List (ℕ × Cell) × (ℕ → List LinkRow)))
      → ((narrowed : List (ℕ × Cell)) (rows : ℕ → List LinkRow) → AreShortBy rows → AreShortTurns (good narrowed rows))
      → IfSome o (λ (inside : List (ℕ × Cell) × (ℕ → List LinkRow)). AreShortBy inside.1)
      → AreShortTurns (option_map_or (λ (inside : List (ℕ × Cell) × (ℕ → List LinkRow)). good inside.0 inside.1) o [])
  good_short good None h i = tt
  good_short good (Some inside) h i = h inside.0 inside.1 i

  access_of_short : (depth k index : ℕ) (length : Option ℕ) (good : List (ℕ × Cell) → (ℕ → List LinkRow) → List Turn)
      → ((narrowed : List (ℕ × Cell)) (rows : ℕ → List LinkRow) → AreShortBy rows → AreShortTurns (good narrowed rows))
      → IsShortPlan (access_of here depth k index length good)
  access_of_short depth k index length good h =
      accessed_short here depth k _ (given_or IsShortPlan (λ (len : ℕ). access_at here index len good) length no_child (λ len.
      all_joined IsShortTurn (option_map_or (λ (inside : List (ℕ × Cell) × (ℕ → List LinkRow)). good inside.0 inside.1)
      (in_bounds here index len) []) (out_of_bounds here index len)
      (good_short good (in_bounds here index len) h (inside_short index len)) (outside_short index len)) tt)

  access_short : (depth k index : ℕ) (good : List (ℕ × Cell) → (ℕ → List LinkRow) → List Turn)
      → ((narrowed : List (ℕ × Cell)) (rows : ℕ → List LinkRow) → AreShortBy rows → AreShortTurns (good narrowed rows))
      → IsShortPlan (access_plan here depth k index good)
  access_short depth k index good h = access_of_short depth k index (length_id (cell_here here k)) good h

  number_load_short : (stack : List ℕ) → IsShortPlan (number_load_plan here stack)
  number_load_short [] = tt
  number_load_short (index ∷ []) = tt
  number_load_short (index ∷ k ∷ stack) = access_short 1 k index
      (λ narrowed rows. record {
        changed = narrowed;
        frames = with_stack here here.next stack;
        throwing = None;
        act = makes
            (cells.Int (of_kind (cell_here here k)));
        goal = on_stack;
        rows = rows;
      } ∷ []) (λ narrowed rows h. (h, tt))

  number_store_short : (stack : List ℕ) → IsShortPlan (number_store_plan here stack)
  number_store_short [] = tt
  number_store_short (value ∷ []) = tt
  number_store_short (value ∷ index ∷ []) = tt
  number_store_short (value ∷ index ∷ k ∷ stack) = access_short 2 k index
      (λ narrowed rows. record {
        changed = narrowed;
        frames = with_stack here here.next stack;
        throwing = None;
        act = nothing;
        goal
            = nowhere;
        rows = rows;
      } ∷ []) (λ narrowed rows h. (h, tt))

  aaload_short : (stack : List ℕ) → IsShortPlan (aaload_plan here stack)
  aaload_short [] = tt
  aaload_short (index ∷ []) = tt
  aaload_short (index ∷ k ∷ stack) = access_of_short 1 k index (items_of here k index)
      (λ narrowed rows. record {
        changed = narrowed;
        frames = with_stack here here.next stack;
        throwing = None;
        act = item k;
        goal =
            on_stack;
        rows = rows;
      } ∷ []) (λ narrowed rows h. (h, tt))

  aastore_short : (stack : List ℕ) → IsShortPlan (aastore_plan here stack)
  aastore_short [] = tt
  aastore_short (value ∷ []) = tt
  aastore_short (value ∷ index ∷ []) = tt
  aastore_short (value ∷ index ∷ k ∷ stack) = access_short 2 k index (λ narrowed rows.
      record {
        changed = narrowed;
        frames = with_stack here here.next stack;
        throwing = None;
        act = writes
            (record { object = k; field = None; value = value });
        goal = nowhere;
        rows = rows;
      }
      ∷ (if is_null_here here value then [] else throws_after here narrowed rows array_store_exception ∷ []))
      (λ narrowed rows h. (
        h,
        either AreShortTurns (is_null_here here value) []
            (throws_after here narrowed rows array_store_exception ∷ []) tt (h, tt),
      ))

  -- ---- casts

  record IsShortCast (cast : Cast) : Type 0 where
    passed : IsShortTurn cast.passed
    failed : IsShortTurn cast.failed
    null : IsShortTurn cast.null

  bound_short : (x : ℕ) (cell : Option Cell) (turn : Turn) → IsShortTurn turn → IsShortTurn (with_bound x cell turn)
  bound_short x None turn h = h
  bound_short x (Some cell) turn h = h

  undecided_short : (t : Ty) (x : ℕ) (cast : Cast) → IsShortCast cast → AreShortTurns (undecided here t x cast)
  undecided_short t x cast h =
      let bound = option_and_then (bounded (types_here here) ((types_here here).erase t)) (cell_here here x) in
      all_joined IsShortTurn (if may_be_below here t (cell_bound (cell_here here x)) then with_bound x bound cast.passed ∷ [] else
      []) (cast.failed ∷ [])
      (either AreShortTurns (may_be_below here t (cell_bound (cell_here here x))) (with_bound x bound cast.passed ∷ []) []
      (bound_short x bound cast.passed h.passed, tt) tt)
      (h.failed, tt)

  cast_short : (t : Ty) (x : ℕ) (asks : Bool) (cast : Cast) → IsShortCast cast → IsShortPlan (cast_plan here t x asks cast)
  cast_short t x asks cast h =
      either IsShortPlan (is_null_here here x) (steps (cast.null ∷ [])) _ (h.null, tt)
      (either IsShortPlan (is_bound_below here t (cell_bound (cell_here here x))) _ _
      (either IsShortPlan asks _ (steps (cast.passed ∷ [])) (null_needed here.state x (steps (cast.passed ∷ [])) (h.passed, tt))
      (h.passed, tt))
      (null_needed here.state x _ (either IsShortPlan (is_known_cell (cell_here here x)) (steps (cast.failed ∷ []))
      (steps (undecided here t x cast)) (h.failed, tt) (undecided_short t x cast h))))

  checkcast_short : (t : Ty) (stack : List ℕ) → IsShortPlan (checkcast_plan here t stack)
  checkcast_short t [] = tt
  checkcast_short t (x ∷ stack) = cast_short t x false (checkcast_of here (x ∷ stack))
      (record { passed = λ fresh. tt; failed = λ fresh. tt; null = λ fresh. tt })

  instanceof_short : (t : Ty) (stack : List ℕ) → IsShortPlan (instanceof_plan here t stack)
  instanceof_short t [] = tt
  instanceof_short t (x ∷ stack) = cast_short t x true (instanceof_of here stack)
      (record { passed = λ fresh. tt; failed = λ fresh. tt; null = λ fresh. tt })

  -- ---- calls

  invokes_short : (count number : ℕ) → IsShortPlan (invokes here count number)
  invokes_short count number = given_or IsShortPlan
      (λ (m : Method). steps
      (moves (called_frame number m (reverse (take count here.frame.stack)) ∷ with_stack here here.frame.pc
      (drop count here.frame.stack)) ∷ [])) (slice_get here.program.methods number) no_child (λ m. (λ fresh. tt, tt)) tt

  runs_short : (count : ℕ) (target : Option ℕ) → IsShortPlan (runs_or_lacks here count target)
  runs_short count None = (λ fresh. tt, tt)
  runs_short count (Some number) = invokes_short count number

  called_short : (call : Call) → IsShortPlan (static_plan here call)
  called_short call = given_or IsShortPlan (invokes here (length call.params)) call.target no_child
      (λ number. invokes_short (length call.params) number) tt

  special_short : (call : Call) → IsShortPlan (special_plan here call)
  special_short call = given_or IsShortPlan _ (receiver_of here call) no_child
      (λ x. null_needed here.state x _
      (unless_short here x (runs_or_lacks here (length call.params + 1) call.target)
      (runs_short (length call.params + 1) call.target))) tt

  answered_short : (count : ℕ) (selected : Option Selected) → IsShortPlan (answered here count selected)
  answered_short count None = tt
  answered_short count (Some (answers.Method number)) = invokes_short count number
  answered_short count (Some answers.Abstract) = (λ fresh. tt, tt)
  answered_short count (Some answers.NoInterface) = (λ fresh. tt, tt)

  selecting_short : (op : Op) (call : Call) → IsShortPlan (selecting_plan here op call)
  selecting_short op call = given_or IsShortPlan _ (receiver_of here call) no_child
      (λ x. accessed_short here (length call.params) x _
      (answered_short (length call.params + 1) (answer_of here.program op (class_of_cell (cell_here here x))))) tt

  returned_short : (value : Option ℕ) (below : List AbstractFrame) → IsShortPlan (returned_to here value below)
  returned_short value [] = tt
  returned_short value (caller ∷ below) = one_if
      (λ (place : ℕ). moves (record caller { pc = place; stack = option_to_list value ++ caller.stack } ∷ below))
      (option_and_then (λ (found : Op × Option ℕ). found.1) (insn_at here.program.methods caller.method caller.pc)) (λ place fresh. tt)

  value_short : (stack : List ℕ) → IsShortPlan (value_plan here stack)
  value_short [] = tt
  value_short (x ∷ stack) = returned_short (Some x) here.below

  thrown_short : (stack : List ℕ) → IsShortPlan (athrow_plan here stack)
  thrown_short [] = tt
  thrown_short (x ∷ stack) =
      let plan : Plan = steps (record (moves (emptied here)) { throwing = Some x } ∷ []) in
      null_needed here.state x (unless_null here x plan) (unless_short here x plan (λ fresh. tt, tt))

  row_of_short : (form : Form) → IsShortPlan (row_of here form)
  row_of_short Nop = (λ fresh. tt, tt)
  row_of_short AconstNull = (λ fresh. tt, tt)
  row_of_short (Iconst n) = (λ fresh. tt, tt)
  row_of_short (Iload n) = load_short n
  row_of_short (Aload n) = load_short n
  row_of_short (Istore n) = store_short n here.frame.stack
  row_of_short (Astore n) = store_short n here.frame.stack
  row_of_short (Iinc n by) = increment_short n by (local_here here n)
  row_of_short (Shuffle shuffle) = one_if (goes_on here here.next) (shuffled shuffle here.frame.stack) (λ stack fresh. tt)
  row_of_short (Arith op) = binary_short here.frame.stack
      (λ a b stack. steps (turns_of here op (id a) (id b) (with_stack here here.next stack) on_stack))
      (λ a b rest. operator_short here op (id a) (id b) (with_stack here here.next rest) on_stack)
  row_of_short Ineg = negation_short here.frame.stack
  row_of_short (Narrow kind) = narrow_short kind here.frame.stack
  row_of_short (If condition place) = unary_short here.frame.stack
      (λ a stack. steps (branches here condition (id a) (known (pos 0)) place stack false))
      (λ a rest. branches_short here condition (id a) (known (pos 0)) place rest false)
  row_of_short (IfIcmp condition place) = binary_short here.frame.stack
      (λ a b stack. steps (branches here condition (id a) (id b) place stack true))
      (λ a b rest. branches_short here condition (id a) (id b) place rest true)
  row_of_short (IfAcmpeq place) = equal_short true place here.frame.stack
  row_of_short (IfAcmpne place) = equal_short false place here.frame.stack
  row_of_short (Ifnull place) = null_short true place here.frame.stack
  row_of_short (Ifnonnull place) = null_short false place here.frame.stack
  row_of_short (Goto place) = (λ fresh. tt, tt)
  row_of_short (Tableswitch default low targets) = switch_short default (table_keys low targets) here.frame.stack
  row_of_short (Lookupswitch default cases) = switch_short default (lookup_keys cases) here.frame.stack
  row_of_short Ireturn = value_short here.frame.stack
  row_of_short Areturn = value_short here.frame.stack
  row_of_short Return = returned_short None here.below
  row_of_short (Getstatic place) = getstatic_short place
  row_of_short (Putstatic place) = putstatic_short place here.frame.stack
  row_of_short (Getfield used) = getfield_short used here.frame.stack
  row_of_short (Putfield used) = putfield_short used here.frame.stack
  row_of_short (Invokevirtual call) = selecting_short (ops.Invokevirtual call) call
  row_of_short (Invokespecial call) = special_short call
  row_of_short (Invokestatic call) = called_short call
  row_of_short (Invokeinterface call) = selecting_short (ops.Invokeinterface call) call
  row_of_short (New t) = base_short t.base
  row_of_short (Newarray kind) = array_short (slots.Num kind) here.frame.stack
  row_of_short (Anewarray t) = array_short (slots.Ref t) here.frame.stack
  row_of_short Arraylength = length_short here.frame.stack
  row_of_short (NumberLoad for) = number_load_short here.frame.stack
  row_of_short Aaload = aaload_short here.frame.stack
  row_of_short (NumberStore for) = number_store_short here.frame.stack
  row_of_short Aastore = aastore_short here.frame.stack
  row_of_short Athrow = thrown_short here.frame.stack
  row_of_short (Checkcast t) = checkcast_short t here.frame.stack
  row_of_short (Instanceof t) = instanceof_short t here.frame.stack

  pub form_short : (form : Form) → IsShortPlan (plan_of_form here form)
  form_short form = tested_short (types_here here) here.state (operands_of (taken_by form) here.places here.frame.stack)
      (row_of here form) (row_of_short form)
