-- Steps that make no id send none, and their rows name none: operators, comparisons, switches and accesses of arrays.
use Rattle.std.proofs.Common.{◌≡◌, ◌∙◌, ℕ, ℤ, pos, ◌+ℤ◌, Bool, true, false, List, [], ◌∷◌, ◌++◌, Option, Some, None, refl, sym, ap, subst}
use Rattle.std.specs.List.{AllByRecursion, filter_map}
use Rattle.std.specs.Option.{IfSome, option_map, option_map_or, option_and_then, option_to_list}
use Rattle.std.proofs.lemmas.Bool.{false≢true}
use Rattle.list_views.proofs.Options.{map_some, then_some}
use Rattle.list_views.proofs.Quantified.{all_filtered, all_joined}
use Rattle.abs_cells.specs.lin_core.Intervals.{Bounds}
use Rattle.jvm_values.specs.declared.ints.IntOp.{IntOp}
use Rattle.jvm_values.specs.declared.ints.IntOp.TheVariants.{Narrow as NarrowOp}
use Rattle.jvm_values.specs.declared.ints.Cond.{Cond}
use Rattle.jvm_values.specs.declared.types.Kind.{Kind}
use Rattle.abs_cells.specs.declared.cells.Cell.{Cell}
use Rattle.abs_cells.specs.declared.cells.Cell.TheVariants as cells
use Rattle.abs_cells.specs.AbstractStates.{AbstractFrame, AbstractState}
use Rattle.abs_ints.specs.Comparing.{row_of, related, compared}
use Rattle.abs_ints.specs.IntIntervals.{meet_of}
use Rattle.abs_ints.specs.Operating.{operated}
use Rattle.abs_ints.specs.declared.cases.IntCase.{IntCase}
use Rattle.abs_ints.specs.declared.cases.ShortRow.{ShortRow}
use Rattle.abs_ints.specs.declared.cases.Way.{Way}
use Rattle.abs_ints.specs.declared.cases.Way.TheVariants.{Taken}
use Rattle.abs_ints.specs.declared.relations.Relation.{Relation}
use Rattle.abs_ints.specs.declared.relations.Relation.TheVariants.{Equal, Below, AtMost, Above, AtLeast}
use Rattle.class_program.specs.class_world.BuiltIns.{array_index_out_of_bounds_exception}
use Rattle.term_graph.specs.declared.links.Side.{Side}
use Rattle.term_graph.specs.declared.links.Side.TheVariants.{After}
use Rattle.term_graph.specs.declared.links.LinkRow.{LinkRow}
use Rattle.abs_plans.specs.abs_turns.Plans.{Goal, nowhere, Turn, no_rows}
use Rattle.abs_plans.specs.abs_turns.Table.{natural, negative, in_bounds, out_of_bounds, access_at}
use Rattle.abs_plans.specs.abs_turns.Turns.{Here, Operand, known, id, with_stack, throws_after, interval_at, interval_of_id, are_one}
use Rattle.abs_plans.specs.abs_turns.Turns.{narrowings, term_of, terms_of, constant_of, row_over, rows_over, turn_of_result, turn_of_case}
use Rattle.abs_plans.specs.abs_turns.Turns.{turns_of, turn_narrowing, turns_narrowing, narrows, place_of_way, rows_if, branch_of_case}
use Rattle.abs_plans.specs.abs_turns.Turns.{branches, switch_turn}
use Rattle.abs_plans.proofs.abs_turns.OptionLists.{filtered, each_any, if_there}
use Rattle.steady_plans.proofs.EachRow.{HasEach, each_related, each_compared}
use Rattle.steady_plans.specs.Steps.{makes_id, IsSteady, AreSteady}

-- ---- steps without rows, and steps that make an id

pub still : (turn : Turn) → turn.goal ≡ nowhere → turn.rows ≡ no_rows → IsSteady turn
still turn goal rows e = record {
  goal = goal;
  rows = λ a b. ap (λ (r : ℕ → List LinkRow). r a) rows ∙ sym (ap (λ (r : ℕ → List LinkRow). r b) rows);
}

pub maker : (turn : Turn) → makes_id turn.act ≡ true → IsSteady turn
maker turn t e = absurd (false≢true (sym e ∙ t))

-- the rows of a step are the same for every id
abbrev pub AreSame : (ℕ → List LinkRow) → Type 0
AreSame rows = (a b : ℕ) → rows a ≡ rows b

-- ---- rows that name no result

abbrev NamesNone : ShortRow → Type 0
NamesNone row = row.result ≡ pos 0

relation_names_none : (relation : Relation) → NamesNone (row_of relation)
relation_names_none Equal = refl
relation_names_none Below = refl
relation_names_none AtMost = refl
relation_names_none Above = refl
relation_names_none AtLeast = refl

compared_none : (condition : Cond) (same : Bool) (a b : Bounds) → AllByRecursion (HasEach NamesNone) (compared condition same a b)
compared_none = each_compared NamesNone relation_names_none

related_none : (relation : Relation) (way : Way) (a b : Bounds) (case : IntCase) → related relation way a b ≡ Some case
    → HasEach NamesNone case
related_none relation way a b case e =
    subst (λ (found : Option IntCase). IfSome found (HasEach NamesNone)) e (each_related NamesNone relation_names_none relation way a b)

abbrev row_with : Operand → Operand → ShortRow → List (Side × ℕ × ℤ) → LinkRow
row_with left right row last = record {
  kind = row.kind;
  terms = terms_of left row.left ++ (terms_of right row.right ++ last);
  constant = row.constant +ℤ (constant_of left row.left +ℤ constant_of right row.right);
}

row_same : (left right : Operand) (row : ShortRow) (a b : ℕ) → NamesNone row → row_over left right a row ≡ row_over left right b row
row_same left right row a b e = ap (row_with left right row) (ap (term_of After a) e ∙ sym (ap (term_of After b) e))

pub over_same : (left right : Operand) (rows : List ShortRow) → AllByRecursion NamesNone rows → AreSame (rows_over left right rows)
over_same left right [] none a b = refl
over_same left right (row ∷ rows) none a b =
    ap (λ (first : LinkRow). first ∷ rows_over left right rows a) (row_same left right row a b none.0)
    ∙ ap (λ (rest : List LinkRow). row_over left right b row ∷ rest) (over_same left right rows none.1 a b)

-- ---- kinds of steps

module _ (here : Here) where
  result_steady : (frames : List AbstractFrame) (goal : Goal) (narrowed : List (ℕ × Cell)) (rows : ℕ → List LinkRow)
      (result : Option Bounds)
      → IsSteady (turn_of_result here frames goal narrowed rows result)
  result_steady frames goal narrowed rows None = maker (turn_of_result here frames goal narrowed rows None) refl
  result_steady frames goal narrowed rows (Some r) = maker (turn_of_result here frames goal narrowed rows (Some r)) refl

  pub operator_steady : (op : IntOp) (left right : Operand) (frames : List AbstractFrame) (goal : Goal)
      → AllByRecursion IsSteady (turns_of here op left right frames goal)
  operator_steady op left right frames goal =
      all_filtered IsSteady (turn_of_case here left right frames goal)
      (operated op (interval_at here.state left) (interval_at here.state right)) (λ case turn e.
      let m = map_some (λ (narrowed : List (ℕ × Cell)). turn_of_result here frames goal narrowed (rows_over left right case.rows)
      case.result)
      (narrowings left case.left right case.right) turn e in
      subst IsSteady m.1.1 (result_steady frames goal m.0 (rows_over left right case.rows) case.result))

  kind_steady : (kept : Turn) (frames : List AbstractFrame) (goal : Goal) (result : Option Bounds) → IsSteady kept
      → IsSteady (turn_narrowing kept frames goal result)
  kind_steady kept frames goal None h = h
  kind_steady kept frames goal (Some r) h = maker (turn_narrowing kept frames goal (Some r)) refl

  pub kinds_steady : (kind : Kind) (x : ℕ) (kept : Turn) (frames : List AbstractFrame) (goal : Goal) → IsSteady kept
      → AllByRecursion IsSteady (turns_narrowing here kind x kept frames goal)
  kinds_steady kind x kept frames goal h =
      each_any IsSteady (λ (case : IntCase). turn_narrowing kept frames goal case.result)
      (operated (NarrowOp kind) (interval_of_id here.state x) (interval_of_id here.state x))
      (λ case. kind_steady kept frames goal case.result h)

  if_wanted : (wanted : Bool) (rows : ℕ → List LinkRow) → AreSame rows → AreSame (rows_if wanted rows)
  if_wanted true rows h = h
  if_wanted false rows h = λ a b. refl

  narrows_steady : (narrowed : List (ℕ × Cell)) (frames : List AbstractFrame) (rows : ℕ → List LinkRow) → AreSame rows
      → IsSteady (narrows narrowed frames rows)
  narrows_steady narrowed frames rows h e = record { goal = refl; rows = h }

  pub branches_steady : (cond : Cond) (left right : Operand) (place : ℕ) (stack : List ℕ) (wanted : Bool)
      → AllByRecursion IsSteady (branches here cond left right place stack wanted)
  branches_steady cond left right place stack wanted =
      filtered (HasEach NamesNone) IsSteady (branch_of_case here left right place stack wanted)
      (compared cond (are_one left right) (interval_at here.state left) (interval_at here.state right)) (λ case none turn e.
      let frames = with_stack here (place_of_way here place case.way) stack in
      let rows = rows_if wanted (rows_over left right case.rows) in
      let m = map_some (λ (narrowed : List (ℕ × Cell)). narrows narrowed frames rows) (narrowings left case.left right case.right)
      turn e in
      subst IsSteady m.1.1 (narrows_steady m.0 frames rows
      (if_wanted wanted (rows_over left right case.rows) (over_same left right case.rows none))))
      (compared_none cond (are_one left right) (interval_at here.state left) (interval_at here.state right))

  pub switch_steady : (x : ℕ) (stack : List ℕ) (parts : List (Option Bounds × ℕ))
      → AllByRecursion IsSteady (filter_map (switch_turn here x stack) parts)
  switch_steady x stack parts =
      all_filtered IsSteady (switch_turn here x stack) parts (λ part turn e.
      let m = map_some (λ (both : Bounds). narrows ((x, cells.Int both) ∷ []) (with_stack here part.1 stack) no_rows)
      (option_and_then (meet_of (interval_of_id here.state x)) part.0) turn e in
      subst IsSteady m.1.1 (narrows_steady ((x, cells.Int m.0) ∷ []) (with_stack here part.1 stack) no_rows (λ a b. refl)))

  -- ---- accesses of arrays

  pub mapped_there : {X : Type 0} (f : X → Turn) (o : Option X) → ((x : X) → IsSteady (f x))
      → AllByRecursion IsSteady (option_to_list (option_map f o))
  mapped_there f None h = tt
  mapped_there f (Some x) h = (h x, tt)

  thrown_steady : (narrowed : List (ℕ × Cell)) (rows : ℕ → List LinkRow) (class : ℕ) → IsSteady (throws_after here narrowed rows class)
  thrown_steady narrowed rows class = maker (throws_after here narrowed rows class) refl

  outside_steady : (index len : ℕ) → AllByRecursion IsSteady (out_of_bounds here index len)
  outside_steady index len =
      all_joined IsSteady _ _
      (mapped_there (λ (both : Bounds). throws_after here ((index, cells.Int both) ∷ []) no_rows array_index_out_of_bounds_exception)
      (meet_of (interval_of_id here.state index) negative)
      (λ both. thrown_steady ((index, cells.Int both) ∷ []) no_rows array_index_out_of_bounds_exception))
      (if_there IsSteady _ (λ turn e.
      let b = then_some _ (related AtLeast Taken (interval_of_id here.state index) (interval_of_id here.state len)) turn e in
      let c = map_some (λ (narrowed : List (ℕ × Cell)). throws_after here narrowed (rows_over (id index) (id len) b.0.rows)
      array_index_out_of_bounds_exception)
      (narrowings (id index) b.0.left (id len) b.0.right) turn b.1.1 in
      subst IsSteady c.1.1 (thrown_steady c.0 (rows_over (id index) (id len) b.0.rows) array_index_out_of_bounds_exception)))

  inside_same : (index len : ℕ) (inside : List (ℕ × Cell) × (ℕ → List LinkRow)) → in_bounds here index len ≡ Some inside → AreSame inside.1
  inside_same index len inside e =
      let a = then_some _ (meet_of (interval_of_id here.state index) natural) inside e in
      let b = then_some _ (related Below Taken a.0 (interval_of_id here.state len)) inside a.1.1 in
      let c = map_some (λ (narrowed : List (ℕ × Cell)). (narrowed, rows_over (id index) (id len) b.0.rows))
      (narrowings (id index) b.0.left (id len) b.0.right) inside b.1.1 in
      subst (λ (i : List (ℕ × Cell) × (ℕ → List LinkRow)). AreSame i.1) c.1.1
      (over_same (id index) (id len) b.0.rows (related_none Below Taken a.0 (interval_of_id here.state len) b.0 b.1.0))

  good_inside : (good : List (ℕ × Cell) → (ℕ → List LinkRow) → List Turn) (found : Option (List (ℕ × Cell) × (ℕ → List LinkRow)))
      → ((inside : List (ℕ × Cell) × (ℕ → List LinkRow)) → found ≡ Some inside → AreSame inside.1)
      → ((narrowed : List (ℕ × Cell)) (rows : ℕ → List LinkRow) → AreSame rows → AllByRecursion IsSteady (good narrowed rows))
      → AllByRecursion IsSteady (option_map_or (λ (inside : List (ℕ × Cell) × (ℕ → List LinkRow)). good inside.0 inside.1) found [])
  good_inside good None same h = tt
  good_inside good (Some inside) same h = h inside.0 inside.1 (same inside refl)

  pub access_steady : (index len : ℕ) (good : List (ℕ × Cell) → (ℕ → List LinkRow) → List Turn)
      → ((narrowed : List (ℕ × Cell)) (rows : ℕ → List LinkRow) → AreSame rows → AllByRecursion IsSteady (good narrowed rows))
      → AreSteady (access_at here index len good)
  access_steady index len good h =
      all_joined IsSteady _ (out_of_bounds here index len) (good_inside good (in_bounds here index len) (inside_same index len) h)
      (outside_steady index len)
