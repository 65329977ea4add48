-- Steps that keep the sorts of ids, and whose rows are such as the rules of paths take.
use Rattle.std.proofs.Common.{◌≡◌, ◌∙◌, ◌==◌, ℕ, ℤ, pos, Bool, true, false, if◌then◌else◌, List, [], ◌∷◌, map, Option, Some, None}
use Rattle.std.proofs.Common.{refl, sym, ap, subst}
use Rattle.std.specs.List.{AllByRecursion, filter_map, cons_option}
use Rattle.std.specs.Option.{option_map, option_map_or, option_and_then, option_to_list}
use Rattle.list_views.proofs.Options.{map_some, then_some}
use Rattle.list_views.proofs.Quantified.{all_joined}
use Rattle.lin_core.specs.Intervals.{Bounds}
use Rattle.jvm_values.specs.declared.ints.IntOp.{IntOp}
use Rattle.jvm_values.specs.declared.ints.IntOp.TheVariants.{Narrow as NarrowOp}
use Rattle.jvm_values.specs.declared.ints.Cond.{Cond}
use Rattle.jvm_values.specs.declared.types.Kind.{Kind}
use Rattle.jvm_values.proofs.Options.{some_is}
use Rattle.abs_cells.specs.declared.cells.Cell.{Cell}
use Rattle.abs_cells.specs.declared.cells.Cell.TheVariants as cells
use Rattle.abs_cells.specs.AbstractStates.{AbstractFrame, AbstractState}
use Rattle.abs_cells.specs.Cells.{is_int, cell_at, HasCell}
use Rattle.abs_ints.specs.IntIntervals.{meet_of}
use Rattle.abs_ints.specs.Comparing.{related, compared}
use Rattle.abs_ints.specs.Operating.{operated}
use Rattle.abs_ints.specs.declared.cases.IntCase.{IntCase}
use Rattle.abs_ints.specs.declared.cases.ShortRow.{ShortRow}
use Rattle.abs_ints.specs.declared.cases.Way.TheVariants.{Taken}
use Rattle.abs_ints.specs.declared.relations.Relation.TheVariants.{Below, AtLeast}
use Rattle.class_program.specs.class_world.BuiltIns.{array_index_out_of_bounds_exception}
use Rattle.term_graph.specs.declared.links.LinkRow.{LinkRow}
use Rattle.abs_expand.specs.Plans.{Goal, Turn, Plan, ends, steps, by_null, by_class, by_equal, no_rows}
use Rattle.abs_expand.specs.Switches.{parts_of}
use Rattle.abs_expand.specs.Table.{natural, negative, in_bounds, out_of_bounds, access_at}
use Rattle.abs_expand.specs.Turns.{Here, Operand, known, id, with_stack, throws_after, interval_at, interval_of_id, are_one}
use Rattle.abs_expand.specs.Turns.{narrowings, rows_over, turn_of_result, turn_of_case, turns_of, turn_narrowing, turns_narrowing}
use Rattle.abs_expand.specs.Turns.{narrows, place_of_way, branch_of_case, branches, switch_turn}
use Rattle.steady_plans.proofs.EachRow.{IsFine, AreFine, HasEach}
use Rattle.plan_links.proofs.SmallRows.{HasIntEnds, IsPlainRow, operated_small, compared_plain, related_plain}
use Rattle.plan_links.proofs.Rows.{Keeps, IsKept, IsRowFor, IsRowed, IsOver, IsIntOperand, all_over, rows_fit, plain_fit}

-- ---- lists

put_one : {Y : Type 0} (P : Y → Type 0) (o : Option Y) (rest : List Y) → ((y : Y) → o ≡ Some y → P y) → AllByRecursion P rest
    → AllByRecursion P (cons_option o rest)
put_one P None rest h r = r
put_one P (Some y) rest h r = (h y refl, r)

filtered : {X Y : Type 0} (Q : X → Type 0) (P : Y → Type 0) (f : X → Option Y) (xs : List X)
    → ((x : X) → Q x → (y : Y) → f x ≡ Some y → P y) → AllByRecursion Q xs → AllByRecursion P (filter_map f xs)
filtered Q P f [] h all = tt
filtered Q P f (x ∷ xs) h all = put_one P (f x) (filter_map f xs) (h x all.0) (filtered Q P f xs h all.1)

any_filtered : {X Y : Type 0} (P : Y → Type 0) (f : X → Option Y) (xs : List X) → ((x : X) (y : Y) → f x ≡ Some y → P y)
    → AllByRecursion P (filter_map f xs)
any_filtered P f [] h = tt
any_filtered P f (x ∷ xs) h = put_one P (f x) (filter_map f xs) (h x) (any_filtered P f xs h)

each_any : {X Y : Type 0} (P : Y → Type 0) (f : X → Y) (xs : List X) → ((x : X) → P (f x)) → AllByRecursion P (map f xs)
each_any P f [] h = tt
each_any P f (x ∷ xs) h = (h x, each_any P f xs h)

pub if_there : {Y : Type 0} (P : Y → Type 0) (o : Option Y) → ((y : Y) → o ≡ Some y → P y) → AllByRecursion P (option_to_list o)
if_there P None h = tt
if_there P (Some y) h = (h y refl, tt)

pub mapped_there : {X Y : Type 0} (P : Y → Type 0) (f : X → Y) (o : Option X) → ((x : X) → P (f x))
    → AllByRecursion P (option_to_list (option_map f o))
mapped_there P f None h = tt
mapped_there P f (Some x) h = (h x, tt)

-- ---- sorts

-- an id gets a cell of its sort
abbrev pub IsOfSort : AbstractState → ℕ × Cell → Type 0
IsOfSort state c = (old : Cell) → cell_at state c.0 ≡ Some old → is_int old ≡ is_int c.1

abbrev pub AreOfSorts : AbstractState → List (ℕ × Cell) → Type 0
AreOfSorts state list = AllByRecursion (IsOfSort state) list

pub old_sort : (state : AbstractState) (x : ℕ) (was c : Cell) → cell_at state x ≡ Some was → is_int was ≡ is_int c → IsOfSort state (x, c)
old_sort state x was c is e old at = ap is_int (some_is (sym at ∙ is)) ∙ e

pub int_sort : (state : AbstractState) (x : ℕ) (interval : Bounds) → HasCell is_int state x → IsOfSort state (x, cells.Int interval)
int_sort state x interval h = old_sort state x h.cell (cells.Int interval) h.is h.sort_is

-- ---- steps

pub record IsFit (state : AbstractState) (turn : Turn) : Type 0 where
  pub sorts : AreOfSorts state turn.changed
  pub rows : IsRowed state turn

-- each step of a plan is so
abbrev pub AreFit : AbstractState → Plan → Type 0
AreFit state ends = Unit {0}
AreFit state (steps turns) = AllByRecursion (IsFit state) turns
AreFit state (by_null x) = Unit {0}
AreFit state (by_class x wanted) = Unit {0}
AreFit state (by_equal x y) = Unit {0}

-- a step without rows
pub bare : (state : AbstractState) (turn : Turn) → AreOfSorts state turn.changed → turn.rows ≡ no_rows → IsFit state turn
bare state turn sorts e = record {
  sorts = sorts;
  rows = λ fresh. subst (λ (rows : ℕ → List LinkRow). AllByRecursion (IsRowFor state (IsKept turn) fresh) (rows fresh)) (sym e) tt;
}

narrowed_sorts : (state : AbstractState) (left right : Operand) (l r : Bounds) (narrowed : List (ℕ × Cell))
    → IsIntOperand state left → IsIntOperand state right → narrowings left l right r ≡ Some narrowed → AreOfSorts state narrowed
narrowed_sorts state (known m) (known n) l r narrowed hl hr e = subst (AreOfSorts state) (some_is e) tt
narrowed_sorts state (id x) (known n) l r narrowed hl hr e = subst (AreOfSorts state) (some_is e) (int_sort state x l hl, tt)
narrowed_sorts state (known m) (id y) l r narrowed hl hr e = subst (AreOfSorts state) (some_is e) (int_sort state y r hr, tt)
narrowed_sorts state (id x) (id y) l r narrowed hl hr e = at (x == y) e
  where
    at : (b : Bool) → (if b then option_map (λ (both : Bounds). (x, cells.Int both) ∷ []) (meet_of l r) else Some
        ((x, cells.Int l) ∷ (y, cells.Int r) ∷ [])) ≡ Some narrowed → AreOfSorts state narrowed
    at true f =
        let m = map_some (λ (both : Bounds). (x, cells.Int both) ∷ []) (meet_of l r) narrowed f in
        subst (AreOfSorts state) m.1.1 (int_sort state x m.0 hl, tt)
    at false f = subst (AreOfSorts state) (some_is f) (int_sort state x l hl, (int_sort state y r hr, tt))

module _ (here : Here) (int_ends : (x : ℕ) → HasIntEnds (interval_of_id here.state x)) where
  abbrev Fit : Turn → Type 0
  Fit = IsFit here.state

  abbrev IsIntId : ℕ → Type 0
  IsIntId = HasCell is_int here.state

  -- ---- operators

  result_fit : (left right : Operand) (frames : List AbstractFrame) (goal : Goal) (narrowed : List (ℕ × Cell))
      (rows : List ShortRow) (result : Option Bounds) → IsIntOperand here.state left → IsIntOperand here.state right → Keeps goal frames
      → AllByRecursion (IsOver left right) rows → (result ≡ None → rows ≡ []) → AreOfSorts here.state narrowed
      → Fit (turn_of_result here frames goal narrowed (rows_over left right rows) result)
  result_fit left right frames goal narrowed rows None hl hr keeps all none sorts = record {
    sorts = sorts;
    rows = λ fresh. subst
        (λ (rs : List ShortRow). AllByRecursion
        (IsRowFor here.state (IsKept (turn_of_result here frames goal narrowed (rows_over left right rows) None)) fresh)
        (rows_over left right rs fresh)) (sym (none refl)) tt;
  }
  result_fit left right frames goal narrowed rows (Some r) hl hr keeps all none sorts = record {
    sorts = sorts;
    rows = λ fresh. rows_fit here.state (IsKept (turn_of_result here frames goal narrowed (rows_over left right rows) (Some r)))
        fresh left right rows hl hr (record { interval = r; is = refl; goes = keeps }) all;
  }

  case_fit : (left right : Operand) (frames : List AbstractFrame) (goal : Goal) → IsIntOperand here.state left
      → IsIntOperand here.state right → Keeps goal frames → (case : IntCase) → IsFine (IsOver left right) case → (turn : Turn)
      → turn_of_case here left right frames goal case ≡ Some turn → Fit turn
  case_fit left right frames goal hl hr keeps case fine turn e =
      let m = map_some (λ (narrowed : List (ℕ × Cell)). turn_of_result here frames goal narrowed (rows_over left right case.rows)
      case.result) (narrowings left case.left right case.right) turn e in
      subst Fit m.1.1 (result_fit left right frames goal m.0 case.rows case.result hl hr keeps fine.0 fine.1
      (narrowed_sorts here.state left right case.left case.right m.0 hl hr m.1.0))

  pub operator_fit : (op : IntOp) (left right : Operand) (frames : List AbstractFrame) (goal : Goal) → IsIntOperand here.state left
      → IsIntOperand here.state right → Keeps goal frames
      → AreFine (IsOver left right) (operated op (interval_at here.state left) (interval_at here.state right))
      → AllByRecursion Fit (turns_of here op left right frames goal)
  operator_fit op left right frames goal hl hr keeps fine =
      filtered (IsFine (IsOver left right)) Fit (turn_of_case here left right frames goal)
      (operated op (interval_at here.state left) (interval_at here.state right)) (case_fit left right frames goal hl hr keeps) fine

  pub ids_fit : (op : IntOp) (a b : ℕ) (frames : List AbstractFrame) (goal : Goal) → IsIntId a → IsIntId b → Keeps goal frames
      → AllByRecursion Fit (turns_of here op (id a) (id b) frames goal)
  ids_fit op a b frames goal ha hb keeps =
      operator_fit op (id a) (id b) frames goal ha hb keeps
      (all_over a b (operated op (interval_of_id here.state a) (interval_of_id here.state b))
      (operated_small op (interval_of_id here.state a) (interval_of_id here.state b) (int_ends a) (int_ends b)))

  -- ---- narrowings to a kind

  kind_fit : (kept : Turn) (frames : List AbstractFrame) (goal : Goal) (result : Option Bounds) → Fit kept
      → Fit (turn_narrowing kept frames goal result)
  kind_fit kept frames goal None h = h
  kind_fit kept frames goal (Some r) h = bare here.state (turn_narrowing kept frames goal (Some r)) tt refl

  pub kinds_fit : (kind : Kind) (x : ℕ) (kept : Turn) (frames : List AbstractFrame) (goal : Goal) → Fit kept
      → AllByRecursion Fit (turns_narrowing here kind x kept frames goal)
  kinds_fit kind x kept frames goal h =
      each_any Fit (λ (case : IntCase). turn_narrowing kept frames goal case.result)
      (operated (NarrowOp kind) (interval_of_id here.state x) (interval_of_id here.state x))
      (λ case. kind_fit kept frames goal case.result h)

  -- ---- branches

  pub compared_fit : (cond : Cond) (x y place : ℕ) (stack : List ℕ) → IsIntId x → IsIntId y
      → AllByRecursion Fit (branches here cond (id x) (id y) place stack true)
  compared_fit cond x y place stack hx hy =
      filtered (HasEach IsPlainRow) Fit (branch_of_case here (id x) (id y) place stack true)
      (compared cond (are_one (id x) (id y)) (interval_of_id here.state x) (interval_of_id here.state y)) (λ case plain turn e.
      let frames = with_stack here (place_of_way here place case.way) stack in
      let m = map_some (λ (narrowed : List (ℕ × Cell)). narrows narrowed frames (rows_over (id x) (id y) case.rows))
      (narrowings (id x) case.left (id y) case.right) turn e in
      subst Fit m.1.1 (record {
        sorts = narrowed_sorts here.state (id x) (id y) case.left case.right m.0 hx hy m.1.0;
        rows = λ fresh. plain_fit here.state (IsKept (narrows m.0 frames (rows_over (id x) (id y) case.rows))) fresh x y case.rows
            hx hy plain;
      }))
      (compared_plain cond (are_one (id x) (id y)) (interval_of_id here.state x) (interval_of_id here.state y))

  pub zero_fit : (cond : Cond) (x place : ℕ) (stack : List ℕ) → IsIntId x
      → AllByRecursion Fit (branches here cond (id x) (known (pos 0)) place stack false)
  zero_fit cond x place stack hx =
      any_filtered Fit (branch_of_case here (id x) (known (pos 0)) place stack false)
      (compared cond false (interval_of_id here.state x) (interval_at here.state (known (pos 0)))) (λ case turn e.
      let frames = with_stack here (place_of_way here place case.way) stack in
      let m = map_some (λ (narrowed : List (ℕ × Cell)). narrows narrowed frames no_rows)
      (narrowings (id x) case.left (known (pos 0)) case.right) turn e in
      subst Fit m.1.1 (bare here.state (narrows m.0 frames no_rows)
      (narrowed_sorts here.state (id x) (known (pos 0)) case.left case.right m.0 hx tt m.1.0) refl))

  pub switch_fit : (x default : ℕ) (keys : List (ℤ × ℕ)) (stack : List ℕ) → IsIntId x
      → AllByRecursion Fit (filter_map (switch_turn here x stack) (parts_of default keys))
  switch_fit x default keys stack hx =
      any_filtered Fit (switch_turn here x stack) (parts_of default keys) (λ part turn e.
      let m = map_some (λ (both : Bounds). narrows ((x, cells.Int both) ∷ []) (with_stack here part.1 stack) no_rows)
      (option_and_then (meet_of (interval_of_id here.state x)) part.0) turn e in
      subst Fit m.1.1 (bare here.state (narrows ((x, cells.Int m.0) ∷ []) (with_stack here part.1 stack) no_rows)
      (int_sort here.state x m.0 hx, tt) refl))

  -- ---- accesses of arrays

  -- what an index and a length are narrowed to, and the row
  pub record IsInside (inside : List (ℕ × Cell) × (ℕ → List LinkRow)) : Type 0 where
    pub sorts : AreOfSorts here.state inside.0
    pub index : ℕ
    pub is_index : IsIntId index
    pub len : ℕ
    pub is_len : IsIntId len
    pub short : List ShortRow
    pub plain : AllByRecursion IsPlainRow short
    pub rows : inside.1 ≡ rows_over (id index) (id len) short

  pub inside_turn : (inside : List (ℕ × Cell) × (ℕ → List LinkRow)) (turn : Turn) → IsInside inside → turn.changed ≡ inside.0
      → turn.rows ≡ inside.1 → Fit turn
  inside_turn inside turn h e f = record {
    sorts = subst (AreOfSorts here.state) (sym e) h.sorts;
    rows = λ fresh. subst (λ (rows : ℕ → List LinkRow). AllByRecursion (IsRowFor here.state (IsKept turn) fresh) (rows fresh))
        (sym (f ∙ h.rows)) (plain_fit here.state (IsKept turn) fresh h.index h.len h.short h.is_index h.is_len h.plain);
  }

  inside_is : (index len : ℕ) (inside : List (ℕ × Cell) × (ℕ → List LinkRow)) → IsIntId index → IsIntId len
      → in_bounds here index len ≡ Some inside → IsInside inside
  inside_is index len inside hi hl e =
      let a = then_some _ (meet_of (interval_of_id here.state index) natural) inside e in
      let b = then_some _ (related Below Taken a.0 (interval_of_id here.state len)) inside a.1.1 in
      let c = map_some (λ (narrowed : List (ℕ × Cell)). (narrowed, rows_over (id index) (id len) b.0.rows))
      (narrowings (id index) b.0.left (id len) b.0.right) inside b.1.1 in
      subst IsInside c.1.1 (record {
        sorts = narrowed_sorts here.state (id index) (id len) b.0.left b.0.right c.0 hi hl c.1.0;
        index = index;
        is_index = hi;
        len = len;
        is_len = hl;
        short = b.0.rows;
        plain = related_plain Below Taken a.0 (interval_of_id here.state len) b.0 b.1.0;
        rows = refl;
      })

  outside_fit : (index len : ℕ) → IsIntId index → IsIntId len → AllByRecursion Fit (out_of_bounds here index len)
  outside_fit index len hi hl =
      all_joined Fit _ _
      (mapped_there Fit (λ (both : Bounds). throws_after here ((index, cells.Int both) ∷ []) no_rows
      array_index_out_of_bounds_exception) (meet_of (interval_of_id here.state index) negative)
      (λ both. bare here.state (throws_after here ((index, cells.Int both) ∷ []) no_rows array_index_out_of_bounds_exception)
      (int_sort here.state index both hi, tt) refl))
      (if_there Fit _ (λ turn e.
      let b = then_some _ (related AtLeast Taken (interval_of_id here.state index) (interval_of_id here.state len)) turn e in
      let c = map_some (λ (narrowed : List (ℕ × Cell)). throws_after here narrowed (rows_over (id index) (id len) b.0.rows)
      array_index_out_of_bounds_exception) (narrowings (id index) b.0.left (id len) b.0.right) turn b.1.1 in
      subst Fit c.1.1 (record {
        sorts = narrowed_sorts here.state (id index) (id len) b.0.left b.0.right c.0 hi hl c.1.0;
        rows = λ fresh. plain_fit here.state
            (IsKept (throws_after here c.0 (rows_over (id index) (id len) b.0.rows) array_index_out_of_bounds_exception)) fresh
            index len b.0.rows hi hl (related_plain AtLeast Taken (interval_of_id here.state index) (interval_of_id here.state len)
            b.0 b.1.0);
      })))

  good_inside : (good : List (ℕ × Cell) → (ℕ → List LinkRow) → List Turn) (found : Option (List (ℕ × Cell) × (ℕ → List LinkRow)))
      → ((inside : List (ℕ × Cell) × (ℕ → List LinkRow)) → found ≡ Some inside → IsInside inside)
      → ((inside : List (ℕ × Cell) × (ℕ → List LinkRow)) → IsInside inside → AllByRecursion Fit (good inside.0 inside.1))
      → AllByRecursion Fit (option_map_or (λ (inside : List (ℕ × Cell) × (ℕ → List LinkRow)). good inside.0 inside.1) found [])
  good_inside good None are fit = tt
  good_inside good (Some inside) are fit = fit inside (are inside refl)

  pub accessed_at : (index len : ℕ) (good : List (ℕ × Cell) → (ℕ → List LinkRow) → List Turn) → IsIntId index → IsIntId len
      → ((inside : List (ℕ × Cell) × (ℕ → List LinkRow)) → IsInside inside → AllByRecursion Fit (good inside.0 inside.1))
      → AreFit here.state (access_at here index len good)
  accessed_at index len good hi hl fit =
      all_joined Fit _ (out_of_bounds here index len)
      (good_inside good (in_bounds here index len) (λ inside e. inside_is index len inside hi hl e) fit) (outside_fit index len hi hl)
