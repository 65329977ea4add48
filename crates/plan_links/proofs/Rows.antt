-- Rows over operands are such as the rules of paths take.
use Rattle.std.proofs.Common.{◌≡◌, ◌<◌, ◌≤◌, ◌+◌, ◌^◌, ℕ, ℤ, pos, negsuc, ◌+ℤ◌, ◌≤ℤ◌, List, [], ◌∷◌, ◌++◌, length, map, ◌⊎◌, inl}
use Rattle.std.proofs.Common.{inr, refl, sym, subst, arith, length-append}
use Rattle.std.specs.Prelude.{unsigned_abs}
use Rattle.std.specs.List.{AllByRecursion}
use Rattle.std.specs.Ordering.{int_eq}
use Rattle.std.proofs.lemmas.Int.{ints}
use Rattle.list_views.proofs.Quantified.{all_joined}
use Rattle.lin_core.specs.Intervals.{Bounds}
use Rattle.abs_cells.specs.declared.cells.Cell.TheVariants as cells
use Rattle.abs_cells.specs.AbstractStates.{AbstractFrame, AbstractState}
use Rattle.abs_cells.specs.Cells.{is_int, HasCell}
use Rattle.abs_ints.specs.Sums.{sum_row, difference_row}
use Rattle.abs_ints.specs.declared.cases.IntCase.{IntCase}
use Rattle.abs_ints.specs.declared.cases.ShortRow.{ShortRow}
use Rattle.abs_ints.specs.declared.cases.Way.{Way}
use Rattle.abs_ints.proofs.OperatorCases.{if_either}
use Rattle.term_graph.specs.declared.links.Side.{Side}
use Rattle.term_graph.specs.declared.links.Side.TheVariants.{Before, After}
use Rattle.term_graph.specs.declared.links.LinkRow.{LinkRow}
use Rattle.abs_expand.specs.Plans.{Goal, on_stack, in_local, Turn, makes}
use Rattle.abs_expand.specs.Turns.{Operand, known, id, term_of, terms_of, constant_of, row_over, rows_over}
use Rattle.steady_plans.proofs.EachRow.{IsFine, AreFine}
use Rattle.plan_links.proofs.SmallRows.{IsSmall, IsInt, IsSmallRow, IsPlainRow, sum_small, difference_small, turn_small}

-- ---- lists

each_mapped : {X Y : Type 0} (Q : X → Type 0) (P : Y → Type 0) (f : X → Y) (xs : List X) → ((x : X) → Q x → P (f x))
    → AllByRecursion Q xs → AllByRecursion P (map f xs)
each_mapped Q P f [] h all = tt
each_mapped Q P f (x ∷ xs) h all = (h x all.0, each_mapped Q P f xs h all.1)

-- ---- rows for the rules of paths

-- an id that a step makes stands where its goal says
abbrev pub Keeps : Goal → List AbstractFrame → Type 0
Keeps on_stack (frame ∷ below) = Unit {0}
Keeps (in_local n) (frame ∷ below) = n < length frame.locals
Keeps _ _ = ⊥

-- the step makes an int that the child keeps
pub record IsKept (turn : Turn) : Type 0 where
  pub interval : Bounds
  pub is : turn.act ≡ makes (cells.Int interval)
  pub goes : Keeps turn.goal turn.frames

-- a term is over an int of the state, or over the id that the step makes, where something holds of the step
abbrev pub IsTermOf : AbstractState → Type 0 → ℕ → Side × ℕ × ℤ → Type 0
IsTermOf state K fresh (Before, x, n) = HasCell is_int state x × (unsigned_abs n ≤ 2 ^ 33)
IsTermOf state K fresh (After, x, n) = (x ≡ fresh) × (K × (unsigned_abs n ≤ 2 ^ 33))

pub record IsRowFor (state : AbstractState) (K : Type 0) (fresh : ℕ) (row : LinkRow) : Type 0 where
  pub short : length row.terms ≤ 3
  pub terms : AllByRecursion (IsTermOf state K fresh) row.terms
  pub constant : unsigned_abs row.constant ≤ 2 ^ 33

abbrev pub IsRowed : AbstractState → Turn → Type 0
IsRowed state turn = (fresh : ℕ) → AllByRecursion (IsRowFor state (IsKept turn) fresh) (turn.rows fresh)

-- ---- sizes

-- at most 2^33 in size
abbrev IsMedium : ℤ → Type 0
IsMedium n = (negsuc 8589934591 ≤ℤ n) × (n ≤ℤ pos 8589934592)

medium_size : (n : ℤ) → IsMedium n → unsigned_abs n ≤ 2 ^ 33
medium_size (pos n) h = omega (arith, ints, h.0, h.1)
medium_size (negsuc n) h = omega (arith, ints, h.0, h.1)

small_size : (n : ℤ) → IsSmall n → unsigned_abs n ≤ 2 ^ 33
small_size n h = medium_size n (omega (arith, ints, h.0, h.1), omega (arith, ints, h.0, h.1))

-- ---- rows over operands

-- a row with small numbers, also after known operands are put in
pub record IsOver (left right : Operand) (row : ShortRow) : Type 0 where
  pub small : IsSmallRow row
  pub constant : IsMedium (row.constant +ℤ (constant_of left row.left +ℤ constant_of right row.right))

ids_over : (x y : ℕ) (row : ShortRow) → IsSmallRow row → IsOver (id x) (id y) row
ids_over x y row small = record {
  small = small;
  constant =
      (omega (arith, ints, small.constant.0, small.constant.1), omega (arith, ints, small.constant.0, small.constant.1));
}

-- iinc, with the number that is added
pub sum_over : (x : ℕ) (by : ℤ) → IsInt by → (way : Way) → IsOver (id x) (known by) (sum_row way)
sum_over x by b way =
    let t = turn_small way in
    record { small = sum_small way; constant = (omega (arith, ints, b.0, b.1, t.0, t.1), omega (arith, ints, b.0, b.1, t.0, t.1)) }

-- ineg, as a difference from 0
pub difference_over : (y : ℕ) (way : Way) → IsOver (known (pos 0)) (id y) (difference_row way)
difference_over y way =
    let t = turn_small way in
    record { small = difference_small way; constant = (omega (arith, ints, t.0, t.1), omega (arith, ints, t.0, t.1)) }

fine_over : (x y : ℕ) (case : IntCase) → IsFine IsSmallRow case → IsFine (IsOver (id x) (id y)) case
fine_over x y case fine = (weaker case.rows fine.0, fine.1)
  where
    weaker : (rows : List ShortRow) → AllByRecursion IsSmallRow rows → AllByRecursion (IsOver (id x) (id y)) rows
    weaker [] h = tt
    weaker (row ∷ rows) h = (ids_over x y row h.0, weaker rows h.1)

pub all_over : (x y : ℕ) (cases : List IntCase) → AreFine IsSmallRow cases → AreFine (IsOver (id x) (id y)) cases
all_over x y [] h = tt
all_over x y (case ∷ cases) h = (fine_over x y case h.0, all_over x y cases h.1)

-- an operand is an int of the state, or a number
abbrev pub IsIntOperand : AbstractState → Operand → Type 0
IsIntOperand state (known n) = Unit {0}
IsIntOperand state (id x) = HasCell is_int state x

module _ (state : AbstractState) (K : Type 0) (fresh : ℕ) where
  abbrev Terms : List (Side × ℕ × ℤ) → Type 0
  Terms = AllByRecursion (IsTermOf state K fresh)

  term_before : (x : ℕ) (times : ℤ) → HasCell is_int state x → IsSmall times → Terms (term_of Before x times)
  term_before x times h s = if_either Terms (int_eq times (pos 0)) [] ((Before, x, times) ∷ []) (λ e. tt)
      (λ e. ((h, small_size times s), tt))

  terms_fit : (operand : Operand) (times : ℤ) → IsIntOperand state operand → IsSmall times → Terms (terms_of operand times)
  terms_fit (known n) times h s = tt
  terms_fit (id x) times h s = term_before x times h s

  term_after : (times : ℤ) → (times ≡ pos 0) ⊎ K → IsSmall times → Terms (term_of After fresh times)
  term_after times (inl none) s = subst (λ (t : ℤ). Terms (term_of After fresh t)) (sym none) tt
  term_after times (inr k) s = if_either Terms (int_eq times (pos 0)) [] ((After, fresh, times) ∷ []) (λ e. tt)
      (λ e. ((refl, (k, small_size times s)), tt))

  term_short : (side : Side) (x : ℕ) (times : ℤ) → length (term_of side x times) ≤ 1
  term_short side x times = if_either (λ (terms : List (Side × ℕ × ℤ)). length terms ≤ 1) (int_eq times (pos 0)) []
      ((side, x, times) ∷ []) (λ e. omega arith) (λ e. omega arith)

  terms_short : (operand : Operand) (times : ℤ) → length (terms_of operand times) ≤ 1
  terms_short (known n) times = omega arith
  terms_short (id x) times = term_short Before x times

  row_fits : (left right : Operand) (row : ShortRow) → IsIntOperand state left → IsIntOperand state right → IsOver left right row
      → (row.result ≡ pos 0) ⊎ K → IsRowFor state K fresh (row_over left right fresh row)
  row_fits left right row hl hr over named =
      let first = terms_of left row.left in
      let second = terms_of right row.right in
      let third = term_of After fresh row.result in
      let one = terms_short left row.left in
      let two = terms_short right row.right in
      let three = term_short After fresh row.result in
      let long : length (first ++ (second ++ third)) ≡ length first + length (second ++ third) = length-append first (second ++ third) in
      let rest : length (second ++ third) ≡ length second + length third = length-append second third in
      record {
        short = omega (arith, one, two, three, long, rest);
        terms = all_joined (IsTermOf state K fresh) first (second ++ third) (terms_fit left row.left hl over.small.left)
            (all_joined (IsTermOf state K fresh) second third (terms_fit right row.right hr over.small.right)
            (term_after row.result named over.small.result));
        constant = medium_size (row.constant +ℤ (constant_of left row.left +ℤ constant_of right row.right)) over.constant;
      }

  pub rows_fit : (left right : Operand) (rows : List ShortRow) → IsIntOperand state left → IsIntOperand state right → K
      → AllByRecursion (IsOver left right) rows → AllByRecursion (IsRowFor state K fresh) (rows_over left right rows fresh)
  rows_fit left right rows hl hr k all = each_mapped (IsOver left right) (IsRowFor state K fresh) (row_over left right fresh) rows
      (λ row over. row_fits left right row hl hr over (inr k)) all

  pub plain_fit : (x y : ℕ) (rows : List ShortRow) → HasCell is_int state x → HasCell is_int state y
      → AllByRecursion IsPlainRow rows → AllByRecursion (IsRowFor state K fresh) (rows_over (id x) (id y) rows fresh)
  plain_fit x y rows hx hy all = each_mapped IsPlainRow (IsRowFor state K fresh) (row_over (id x) (id y) fresh) rows
      (λ row plain. row_fits (id x) (id y) row hx hy (ids_over x y row plain.small) (inl plain.alone)) all
