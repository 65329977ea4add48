-- An int at the start of a rule is bounded on both sides.
use Rattle.std.proofs.Common.{◌≡◌, ◌==◌, ℕ, zero, suc, ◌≤◌, ◌^◌, Bool, true, false, cond, eqb, List, [], ◌∷◌, ◌++◌, map, ℤ, pos}
use Rattle.std.proofs.Common.{negsuc, ◌-ℤ◌, Some, refl, sym, ap, subst, arith}
use Rattle.std.specs.Prelude.{unsigned_abs}
use Rattle.std.specs.List.{AllByRecursion, flat_map}
use Rattle.std.proofs.lemmas.Bool.{false≢true, eqb-true}
use Rattle.std.proofs.lemmas.Int.{ints}
use Rattle.std.proofs.lemmas.List.Elements.{recursion_from_All}
use Rattle.std.proofs.lemmas.Option.{none-some}
use Rattle.list_views.proofs.Quantified.{all_joined}
use Rattle.jvm_values.proofs.Options.{some_is}
use Rattle.lin_core.specs.declared.rows.WRow.{WRow}
use Rattle.abs_cells.specs.declared.cells.Cell.{Cell}
use Rattle.abs_cells.specs.declared.cells.Cell.TheVariants.{Int, Null, Obj, Nums, Refs, Unk}
use Rattle.abs_cells.specs.Cells.{is_int, cell_in, HasCell}
use Rattle.abs_cells.specs.Patterns.{Pattern}
use Rattle.term_graph.specs.Edges.{is_size_variable}
use Rattle.path_rules.specs.Stops.{Stop, Leg}
use Rattle.path_rules.specs.Rules.{at_least_zero, ids_with, variable_of, bounds_of, rows_of_stop, rows_of_leg, variables_after}
use Rattle.path_rules.specs.Rules.{rows_along, int_slot, size_slot, slots_of}
use Rattle.path_rules.specs.Conditions.{IsBounded, AreBounded}
use Rattle.path_rules.proofs.Finding.{have_sort}
use Rattle.path_rules.proofs.Walking.{IsGoodStop}
use Rattle.rank_forms.specs.rule_links.Links.{IsAmong}
use Rattle.rank_forms.specs.Graphs.{HasClose, IsCloseInt}

-- ---- rows among others

among_first : (xs ys : List WRow) (row : WRow) → IsAmong xs row → IsAmong (xs ++ ys) row
among_first [] ys row (n, e) = absurd (none-some row e)
among_first (x ∷ xs) ys row (zero, e) = (0, e)
among_first (x ∷ xs) ys row (suc n, e) = let r = among_first xs ys row (n, e) in (suc r.0, r.1)

pub among_second : (xs ys : List WRow) (row : WRow) → IsAmong ys row → IsAmong (xs ++ ys) row
among_second [] ys row a = a
among_second (x ∷ xs) ys row a = let r = among_second xs ys row a in (suc r.0, r.1)

among_cells : (f : ℕ → ℕ) (cells : List (ℕ × Cell)) (id : ℕ) (cell : Cell) (row : WRow) → cell_in cells id ≡ Some cell
    → IsAmong (bounds_of (f id) cell) row → IsAmong (flat_map (λ (c : ℕ × Cell). bounds_of (f c.0) c.1) cells) row
among_cells f [] id cell row e a = absurd (none-some cell e)
among_cells f (c ∷ cells) id cell row e a = at (c.0 == id) refl e (λ k. among_cells f cells id cell row k a)
  where
    at : (b : Bool) → eqb c.0 id ≡ b → cond b (Some c.1) (cell_in cells id) ≡ Some cell
        → (cell_in cells id ≡ Some cell → IsAmong (flat_map (λ (x : ℕ × Cell). bounds_of (f x.0) x.1) cells) row)
        → IsAmong (bounds_of (f c.0) c.1 ++ flat_map (λ (x : ℕ × Cell). bounds_of (f x.0) x.1) cells) row
    at true h k later =
        among_first (bounds_of (f c.0) c.1) (flat_map (λ (x : ℕ × Cell). bounds_of (f x.0) x.1) cells) row
        (subst (λ (n : ℕ). IsAmong (bounds_of (f n) c.1) row) (sym (eqb-true c.0 id h))
        (subst (λ (x : Cell). IsAmong (bounds_of (f id) x) row) (sym (some_is k)) a))
    at false h k later = among_second (bounds_of (f c.0) c.1) (flat_map (λ (x : ℕ × Cell). bounds_of (f x.0) x.1) cells) row (later k)

pub among_along : (first : ℕ) (stop : Stop) (rides : List (Leg × Stop)) (row : WRow) → IsAmong (rows_of_stop first stop.state) row
    → IsAmong (rows_along first stop rides) row
among_along first stop [] row a = a
among_along first stop (ride ∷ rides) row a = among_first (rows_of_stop first stop.state)
    (rows_of_leg first stop ride.0 (variables_after first stop) ride.1 ++ rows_along (variables_after first stop) ride.1 rides) row a

-- the rows of an int's interval are among those of the path
among_rows : (first : ℕ) (stop : Stop) (rides : List (Leg × Stop)) (id : ℕ) (cell : Cell) (row : WRow)
    → cell_in stop.state.cells id ≡ Some cell → IsAmong (bounds_of (variable_of first stop.state id) cell) row
    → IsAmong (rows_along first stop rides) row
among_rows first stop rides id cell row e a =
    among_along first stop rides row
    (among_first (flat_map (λ (c : ℕ × Cell). bounds_of (variable_of first stop.state c.0) c.1) stop.state.cells)
    (map (λ (x : ℕ). at_least_zero ((variable_of first stop.state x, pos 1) ∷ []) (pos 0))
    (ids_with is_size_variable stop.state)) row
    (among_cells (variable_of first stop.state) stop.state.cells id cell row e a))

-- ---- a bounded int

abbrev IsClose : List WRow → ℕ → Type 0
IsClose rows v = HasClose rows v (pos 1) × HasClose rows v (negsuc 0)

opposite_small : (n : ℤ) → unsigned_abs n ≤ 2 ^ 31 → unsigned_abs (pos 0 -ℤ n) ≤ 2 ^ 31
opposite_small n l = omega (arith, ints, l)

cell_close : (rows : List WRow) (v : ℕ) (cell : Cell) → is_int cell ≡ true → IsBounded cell
    → ((row : WRow) → IsAmong (bounds_of v cell) row → IsAmong rows row) → IsClose rows v
cell_close rows v (Int interval) int bounded among = (
  record {
    constant = pos 0 -ℤ interval.lo;
    bound = record {
      row = at_least_zero ((v, pos 1) ∷ []) (pos 0 -ℤ interval.lo);
      among = among
          (at_least_zero ((v, pos 1) ∷ []) (pos 0 -ℤ interval.lo)) (0, refl);
      inequality = refl;
      terms = refl;
      number = refl;
      weights = refl;
    };
    small = opposite_small interval.lo bounded.0;
  },
  record {
    constant = interval.hi;
    bound = record {
      row = at_least_zero ((v, negsuc 0) ∷ []) interval.hi;
      among = among
          (at_least_zero ((v, negsuc 0) ∷ []) interval.hi) (1, refl);
      inequality = refl;
      terms = refl;
      number = refl;
      weights = refl;
    };
    small = bounded.1;
  },
)
cell_close rows v Null int bounded among = absurd (false≢true int)
cell_close rows v (Obj class ids) int bounded among = absurd (false≢true int)
cell_close rows v (Nums kind len) int bounded among = absurd (false≢true int)
cell_close rows v (Refs element len shape) int bounded among = absurd (false≢true int)
cell_close rows v (Unk bound nullable shape) int bounded among = absurd (false≢true int)

bounded_in : (cells : List (ℕ × Cell)) (id : ℕ) (cell : Cell) → AllByRecursion (λ (c : ℕ × Cell). IsBounded c.1) cells
    → cell_in cells id ≡ Some cell → IsBounded cell
bounded_in [] id cell all e = absurd (none-some cell e)
bounded_in (c ∷ cells) id cell all e = at (c.0 == id) e (λ k. bounded_in cells id cell all.1 k)
  where
    at : (b : Bool) → cond b (Some c.1) (cell_in cells id) ≡ Some cell → (cell_in cells id ≡ Some cell → IsBounded cell) → IsBounded cell
    at true k later = subst IsBounded (some_is k) all.0
    at false k later = later k

int_close : (first : ℕ) (stop : Stop) (rides : List (Leg × Stop)) (id : ℕ) → AreBounded stop.state → HasCell is_int stop.state id
    → IsClose (rows_along first stop rides) (variable_of first stop.state id)
int_close first stop rides id bounded has =
    cell_close (rows_along first stop rides) (variable_of first stop.state id) has.cell has.sort_is
    (bounded_in stop.state.cells id has.cell (recursion_from_All (λ (c : ℕ × Cell). IsBounded c.1) stop.state.cells bounded) has.is)
    (λ row a. among_rows first stop rides id has.cell row has.is a)

-- ---- the slots of an end

abbrev first_name : List (ℕ × ℤ) → ℕ
first_name [] = 0
first_name (term ∷ terms) = term.0

slot_close : (first : ℕ) (stop : Stop) (rides : List (Leg × Stop)) (id : ℕ) → AreBounded stop.state → HasCell is_int stop.state id
    → IsCloseInt (rows_along first stop rides) (int_slot first stop id)
slot_close first stop rides id bounded has size v is = subst (IsClose (rows_along first stop rides)) (ap first_name is.terms)
    (int_close first stop rides id bounded has)

ints_close : (first : ℕ) (stop : Stop) (rides : List (Leg × Stop)) (ids : List ℕ) → AreBounded stop.state
    → AllByRecursion (HasCell is_int stop.state) ids → AllByRecursion (IsCloseInt (rows_along first stop rides))
    (map (int_slot first stop) ids)
ints_close first stop rides [] bounded all = tt
ints_close first stop rides (id ∷ ids) bounded all =
    (slot_close first stop rides id bounded all.0, ints_close first stop rides ids bounded all.1)

sizes_close : (rows : List WRow) (first : ℕ) (stop : Stop) (sizes : List (ℕ × Pattern))
    → AllByRecursion (IsCloseInt rows) (map (size_slot first stop) sizes)
sizes_close rows first stop [] = tt
sizes_close rows first stop (entry ∷ sizes) = ((λ size. absurd (false≢true (sym size))), sizes_close rows first stop sizes)

pub slots_close : (first : ℕ) (stop : Stop) (rides : List (Leg × Stop)) → AreBounded stop.state → IsGoodStop stop
    → AllByRecursion (IsCloseInt (rows_along first stop rides)) (slots_of first stop)
slots_close first stop rides bounded good =
    all_joined (IsCloseInt (rows_along first stop rides)) (map (int_slot first stop) (ids_with is_int stop.state))
    (map (size_slot first stop) stop.sizes)
    (ints_close first stop rides (ids_with is_int stop.state) bounded (have_sort is_int stop.state good.good.rising))
    (sizes_close (rows_along first stop rides) first stop stop.sizes)
