-- Ids and their places among the variables of a state.
use Rattle.std.proofs.Common.{◌≡◌, ℕ, suc, ◌+◌, ◌<◌, ◌≤◌, Bool, true, false, cond, eqb, List, [], ◌∷◌, length, map, Some, ap}
use Rattle.std.proofs.Common.{arith, refl, ◌∙◌, sym}
use Rattle.std.specs.Prelude.{slice_get, filter, ◌||◌}
use Rattle.std.specs.List.{AllByRecursion}
use Rattle.std.proofs.lemmas.Bool.{eqb-true, false≢true}
use Rattle.std.proofs.lemmas.Option.{slice_get_within}
use Rattle.abs_cells.proofs.CellLaws.{low_of_cell, first_cell_is}
use Rattle.abs_cells.specs.declared.cells.Cell.{Cell}
use Rattle.abs_cells.specs.AbstractStates.{AbstractState}
use Rattle.abs_cells.specs.Cells.{is_int, cell_in, cell_at, HasCell}
use Rattle.abs_cells.specs.Sound.{AreIdsRising}
use Rattle.term_graph.specs.Edges.{is_size_variable}
use Rattle.path_rules.specs.Rules.{is_variable, ids_with, variables, variable_of, place_of}

abbrev pub ids_in_cells : (Cell → Bool) → List (ℕ × Cell) → List ℕ
ids_in_cells sort cells = map (λ (c : ℕ × Cell). c.0) (filter (λ (c : ℕ × Cell). sort c.1) cells)

-- ---- places

place_cases : (sort : Cell → Bool) (c : ℕ × Cell) (cells : List (ℕ × Cell)) (id : ℕ) (cell : Cell) (here kept : Bool)
    → eqb c.0 id ≡ here → sort c.1 ≡ kept → sort cell ≡ true →
    cond here (Some c.1) (cell_in cells id) ≡ Some cell →
    (cell_in cells id ≡ Some cell → slice_get (ids_in_cells sort cells) (place_of (ids_in_cells sort cells) id) ≡ Some id) →
    slice_get (map (λ (x : ℕ × Cell). x.0)
    (cond kept (c ∷ filter (λ (x : ℕ × Cell). sort x.1) cells) (filter (λ (x : ℕ × Cell). sort x.1) cells)))
    (place_of (map (λ (x : ℕ × Cell). x.0)
    (cond kept (c ∷ filter (λ (x : ℕ × Cell). sort x.1) cells) (filter (λ (x : ℕ × Cell). sort x.1) cells))) id) ≡ Some id
place_cases sort c cells id cell true true h k s e more = rw h (ap (λ (n : ℕ). Some n) (eqb-true c.0 id h))
place_cases sort c cells id cell true false h k s e more =
    let same : c.1 ≡ cell = cc in
    absurd (false≢true (sym k ∙ ap sort same ∙ s))
place_cases sort c cells id cell false true h k s e more = rw h (more e)
place_cases sort c cells id cell false false h k s e more = more e

-- an id with a cell of a sort stands at its place among these ids
pub found_in : (sort : Cell → Bool) (cells : List (ℕ × Cell)) (id : ℕ) (cell : Cell) → cell_in cells id ≡ Some cell → sort cell ≡ true →
    slice_get (ids_in_cells sort cells) (place_of (ids_in_cells sort cells) id) ≡ Some id
found_in sort [] id cell e s = absurd (cc)
found_in sort (c ∷ cells) id cell e s = place_cases sort c cells id cell (eqb c.0 id) (sort c.1) refl refl s e
    (λ k. found_in sort cells id cell k s)

first_or : (a b : Bool) → a ≡ true → (a || b) ≡ true
first_or true b e = refl
first_or false b e = absurd (false≢true e)

second_or : (a b : Bool) → b ≡ true → (a || b) ≡ true
second_or true b e = refl
second_or false b e = e

pub int_variable : (state : AbstractState) (id : ℕ) → HasCell is_int state id → HasCell is_variable state id
int_variable state id has = record {
  cell = has.cell;
  is = has.is;
  sort_is = first_or (is_int has.cell) (is_size_variable has.cell)
      has.sort_is;
}

pub size_variable : (state : AbstractState) (id : ℕ) → HasCell is_size_variable state id → HasCell is_variable state id
size_variable state id has = record
    { cell = has.cell; is = has.is; sort_is = second_or (is_int has.cell) (is_size_variable has.cell) has.sort_is }

pub variable_found : (state : AbstractState) (id : ℕ) → HasCell is_variable state id
    → slice_get (variables state) (place_of (variables state) id) ≡ Some id
variable_found state id has = found_in is_variable state.cells id has.cell has.is has.sort_is

pub variable_within : (state : AbstractState) (id : ℕ) → HasCell is_variable state id
    → place_of (variables state) id < length (variables state)
variable_within state id has = slice_get_within (variables state) (place_of (variables state) id) id (variable_found state id has)

pub variable_below : (first end : ℕ) (state : AbstractState) (id : ℕ) → first + length (variables state) ≤ end
    → HasCell is_variable state id → variable_of first state id < end
variable_below first end state id l has = let w = variable_within state id has in omega (arith, w, l)

-- ---- cells of rising ids

-- the last cells of a state
pub record IsSuffix (state : AbstractState) (cells : List (ℕ × Cell)) : Type 0 where
  pub low : ℕ
  pub rising : AreIdsRising low cells
  pub same : (id : ℕ) (cell : Cell) → cell_in cells id ≡ Some cell → cell_at state id ≡ Some cell

pub whole_suffix : (state : AbstractState) → AreIdsRising 0 state.cells → IsSuffix state state.cells
whole_suffix state rising = record { low = 0; rising = rising; same = λ id cell e. e }

pub suffix_first : (state : AbstractState) (c : ℕ × Cell) (cells : List (ℕ × Cell)) → IsSuffix state (c ∷ cells)
    → cell_at state c.0 ≡ Some c.1
suffix_first state c cells s = s.same c.0 c.1 (first_cell_is c cells)

pub suffix_rest : (state : AbstractState) (c : ℕ × Cell) (cells : List (ℕ × Cell)) → IsSuffix state (c ∷ cells) → IsSuffix state cells
suffix_rest state c cells s = record {
  low = suc c.0;
  rising = s.rising.1.1;
  same = λ id cell e. s.same id cell (at id cell e (eqb c.0 id) refl);
}
  where
    at : (id : ℕ) (cell : Cell) → cell_in cells id ≡ Some cell → (here : Bool) → eqb c.0 id ≡ here
        → cond here (Some c.1) (cell_in cells id) ≡ Some cell
    at id cell e true h =
        let k = low_of_cell (suc c.0) id cells cell s.rising.1.1 e in
        let same = eqb-true c.0 id h in
        absurd (omega (arith, k, same))
    at id cell e false h = e

-- ---- ids of a sort

sort_ids : (sort : Cell → Bool) (state : AbstractState) (cells : List (ℕ × Cell)) → IsSuffix state cells
    → AllByRecursion (HasCell sort state) (ids_in_cells sort cells)
sort_ids sort state [] s = tt
sort_ids sort state (c ∷ cells) s = at (sort c.1) refl (sort_ids sort state cells (suffix_rest state c cells s))
  where
    at : (b : Bool) → sort c.1 ≡ b → AllByRecursion (HasCell sort state) (ids_in_cells sort cells) →
        AllByRecursion (HasCell sort state)
        (map (λ (x : ℕ × Cell). x.0)
        (cond b (c ∷ filter (λ (x : ℕ × Cell). sort x.1) cells) (filter (λ (x : ℕ × Cell). sort x.1) cells)))
    at true e rest = (record { cell = c.1; is = suffix_first state c cells s; sort_is = e }, rest)
    at false e rest = rest

-- each has such a cell
pub have_sort : (sort : Cell → Bool) (state : AbstractState) → AreIdsRising 0 state.cells
    → AllByRecursion (HasCell sort state) (ids_with sort state)
have_sort sort state rising = sort_ids sort state state.cells (whole_suffix state rising)
