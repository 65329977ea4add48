-- How many ids a state has, whose ids are among those of a list.
use Rattle.std.proofs.Common.{◌≡◌, ◌∙◌, ◌≤◌, ◌+◌, ◌⊎◌, inl, inr, ℕ, zero, suc, Bool, true, false, ◌||◌, cond, eqb, List, [], ◌∷◌, ◌++◌}
use Rattle.std.proofs.Common.{length, length-append, map, Option, Some, None, slice_get, refl, sym, ap, subst, arith}
use Rattle.std.specs.Prelude.{zip}
use Rattle.std.proofs.lemmas.Bool.{false≢true, eqb-true, eq-eqb, or_left, or_right, or_cases}
use Rattle.std.proofs.lemmas.Option.{none-some, same_Some}
use Rattle.list_views.proofs.Items.{length_mapped}
use Rattle.abs_cells.specs.declared.cells.Cell.{Cell}
use Rattle.abs_cells.specs.AbstractStates.{AbstractState}
use Rattle.abs_cells.specs.Cells.{cell_in, cell_at}
use Rattle.abs_cells.specs.Sound.{AreIdsRising}
use Rattle.abs_heap.specs.Given.{first_cell, with_cells}
use Rattle.abs_reach.specs.Reached.{IsDropped}
use Rattle.descent.specs.Splits.{has}
use Rattle.prove_core.proofs.Sets.{has_later, has_earlier}

-- ---- lists of numbers

-- without one of a number
abbrev without : ℕ → List ℕ → List ℕ
without n [] = []
without n (m ∷ rest) = cond (eqb m n) rest (m ∷ without n rest)

one_less : (n : ℕ) (ns : List ℕ) → has ns n ≡ true → length ns ≡ suc (length (without n ns))
one_less n [] h = absurd (false≢true h)
one_less n (m ∷ rest) h = go (eqb m n) (one_less n rest) h
  where
    go : (b : Bool) → (has rest n ≡ true → length rest ≡ suc (length (without n rest))) → (b || has rest n) ≡ true
        → suc (length rest) ≡ suc (length (cond b rest (m ∷ without n rest)))
    go true later f = refl
    go false later f = ap suc (later f)

still_there : (n k : ℕ) (ns : List ℕ) → (n ≡ k → ⊥) → has ns k ≡ true → has (without n ns) k ≡ true
still_there n k [] other h = absurd (false≢true h)
still_there n k (m ∷ rest) other h = go (eqb m n) refl (or_cases (eqb m k) (has rest k) h) (still_there n k rest other)
  where
    go : (b : Bool) → eqb m n ≡ b → (eqb m k ≡ true) ⊎ (has rest k ≡ true) → (has rest k ≡ true → has (without n rest) k ≡ true)
        → has (cond b rest (m ∷ without n rest)) k ≡ true
    go true e (inl s) later = absurd (other (sym (eqb-true m n e) ∙ eqb-true m k s))
    go true e (inr r) later = r
    go false e (inl s) later = or_left (eqb m k) (has (without n rest) k) s
    go false e (inr r) later = or_right (eqb m k) (has (without n rest) k) (later r)

above : (low : ℕ) (cells : List (ℕ × Cell)) (k : ℕ) (d : ℕ × Cell) → AreIdsRising low cells → slice_get cells k ≡ Some d → low ≤ d.0
above low [] k d rise e = absurd (none-some d e)
above low (c ∷ cells) zero d rise e = subst (λ (x : ℕ × Cell). low ≤ x.0) (same_Some c d e) rise.0
above low (c ∷ cells) (suc k) d rise e =
    let here = rise.0 in
    let later = above (suc c.0) cells k d rise.1.1 e in
    omega (arith, here, later)

no_more : (low : ℕ) (cells : List (ℕ × Cell)) (ns : List ℕ) → AreIdsRising low cells
    → ((k : ℕ) (c : ℕ × Cell) → slice_get cells k ≡ Some c → has ns c.0 ≡ true) → length cells ≤ length ns
no_more low [] ns rise all = omega arith
no_more low (c ∷ cells) ns rise all =
    let one = one_less c.0 ns (all 0 c refl) in
    let rest = no_more (suc c.0) cells (without c.0 ns) rise.1.1 (λ k d e.
    let l = above (suc c.0) cells k d rise.1.1 e in
    still_there c.0 d.0 ns (λ same. omega (arith, l, same)) (all (suc k) d e)) in
    omega (arith, one, rest)

-- ---- cells

cell_there : (cells : List (ℕ × Cell)) (k : ℕ) (c : ℕ × Cell) → slice_get cells k ≡ Some c → (cell : Cell) × (cell_in cells c.0 ≡ Some cell)
cell_there [] k c e = absurd (none-some c e)
cell_there (d ∷ cells) zero c e = (
  d.1,
  ap (λ (b : Bool). cond b (Some d.1) (cell_in cells c.0)) (eq-eqb d.0 c.0 (ap (λ (x : ℕ × Cell). x.0) (same_Some d c e))),
)
cell_there (d ∷ cells) (suc k) c e = go (eqb d.0 c.0) (cell_there cells k c e)
  where
    go : (b : Bool) → (cell : Cell) × (cell_in cells c.0 ≡ Some cell)
        → (cell : Cell) × (cond b (Some d.1) (cell_in cells c.0) ≡ Some cell)
    go true later = (d.1, refl)
    go false later = later

abbrev pub keys : List (ℕ × Cell) → List ℕ
keys cells = map (λ (c : ℕ × Cell). c.0) cells

pub own_key : (cells : List (ℕ × Cell)) (id : ℕ) (cell : Cell) → cell_in cells id ≡ Some cell → has (keys cells) id ≡ true
own_key [] id cell e = absurd (none-some cell e)
own_key (c ∷ cells) id cell e = go (eqb c.0 id) refl e (own_key cells id cell)
  where
    go : (b : Bool) → eqb c.0 id ≡ b → cond b (Some c.1) (cell_in cells id) ≡ Some cell
        → (cell_in cells id ≡ Some cell → has (keys cells) id ≡ true) → (eqb c.0 id || has (keys cells) id) ≡ true
    go true f g later = or_left (eqb c.0 id) (has (keys cells) id) f
    go false f g later = or_right (eqb c.0 id) (has (keys cells) id) (later g)

-- ---- states

abbrev pub IsWithin : List ℕ → AbstractState → Type 0
IsWithin ids state = (id : ℕ) (cell : Cell) → cell_at state id ≡ Some cell → has ids id ≡ true

-- all ids of a state are among so many
pub record Holds (count : ℕ) (state : AbstractState) : Type 0 where
  pub ids : List ℕ
  pub few : length ids ≤ count
  pub within : IsWithin ids state

pub few_of : (state : AbstractState) (ids : List ℕ) → AreIdsRising 0 state.cells → IsWithin ids state → length state.cells ≤ length ids
few_of state ids rise within = no_more 0 state.cells ids rise (λ k c e.
    let there = cell_there state.cells k c e in
    within c.0 there.0 there.1)

pub own : (state : AbstractState) → Holds (length state.cells) state
own state =
    let long = length_mapped (λ (c : ℕ × Cell). c.0) state.cells in
    record { ids = keys state.cells; few = omega (arith, long); within = own_key state.cells }

-- cells in the place of others, or more of them
pub given : (count more : ℕ) (state child : AbstractState) (extra new : List (ℕ × Cell)) → Holds count state → length new ≤ more
    → ((id : ℕ) → cell_at child id ≡ with_cells extra state id)
    → ((id : ℕ) (cell : Cell) → cell_in extra id ≡ Some cell
    → ((old : Cell) × (cell_at state id ≡ Some old)) ⊎ ((c : Cell) × (cell_in new id ≡ Some c))) → Holds (count + more) child
given count more state child extra new h few cells from =
    let long = length_mapped (λ (c : ℕ × Cell). c.0) new in
    let both = length-append (keys new) h.ids in
    let old = h.few in
    record { ids = keys new ++ h.ids; few = omega (arith, few, long, both, old); within = within }
  where
    by_old : (id : ℕ) (cell : Cell) → cell_at state id ≡ Some cell → has (keys new ++ h.ids) id ≡ true
    by_old id cell e = has_later (keys new) h.ids id (h.within id cell e)

    within : (id : ℕ) (cell : Cell) → cell_at child id ≡ Some cell → has (keys new ++ h.ids) id ≡ true
    within id cell e = go (cell_in extra id) refl (sym (cells id) ∙ e)
      where
        go : (o : Option Cell) → cell_in extra id ≡ o → first_cell o (cell_at state id) ≡ Some cell → has (keys new ++ h.ids) id ≡ true
        go None f g = by_old id cell g
        go (Some c) f g = elim (from id c f) [
          | inl there ↦ by_old id there.0 there.1
          | inr there ↦ has_earlier (keys new) h.ids id (own_key new id there.0 there.1)
        ]

-- the first cell of some is of an id that is there
pub first_old : (x : ℕ) (cell old : Cell) (state : AbstractState) (new : List (ℕ × Cell)) → cell_at state x ≡ Some old → (id : ℕ)
    (c : Cell) → cell_in ((x, cell) ∷ new) id ≡ Some c
    → ((d : Cell) × (cell_at state id ≡ Some d)) ⊎ ((d : Cell) × (cell_in new id ≡ Some d))
first_old x cell old state new there id c e = go (eqb x id) refl e
  where
    go : (b : Bool) → eqb x id ≡ b → cond b (Some cell) (cell_in new id) ≡ Some c
        → ((d : Cell) × (cell_at state id ≡ Some d)) ⊎ ((d : Cell) × (cell_in new id ≡ Some d))
    go true f g = inl (old, subst (λ (n : ℕ). cell_at state n ≡ Some old) (eqb-true x id f) there)
    go false f g = inr (c, g)

-- a state that lost ids has no more of them than there were
pub dropped : (count : ℕ) (whole part : AbstractState) → Holds count whole → IsDropped whole part → AreIdsRising 0 part.cells
    → length part.cells ≤ count
dropped count whole part h is rise =
    let few = h.few in
    let most = few_of part h.ids rise (λ id cell e.
    let reached = is.gone id (record { cell = cell; is = e; sort_is = refl }) in
    h.within id cell (sym (is.kept id reached) ∙ e)) in
    omega (arith, few, most)

pub zip_few : {A B : Type 0} (xs : List A) (ys : List B) → length (zip xs ys) ≤ length xs
zip_few [] ys = omega arith
zip_few (x ∷ xs) [] = omega arith
zip_few (x ∷ xs) (y ∷ ys) = let rest = zip_few xs ys in omega (arith, rest)
