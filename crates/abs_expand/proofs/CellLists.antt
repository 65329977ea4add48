-- Lists of cells of which some become others, and to which one comes whose id is the least that none of them has.
use Rattle.std.proofs.Common.{◌≡◌, ◌∙◌, ◌<◌, ◌≤◌, ◌+◌, ◌==◌, eqb, inl, inr, get_or, ℕ, zero, suc, Bool, true, false, if◌then◌else◌}
use Rattle.std.proofs.Common.{List, [], ◌∷◌, ◌++◌, length, take, drop, Option, Some, None, refl, sym, ap, subst, arith}
use Rattle.std.specs.Prelude.{unwrap_or}
use Rattle.std.specs.List.{AllByRecursion}
use Rattle.std.specs.Option.{option_map}
use Rattle.std.proofs.lemmas.Bool.{eqb-true, eqb-false, ne_eqb, cases_eq}
use Rattle.std.proofs.lemmas.List.{take-append-drop, get_or_read, get_or_default}
use Rattle.std.proofs.lemmas.Option.{none-some}
use Rattle.abs_heap.proofs.Placing.{joined_is}
use Rattle.abs_cells.proofs.CellLaws.{low_of_cell}
use Rattle.abs_cells.specs.declared.cells.Cell.{Cell}
use Rattle.abs_cells.specs.AbstractStates.{AbstractState}
use Rattle.abs_cells.specs.Cells.{cell_in}
use Rattle.abs_cells.specs.Sound.{AreIdsRising}
use Rattle.abs_cells.specs.declared.cells.Cell.TheVariants as cells
use Rattle.abs_reach.proofs.Finding.{stands, none}
use Rattle.abs_heap.specs.Given.{first_cell}
use Rattle.abs_expand.specs.inner.Making.{IsLeastFree, changed_cell, changed_cells}
use Rattle.abs_plans.specs.abs_turns.GoodPlans.{IsChange}

-- ---- cells that become others

changed_in : (changed listed : List (ℕ × Cell)) (id : ℕ) → cell_in (changed_cells changed listed) id
    ≡ option_map (λ cell. unwrap_or (cell_in changed id) cell) (cell_in listed id)
changed_in changed [] id = refl
changed_in changed (c ∷ listed) id = at (c.0 == id) refl (changed_in changed listed id)
  where
    at : (b : Bool) → eqb c.0 id ≡ b → cell_in (changed_cells changed listed) id
        ≡ option_map (λ cell. unwrap_or (cell_in changed id) cell) (cell_in listed id)
        → (if b then Some (changed_cell changed c) else cell_in (changed_cells changed listed) id)
        ≡ option_map (λ cell. unwrap_or (cell_in changed id) cell) (if b then Some c.1 else cell_in listed id)
    at true e rest = ap (λ (k : ℕ). Some (unwrap_or (cell_in changed k) c.1)) (eqb-true c.0 id e)
    at false e rest = rest

both_options : (other found : Option Cell) → (found ≡ None → other ≡ None) → option_map (λ cell. unwrap_or other cell) found
    ≡ first_cell other found
both_options None None h = refl
both_options (Some x) None h = absurd (none-some x (sym (h refl)))
both_options None (Some c) h = refl
both_options (Some x) (Some c) h = refl

none_changed : (state : AbstractState) (changed : List (ℕ × Cell)) (id : ℕ) → AllByRecursion (IsChange state) changed
    → cell_in state.cells id ≡ None → cell_in changed id ≡ None
none_changed state [] id h e = refl
none_changed state (c ∷ changed) id h e = at (c.0 == id) refl (none_changed state changed id h.1 e)
  where
    at : (b : Bool) → eqb c.0 id ≡ b → cell_in changed id ≡ None → (if b then Some c.1 else cell_in changed id) ≡ None
    at true f rest = absurd (none-some h.0.old.cell (sym e ∙ ap (cell_in state.cells) (sym (eqb-true c.0 id f)) ∙ h.0.old.is))
    at false f rest = rest

-- the cell of each id: the changed one, where it is one of these
pub changed_at : (state : AbstractState) (changed : List (ℕ × Cell)) (id : ℕ) → AllByRecursion (IsChange state) changed
    → cell_in (changed_cells changed state.cells) id ≡ first_cell (cell_in changed id) (cell_in state.cells id)
changed_at state changed id h = changed_in changed state.cells id ∙ both_options (cell_in changed id) (cell_in state.cells id)
    (none_changed state changed id h)

pub changed_rising : (low : ℕ) (changed listed : List (ℕ × Cell)) → AreIdsRising low listed
    → AreIdsRising low (changed_cells changed listed)
changed_rising low changed [] r = tt
changed_rising low changed (c ∷ listed) r = (r.0, (r.1.0, changed_rising (suc c.0) changed listed r.1.1))

mapped_some : {X Y : Type 0} (f : X → Y) (o : Option X) → o ≡ None → option_map f o ≡ None
mapped_some f o e = ap (option_map f) e

mapped_there : {X Y : Type 0} (f : X → Y) (o : Option X) (x : X) → o ≡ Some x → option_map f o ≡ Some (f x)
mapped_there f o x e = ap (option_map f) e

-- the same number is the least that is free
pub changed_free : (changed listed : List (ℕ × Cell)) (free : ℕ) → IsLeastFree listed free
    → IsLeastFree (changed_cells changed listed) free
changed_free changed listed free l = record {
  none = changed_in changed listed free ∙ mapped_some (λ cell. unwrap_or (cell_in changed free) cell) (cell_in listed free) l.none;
  least = λ m low.
      let found = l.least m low in (
        unwrap_or (cell_in changed m) found.0,
        changed_in changed listed m ∙ mapped_there (λ cell. unwrap_or (cell_in changed m) cell)
            (cell_in listed m) found.0 found.1,
      );
}

-- ---- one cell more

-- the first of them is the number, where that is an id
first_is : (low : ℕ) (c : ℕ × Cell) (listed : List (ℕ × Cell)) (cell : Cell) → AreIdsRising low (c ∷ listed)
    → cell_in (c ∷ listed) low ≡ Some cell → c.0 ≡ low
first_is low c listed cell r e = at (c.0 == low) refl e
  where
    at : (b : Bool) → eqb c.0 low ≡ b → (if b then Some c.1 else cell_in listed low) ≡ Some cell → c.0 ≡ low
    at true f g = eqb-true c.0 low f
    at false f g = absurd (omega (arith, r.0, low_of_cell (suc c.0) low listed cell r.1.1 g))

-- the numbers from `low` on, so many, are ids of cells, and the next one is none
pub record IsFreeAfter (low count : ℕ) (listed : List (ℕ × Cell)) : Type 0 where
  pub none : cell_in listed (low + count) ≡ None
  pub least : (m : ℕ) → low ≤ m → m < low + count → (cell : Cell) × (cell_in listed m ≡ Some cell)

rest_is : (c : ℕ × Cell) (listed : List (ℕ × Cell)) (m : ℕ) → c.0 < m → cell_in (c ∷ listed) m ≡ cell_in listed m
rest_is c listed m l = ap (λ (b : Bool). if b then Some c.1 else cell_in listed m) (ne_eqb c.0 m (λ e. omega (arith, l, e)))

free_rest : (low count : ℕ) (c : ℕ × Cell) (listed : List (ℕ × Cell)) → c.0 ≡ low → IsFreeAfter low (suc count) (c ∷ listed)
    → IsFreeAfter (suc c.0) count listed
free_rest low count c listed e f =
    let same : suc c.0 + count ≡ low + suc count = omega (arith, e) in
    record {
      none = sym (rest_is c listed (suc c.0 + count) (omega arith)) ∙ ap (cell_in (c ∷ listed)) same ∙ f.none;
      least = λ m h l. let found = f.least m (omega (arith, h, e)) (omega (arith, l, e)) in
          (found.0, sym (rest_is c listed m (omega (arith, h))) ∙ found.1);
    }

pub inserted_rising : (low count : ℕ) (cell : Cell) (listed : List (ℕ × Cell)) → AreIdsRising low listed
    → IsFreeAfter low count listed → low + count < 2048
    → AreIdsRising low (take count listed ++ ((low + count, cell) ∷ drop count listed))
inserted_rising low zero cell [] r f s = (omega arith, (s, tt))
inserted_rising low zero cell (c ∷ listed) r f s =
    let apart : low + 0 < c.0 = other (c.0 == low + 0) refl f.none in
    (omega arith, (s, (omega (arith, apart), r.1)))
  where
    other : (b : Bool) → eqb c.0 (low + 0) ≡ b → (if b then Some c.1 else cell_in listed (low + 0)) ≡ None → low + 0 < c.0
    other true g h = absurd (none-some c.1 (sym h))
    other false g h = omega (arith, r.0, eqb-false c.0 (low + 0) g)
inserted_rising low (suc count) cell [] r f s =
    let found = f.least low (omega arith) (omega arith) in absurd (none-some found.0 found.1)
inserted_rising low (suc count) cell (c ∷ listed) r f s =
    let found = f.least low (omega arith) (omega arith) in
    let first : c.0 ≡ low = first_is low c listed found.0 r found.1 in
    let same : suc c.0 + count ≡ low + suc count = omega (arith, first) in
    let rest = inserted_rising (suc c.0) count cell listed r.1.1 (free_rest low count c listed first f) (omega (arith, same, s)) in
    (r.0, (r.1.0, subst (λ (n : ℕ). AreIdsRising (suc c.0) (take count listed ++ ((n, cell) ∷ drop count listed))) same rest))

-- so many cells there are at least
pub free_is_low : (low count : ℕ) (listed : List (ℕ × Cell)) → AreIdsRising low listed → IsFreeAfter low count listed
    → count ≤ length listed
free_is_low low zero listed r f = omega arith
free_is_low low (suc count) [] r f = let found = f.least low (omega arith) (omega arith) in absurd (none-some found.0 found.1)
free_is_low low (suc count) (c ∷ listed) r f =
    let found = f.least low (omega arith) (omega arith) in
    omega (arith, free_is_low (suc c.0) count listed r.1.1 (free_rest low count c listed (first_is low c listed found.0 r found.1) f))

pub free_after : (listed : List (ℕ × Cell)) (free : ℕ) → IsLeastFree listed free → IsFreeAfter 0 free listed
free_after listed free l =
    let same : free ≡ 0 + free = omega arith in
    record { none = ap (cell_in listed) (sym same) ∙ l.none; least = λ m h low. l.least m (omega (arith, low)) }

-- so many cells there are at least, also where some become others
pub placed_low : (changed listed : List (ℕ × Cell)) (free : ℕ) → AreIdsRising 0 listed → IsLeastFree listed free
    → free ≤ length (changed_cells changed listed)
placed_low changed listed free r l =
    free_is_low 0 free (changed_cells changed listed) (changed_rising 0 changed listed r) (free_after (changed_cells changed listed)
    free (changed_free changed listed free l))

-- ---- the least free number

at_index : (low : ℕ) (listed : List (ℕ × Cell)) (j : ℕ) (d : ℕ × Cell) → AreIdsRising low listed → j < length listed
    → low + j ≤ (get_or listed j d).0
at_index low [] j d r l = absurd (omega (arith, l))
at_index low (c ∷ listed) zero d r l = omega (arith, r.0)
at_index low (c ∷ listed) (suc j) d r l = omega (arith, r.0, at_index (suc c.0) listed j d r.1.1 (omega (arith, l)))

-- the first cells have the first numbers for ids
abbrev pub AreCounted : List (ℕ × Cell) → ℕ → Type 0
AreCounted listed count = (j : ℕ) → j < count → (get_or listed j (0, cells.Null)).0 ≡ j

pub counted_more : (listed : List (ℕ × Cell)) (count : ℕ) (item : ℕ × Cell) → count < length listed → item ≡ get_or listed count item
    → item.0 ≡ count → AreCounted listed count
    → AreCounted listed (count + 1)
counted_more listed count item l is e h j low = elim (cases_eq j count) [
  | inl same ↦ ap (λ (k : ℕ). (get_or listed k (0, cells.Null)).0) same
      ∙ ap (λ (x : ℕ × Cell). x.0) (sym (get_or_read listed count item l is (0, cells.Null))) ∙ e ∙ sym same
  | inr apart ↦ h j (omega (arith, low, apart))
]

pub least_at : (listed : List (ℕ × Cell)) (count : ℕ) → AreIdsRising 0 listed → count ≤ length listed → AreCounted listed count
    → ((d : ℕ × Cell) → count < length listed → (get_or listed count d).0 ≡ count → ⊥) → IsLeastFree listed count
least_at listed count r l h apart = record {
  none = none listed count (λ k d low e. elim (cases_eq k count) [
    | inl same ↦ apart d (omega (arith, low, same)) (subst (λ (n : ℕ). (get_or listed n d).0 ≡ count) same e)
    | inr other ↦
        let before : k < count = omega (arith, at_index 0 listed k d r low, e, other) in
        other (sym (h k before) ∙ ap (λ (x : ℕ × Cell). x.0) (get_or_default listed k (0, cells.Null) d low) ∙ e)
  ]);
  least = λ m low. ((get_or listed m (0, cells.Null)).1, stands 0 listed m m (0, cells.Null) r (omega (arith, low, l)) (h m low));
}

-- the number at which the ids of cells leave the counting
pub least_here : (listed : List (ℕ × Cell)) (count free : ℕ) (item : ℕ × Cell) → AreIdsRising 0 listed → free ≡ count
    → count < length listed → item ≡ get_or listed count item
    → (item.0 ≡ free → ⊥) → AreCounted listed count → IsLeastFree listed free
least_here listed count free item r at l is apart h =
    subst (IsLeastFree listed) (sym at) (least_at listed count r (omega (arith, l)) h
    (λ d low e. apart (ap (λ (x : ℕ × Cell). x.0) (is ∙ get_or_default listed count item d l) ∙ e ∙ sym at)))

pub least_end : (listed : List (ℕ × Cell)) (count free : ℕ) → AreIdsRising 0 listed → free ≡ count → length listed ≤ count
    → count ≤ length listed → AreCounted listed count → IsLeastFree listed free
least_end listed count free r at past l h = subst (IsLeastFree listed) (sym at)
    (least_at listed count r l h (λ d low e. omega (arith, past, low)))

first_none : (a b : Option Cell) → first_cell a b ≡ None → a ≡ None
first_none None b e = refl
first_none (Some x) b e = e

-- the cell of each id, where one more comes
pub inserted_at : (listed : List (ℕ × Cell)) (count free : ℕ) (cell : Cell) (id : ℕ) → cell_in listed free ≡ None
    → cell_in (take count listed ++ ((free, cell) ∷ drop count listed)) id ≡ first_cell (cell_in ((free, cell) ∷ []) id)
    (cell_in listed id)
inserted_at listed count free cell id none =
    joined_is (take count listed) ((free, cell) ∷ drop count listed) id ∙ at (free == id) refl
  where
    whole : (n : ℕ) → first_cell (cell_in (take count listed) n) (cell_in (drop count listed) n) ≡ cell_in listed n
    whole n = sym (joined_is (take count listed) (drop count listed) n)
        ∙ ap (λ (xs : List (ℕ × Cell)). cell_in xs n) (take-append-drop count listed)

    at : (b : Bool) → eqb free id ≡ b
        → first_cell (cell_in (take count listed) id) (if b then Some cell else cell_in (drop count listed) id)
        ≡ first_cell (if b then Some cell else None) (cell_in listed id)
    at true e =
        ap (λ (o : Option Cell). first_cell o (Some cell))
        (first_none (cell_in (take count listed) id) (cell_in (drop count listed) id) (whole id
        ∙ ap (cell_in listed) (sym (eqb-true free id e)) ∙ none))
    at false e = whole id
