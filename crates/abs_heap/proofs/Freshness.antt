-- The least numbers without a cell, as they are found.
use Rattle.std.proofs.Common.{◌≡◌, ℕ, zero, suc, ◌+◌, ◌<◌, ◌≤◌, true, List, [], ◌∷◌, ◌++◌, length, get_or, drop, Some, None, ◌⊎◌}
use Rattle.std.proofs.Common.{inl, inr, refl, sym, ap, subst, ◌∙◌, arith, add-one, length-append}
use Rattle.std.specs.Prelude.{slice_get, All, Contains}
use Rattle.std.proofs.lemmas.List.Elements.{All-nil, All-head, All-tail, All-push, All-weaker, All-contains, Contains-append_left}
use Rattle.std.proofs.lemmas.List.Elements.{Contains-push}
use Rattle.std.proofs.lemmas.Option.{slice_get_within, none-some}
use Rattle.std.proofs.lemmas.Bool.{cases_eq}
use Rattle.jvm_values.proofs.Options.{some_is}
use Rattle.abs_cells.specs.declared.cells.Cell.{Cell}
use Rattle.abs_cells.specs.AbstractStates.{AbstractState}
use Rattle.abs_cells.specs.Cells.{is_of_sort, cell_in}
use Rattle.abs_cells.specs.Sound.{AreIdsRising}
use Rattle.abs_cells.proofs.Checking.{has_cell_from}
use Rattle.abs_heap.specs.Given.{AreRising, AreFresh}
use Rattle.abs_heap.specs.inner.Building.{IsIdAt}
use Rattle.abs_heap.proofs.Placing.{cell_here, cell_later, absent}

-- the ids found so far, when all numbers below `next` are settled and so many cells are behind
pub record AreFound (cells : List (ℕ × Cell)) (ids : List ℕ) (passed next : ℕ) : Type 0 where
  pub sum : next ≡ passed + length ids
  pub within : passed ≤ length cells
  pub rise : AreRising ids
  pub low : All (λ id. id < next) ids
  pub free : All (λ id. cell_in cells id ≡ None) ids
  pub used : (m : ℕ) → m < next → (is_of_sort (λ _. true) (cell_in cells m) ≡ true) ⊎ Contains ids m
  pub ahead : AreIdsRising next (drop passed cells)
  pub behind : (n : ℕ) → next ≤ n → cell_in cells n ≡ cell_in (drop passed cells) n

pub found_none : (cells : List (ℕ × Cell)) → AreIdsRising 0 cells → AreFound cells [] 0 0
found_none cells r = record {
  sum = refl;
  within = omega arith;
  rise = tt;
  low = All-nil (λ id. id < 0);
  free = All-nil (λ id. cell_in cells id ≡ None);
  used = λ m l. absurd (omega (arith, l));
  ahead = r;
  behind = λ n l. refl;
}

higher : (low next : ℕ) (ids : List ℕ) → low ≤ next → All (λ id. id < low) ids → All (λ id. id < next) ids
higher low next ids l h = All-weaker (λ id. id < low) (λ id. id < next) (λ id m. omega (arith, l, m)) ids h

rising_push : (ids : List ℕ) (n : ℕ) → AreRising ids → All (λ id. id < n) ids → AreRising (ids ++ n ∷ [])
rising_push [] n r l = (tt, tt)
rising_push (a ∷ []) n r l = (All-head (λ id. id < n) a [] l, (tt, tt))
rising_push (a ∷ b ∷ rest) n r l = (r.0, rising_push (b ∷ rest) n r.1 (All-tail (λ id. id < n) a (b ∷ rest) l))

-- the front of what is ahead
split_at : (cells : List (ℕ × Cell)) (passed next : ℕ) (cell : Cell) → slice_get cells passed ≡ Some (next, cell)
    → drop passed cells ≡ (next, cell) ∷ drop (suc passed) cells
split_at [] passed next cell e = absurd (none-some (next, cell) e)
split_at (c ∷ cells) zero next cell e = ap (λ (x : ℕ × Cell). x ∷ cells) (some_is e)
split_at (c ∷ cells) (suc passed) next cell e = split_at cells passed next cell e

pub found_used : (cells : List (ℕ × Cell)) (ids : List ℕ) (passed next : ℕ) → AreFound cells ids passed next
    → IsIdAt cells passed next → AreFound cells ids (passed + 1) (next + 1)
found_used cells ids passed next f (cell, e) =
    let split = split_at cells passed next cell e in
    let ahead : AreIdsRising next ((next, cell) ∷ drop (suc passed) cells) = subst (λ (cs : List (ℕ × Cell)). AreIdsRising next cs)
    split f.ahead in
    let here : cell_in cells next ≡ Some cell = f.behind next (omega arith) ∙ ap (λ (cs : List (ℕ × Cell)). cell_in cs next) split
    ∙ cell_here (next, cell) (drop (suc passed) cells) next refl in
    rw (add-one, add-one) (record {
      sum = omega (arith, f.sum);
      within = slice_get_within cells passed (next, cell) e;
      rise = f.rise;
      low = higher next (suc next) ids (omega arith) f.low;
      free = f.free;
      used = λ m l. elim (cases_eq m next) [
        | inl s ↦ inl (ap (λ (k : ℕ). is_of_sort (λ _. true) (cell_in cells k)) s ∙ ap (is_of_sort (λ _. true)) here)
        | inr s ↦ f.used m (omega (arith, l, s))
      ];
      ahead = ahead.1.1;
      behind = λ n l. f.behind n (omega (arith, l)) ∙ ap (λ (cs : List (ℕ × Cell)). cell_in cs n) split
          ∙ cell_later (next, cell) (drop (suc passed) cells) n (λ s. omega (arith, l, s));
    })

not_ahead : (rest : List (ℕ × Cell)) (next : ℕ) → AreIdsRising next rest
    → ((c : ℕ × Cell) (more : List (ℕ × Cell)) → rest ≡ c ∷ more → c.0 ≡ next → ⊥) → AreIdsRising (suc next) rest
    × (cell_in rest next ≡ None)
not_ahead [] next r h = (tt, refl)
not_ahead (c ∷ more) next r h =
    let apart : c.0 ≡ next → ⊥ = h c more refl in
    let above : suc next ≤ c.0 = omega (arith, apart, r.0) in
    ((above, r.1), cell_later c more next apart ∙ absent (suc c.0) more next r.1.1 (omega (arith, above)))

at_front : (cells : List (ℕ × Cell)) (passed : ℕ) (c : ℕ × Cell) (more : List (ℕ × Cell)) → drop passed cells ≡ c ∷ more
    → slice_get cells passed ≡ Some c
at_front [] zero c more e = absurd (cc)
at_front [] (suc passed) c more e = absurd (cc)
at_front (x ∷ cells) zero c more e = ap (λ (cs : List (ℕ × Cell)). slice_get cs 0) e
at_front (x ∷ cells) (suc passed) c more e = at_front cells passed c more e

pub found_free : (cells : List (ℕ × Cell)) (ids : List ℕ) (passed next : ℕ) → AreFound cells ids passed next
    → (IsIdAt cells passed next → ⊥) → AreFound cells (ids ++ next ∷ []) passed (next + 1)
found_free cells ids passed next f h =
    let rest = not_ahead (drop passed cells) next f.ahead
    (λ c more e s. h (c.1, at_front cells passed c more e ∙ ap (λ (n : ℕ). Some (n, c.1)) s)) in
    rw add-one (record {
      sum = let l = length-append ids (next ∷ []) in omega (arith, f.sum, l);
      within = f.within;
      rise = rising_push ids next f.rise f.low;
      low = All-push (λ id. id < suc next) ids next (higher next (suc next) ids (omega arith) f.low) (omega arith);
      free = All-push (λ id. cell_in cells id ≡ None) ids next f.free (f.behind next (omega arith) ∙ rest.1);
      used = λ m l. elim (cases_eq m next) [
        | inl s ↦ inr (subst (λ (k : ℕ). Contains (ids ++ next ∷ []) k) (sym s) (Contains-push ids next))
        | inr s ↦ elim (f.used m (omega (arith, l, s))) [ inl u ↦ inl u | inr c ↦ inr (Contains-append_left ids (next ∷ []) m c) ]
      ];
      ahead = rest.0;
      behind = λ n l. f.behind n (omega (arith, l));
    })

found_here : (state : AbstractState) (ids : List ℕ) (passed next : ℕ) → AreFound state.cells ids passed next → AreFresh state ids
found_here state ids passed next f = record {
  rise = f.rise;
  free = f.free;
  least = λ id m c l. elim (f.used m (let h = All-contains (λ i. i < next) ids id f.low c in omega (arith, h, l))) [
    | inl u ↦ inl (has_cell_from (λ _. true) state m u)
    | inr k ↦ inr k
  ];
}

pub found_all : (state : AbstractState) (cells : List (ℕ × Cell)) (ids : List ℕ) (passed next : ℕ) → cells ≡ state.cells
    → AreFound cells ids passed next → AreFresh state ids
found_all state cells ids passed next e f = found_here state ids passed next
    (subst (λ (cs : List (ℕ × Cell)). AreFound cs ids passed next) e f)

pub only_one : (state : AbstractState) (ids : List ℕ) (id : ℕ) → AreFresh state ids → length ids ≡ 1 → id ≡ get_or ids 0 id
    → AreFresh state (id ∷ [])
only_one state [] id f l e = absurd (omega (arith, l))
only_one state (x ∷ []) id f l e = subst (λ (n : ℕ). AreFresh state (n ∷ [])) (sym e) f
only_one state (x ∷ y ∷ rest) id f l e = absurd (omega (arith, l))

pub found_free_too : (cells : List (ℕ × Cell)) (ids : List ℕ) (passed next count : ℕ) → AreFound cells ids passed next
    → (IsIdAt cells passed next → ⊥) → length ids < count → AreFound cells (ids ++ next ∷ []) passed (next + 1)
    × (length (ids ++ next ∷ []) ≤ count)
found_free_too cells ids passed next count f h l =
    (found_free cells ids passed next f h, let e = length-append ids (next ∷ []) in omega (arith, e, l))
