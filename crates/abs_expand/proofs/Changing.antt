-- Cells that become others, or one that comes, in a well-formed state: its pairs are those that still may stand.
use Rattle.std.proofs.Common.{◌≡◌, ◌≢◌, ◌∙◌, ◌<◌, ◌==◌, ◌&&◌, ◌||◌, ◌⊎◌, inl, inr, eqb, ℕ, zero, suc, Bool, true, false, not}
use Rattle.std.proofs.Common.{if◌then◌else◌, List, [], ◌∷◌, ◌++◌, min, max, Option, Some, None, refl, sym, ap, subst, arith, take}
use Rattle.std.proofs.Common.{drop, length, reverse, get_or, ◌+◌, ◌≤◌, slice_index_or}
use Rattle.std.specs.List.{AllByRecursion}
use Rattle.std.specs.Prelude.{◌↔◌}
use Rattle.std.proofs.lemmas.Bool.{false≢true, and_parts, and_from, eqb-true, eqb-false, cases_eq, ne_eqb, eq-eqb}
use Rattle.std.proofs.lemmas.List.{reverse-reverse, take_all}
use Rattle.std.proofs.lemmas.List.Elements.{All-from_recursion}
use Rattle.std.proofs.lemmas.Option.{none-some}
use Rattle.list_views.proofs.Quantified.{all_joined, all_weaker}
use Rattle.jvm_values.proofs.Options.{some_is}
use Rattle.abs_cells.specs.declared.cells.Cell.{Cell}
use Rattle.abs_cells.specs.declared.cells.Cell.TheVariants.{Int, Null, Obj, Nums, Refs, Unk}
use Rattle.abs_cells.specs.AbstractStates.{AbstractFrame, AbstractState}
use Rattle.abs_cells.specs.Cells.{is_reference, is_known, is_of_sort, ids_in, cell_in, cell_at, HasCell, AreEqual, Share}
use Rattle.abs_cells.specs.IdSets.{has_id, kept}
use Rattle.abs_cells.specs.PairLists.{IsRising, is_same, has_pair, has, pair_of}
use Rattle.abs_cells.specs.Sound.{AreIdsRising, given_ids, ids_of_frame, may_join, IsWellFormed}
use Rattle.abs_cells.proofs.KeepLaws.{has_filter}
use Rattle.abs_cells.proofs.PairLaws.{has_swapped, same_is}
use Rattle.abs_heap.specs.Given.{IsPair, IsGiven, AreFresh, first_cell, with_cells}
use Rattle.abs_plans.specs.abs_turns.GoodPlans.{IsThere, HoldsIds, may_become, IsChange}
use Rattle.abs_expand.specs.inner.Making.{IsLeastFree, changed_cells, inserted}
use Rattle.abs_expand.proofs.CellLists.{changed_at, changed_rising, inserted_rising, free_after, inserted_at}
use Rattle.abs_plans.proofs.WellFormed.{IsIn, well_with, well_new, all_still}

-- ---- pairs that rise

pub pair_rises : (p : ℕ × ℕ) (pairs : List (ℕ × ℕ)) → IsRising pairs → has_pair p pairs ≡ true → (p.0 < p.1) × (p.1 < 2048)
pair_rises p [] r e = absurd (false≢true e)
pair_rises p (q ∷ rest) r e = at (is_same p q) refl e (λ f. pair_rises p rest r.1.1 f)
  where
    at : (b : Bool) → is_same p q ≡ b → (b || has_pair p rest) ≡ true → (has_pair p rest ≡ true → (p.0 < p.1) × (p.1 < 2048))
        → (p.0 < p.1) × (p.1 < 2048)
    at true f h rest = subst (λ (x : ℕ × ℕ). (x.0 < x.1) × (x.1 < 2048)) (sym (same_is p q f)) r.0
    at false f h rest = rest h

apart_pair : (a b : ℕ) (pairs : List (ℕ × ℕ)) → IsRising pairs → has a b pairs ≡ true → a ≢ b
apart_pair a b pairs r h same = let low = pair_rises (pair_of a b) pairs r h in omega (arith, low.0, same)

-- a pair in any order has its ids in an order
ordered : (P : ℕ → ℕ → Type 0) (a b : ℕ) → a ≢ b → (a < b → P a b) → (b < a → P a b) → P a b
ordered P a b n h k = elim (cases_eq a b) [
  | inl same ↦ absurd (n same)
  | inr other ↦ elim (less a b other) [ inl l ↦ h l | inr l ↦ k l ]
]
  where
    less : (a b : ℕ) → (a ≡ b → ⊥) → (a < b) ⊎ (b < a)
    less a b n = grind (arith, n)

not_both : (k l : Bool) → (k ≡ true → l ≡ true → ⊥) → not (k && l) ≡ true
not_both true true h = absurd (h refl refl)
not_both true false h = refl
not_both false l h = refl

there_of : (sort : Cell → Bool) (state : AbstractState) (id : ℕ) → is_of_sort sort (cell_at state id) ≡ true → HasCell sort state id
there_of sort state id e = at (cell_at state id) refl e
  where
    at : (found : Option Cell) → cell_at state id ≡ found → is_of_sort sort found ≡ true → HasCell sort state id
    at None f h = absurd (false≢true h)
    at (Some c) f h = record { cell = c; is = f; sort_is = h }

sort_of : (sort : Cell → Bool) (state : AbstractState) (id : ℕ) → HasCell sort state id → is_of_sort sort (cell_at state id) ≡ true
sort_of sort state id h = ap (is_of_sort sort) h.is ∙ h.sort_is

-- what a pair that shares says of its two ids
pub record AreJoined (state : AbstractState) (a b : ℕ) : Type 0 where
  pub left : HasCell is_reference state a
  pub right : HasCell is_reference state b
  pub not_both_known : HasCell is_known state a → HasCell is_known state b → ⊥

pub joined : (state : AbstractState) → IsWellFormed state → (a b : ℕ) → a ≢ b → Share state a b → AreJoined state a b
joined state good a b n s = ordered (AreJoined state) a b n
    (λ l. record { left = good.left a b l s; right = good.right a b l s; not_both_known = good.not_both_known a b l s })
    (λ l.
    let t = has_swapped a b state.share ∙ s in
    record { left = good.right b a l t; right = good.left b a l t; not_both_known = λ x y. good.not_both_known b a l t y x })

-- ---- kept pairs

kept_has : (set : List ℕ) (a b : ℕ) (pairs : List (ℕ × ℕ)) → has a b (kept set pairs) ≡ true → (has a b pairs ≡ true)
    × ((has_id set (min a b) ≡ true) × (has_id set (max a b) ≡ true))
kept_has set a b pairs e =
    let f = and_parts (has_id set (min a b) && has_id set (max a b)) (has a b pairs)
    (sym (has_filter (λ (p : ℕ × ℕ). has_id set p.0 && has_id set p.1) (pair_of a b) pairs) ∙ e) in
    (f.1, and_parts (has_id set (min a b)) (has_id set (max a b)) f.0)

has_kept : (set : List ℕ) (a b : ℕ) (pairs : List (ℕ × ℕ)) → has a b pairs ≡ true → has_id set (min a b) ≡ true → has_id set (max a b)
    ≡ true → has a b (kept set pairs) ≡ true
has_kept set a b pairs h x y =
    has_filter (λ (p : ℕ × ℕ). has_id set p.0 && has_id set p.1) (pair_of a b) pairs
    ∙ and_from (has_id set (min a b) && has_id set (max a b)) (has a b pairs) (and_from (has_id set (min a b)) (has_id set (max a b))
    x y) h

least_or : (P : ℕ → Type 0) (a b : ℕ) → P (min a b) → P (max a b) → P a × P b
least_or P a b l g = elim (cases_le a b) [
  | inl h ↦ (subst P (min_low a b h) l, subst P (max_low a b h) g)
  | inr h ↦ (subst P (max_high a b h) g, subst P (min_high a b h) l)
]
  where
    cases_le : (a b : ℕ) → (a < b) ⊎ ((a < b) → ⊥)
    cases_le a b = grind arith

    min_low : (a b : ℕ) → a < b → min a b ≡ a
    min_low a b h = omega (arith, h)

    max_low : (a b : ℕ) → a < b → max a b ≡ b
    max_low a b h = omega (arith, h)

    max_high : (a b : ℕ) → ((a < b) → ⊥) → max a b ≡ a
    max_high a b h = omega (arith, h)

    min_high : (a b : ℕ) → ((a < b) → ⊥) → min a b ≡ b
    min_high a b h = omega (arith, h)

either_of : (P : ℕ → Type 0) (a b : ℕ) → P a → P b → P (min a b) × P (max a b)
either_of P a b x y = elim (cases_le a b) [
  | inl h ↦ (subst P (sym (min_low a b h)) x, subst P (sym (max_low a b h)) y)
  | inr h ↦ (subst P (sym (min_high a b h)) y, subst P (sym (max_high a b h)) x)
]
  where
    cases_le : (a b : ℕ) → (a < b) ⊎ ((a < b) → ⊥)
    cases_le a b = grind arith

    min_low : (a b : ℕ) → a < b → min a b ≡ a
    min_low a b h = omega (arith, h)

    max_low : (a b : ℕ) → a < b → max a b ≡ b
    max_low a b h = omega (arith, h)

    max_high : (a b : ℕ) → ((a < b) → ⊥) → max a b ≡ a
    max_high a b h = omega (arith, h)

    min_high : (a b : ℕ) → ((a < b) → ⊥) → min a b ≡ b
    min_high a b h = omega (arith, h)

-- ---- a state whose cells change

change_known : (old new : Cell) → may_become old new ≡ true → is_known new ≡ true → is_known old ≡ true
change_known old (Int after) m k = absurd (false≢true k)
change_known (Int before) Null m k = absurd (false≢true k)
change_known Null Null m k = absurd (false≢true k)
change_known (Obj class ids) Null m k = absurd (false≢true k)
change_known (Nums kind len) Null m k = absurd (false≢true k)
change_known (Refs element len shape) Null m k = absurd (false≢true k)
change_known (Unk bound nullable shape) Null m k = absurd (false≢true k)
change_known (Int before) (Obj class ids) m k = absurd (false≢true m)
change_known Null (Obj class ids) m k = absurd (false≢true m)
change_known (Obj before others) (Obj class ids) m k = refl
change_known (Nums kind len) (Obj class ids) m k = absurd (false≢true m)
change_known (Refs element len shape) (Obj class ids) m k = absurd (false≢true m)
change_known (Unk bound nullable shape) (Obj class ids) m k = absurd (false≢true m)
change_known old (Nums kind len) m k = absurd (false≢true (never old m))
  where
    never : (c : Cell) → may_become c (Nums kind len) ≡ true → false ≡ true
    never (Int before) e = e
    never Null e = e
    never (Obj class ids) e = e
    never (Nums other n) e = e
    never (Refs element n shape) e = e
    never (Unk bound nullable shape) e = e
change_known old (Refs element len shape) m k = absurd (false≢true k)
change_known old (Unk bound nullable shape) m k = absurd (false≢true k)

changes_at : (state : AbstractState) (changed : List (ℕ × Cell)) (id : ℕ) (c : Cell) → AllByRecursion (IsChange state) changed
    → cell_in changed id ≡ Some c → IsChange state (id, c)
changes_at state [] id c a e = absurd (none-some c e)
changes_at state (x ∷ changed) id c a e = at (x.0 == id) refl e (λ f. changes_at state changed id c a.1 f)
  where
    at : (b : Bool) → eqb x.0 id ≡ b → (if b then Some x.1 else cell_in changed id) ≡ Some c
        → (cell_in changed id ≡ Some c → IsChange state (id, c)) → IsChange state (id, c)
    at true f h rest = subst (λ (n : ℕ). IsChange state (n, c)) (eqb-true x.0 id f) (subst (λ (y : Cell). IsChange state (x.0, y))
        (some_is h) a.0)
    at false f h rest = rest h

module _ (state : AbstractState) (good : IsWellFormed state) (changed : List (ℕ × Cell)) (changes : AllByRecursion (IsChange state)
    changed) (set : List ℕ)
    (set_is : (n : ℕ) → has_id set n ≡ is_of_sort is_reference (cell_in (changed_cells changed state.cells) n)) where
  abbrev Now : List (ℕ × Cell)
  Now = changed_cells changed state.cells

  -- what is known now was known before
  was_known : (id : ℕ) → is_of_sort is_known (cell_in Now id) ≡ true → HasCell is_known state id
  was_known id e = at (cell_in changed id) refl (sym (ap (is_of_sort is_known) (changed_at state changed id changes)) ∙ e)
    where
      at : (found : Option Cell) → cell_in changed id ≡ found → is_of_sort is_known (first_cell found (cell_at state id)) ≡ true
          → HasCell is_known state id
      at None f h = there_of is_known state id h
      at (Some c) f h =
          let change = changes_at state changed id c changes f in
          record { cell = change.old.cell; is = change.old.is; sort_is = change_known change.old.cell c change.old.sort_is h }

  still_joins : (a b : ℕ) → a ≢ b → Share state a b → is_of_sort is_reference (cell_in Now a) ≡ true
      → is_of_sort is_reference (cell_in Now b) ≡ true → may_join Now a b ≡ true
  still_joins a b n s x y =
      let j = joined state good a b n s in
      and_from _ _ (and_from _ _ x y) (not_both _ _ (λ k l. j.not_both_known (was_known a k) (was_known b l)))

  pairs_are : (old : List (ℕ × ℕ)) → IsRising old → ((a b : ℕ) → has a b old ≡ true → Share state a b) → (a b : ℕ)
      → (has a b (kept set old) ≡ true) ↔ IsPair (λ x y. has x y old ≡ true) Now a b
  pairs_are old r shares a b = (
    λ e.
        let k = kept_has set a b old e in
        let n = apart_pair a b old r k.0 in
        let both = least_or (λ (id : ℕ). has_id set id ≡ true) a b k.1.0 k.1.1 in
        (n, (still_joins a b n (shares a b k.0) (sym (set_is a) ∙ both.0) (sym (set_is b) ∙ both.1), inl k.0)),
    λ p.
        let h : has a b old ≡ true = elim p.1.1 [ inl x ↦ x | inr x ↦ has_swapped b a old ∙ x ] in
        let refs = and_parts (is_of_sort is_reference (cell_in Now a)) (is_of_sort is_reference (cell_in Now b))
        (and_parts (is_of_sort is_reference (cell_in Now a) && is_of_sort is_reference (cell_in Now b)) _ p.1.0).0 in
        let both = either_of (λ (id : ℕ). has_id set id ≡ true) a b (set_is a ∙ refs.0) (set_is b ∙ refs.1) in
        has_kept set a b old h both.0 both.1,
  )

  -- the state with the changed cells, and other frames and another thrown id
  abbrev Changed : List AbstractFrame → Option ℕ → AbstractState
  Changed frames throwing = record {
    frames = frames;
    throwing = throwing;
    cells = Now;
    eq = kept set state.eq;
    share = kept set state.share;
  }

  pub changed_given : IsRising state.eq → IsRising state.share → (frames : List AbstractFrame) (throwing : Option ℕ)
      → IsGiven frames throwing (with_cells changed state) (AreEqual state) (Share state) (Changed frames throwing)
  changed_given re rs frames throwing = record {
    frames_are = refl;
    throwing_is = refl;
    rising = changed_rising 0 changed state.cells good.rising;
    cells = λ id. changed_at state changed id changes;
    eq = pairs_are state.eq re good.shared;
    share = pairs_are state.share rs (λ a b s. s);
  }

  frames_as_ids : (frames : List AbstractFrame) → AllByRecursion (HoldsIds state) frames
      → AllByRecursion (λ frame. AllByRecursion (HasCell (λ _. true) state) (ids_of_frame frame)) frames
  frames_as_ids frames h =
      all_weaker (HoldsIds state) (λ frame. AllByRecursion (HasCell (λ _. true) state) (ids_of_frame frame))
      (λ frame x. all_joined (HasCell (λ _. true) state) (given_ids frame.locals) frame.stack x.locals x.stack) frames h

  pub changed_good : IsRising state.eq → IsRising state.share → (frames : List AbstractFrame) (throwing : Option ℕ)
      → AllByRecursion (HoldsIds state) frames
      → AllByRecursion (IsThere state) (given_ids (throwing ∷ [])) → IsWellFormed (Changed frames throwing)
  changed_good re rs frames throwing h t =
      well_with state good changed frames throwing (AreEqual state) (Share state) (Changed frames throwing)
      (changed_given re rs frames throwing) good.shared (frames_as_ids frames h) t
      (λ id c e. all_still state good changed (ids_in c) (changes_at state changed id c changes e).names)

-- ---- a state with one more cell

module _ (state : AbstractState) (good : IsWellFormed state) (re : IsRising state.eq) (rs : IsRising state.share) (id : ℕ)
    (free : IsLeastFree state.cells id) (low : id < 2048) (cell : Cell)
    (names : ids_in cell ≡ []) where
  abbrev More : List (ℕ × Cell)
  More = inserted id cell state.cells

  more_at : (n : ℕ) → cell_in More n ≡ with_cells ((id, cell) ∷ []) state n
  more_at n = inserted_at state.cells id id cell n free.none

  -- an id of the state keeps its cell
  kept_at : (n : ℕ) (c : Cell) → cell_at state n ≡ Some c → cell_in More n ≡ cell_at state n
  kept_at n c e = more_at n ∙ ap (λ (b : Bool). first_cell (if b then Some cell else None) (cell_at state n))
      (ne_eqb id n (λ same. none-some c (sym free.none ∙ ap (cell_at state) same ∙ e)))

  sort_kept : (sort : Cell → Bool) (n : ℕ) → HasCell sort state n → is_of_sort sort (cell_in More n) ≡ true
  sort_kept sort n h = ap (is_of_sort sort) (kept_at n h.cell h.is) ∙ sort_of sort state n h

  known_before : (n : ℕ) → HasCell is_reference state n → is_of_sort is_known (cell_in More n) ≡ true → HasCell is_known state n
  known_before n h e = there_of is_known state n (sym (ap (is_of_sort is_known) (kept_at n h.cell h.is)) ∙ e)

  pairs_stay : (old : List (ℕ × ℕ)) → IsRising old → ((a b : ℕ) → has a b old ≡ true → Share state a b) → (a b : ℕ)
      → (has a b old ≡ true) ↔ IsPair (λ x y. has x y old ≡ true) More a b
  pairs_stay old r shares a b = (
    λ e.
        let n = apart_pair a b old r e in
        let j = joined state good a b n (shares a b e) in
        let apart = not_both _ _ (λ k l. j.not_both_known (known_before a j.left k) (known_before b j.right l)) in
        (n, (and_from _ _ (and_from _ _ (sort_kept is_reference a j.left) (sort_kept is_reference b j.right)) apart, inl e)),
    λ p. elim p.1.1 [ inl x ↦ x | inr x ↦ has_swapped b a old ∙ x ],
  )

  abbrev WithOne : AbstractState
  WithOne = record state { cells = More }

  one_given : IsGiven state.frames state.throwing (with_cells ((id, cell) ∷ []) state) (AreEqual state) (Share state) WithOne
  one_given = record {
    frames_are = refl;
    throwing_is = refl;
    rising =
        subst (λ (n : ℕ). AreIdsRising 0 (take id state.cells ++ ((n, cell) ∷ drop id state.cells))) (omega arith)
        (inserted_rising 0 id cell state.cells good.rising (free_after state.cells id free) (omega (arith, low)));
    cells = more_at;
    eq = pairs_stay state.eq re good.shared;
    share = pairs_stay state.share rs (λ a b s. s);
  }

  only_one : (x y k : ℕ) → k < 1 → slice_index_or (x ∷ []) k y ≡ y → x ≡ y
  only_one x y zero l e = e
  only_one x y (suc k) l e = absurd (omega (arith, l))

  pub one_fresh : AreFresh state (id ∷ [])
  one_fresh = record {
    rise = (tt, tt);
    free = All-from_recursion (λ (n : ℕ). cell_at state n ≡ None) (id ∷ []) (free.none, tt);
    least = λ n m c l.
        let found = free.least m (omega (arith, l, only_one id n c.0 c.1 c.2)) in
        inl (record { cell = found.0; is = found.1; sort_is = refl });
  }

  pub one_made : AreFresh state (id ∷ []) × IsGiven state.frames state.throwing (with_cells ((id, cell) ∷ []) state) (AreEqual state)
      (Share state) WithOne
  one_made = (one_fresh, one_given)

  pub one_good : IsWellFormed WithOne
  one_good =
      well_new state good ((id, cell) ∷ []) (AreEqual state) (Share state) WithOne one_given good.shared (λ n c e. at n c (id == n) e)
    where
      at : (n : ℕ) (c : Cell) (b : Bool) → (if b then Some cell else None) ≡ Some c
          → AllByRecursion (IsIn (with_cells ((id, cell) ∷ []) state)) (ids_in c)
      at n c true f =
          subst (λ (y : Cell). AllByRecursion (IsIn (with_cells ((id, cell) ∷ []) state)) (ids_in y)) (some_is f)
          (subst (AllByRecursion (IsIn (with_cells ((id, cell) ∷ []) state))) (sym names) tt)
      at n c false f = absurd (none-some c f)

  pub one_there : HasCell (λ _. true) WithOne id
  one_there = record {
    cell = cell;
    is = more_at id ∙ ap (λ (b : Bool). first_cell (if b then Some cell else None) (cell_at state id))
        (eq-eqb id id refl);
    sort_is = refl;
  }

-- ---- as the code has it

pub state_as : (state made : AbstractState) (frames list : List AbstractFrame) (throwing given : Option ℕ)
    (listed wanted : List (ℕ × Cell)) (eq old_eq share old_share : List (ℕ × ℕ))
    → made ≡ record { frames = reverse frames; throwing = throwing; cells = listed; eq = eq; share = share } → frames ≡ list
    → list ≡ reverse state.frames → throwing ≡ given
    → given ≡ state.throwing → listed ≡ wanted → eq ≡ old_eq → old_eq ≡ state.eq → share ≡ old_share → old_share ≡ state.share
    → made ≡ record state { cells = wanted }
state_as state made frames list throwing given listed wanted eq old_eq share old_share m f l t g c e oe s os =
    m
    ∙ ap (λ (fs : List AbstractFrame). record { frames = fs; throwing = throwing; cells = listed; eq = eq; share = share })
    (ap reverse (f ∙ l) ∙ reverse-reverse state.frames)
    ∙ ap (λ (x : Option ℕ). record { frames = state.frames; throwing = x; cells = listed; eq = eq; share = share }) (t ∙ g)
    ∙ ap (λ (x : List (ℕ × Cell)). record { frames = state.frames; throwing = state.throwing; cells = x; eq = eq; share = share }) c
    ∙ ap (λ (x : List (ℕ × ℕ)). record { frames = state.frames; throwing = state.throwing; cells = wanted; eq = x; share = share }) (e
    ∙ oe)
    ∙ ap (λ (x : List (ℕ × ℕ)). record { frames = state.frames; throwing = state.throwing; cells = wanted; eq = state.eq; share = x })
    (s ∙ os)

pub changed_as : (state made : AbstractState) (changed listed old : List (ℕ × Cell)) (set : List ℕ) (frames : List AbstractFrame)
    (throwing : Option ℕ) (eq old_eq share old_share : List (ℕ × ℕ))
    → made ≡ record { frames = frames; throwing = throwing; cells = listed; eq = eq; share = share }
    → listed ≡ changed_cells changed old → old ≡ state.cells → eq ≡ kept set old_eq
    → old_eq ≡ state.eq → share ≡ kept set old_share → old_share ≡ state.share
    → made ≡ record {
      frames = frames;
      throwing = throwing;
      cells = changed_cells changed state.cells;
      eq = kept set state.eq;
      share = kept set state.share;
    }
changed_as state made changed listed old set frames throwing eq old_eq share old_share m c o e oe s os =
    m
    ∙ ap (λ (x : List (ℕ × Cell)). record { frames = frames; throwing = throwing; cells = x; eq = eq; share = share }) (c
    ∙ ap (changed_cells changed) o)
    ∙ ap (λ (x : List (ℕ × ℕ)). record {
      frames = frames;
      throwing = throwing;
      cells = changed_cells changed state.cells;
      eq = x;
      share = share;
    }) (e ∙ ap (kept set) oe)
    ∙ ap (λ (x : List (ℕ × ℕ)). record {
      frames = frames;
      throwing = throwing;
      cells = changed_cells changed state.cells;
      eq = kept set state.eq;
      share = x;
    }) (s ∙ ap (kept set) os)

each_above : (low : ℕ) (listed : List (ℕ × Cell)) (i : ℕ) (item : ℕ × Cell) → AreIdsRising low listed → i < length listed
    → item ≡ get_or listed i item → low ≤ item.0
each_above low [] i item r l is = absurd (omega (arith, l))
each_above low (c ∷ listed) zero item r l is = subst (λ (x : ℕ × Cell). low ≤ x.0) (sym is) r.0
each_above low (c ∷ listed) (suc i) item r l is = let rest = each_above (suc c.0) listed i item r.1.1 (omega (arith, l)) is in
    omega (arith, rest, r.0)

-- the ids of references among the first cells
pub refs_next : (low : ℕ) (listed : List (ℕ × Cell)) (i n : ℕ) (item : ℕ × Cell) (old new : Bool) → AreIdsRising low listed
    → i < length listed → item ≡ get_or listed i item
    → new ≡ ((is_reference item.1 && (n == item.0)) || old) → old ≡ is_of_sort is_reference (cell_in (take i listed) n)
    → new ≡ is_of_sort is_reference (cell_in (take (i + 1) listed) n)
refs_next low [] i n item old new r l is e o = absurd (omega (arith, l))
refs_next low (c ∷ listed) zero n item old new r l is e o =
    e ∙ ap (λ (b : Bool). (is_reference item.1 && (n == item.0)) || b) o
    ∙ ap (λ (x : ℕ × Cell). (is_reference x.1 && (n == x.0)) || false) is ∙ at (c.0 == n) refl
  where
    at : (b : Bool) → eqb c.0 n ≡ b → ((is_reference c.1 && (n == c.0)) || false) ≡ is_of_sort is_reference (if b then Some c.1 else None)
    at true f = ap (λ (b : Bool). (is_reference c.1 && b) || false) (eq-eqb n c.0 (sym (eqb-true c.0 n f))) ∙ both (is_reference c.1)
      where
        both : (b : Bool) → ((b && true) || false) ≡ b
        both true = refl
        both false = refl
    at false f = ap (λ (b : Bool). (is_reference c.1 && b) || false) (ne_eqb n c.0 (λ same. eqb-false c.0 n f (sym same)))
        ∙ none (is_reference c.1)
      where
        none : (b : Bool) → ((b && false) || false) ≡ false
        none true = refl
        none false = refl
refs_next low (c ∷ listed) (suc i) n item old new r l is e o =
    let after : suc i + 1 ≡ suc (i + 1) = omega arith in
    let below : i < length listed = omega (arith, l) in
    at (c.0 == n) refl o (λ h. refs_next (suc c.0) listed i n item old new r.1.1 below is e h)
    ∙ ap (λ (k : ℕ). is_of_sort is_reference (cell_in (take k (c ∷ listed)) n)) (sym after)
  where
    later : c.0 ≡ n → n ≡ item.0 → ⊥
    later same here =
        let low_item = each_above (suc c.0) listed i item r.1.1 (omega (arith, l)) is in
        omega (arith, low_item, same, here)

    at : (b : Bool) → eqb c.0 n ≡ b → old ≡ is_of_sort is_reference (if b then Some c.1 else cell_in (take i listed) n)
        → (old ≡ is_of_sort is_reference (cell_in (take i listed) n) → new ≡ is_of_sort is_reference (cell_in (take (i + 1) listed) n))
        → new ≡ is_of_sort is_reference (if b then Some c.1 else cell_in (take (i + 1) listed) n)
    at true f h rest = e ∙ ap (λ (b : Bool). (is_reference item.1 && b) || old) (ne_eqb n item.0 (later (eqb-true c.0 n f)))
        ∙ dropped (is_reference item.1) old ∙ h
      where
        dropped : (b d : Bool) → ((b && false) || d) ≡ d
        dropped true d = refl
        dropped false d = refl
    at false f h rest = rest h

pub each_low : (low : ℕ) (listed : List (ℕ × Cell)) (i : ℕ) (item : ℕ × Cell) → AreIdsRising low listed → i < length listed
    → item ≡ get_or listed i item → item.0 < 2048
each_low low [] i item r l is = absurd (omega (arith, l))
each_low low (c ∷ listed) zero item r l is = subst (λ (x : ℕ × Cell). x.0 < 2048) (sym is) r.1.0
each_low low (c ∷ listed) (suc i) item r l is = each_low (suc c.0) listed i item r.1.1 (omega (arith, l)) is

pub refs_all : (listed : List (ℕ × Cell)) (i n : ℕ) (b : Bool) → length listed ≤ i
    → b ≡ is_of_sort is_reference (cell_in (take i listed) n) → b ≡ is_of_sort is_reference (cell_in listed n)
refs_all listed i n b l e = e ∙ ap (λ (xs : List (ℕ × Cell)). is_of_sort is_reference (cell_in xs n)) (take_all i listed l)
