-- The state that is left when ids that nothing reaches are dropped.
use Rattle.std.proofs.Common.{◌≡◌, ◌≢◌, ℕ, zero, suc, ◌+◌, ◌<◌, ◌≤◌, ◌&&◌, ◌||◌, ◌==◌, min, max, eqb, Bool, true, false, cond, List}
use Rattle.std.proofs.Common.{[], ◌∷◌, ◌++◌, length, get_or, drop, drop-cons, add-one, reverse, All, Option, Some, None, inl, inr}
use Rattle.std.proofs.Common.{refl, sym, ap, subst, ◌∙◌, arith, eq-eqb, ne_eqb, if◌then◌else◌, append_assoc}
use Rattle.std.specs.Prelude.{◌↔◌, slice_get, filter}
use Rattle.std.specs.Option.{option_and_then}
use Rattle.std.specs.List.{list_any, flat_map}
use Rattle.std.proofs.lemmas.Bool.{false≢true, cases_lt, cases_Bool, and_parts, and_from, or_cases, or_left, or_right, eqb-true}
use Rattle.std.proofs.lemmas.List.{reverse-append, drop_all}
use Rattle.std.proofs.lemmas.List.Folds.{list_any-append}
use Rattle.std.proofs.lemmas.List.Elements.{All-append}
use Rattle.std.proofs.lemmas.Option.{slice_get-get_or, none-some}
use Rattle.abs_cells.proofs.list_views.Quantified.{all_at, every_front}
use Rattle.abs_cells.proofs.list_views.Truths.{or_false, or_assoc, or_swapped}
use Rattle.jvm_values.proofs.Options.{some_is}
use Rattle.jvm_values.proofs.PathLaws.{here, one_more, onward}
use Rattle.abs_cells.specs.declared.cells.Cell.{Cell}
use Rattle.abs_cells.specs.AbstractStates.{AbstractFrame, AbstractState}
use Rattle.abs_cells.specs.PairLists.{pair_of, has}
use Rattle.abs_cells.specs.IdSets.{has_id, kept}
use Rattle.abs_cells.specs.Cells.{ids_in, cell_in, cell_at, HasCell}
use Rattle.abs_cells.specs.Sound.{AreIdsRising, given_ids, ids_of_frame, IsWellFormed}
use Rattle.abs_cells.proofs.KeepLaws.{has_filter}
use Rattle.abs_cells.proofs.Checking.{has_cell_from, has_cell_to}
use Rattle.abs_reach.specs.declared.find.Names.TheVariants.{All as AllNames}
use Rattle.abs_reach.specs.inner.Steps.{IsIn, IsReachedInside}
use Rattle.abs_reach.specs.Reached.{named_steps, positions, IsReached, IsDropped}
use Rattle.abs_reach.proofs.Finding.{stands}
use Rattle.abs_reach.proofs.Room.{has_cell_low, reached_there}
use Rattle.abs_reach.proofs.Answering.{all_named_there}

-- ---- ids that stand in a list

pub any_stands : (n : ℕ) (xs : List ℕ) → list_any (λ x. x == n) xs ≡ true → (k : ℕ) × (slice_get xs k ≡ Some n)
any_stands n [] h = absurd (false≢true h)
any_stands n (x ∷ xs) h = elim (or_cases (eqb x n) (list_any (λ y. y == n) xs) h) [
  | inl e ↦ (0, ap Some (eqb-true x n e))
  | inr t ↦ let p = any_stands n xs t in (suc p.0, p.1)
]

pub stands_any : (n k : ℕ) (xs : List ℕ) → slice_get xs k ≡ Some n → list_any (λ x. x == n) xs ≡ true
stands_any n k [] e = absurd (none-some n e)
stands_any n zero (x ∷ xs) e = or_left (eqb x n) (list_any (λ y. y == n) xs) (eq-eqb x n (some_is e))
stands_any n (suc k) (x ∷ xs) e = or_right (eqb x n) (list_any (λ y. y == n) xs) (stands_any n k xs e)

pub any_reversed : {X : Type 0} (test : X → Bool) (xs : List X) → list_any test (reverse xs) ≡ list_any test xs
any_reversed test [] = refl
any_reversed test (x ∷ xs) =
    ap (list_any test) (reverse-append (x ∷ []) xs) ∙ list_any-append test (reverse xs) (x ∷ [])
    ∙ ap (λ (b : Bool). list_any test (reverse xs) || b) (or_false (test x))
    ∙ ap (λ (b : Bool). b || test x) (any_reversed test xs) ∙ or_swapped (list_any test xs) (test x)

pub any_flat : {X Y : Type 0} (test : Y → Bool) (f : X → List Y) (xs : List X)
    → list_any test (flat_map f xs) ≡ list_any (λ x. list_any test (f x)) xs
any_flat test f [] = refl
any_flat test f (x ∷ xs) = list_any-append test (f x) (flat_map f xs) ∙ ap (λ (b : Bool). list_any test (f x) || b) (any_flat test f xs)

-- ---- one item of a list after another

pub next_any : {X : Type 0} (p : X → Bool) (xs : List X) (i : ℕ) (d : X) → i < length xs → (b now w : Bool)
    → now ≡ (b || p (get_or xs i d)) → (b || list_any p (drop i xs)) ≡ w → (now || list_any p (drop (i + 1) xs)) ≡ w
next_any p xs i d l b now w e h =
    let step : list_any p (drop i xs) ≡ (p (get_or xs i d) || list_any p (drop (i + 1) xs)) = rw (drop-cons xs i d, add-one) refl in
    ap (λ (x : Bool). x || list_any p (drop (i + 1) xs)) e ∙ or_assoc b (p (get_or xs i d)) (list_any p (drop (i + 1) xs))
    ∙ ap (λ (x : Bool). b || x) (sym step) ∙ h

pub end_any : {X : Type 0} (p : X → Bool) (xs : List X) (i : ℕ) → length xs ≤ i → (b w : Bool) → (b || list_any p (drop i xs)) ≡ w → b ≡ w
end_any p xs i l b w h = sym (or_false b) ∙ ap (λ (ys : List _). b || list_any p ys) (sym (drop_all i xs l)) ∙ h

-- the id of a local variable is a number
abbrev pub local_is : ℕ → Option ℕ → Bool
local_is n local = list_any (λ x. x == n) (given_ids (local ∷ []))

pub locals_are : (n : ℕ) (locals : List (Option ℕ)) → list_any (local_is n) locals ≡ list_any (λ x. x == n) (given_ids locals)
locals_are n [] = refl
locals_are n (None ∷ locals) = locals_are n locals
locals_are n (Some id ∷ locals) = ap (λ (b : Bool). ((id == n) || false) || b) (locals_are n locals)
    ∙ ap (λ (b : Bool). b || list_any (λ x. x == n) (given_ids locals)) (or_false (id == n))

-- an id of a frame is a number
abbrev pub frame_has : ℕ → AbstractFrame → Bool
frame_has n frame = list_any (λ x. x == n) (ids_of_frame frame)

-- what a frame puts in, and what frames and the thrown id do
pub frame_in : (n : ℕ) (frame : AbstractFrame) (old some now : Bool)
    → some ≡ (old || list_any (λ x. x == n) (given_ids frame.locals)) → now ≡ (some || list_any (λ x. x == n) (reverse frame.stack))
    → now ≡ (old || list_any (λ x. x == n) (ids_of_frame frame))
frame_in n frame old some now e f =
    f ∙ ap (λ (b : Bool). some || b) (any_reversed (λ (x : ℕ). x == n) frame.stack)
    ∙ ap (λ (b : Bool). b || list_any (λ x. x == n) frame.stack) e
    ∙ or_assoc old (list_any (λ x. x == n) (given_ids frame.locals)) (list_any (λ x. x == n) frame.stack)
    ∙ ap (λ (b : Bool). old || b) (sym (list_any-append (λ (x : ℕ). x == n) (given_ids frame.locals) frame.stack))

pub state_in : (n : ℕ) (state : AbstractState) (none some now : Bool) → none ≡ false
    → some ≡ (none || list_any (λ frame. list_any (λ x. x == n) (ids_of_frame frame)) (reverse state.frames))
    → now ≡ (some || list_any (λ x. x == n) (given_ids (state.throwing ∷ []))) → now ≡ list_any (λ x. x == n) (positions state)
state_in n state none some now z e f =
    f
    ∙ ap (λ (b : Bool). b || list_any (λ x. x == n) (given_ids (state.throwing ∷ [])))
    (e ∙ ap (λ (b : Bool). b || list_any (λ frame. list_any (λ x. x == n) (ids_of_frame frame)) (reverse state.frames)) z
    ∙ any_reversed (λ (frame : AbstractFrame). list_any (λ x. x == n) (ids_of_frame frame)) state.frames
    ∙ sym (any_flat (λ (x : ℕ). x == n) ids_of_frame state.frames))
    ∙ sym (list_any-append (λ (x : ℕ). x == n) (flat_map ids_of_frame state.frames) (given_ids (state.throwing ∷ [])))

-- ---- cells that are kept

abbrev pub kept_cells : List ℕ → List (ℕ × Cell) → List (ℕ × Cell)
kept_cells met cells = filter (λ c. has_id met c.0) cells

pub cell_kept : (met : List ℕ) (cells : List (ℕ × Cell)) (id : ℕ) → has_id met id ≡ true
    → cell_in (kept_cells met cells) id ≡ cell_in cells id
cell_kept met [] id h = refl
cell_kept met (c ∷ cells) id h = elim (cases_Bool (has_id met c.0)) [
  | inl t ↦
      ap (λ (b : Bool). cell_in (cond b (c ∷ kept_cells met cells) (kept_cells met cells)) id) t
      ∙ ap (λ (o : Option Cell). if c.0 == id then Some c.1 else o) (cell_kept met cells id h)
  | inr f ↦
      let apart : eqb c.0 id ≡ false = ne_eqb c.0 id (λ (e : c.0 ≡ id). false≢true (sym f ∙ ap (has_id met) e ∙ h)) in
      ap (λ (b : Bool). cell_in (cond b (c ∷ kept_cells met cells) (kept_cells met cells)) id) f
      ∙ cell_kept met cells id h ∙ sym (ap (λ (b : Bool). if b then Some c.1 else cell_in cells id) apart)
]

pub cell_gone : (met : List ℕ) (cells : List (ℕ × Cell)) (id : ℕ) → has_id met id ≡ false → cell_in (kept_cells met cells) id ≡ None
cell_gone met [] id h = refl
cell_gone met (c ∷ cells) id h = elim (cases_Bool (has_id met c.0)) [
  | inl t ↦
      let apart : eqb c.0 id ≡ false = ne_eqb c.0 id (λ (e : c.0 ≡ id). false≢true (sym h ∙ ap (has_id met) (sym e) ∙ t)) in
      ap (λ (b : Bool). cell_in (cond b (c ∷ kept_cells met cells) (kept_cells met cells)) id) t
      ∙ ap (λ (b : Bool). if b then Some c.1 else cell_in (kept_cells met cells) id) apart ∙ cell_gone met cells id h
  | inr f ↦ ap (λ (b : Bool). cell_in (cond b (c ∷ kept_cells met cells) (kept_cells met cells)) id) f ∙ cell_gone met cells id h
]

lower : (low high : ℕ) (cells : List (ℕ × Cell)) → low ≤ high → AreIdsRising high cells → AreIdsRising low cells
lower low high [] l r = tt
lower low high (c ∷ cells) l r = (omega (arith, l, r.0), r.1)

pub rising_kept : (met : List ℕ) (low : ℕ) (cells : List (ℕ × Cell)) → AreIdsRising low cells → AreIdsRising low (kept_cells met cells)
rising_kept met low [] r = tt
rising_kept met low (c ∷ cells) r = elim (cases_Bool (has_id met c.0)) [
  | inl t ↦ subst (λ (b : Bool). AreIdsRising low (cond b (c ∷ kept_cells met cells) (kept_cells met cells))) (sym t)
      (r.0, (r.1.0, rising_kept met (suc c.0) cells r.1.1))
  | inr f ↦ subst (λ (b : Bool). AreIdsRising low (cond b (c ∷ kept_cells met cells) (kept_cells met cells))) (sym f)
      (lower low (suc c.0) (kept_cells met cells) (omega (arith, r.0)) (rising_kept met (suc c.0) cells r.1.1))
]

-- ---- pairs that are kept

both_met : (met : List ℕ) (a b : ℕ) → (has_id met (min a b) && has_id met (max a b)) ≡ true ↔ (IsIn met a × IsIn met b)
both_met met a b = elim (cases_lt a b) [
  | inl l ↦
      let m : min a b ≡ a = omega (arith, l) in
      let n : max a b ≡ b = omega (arith, l) in (
        λ h. let p = and_parts (has_id met (min a b)) (has_id met (max a b)) h in
            (ap (has_id met) (sym m) ∙ p.0, ap (has_id met) (sym n) ∙ p.1),
        λ k. and_from (has_id met (min a b)) (has_id met (max a b)) (ap (has_id met) m ∙ k.0) (ap (has_id met) n ∙ k.1),
      )
  | inr l ↦
      let m : min a b ≡ b = omega (arith, l) in
      let n : max a b ≡ a = omega (arith, l) in (
        λ h. let p = and_parts (has_id met (min a b)) (has_id met (max a b)) h in
            (ap (has_id met) (sym n) ∙ p.1, ap (has_id met) (sym m) ∙ p.0),
        λ k. and_from (has_id met (min a b)) (has_id met (max a b)) (ap (has_id met) m ∙ k.1) (ap (has_id met) n ∙ k.0),
      )
]

pub pair_kept : (met : List ℕ) (pairs : List (ℕ × ℕ)) (a b : ℕ)
    → (has a b (kept met pairs) ≡ true) ↔ ((has a b pairs ≡ true) × (IsIn met a × IsIn met b))
pair_kept met pairs a b =
    let is = has_filter (λ p. has_id met p.0 && has_id met p.1) (pair_of a b) pairs in (
      λ h.
          let p = and_parts (has_id met (min a b) && has_id met (max a b)) (has a b pairs) (sym is ∙ h) in
          (p.1, (both_met met a b).0 p.0),
      λ k. is ∙ and_from (has_id met (min a b) && has_id met (max a b)) (has a b pairs) ((both_met met a b).1 k.1) k.0,
    )

-- ---- the whole

all_names : (P : ℕ → Type 0) (cells : List (ℕ × Cell))
    → ((k : ℕ) (d : ℕ × Cell) → k < length cells → All P (ids_in (get_or cells k d).1)) → All P (flat_map (λ c. ids_in c.1) cells)
all_names P [] h = λ k d l. absurd (omega (arith, l))
all_names P (c ∷ cells) h = All-append P (ids_in c.1) (flat_map (λ x. ids_in x.1) cells) (h zero c (omega arith))
    (all_names P cells (λ k d l. h (suc k) d (omega (arith, l))))

module _ (state : AbstractState) (good : IsWellFormed state) (starts met : List ℕ) (starts_are : (n : ℕ) → n < 2048
    → has_id starts n ≡ list_any (λ x. x == n) (positions state)) (met_is : (id : ℕ)
    → (has_id met id ≡ true) ↔ IsReachedInside AllNames state.cells starts id) where
  positions_there : All (HasCell (λ _. true) state) (positions state)
  positions_there =
      every_front (HasCell (λ _. true) state) (flat_map ids_of_frame state.frames ++ given_ids (state.throwing ∷ []))
      (flat_map (λ c. ids_in c.1) state.cells)
      (subst (λ (xs : List ℕ). All (HasCell (λ _. true) state) xs)
      (sym (append_assoc (flat_map ids_of_frame state.frames) (given_ids (state.throwing ∷ []))
      (flat_map (λ c. ids_in c.1) state.cells))) good.used)

  reached : (id : ℕ) → (has_id met id ≡ true) ↔ IsReached state id
  reached id = (
    λ h.
        let r = (met_is id).0 h in
        let low = has_cell_low state.cells r.from good.rising r.there in
        let p = any_stands r.from (positions state) (sym (starts_are r.from low) ∙ r.starts) in
        record { place = p.0; start = r.from; stands = p.1; reaches = r.reaches },
    λ r.
        let there = has_cell_to (λ _. true) state r.start
        (all_at (HasCell (λ _. true) state) (positions state) r.place r.start positions_there r.stands) in
        let low = has_cell_low state.cells r.start good.rising there in
        (met_is id).1 (record {
          from = r.start;
          starts = starts_are r.start low
              ∙ stands_any r.start r.place (positions state) r.stands;
          there = there;
          reaches = r.reaches;
        }),
  )

  abbrev part : AbstractState
  part = record {
    frames = state.frames;
    throwing = state.throwing;
    cells = kept_cells met state.cells;
    eq = kept met state.eq;
    share = kept met state.share;
  }

  met_if_there : (id : ℕ) → HasCell (λ _. true) part id → has_id met id ≡ true
  met_if_there id h = elim (cases_Bool (has_id met id)) [
    | inl t ↦ t
    | inr f ↦ absurd (none-some h.cell (sym (cell_gone met state.cells id f) ∙ h.is))
  ]

  pub dropped : IsDropped state part
  dropped = record {
    frames = refl;
    throwing = refl;
    kept = λ id r. cell_kept met state.cells id ((reached id).1 r);
    gone = λ id h. (reached id).0 (met_if_there id h);
    eq = λ a b. pairs_are a b state.eq;
    share = λ a b. pairs_are a b state.share;
  }
    where
      pairs_are : (a b : ℕ) (pairs : List (ℕ × ℕ))
          → (has a b (kept met pairs) ≡ true) ↔ ((has a b pairs ≡ true) × (IsReached state a × IsReached state b))
      pairs_are a b pairs = (
        λ h. let k = (pair_kept met pairs a b).0 h in (k.0, ((reached a).0 k.1.0, (reached b).0 k.1.1)),
        λ k. (pair_kept met pairs a b).1 (k.0, ((reached a).1 k.1.0, (reached b).1 k.1.1)),
      )

  still_there : {sort : Cell → Bool} (id : ℕ) → IsReached state id → HasCell sort state id → HasCell sort part id
  still_there id r h = record { cell = h.cell; is = cell_kept met state.cells id ((reached id).1 r) ∙ h.is; sort_is = h.sort_is }

  was_there : {sort : Cell → Bool} (id : ℕ) → HasCell sort part id → HasCell sort state id
  was_there id h = record {
    cell = h.cell;
    is = sym
        (cell_kept met state.cells id (met_if_there id (record { cell = h.cell; is = h.is; sort_is = refl })))
        ∙ h.is;
    sort_is = h.sort_is;
  }

  positions_still : All (HasCell (λ _. true) part) (positions state)
  positions_still k d l =
      still_there (get_or (positions state) k d)
      (record {
        place = k;
        start = get_or (positions state) k d;
        stands = slice_get-get_or (positions state) k d l;
        reaches =
            here (named_steps state) (get_or (positions state) k d) (get_or (positions state) k d) refl;
      }) (positions_there k d l)

  names_still : (id : ℕ) (cell : Cell) → cell_in (kept_cells met state.cells) id ≡ Some cell → All (HasCell (λ _. true) part) (ids_in cell)
  names_still id cell e k d l =
      let met_id = met_if_there id (record { cell = cell; is = e; sort_is = refl }) in
      let r = (reached id).0 met_id in
      let whole : cell_at state id ≡ Some cell = sym (cell_kept met state.cells id met_id) ∙ e in
      let item : slice_get (ids_in cell) k ≡ Some (get_or (ids_in cell) k d) = slice_get-get_or (ids_in cell) k d l in
      let step : named_steps state id k ≡ Some (get_or (ids_in cell) k d) = ap
      (option_and_then (λ (c : Cell). slice_get (ids_in c) k)) whole ∙ item in
      let reaches = onward (named_steps state) r.start id (get_or (ids_in cell) k d) r.reaches
      (one_more (named_steps state) id k (get_or (ids_in cell) k d) (get_or (ids_in cell) k d) step
      (here (named_steps state) (get_or (ids_in cell) k d) (get_or (ids_in cell) k d) refl)) in
      let next : IsReached state (get_or (ids_in cell) k d) = record
      { place = r.place; start = r.start; stands = r.stands; reaches = reaches } in
      let there = has_cell_of (get_or (ids_in cell) k d)
      ((met_is (get_or (ids_in cell) k d)).0 ((reached (get_or (ids_in cell) k d)).1 next)) in
      still_there (get_or (ids_in cell) k d) next there
    where
      has_cell_of : (n : ℕ) → IsReachedInside AllNames state.cells starts n → HasCell (λ _. true) state n
      has_cell_of n r = has_cell_from (λ _. true) state n
          (reached_there AllNames state.cells (all_named_there state good) r.reaches.path r.from n r.there r.reaches.leads)

  pub well : IsWellFormed part
  well = record {
    rising = rising_kept met 0 state.cells good.rising;
    used = subst (λ (xs : List ℕ). All (HasCell (λ _. true) part) xs)
        (append_assoc (flat_map ids_of_frame state.frames) (given_ids (state.throwing ∷ []))
        (flat_map (λ c. ids_in c.1) (kept_cells met state.cells)))
        (All-append (HasCell (λ _. true) part) (positions state) (flat_map (λ c. ids_in c.1) (kept_cells met state.cells)) positions_still
        (all_names (HasCell (λ _. true) part) (kept_cells met state.cells)
        (λ k d l. names_still (get_or (kept_cells met state.cells) k d).0 (get_or (kept_cells met state.cells) k d).1
        (stands 0 (kept_cells met state.cells) (get_or (kept_cells met state.cells) k d).0 k d
        (rising_kept met 0 state.cells good.rising) l refl))));
    shared = λ a b e. let k = (dropped.eq a b).0 e in (dropped.share a b).1 (good.shared a b k.0, k.1);
    left = λ a b l s. let k = (dropped.share a b).0 s in still_there a k.1.0 (good.left a b l k.0);
    right = λ a b l s. let k = (dropped.share a b).0 s in still_there b k.1.1 (good.right a b l k.0);
    not_both_known = λ a b l s f g. let k = (dropped.share a b).0 s in good.not_both_known a b l k.0 (was_there a f) (was_there b g);
  }
