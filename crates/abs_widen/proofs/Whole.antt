-- The state of all pairs is well-formed: each id that it names is a pair's number.
use Rattle.std.proofs.Common.{◌≡◌, ◌⊎◌, ℕ, suc, ◌+◌, ◌<◌, ◌≤◌, Bool, true, false, not, cond, ◌&&◌, List, [], ◌∷◌, ◌++◌, All, map}
use Rattle.std.proofs.Common.{zip, reverse, length, get_or, Option, Some, None, refl, sym, ap, subst, ◌∙◌, inl, inr, arith}
use Rattle.std.specs.Prelude.{slice_get}
use Rattle.std.specs.List.{AllZip, AllByRecursion, list_any, flat_map}
use Rattle.std.specs.Option.{option_map}
use Rattle.std.proofs.lemmas.Bool.{or_left, or_right, and_parts, and_from, false≢true, cases_lt, cases_eq, eq-eqb, ne_eqb, not_from_true}
use Rattle.std.proofs.lemmas.List.Elements.{All-nil, All-cons, length_all_zip}
use Rattle.std.proofs.lemmas.Option.{slice_get-get_or, slice_get_within, get_or_from_slice_get, none-some}
use Rattle.abs_cells.proofs.CellLaws.{place_of_cell}
use Rattle.list_views.proofs.Quantified.{all_joined, all_weaker}
use Rattle.jvm_values.specs.TypedHeaps.{WorldTypes}
use Rattle.abs_cells.specs.declared.cells.Cell.{Cell}
use Rattle.abs_cells.specs.declared.cells.Cell.TheVariants.{Int, Null, Obj, Nums, Refs, Unk}
use Rattle.abs_cells.specs.AbstractStates.{AbstractFrame, AbstractState}
use Rattle.abs_cells.specs.PairLists.{is_same, has}
use Rattle.abs_cells.specs.Cells.{is_known, is_reference, ids_in, cell_in, HasCell, AreEqual, Share}
use Rattle.abs_cells.specs.Sound.{AreIdsRising, given_ids, ids_of_frame, ids_used, IsWellFormed}
use Rattle.abs_cells.proofs.PairLaws.{has_swapped}
use Rattle.abs_reach.proofs.Dropped.{any_reversed, any_flat}
use Rattle.abs_reach.proofs.Finding.{stands}
use Rattle.abs_widen.specs.Rows.{Row, ints, nulls, instances, numbers, arrays, unlike, pairs_of}
use Rattle.abs_widen.specs.Visits.{is_among, local_pair, some_in, local_pairs, frame_pairs, frames_pairs, thrown_pair}
use Rattle.abs_widen.specs.Visits.{position_pairs, pairs_in, pairs_below, ArePairs}
use Rattle.abs_widen.specs.inner.Visiting.{AreAsLong}
use Rattle.abs_widen.specs.Widening.{number_of, merged_locals, merged_frame, merged_frames, IsRowCell, IsCellUnless, IsMergedCell}
use Rattle.abs_widen.specs.Widening.{IsMerged, clashes}
use Rattle.abs_widen.specs.inner.Pairing.{may_join_cells, AreJoined, AreNumbered}
use Rattle.abs_widen.proofs.Closed.{among_front, among_back, among_either, number_low, among_at, positions_among, below_among}
use Rattle.abs_widen.proofs.Rising.{never_itself}
use Rattle.abs_widen.proofs.Zips.{zip_reversed}

pub all_from : {X : Type 0} (P : X → Type 0) (xs : List X) → AllByRecursion P xs → All P xs
all_from P [] h = All-nil P
all_from P (x ∷ xs) h = All-cons P x xs h.0 (all_from P xs h.1)

-- ---- pairs at positions, in the order of the lists

module _ (a b : AbstractState) where
  abbrev pub straight_pairs : AbstractFrame × AbstractFrame → List (ℕ × ℕ)
  straight_pairs both = local_pairs a b both.0.locals both.1.locals ++ zip both.0.stack both.1.stack

  straight_frame : (p : ℕ × ℕ) (f o : AbstractFrame) → AreAsLong f o → is_among p (straight_pairs (f, o)) ≡ true
      → is_among p (frame_pairs a b f o) ≡ true
  straight_frame p f o long h = elim (among_either p (local_pairs a b f.locals o.locals) (zip f.stack o.stack) h) [
    | inl t ↦ among_front p (local_pairs a b f.locals o.locals) (zip (reverse f.stack) (reverse o.stack)) t
    | inr t ↦
        among_back p (local_pairs a b f.locals o.locals) (zip (reverse f.stack) (reverse o.stack))
        (ap (is_among p) (zip_reversed f.stack o.stack long.stacks) ∙ any_reversed (is_same p) (zip f.stack o.stack) ∙ t)
  ]

  straight_any : (p : ℕ × ℕ) (frames others : List AbstractFrame) → AllZip AreAsLong frames others
      → is_among p (flat_map straight_pairs (zip frames others)) ≡ true
      → list_any (λ both. is_among p (frame_pairs a b both.0 both.1)) (zip frames others) ≡ true
  straight_any p [] others long h = absurd (false≢true h)
  straight_any p (f ∷ frames) [] long h = absurd (false≢true h)
  straight_any p (f ∷ frames) (o ∷ others) long h = elim
      (among_either p (straight_pairs (f, o)) (flat_map straight_pairs (zip frames others)) h) [
        | inl t ↦ or_left (is_among p (frame_pairs a b f o))
            (list_any (λ both. is_among p (frame_pairs a b both.0 both.1)) (zip frames others)) (straight_frame p f o long.0 t)
        | inr t ↦ or_right (is_among p (frame_pairs a b f o))
            (list_any (λ both. is_among p (frame_pairs a b both.0 both.1)) (zip frames others)) (straight_any p frames others long.1 t)
      ]

  pub straight_placed : (p : ℕ × ℕ) → AllZip AreAsLong a.frames b.frames
      → is_among p (flat_map straight_pairs (zip a.frames b.frames)) ≡ true → is_among p (position_pairs a b) ≡ true
  straight_placed p long h =
      among_front p (frames_pairs a b (reverse a.frames) (reverse b.frames)) (some_in (thrown_pair a.throwing b.throwing))
      (any_flat (is_same p) (λ both. frame_pairs a b both.0 both.1) (zip (reverse a.frames) (reverse b.frames))
      ∙ ap (list_any (λ both. is_among p (frame_pairs a b both.0 both.1)))
      (zip_reversed a.frames b.frames (length_all_zip AreAsLong a.frames b.frames long))
      ∙ any_reversed (λ both. is_among p (frame_pairs a b both.0 both.1)) (zip a.frames b.frames)
      ∙ straight_any p a.frames b.frames long h)

  pub thrown_placed : (p : ℕ × ℕ) → is_among p (some_in (thrown_pair a.throwing b.throwing)) ≡ true
      → is_among p (position_pairs a b) ≡ true
  thrown_placed p h = among_back p (frames_pairs a b (reverse a.frames) (reverse b.frames)) (some_in (thrown_pair a.throwing b.throwing)) h

-- ---- ids that are numbers of pairs

module _ (pairs : List (ℕ × ℕ)) where
  abbrev pub AreLow : List ℕ → Type 0
  AreLow ids = AllByRecursion (λ id. id < length pairs) ids

  abbrev pub AreAmongThem : List (ℕ × ℕ) → Type 0
  AreAmongThem some = (p : ℕ × ℕ) → is_among p some ≡ true → is_among p pairs ≡ true

  pub numbers_low : (some : List (ℕ × ℕ)) → AreAmongThem some → AreLow (map (number_of pairs) some)
  numbers_low [] h = tt
  numbers_low (p ∷ some) h =
      (number_low pairs p (h p (among_here p some)), numbers_low some (λ q k. h q (or_right (is_same q p) (is_among q some) k)))
    where
      among_here : (p : ℕ × ℕ) (some : List (ℕ × ℕ)) → is_among p (p ∷ some) ≡ true
      among_here p some = among_at (p ∷ some) 0 p refl

  one_low : (o : Option (ℕ × ℕ)) (rest : List (Option ℕ)) → AreAmongThem (some_in o) → AreLow (given_ids rest)
      → AreLow (given_ids (option_map (number_of pairs) o ∷ rest))
  one_low None rest h k = k
  one_low (Some p) rest h k = (number_low pairs p (h p (among_at (p ∷ []) 0 p refl)), k)

  pub option_low : (o : Option (ℕ × ℕ)) → AreAmongThem (some_in o) → AreLow (given_ids (option_map (number_of pairs) o ∷ []))
  option_low o h = one_low o [] h tt

  options_low : {Z : Type 0} (g : Z → Option (ℕ × ℕ)) (zs : List Z) → AreAmongThem (flat_map (λ z. some_in (g z)) zs)
      → AreLow (given_ids (map (λ z. option_map (number_of pairs) (g z)) zs))
  options_low g [] h = tt
  options_low g (z ∷ zs) h =
      one_low (g z) (map (λ x. option_map (number_of pairs) (g x)) zs)
      (λ p k. h p (among_front p (some_in (g z)) (flat_map (λ x. some_in (g x)) zs) k))
      (options_low g zs (λ p k. h p (among_back p (some_in (g z)) (flat_map (λ x. some_in (g x)) zs) k)))

  module _ (a b : AbstractState) where
    frame_low : (f o : AbstractFrame) → AreAmongThem (straight_pairs a b (f, o)) → AreLow (ids_of_frame (merged_frame a b pairs f o))
    frame_low f o h =
        all_joined (λ (id : ℕ). id < length pairs) (given_ids (merged_locals a b pairs f.locals o.locals))
        (map (number_of pairs) (zip f.stack o.stack))
        (options_low (λ both. local_pair a b both.0 both.1) (zip f.locals o.locals)
        (λ p k. h p (among_front p (local_pairs a b f.locals o.locals) (zip f.stack o.stack) k)))
        (numbers_low (zip f.stack o.stack) (λ p k. h p (among_back p (local_pairs a b f.locals o.locals) (zip f.stack o.stack) k)))

    pub frames_low : (frames others : List AbstractFrame) → AreAmongThem (flat_map (straight_pairs a b) (zip frames others))
        → AreLow (flat_map ids_of_frame (merged_frames a b pairs frames others))
    frames_low [] others h = tt
    frames_low (f ∷ frames) [] h = tt
    frames_low (f ∷ frames) (o ∷ others) h =
        all_joined (λ (id : ℕ). id < length pairs) (ids_of_frame (merged_frame a b pairs f o))
        (flat_map ids_of_frame (merged_frames a b pairs frames others))
        (frame_low f o (λ p k. h p (among_front p (straight_pairs a b (f, o)) (flat_map (straight_pairs a b) (zip frames others)) k)))
        (frames_low frames others
        (λ p k. h p (among_back p (straight_pairs a b (f, o)) (flat_map (straight_pairs a b) (zip frames others)) k)))

    -- the ids that cells name
    module _ (types : WorldTypes) (pair : ℕ × ℕ) (p q cell : Cell) where
      no_ids : (made : Cell) → cell ≡ made → AreLow (ids_in made) → AreLow (ids_in cell)
      no_ids made e h = subst (λ (c : Cell). AreLow (ids_in c)) (sym e) h

      row_low : (row : Row) → AreAmongThem (pairs_of row) → IsRowCell types a b pairs pair p q row cell → AreLow (ids_in cell)
      row_low (ints i j) h is = no_ids (Int is.interval) is.is tt
      row_low nulls h is = no_ids Null is tt
      row_low (instances class ids more) h is = no_ids (Obj class (map (number_of pairs) (zip ids more))) is (numbers_low (zip ids more) h)
      row_low (numbers kind len more) h is = no_ids (Nums kind (number_of pairs (len, more))) is (numbers_low ((len, more) ∷ []) h)
      row_low (arrays element other len more) h is = no_ids (Refs is.join (number_of pairs (len, more)) is.shape) is.is
          (numbers_low ((len, more) ∷ []) h)
      row_low unlike h is = no_ids (Unk is.bound _ is.shape) is.is tt

      unless_low : (t : Bool) (row : Row) → AreAmongThem (pairs_of row) → IsCellUnless t types a b pairs pair p q row cell
          → AreLow (ids_in cell)
      unless_low true row h is = no_ids (Unk is.bound _ is.shape) is.is tt
      unless_low false row h is = row_low row h is

    pub cell_low : (types : WorldTypes) (pair : ℕ × ℕ) (cell : Cell) → AreAmongThem (pairs_below a b pair)
        → IsMergedCell types a b pairs pair cell → AreLow (ids_in cell)
    cell_low types pair cell h is =
        unless_low types pair is.p is.q cell (clashes a b pairs pair) is.row
        (λ x k. h x (ap (λ (o : Option Row). is_among x (pairs_in o)) is.row_is ∙ k)) is.is

  pub cells_low : (cells : List (ℕ × Cell))
      → ((k : ℕ) (entry : ℕ × Cell) → slice_get cells k ≡ Some entry → AreLow (ids_in entry.1)) → AreLow (flat_map (λ c. ids_in c.1) cells)
  cells_low [] h = tt
  cells_low (c ∷ cells) h = all_joined (λ (id : ℕ). id < length pairs) (ids_in c.1) (flat_map (λ x. ids_in x.1) cells) (h 0 c refl)
      (cells_low cells (λ k entry e. h (suc k) entry e))

-- ---- cells and their numbers

numbers_rise : (low : ℕ) (cells : List (ℕ × Cell))
    → ((k : ℕ) (entry : ℕ × Cell) → slice_get cells k ≡ Some entry → entry.0 ≡ low + k) → low + length cells ≤ 512 → AreIdsRising low cells
numbers_rise low [] h l = tt
numbers_rise low (c ∷ cells) h l =
    let e : c.0 ≡ low + 0 = h 0 c refl in (
      omega (arith, e),
      (
        omega (arith, e, l),
        numbers_rise (suc c.0) cells (λ k entry f. let g : entry.0 ≡ low + suc k = h (suc k) entry f in omega (arith, g, e))
            (omega (arith, e, l)),
      ),
    )

module _ (pairs : List (ℕ × ℕ)) (cells : List (ℕ × Cell)) (numbered : AreNumbered pairs cells) where
  pub rising_numbers : AreIdsRising 0 cells
  rising_numbers =
      let long = numbered.long in
      let few = numbered.few in
      numbers_rise 0 cells (λ k entry e. let f : entry.0 ≡ k = numbered.each k entry e in omega (arith, f)) (omega (arith, long, few))

  -- the cell of a number stands at it, and the other way round
  pub at_number : (n : ℕ) (cell : Cell) → cell_in cells n ≡ Some cell → slice_get cells n ≡ Some (n, cell)
  at_number n cell e =
      let placed = place_of_cell cells n cell e in
      let same : n ≡ placed.0 = numbered.each placed.0 (n, cell) placed.1 in
      subst (λ (k : ℕ). slice_get cells k ≡ Some (n, cell)) (sym same) placed.1

  pub number_cell : (n : ℕ) (entry : ℕ × Cell) → slice_get cells n ≡ Some entry → cell_in cells n ≡ Some entry.1
  number_cell n entry e =
      let got : get_or cells n entry ≡ entry = get_or_from_slice_get cells n entry entry e in
      stands 0 cells n n entry rising_numbers (slice_get_within cells n entry e) (ap (λ (x : ℕ × Cell). x.0) got ∙ numbered.each n entry e)
      ∙ ap (λ (x : ℕ × Cell). Some x.1) got

  pub low_there : (n : ℕ) → n < length pairs → (cell : Cell) × ((slice_get cells n ≡ Some (n, cell)) × (cell_in cells n ≡ Some cell))
  low_there n l =
      let long = numbered.long in
      let entry = get_or cells n (0, Null) in
      let there : slice_get cells n ≡ Some entry = slice_get-get_or cells n (0, Null) (omega (arith, long, l)) in
      let is = number_cell n entry there in
      (entry.1, (at_number n entry.1 is, is))

-- ---- pairs that are wanted

pub in_order : (wants : ℕ → ℕ → Type 0) (list : List (ℕ × ℕ)) → AreJoined wants list → (i j : ℕ) → has i j list ≡ true
    → (wants i j × (i < j)) ⊎ (wants j i × (j < i))
in_order wants list joined i j h = elim (cases_lt i j) [
  | inl l ↦ inl ((joined.each i j l).0 h, l)
  | inr l ↦ elim (cases_eq i j) [
    | inl e ↦ absurd (never_itself i j list e joined.rising h)
    | inr d ↦
        let less : j < i = omega (arith, l, d) in
        inr ((joined.each j i less).0 (has_swapped i j list ∙ h), less)
  ]
]

pub may_join_parts : (c d : Cell) → may_join_cells c d ≡ true
    → (is_reference c ≡ true) × ((is_reference d ≡ true) × ((is_known c ≡ true) → (is_known d ≡ true) → ⊥))
may_join_parts c d h =
    let parts = and_parts (is_reference c && is_reference d) (not (is_known c && is_known d)) h in
    let both = and_parts (is_reference c) (is_reference d) parts.0 in (
      both.0,
      (
        both.1,
        λ k l. false≢true (sym (not_from_true (is_known c && is_known d) (and_from (is_known c) (is_known d) k l))
            ∙ parts.1),
      ),
    )

-- ---- the state of all pairs

module _ (types : WorldTypes) (a b : AbstractState) (pairs : List (ℕ × ℕ)) (merged : AbstractState)
    (are : ArePairs a b pairs) (few : length pairs ≤ 512) (long : AllZip AreAsLong a.frames b.frames)
    (is : IsMerged types a b pairs merged) where
  pub pair_at : (n : ℕ) (entry : ℕ × Cell) → slice_get merged.cells n ≡ Some entry → (pair : ℕ × ℕ) × (slice_get pairs n ≡ Some pair)
  pair_at n entry e =
      let lengths = is.long in
      let low = slice_get_within merged.cells n entry e in
      (get_or pairs n (0, 0), slice_get-get_or pairs n (0, 0) (omega (arith, lengths, low)))

  pub numbered : AreNumbered pairs merged.cells
  numbered = record {
    long = is.long;
    few = few;
    each = λ k entry e. let p = pair_at k entry e in (is.cells k p.0 entry p.1 e).0;
  }

  low_cell : (n : ℕ) → n < length pairs → HasCell (λ _. true) merged n
  low_cell n l = let found = low_there pairs merged.cells numbered n l in record { cell = found.0; is = found.1.1; sort_is = refl }

  used_low : AllByRecursion (λ (id : ℕ). id < length pairs) (ids_used merged)
  used_low =
      all_joined (λ (id : ℕ). id < length pairs) (flat_map ids_of_frame merged.frames)
      (given_ids (merged.throwing ∷ []) ++ flat_map (λ c. ids_in c.1) merged.cells)
      (subst (λ (fs : List AbstractFrame). AreLow pairs (flat_map ids_of_frame fs)) (sym is.frames)
      (frames_low pairs a b a.frames b.frames (λ p h. positions_among a b pairs are p (straight_placed a b p long h))))
      (all_joined (λ (id : ℕ). id < length pairs) (given_ids (merged.throwing ∷ [])) (flat_map (λ c. ids_in c.1) merged.cells)
      (subst (λ (o : Option ℕ). AreLow pairs (given_ids (o ∷ []))) (sym is.throwing)
      (option_low pairs (thrown_pair a.throwing b.throwing) (λ p h. positions_among a b pairs are p (thrown_placed a b p h))))
      (cells_low pairs merged.cells (λ k entry e.
      let p = pair_at k entry e in
      cell_low pairs a b types p.0 entry.1 (λ r h. below_among a b pairs are p.0 r (among_at pairs k p.0 p.1) h)
      (is.cells k p.0 entry p.1 e).1)))

  pub no_equals : (i j : ℕ) → AreEqual merged i j → ⊥
  no_equals i j h = false≢true (ap (has i j) (sym is.eq) ∙ h)

  pub no_shares : (i j : ℕ) → Share merged i j → ⊥
  no_shares i j h = false≢true (ap (has i j) (sym is.share) ∙ h)

  pub merged_is_good : IsWellFormed merged
  merged_is_good = record {
    rising = rising_numbers pairs merged.cells numbered;
    used = all_from (HasCell (λ _. true) merged) (ids_used merged)
        (all_weaker (λ (id : ℕ). id < length pairs) (HasCell (λ _. true) merged) low_cell (ids_used merged) used_low);
    shared = λ i j h. absurd (no_equals i j h);
    left = λ i j l h. absurd (no_shares i j h);
    right = λ i j l h. absurd (no_shares i j h);
    not_both_known = λ i j l h k m. no_shares i j h;
  }
