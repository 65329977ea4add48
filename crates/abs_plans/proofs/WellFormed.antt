-- States that are given by their cells and wanted pairs are well-formed.
use Rattle.std.proofs.Common.{◌≡◌, ◌∙◌, ◌==◌, ◌&&◌, ◌⊎◌, inl, inr, ℕ, Bool, true, false, not, List, [], ◌∷◌, ◌++◌, Option, Some}
use Rattle.std.proofs.Common.{None, refl, sym, ap, subst, arith}
use Rattle.std.specs.List.{AllByRecursion, flat_map}
use Rattle.std.proofs.lemmas.Bool.{false≢true, and_parts}
use Rattle.std.proofs.lemmas.List.Elements.{All-from_recursion, recursion_from_All}
use Rattle.list_views.proofs.Quantified.{all_at, all_joined, all_front, all_back, all_weaker}
use Rattle.abs_cells.specs.declared.cells.Cell.{Cell}
use Rattle.abs_cells.specs.AbstractStates.{AbstractFrame, AbstractState}
use Rattle.abs_cells.specs.Cells.{is_reference, is_known, is_of_sort, ids_in, cell_in, cell_at, HasCell, Share}
use Rattle.abs_cells.specs.Sound.{AreIdsRising, given_ids, ids_of_frame, ids_used, IsWellFormed}
use Rattle.abs_cells.proofs.CellLaws.{place_of_cell, low_of_cell, first_cell_is, past_first_cell}
use Rattle.abs_turns.specs.abs_heap.Given.{IsGiven, first_cell, with_cells}

-- an id has a cell by a map of cells
pub record IsIn (cell : ℕ → Option Cell) (id : ℕ) : Type 0 where
  pub found : Cell
  pub is : cell id ≡ Some found

-- ---- lists

pub flat_from : {X Y : Type 0} (P : Y → Type 0) (f : X → List Y) (xs : List X) → AllByRecursion P (flat_map f xs)
    → AllByRecursion (λ x. AllByRecursion P (f x)) xs
flat_from P f [] a = tt
flat_from P f (x ∷ xs) a = (all_front P (f x) (flat_map f xs) a, flat_from P f xs (all_back P (f x) (flat_map f xs) a))

pub flat_to : {X Y : Type 0} (P : Y → Type 0) (f : X → List Y) (xs : List X) → AllByRecursion (λ x. AllByRecursion P (f x)) xs
    → AllByRecursion P (flat_map f xs)
flat_to P f [] a = tt
flat_to P f (x ∷ xs) a = all_joined P (f x) (flat_map f xs) a.0 (flat_to P f xs a.1)

-- what holds of the cell of each id holds of each listed cell, where ids rise
each_cell : (P : Cell → Type 0) (low : ℕ) (list : List (ℕ × Cell)) → AreIdsRising low list
    → ((id : ℕ) (c : Cell) → cell_in list id ≡ Some c → P c)
    → AllByRecursion (λ (c : ℕ × Cell). P c.1) list
each_cell P low [] r h = tt
each_cell P low (c ∷ list) r h = (
  h c.0 c.1 (first_cell_is c list),
  each_cell P (ℕ.suc c.0) list r.1.1
      (λ id cell e. h id cell (past_first_cell c list id (apart id cell e) ∙ e)),
)
  where
    apart : (id : ℕ) (cell : Cell) → cell_in list id ≡ Some cell → (c.0 == id) ≡ false
    apart id cell e = search (arith, low_of_cell (ℕ.suc c.0) id list cell r.1.1 e)

-- ---- sorts of cells

sorted : (sort : Cell → Bool) (found : Option Cell) → is_of_sort sort found ≡ true → (c : Cell) × ((found ≡ Some c) × (sort c ≡ true))
sorted sort None e = absurd (false≢true e)
sorted sort (Some c) e = (c, (refl, e))

not_true : (b : Bool) → not b ≡ true → b ≡ true → ⊥
not_true true e f = false≢true e
not_true false e f = false≢true f

-- ---- the state

module _ (frames : List AbstractFrame) (throwing : Option ℕ) (cell : ℕ → Option Cell) (equal sharing : ℕ → ℕ → Type 0)
    (child : AbstractState) (g : IsGiven frames throwing cell equal sharing child) where
  abbrev There : ℕ → Type 0
  There = HasCell (λ _. true) child

  there : (id : ℕ) → IsIn cell id → There id
  there id i = record { cell = i.found; is = g.cells id ∙ i.is; sort_is = refl }

  all_there : (ids : List ℕ) → AllByRecursion (IsIn cell) ids → AllByRecursion There ids
  all_there ids a = all_weaker (IsIn cell) There there ids a

  joined : (a b : ℕ) → Share child a b
      → (is_of_sort is_reference (cell_in child.cells a) ≡ true)
      × ((is_of_sort is_reference (cell_in child.cells b) ≡ true)
      × (not (is_of_sort is_known (cell_in child.cells a) && is_of_sort is_known (cell_in child.cells b)) ≡ true))
  joined a b s =
      let p = (g.share a b).0 s in
      let both = and_parts (is_of_sort is_reference (cell_in child.cells a) && is_of_sort is_reference (cell_in child.cells b)) _ p.1.0 in
      let refs = and_parts (is_of_sort is_reference (cell_in child.cells a)) (is_of_sort is_reference (cell_in child.cells b)) both.0 in
      (refs.0, (refs.1, both.1))

  reference_at : (id : ℕ) → is_of_sort is_reference (cell_in child.cells id) ≡ true → HasCell is_reference child id
  reference_at id e =
      let s = sorted is_reference (cell_in child.cells id) e in
      record { cell = s.0; is = s.1.0; sort_is = s.1.1 }

  known_at : (id : ℕ) → HasCell is_known child id → is_of_sort is_known (cell_in child.cells id) ≡ true
  known_at id h = ap (is_of_sort is_known) h.is ∙ h.sort_is

  placed_there : AllByRecursion (λ frame. AllByRecursion (IsIn cell) (ids_of_frame frame)) frames
      → AllByRecursion (λ frame. AllByRecursion There (ids_of_frame frame)) frames
  placed_there placed =
      all_weaker (λ frame. AllByRecursion (IsIn cell) (ids_of_frame frame)) (λ frame. AllByRecursion There (ids_of_frame frame))
      (λ frame. all_there (ids_of_frame frame)) frames placed

  named_there : ((id : ℕ) (c : Cell) → cell id ≡ Some c → AllByRecursion (IsIn cell) (ids_in c))
      → AllByRecursion (λ (x : ℕ × Cell). AllByRecursion There (ids_in x.1)) child.cells
  named_there named = each_cell (λ c. AllByRecursion There (ids_in c)) 0 child.cells g.rising
      (λ id c e. all_there (ids_in c) (named id c (sym (g.cells id) ∙ e)))

  pub well_given : ((a b : ℕ) → equal a b → sharing a b) → AllByRecursion (λ frame. AllByRecursion (IsIn cell) (ids_of_frame frame)) frames
      → AllByRecursion (IsIn cell) (given_ids (throwing ∷ []))
      → ((id : ℕ) (c : Cell) → cell id ≡ Some c → AllByRecursion (IsIn cell) (ids_in c)) → IsWellFormed child
  well_given both placed thrown named = record {
    rising = g.rising;
    used = All-from_recursion There (ids_used child)
        (all_joined There (flat_map ids_of_frame child.frames)
        (given_ids (child.throwing ∷ []) ++ flat_map (λ (x : ℕ × Cell). ids_in x.1) child.cells)
        (flat_to There ids_of_frame child.frames
        (subst (AllByRecursion (λ frame. AllByRecursion There (ids_of_frame frame))) (sym g.frames_are) (placed_there placed)))
        (all_joined There (given_ids (child.throwing ∷ [])) (flat_map (λ (x : ℕ × Cell). ids_in x.1) child.cells)
        (subst (λ (t : Option ℕ). AllByRecursion There (given_ids (t ∷ []))) (sym g.throwing_is)
        (all_there (given_ids (throwing ∷ [])) thrown))
        (flat_to There (λ (x : ℕ × Cell). ids_in x.1) child.cells (named_there named))));
    shared = λ a b e.
        let p = (g.eq a b).0 e in
        (g.share a b).1 (p.0, (p.1.0, elim p.1.1 [ inl x ↦ inl (both a b x) | inr x ↦ inr (both b a x) ]));
    left = λ a b l s. reference_at a (joined a b s).0;
    right = λ a b l s. reference_at b (joined a b s).1.0;
    not_both_known = λ a b l s x y. not_true _ (joined a b s).1.1 (rw (known_at a x) (known_at b y));
  }

-- ---- the ids of a well-formed state

module _ (state : AbstractState) (good : IsWellFormed state) where
  Uses : AllByRecursion (HasCell (λ _. true) state) (ids_used state)
  Uses = recursion_from_All (HasCell (λ _. true) state) (ids_used state) good.used

  pub frames_there : AllByRecursion (λ frame. AllByRecursion (HasCell (λ _. true) state) (ids_of_frame frame)) state.frames
  frames_there =
      flat_from (HasCell (λ _. true) state) ids_of_frame state.frames
      (all_front (HasCell (λ _. true) state) (flat_map ids_of_frame state.frames)
      (given_ids (state.throwing ∷ []) ++ flat_map (λ (c : ℕ × Cell). ids_in c.1) state.cells) Uses)

  pub thrown_there : AllByRecursion (HasCell (λ _. true) state) (given_ids (state.throwing ∷ []))
  thrown_there =
      all_front (HasCell (λ _. true) state) (given_ids (state.throwing ∷ [])) (flat_map (λ (c : ℕ × Cell). ids_in c.1) state.cells)
      (all_back (HasCell (λ _. true) state) (flat_map ids_of_frame state.frames)
      (given_ids (state.throwing ∷ []) ++ flat_map (λ (c : ℕ × Cell). ids_in c.1) state.cells) Uses)

  pub cells_there : AllByRecursion (λ (c : ℕ × Cell). AllByRecursion (HasCell (λ _. true) state) (ids_in c.1)) state.cells
  cells_there =
      flat_from (HasCell (λ _. true) state) (λ (c : ℕ × Cell). ids_in c.1) state.cells
      (all_back (HasCell (λ _. true) state) (given_ids (state.throwing ∷ [])) (flat_map (λ (c : ℕ × Cell). ids_in c.1) state.cells)
      (all_back (HasCell (λ _. true) state) (flat_map ids_of_frame state.frames)
      (given_ids (state.throwing ∷ []) ++ flat_map (λ (c : ℕ × Cell). ids_in c.1) state.cells) Uses))

  pub names_there : (id : ℕ) (c : Cell) → cell_at state id ≡ Some c → AllByRecursion (HasCell (λ _. true) state) (ids_in c)
  names_there id c e =
      let place = place_of_cell state.cells id c e in
      let listed = All-from_recursion (λ (x : ℕ × Cell). AllByRecursion (HasCell (λ _. true) state) (ids_in x.1)) state.cells
      cells_there in
      all_at (λ (x : ℕ × Cell). AllByRecursion (HasCell (λ _. true) state) (ids_in x.1)) state.cells place.0 (id, c) listed place.1

-- ---- cells that come or change

covered : (a b : Option Cell) (c : Cell) → b ≡ Some c → (found : Cell) × (first_cell a b ≡ Some found)
covered None b c e = (c, e)
covered (Some x) b c e = (x, refl)

from_either : (a b : Option Cell) (c : Cell) → first_cell a b ≡ Some c → (a ≡ Some c) ⊎ (b ≡ Some c)
from_either None b c e = inr e
from_either (Some x) b c e = inl e

module _ (state : AbstractState) (good : IsWellFormed state) (news : List (ℕ × Cell)) where
  pub still_in : (id : ℕ) → HasCell (λ _. true) state id → IsIn (with_cells news state) id
  still_in id h = let f = covered (cell_in news id) (cell_at state id) h.cell h.is in record { found = f.0; is = f.1 }

  pub new_in : (id : ℕ) (c : Cell) → cell_in news id ≡ Some c → IsIn (with_cells news state) id
  new_in id c e = record { found = c; is = ap (λ (o : Option Cell). first_cell o (cell_at state id)) e }

  pub all_still : (ids : List ℕ) → AllByRecursion (HasCell (λ _. true) state) ids → AllByRecursion (IsIn (with_cells news state)) ids
  all_still ids a = all_weaker (HasCell (λ _. true) state) (IsIn (with_cells news state)) still_in ids a

  -- other frames and another thrown id, and the cells of a list before the state's
  pub well_with : (frames : List AbstractFrame) (throwing : Option ℕ) (equal sharing : ℕ → ℕ → Type 0) (child : AbstractState)
      → IsGiven frames throwing (with_cells news state) equal sharing child → ((a b : ℕ) → equal a b → sharing a b)
      → AllByRecursion (λ frame. AllByRecursion (HasCell (λ _. true) state) (ids_of_frame frame)) frames
      → AllByRecursion (HasCell (λ _. true) state) (given_ids (throwing ∷ []))
      → ((id : ℕ) (c : Cell) → cell_in news id ≡ Some c → AllByRecursion (IsIn (with_cells news state)) (ids_in c)) → IsWellFormed child
  well_with frames throwing equal sharing child g both placed thrown named =
      well_given frames throwing (with_cells news state) equal sharing child g both
      (all_weaker (λ frame. AllByRecursion (HasCell (λ _. true) state) (ids_of_frame frame))
      (λ frame. AllByRecursion (IsIn (with_cells news state)) (ids_of_frame frame))
      (λ frame. all_still (ids_of_frame frame)) frames placed)
      (all_still (given_ids (throwing ∷ [])) thrown)
      (λ id c e. elim (from_either (cell_in news id) (cell_at state id) c e) [
        | inl x ↦ named id c x
        | inr x ↦ all_still (ids_in c) (names_there state good id c x)
      ])

  -- the same frames and the same thrown id
  pub well_new : (equal sharing : ℕ → ℕ → Type 0) (child : AbstractState)
      → IsGiven state.frames state.throwing (with_cells news state) equal sharing child
      → ((a b : ℕ) → equal a b → sharing a b)
      → ((id : ℕ) (c : Cell) → cell_in news id ≡ Some c → AllByRecursion (IsIn (with_cells news state)) (ids_in c))
      → IsWellFormed child
  well_new equal sharing child g both named = well_with state.frames state.throwing equal sharing child g both
      (frames_there state good) (thrown_there state good) named
