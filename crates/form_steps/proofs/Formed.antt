-- The state of a step's changed cells and frames is well-formed.
use Rattle.std.proofs.Common.{◌≡◌, ◌∙◌, ℕ, suc, Bool, true, false, ◌&&◌, not, List, [], ◌∷◌, ◌++◌, Option, Some, None, ◌⊎◌, inl}
use Rattle.std.proofs.Common.{inr, slice_get, refl, sym, ap, subst}
use Rattle.std.specs.List.{AllByRecursion, flat_map}
use Rattle.std.proofs.lemmas.Bool.{false≢true, and_parts}
use Rattle.std.proofs.lemmas.List.Elements.{All-from_recursion, recursion_from_All}
use Rattle.list_views.proofs.Quantified.{all_joined, all_front, all_back, all_weaker, all_places}
use Rattle.abs_cells.specs.declared.cells.Cell.{Cell}
use Rattle.abs_cells.specs.AbstractStates.{AbstractFrame, AbstractState}
use Rattle.abs_cells.specs.Cells.{is_known, is_reference, is_of_sort, ids_in, cell_in, cell_at, HasCell, AreEqual, Share}
use Rattle.abs_cells.specs.Sound.{given_ids, ids_of_frame, ids_used, IsWellFormed}
use Rattle.abs_expand.proofs.AbsReachWalks.{named_has_cell}
use Rattle.abs_heap.specs.Given.{IsGiven, first_cell, with_cells}
use Rattle.abs_heap.proofs.Placing.{cell_there}
use Rattle.abs_expand.specs.inner.Building.{HoldsIds}
use Rattle.form_steps.proofs.Carry.{in_list, still_there}

-- ---- lists

pub flat_places : {A : Type 0} (P : ℕ → Type 0) (f : A → List ℕ) (xs : List A)
    → ((n : ℕ) (x : A) → slice_get xs n ≡ Some x → AllByRecursion P (f x)) → AllByRecursion P (flat_map f xs)
flat_places P f [] h = tt
flat_places P f (x ∷ xs) h = all_joined P (f x) (flat_map f xs) (h 0 x refl) (flat_places P f xs (λ n y e. h (suc n) y e))

pub flat_each : {A : Type 0} (P : ℕ → Type 0) (f : A → List ℕ) (xs : List A) → AllByRecursion (λ x. AllByRecursion P (f x)) xs
    → AllByRecursion P (flat_map f xs)
flat_each P f [] h = tt
flat_each P f (x ∷ xs) h = all_joined P (f x) (flat_map f xs) h.0 (flat_each P f xs h.1)

-- ---- pairs

sort_there : (cells : List (ℕ × Cell)) (state : AbstractState) (sort : Cell → Bool) (id : ℕ) → state.cells ≡ cells
    → is_of_sort sort (cell_in cells id) ≡ true → HasCell sort state id
sort_there cells state sort id is e = at (cell_in cells id) refl e
  where
    at : (o : Option Cell) → cell_in cells id ≡ o → is_of_sort sort o ≡ true → HasCell sort state id
    at None f g = absurd (false≢true g)
    at (Some c) f g = record { cell = c; is = ap (λ (xs : List (ℕ × Cell)). cell_in xs id) is ∙ f; sort_is = g }

there_sort : (state : AbstractState) (sort : Cell → Bool) (id : ℕ) → HasCell sort state id → is_of_sort sort (cell_at state id) ≡ true
there_sort state sort id h = ap (is_of_sort sort) h.is ∙ h.sort_is

not_true : (b : Bool) → not b ≡ true → b ≡ true → ⊥
not_true true n t = false≢true n
not_true false n t = false≢true t

-- a state that is given by its cells and wanted pairs, where what is one object is wanted as sharing
pub given_formed : (frames : List AbstractFrame) (throwing : Option ℕ) (cell : ℕ → Option Cell) (equal sharing : ℕ → ℕ → Type 0)
    (child : AbstractState) → IsGiven frames throwing cell equal sharing child → ((a b : ℕ) → equal a b → sharing a b)
    → AllByRecursion (HasCell (λ _. true) child) (ids_used child) → IsWellFormed child
given_formed frames throwing cell equal sharing child g wider used = record {
  rising = g.rising;
  used = All-from_recursion (HasCell (λ _. true) child) (ids_used child) used;
  shared = λ a b h.
      let p = (g.eq a b).0 h in
      (g.share a b).1 (p.0, (p.1.0, both a b p.1.1));
  left = λ a b l h. (joined a b h).0;
  right = λ a b l h. (joined a b h).1.0;
  not_both_known = λ a b l h ka kb. (joined a b h).1.1 ka kb;
}
  where
    both : (a b : ℕ) → equal a b ⊎ equal b a → sharing a b ⊎ sharing b a
    both a b (inl e) = inl (wider a b e)
    both a b (inr e) = inr (wider b a e)

    joined : (a b : ℕ) → Share child a b → HasCell is_reference child a
        × (HasCell is_reference child b × (HasCell is_known child a → HasCell is_known child b → ⊥))
    joined a b h =
        let may = ((g.share a b).0 h).1.0 in
        let parts = and_parts (is_of_sort is_reference (cell_in child.cells a) && is_of_sort is_reference (cell_in child.cells b))
        (not (is_of_sort is_known (cell_in child.cells a) && is_of_sort is_known (cell_in child.cells b))) may in
        let sides = and_parts (is_of_sort is_reference (cell_in child.cells a)) (is_of_sort is_reference (cell_in child.cells b))
        parts.0 in (
          sort_there child.cells child is_reference a refl sides.0,
          (
            sort_there child.cells child is_reference b refl sides.1,
            λ ka kb. not_true (is_of_sort is_known (cell_in child.cells a) && is_of_sort is_known (cell_in child.cells b)) parts.1
                (ap (λ (x : Bool). x && is_of_sort is_known (cell_in child.cells b)) (there_sort child is_known a ka)
                ∙ there_sort child is_known b kb),
          ),
        )

-- ---- changed cells and frames

module _ (state : AbstractState) (good : IsWellFormed state) (list : List (ℕ × Cell))
    (named : AllByRecursion (λ (c : ℕ × Cell). AllByRecursion (HasCell (λ _. true) state) (ids_in c.1)) list)
    (frames : List AbstractFrame) (held : AllByRecursion (HoldsIds state) frames) (throwing : Option ℕ)
    (thrown : AllByRecursion (HasCell (λ _. true) state) (given_ids (throwing ∷ []))) (changed : AbstractState)
    (g : IsGiven frames throwing (with_cells list state) (AreEqual state) (Share state) changed) where
  pub stays : (id : ℕ) → HasCell (λ _. true) state id → HasCell (λ _. true) changed id
  stays id h = let there = still_there state list id h in record { cell = there.0; is = g.cells id ∙ there.1; sort_is = refl }

  ids_of_cell : (id : ℕ) (c : Cell) → with_cells list state id ≡ Some c → AllByRecursion (HasCell (λ _. true) state) (ids_in c)
  ids_of_cell id c e = at (cell_in list id) refl e
    where
      at : (o : Option Cell) → cell_in list id ≡ o → first_cell o (cell_at state id) ≡ Some c
          → AllByRecursion (HasCell (λ _. true) state) (ids_in c)
      at None f h = all_places (HasCell (λ _. true) state) (ids_in c) (λ n x k. named_has_cell state good id n x c h k)
      at (Some d) f h = in_list (λ n x. AllByRecursion (HasCell (λ _. true) state) (ids_in x)) list id c named (f ∙ h)

  abbrev Old : ℕ → Type 0
  Old = HasCell (λ _. true) state

  abbrev New : ℕ → Type 0
  New = HasCell (λ _. true) changed

  frame_ids : (frame : AbstractFrame) → HoldsIds state frame → AllByRecursion New (ids_of_frame frame)
  frame_ids frame h = all_joined New (given_ids frame.locals) frame.stack
      (all_weaker Old New stays (given_ids frame.locals) h.locals) (all_weaker Old New stays frame.stack h.stack)

  cells_ids : AllByRecursion New (flat_map (λ (c : ℕ × Cell). ids_in c.1) changed.cells)
  cells_ids = flat_places New (λ (c : ℕ × Cell). ids_in c.1) changed.cells (λ n c e.
      all_weaker Old New stays (ids_in c.1) (ids_of_cell c.0 c.1 (sym (g.cells c.0) ∙ cell_there 0 changed.cells c.0 n c.1 g.rising e)))

  frames_ids : AllByRecursion New (flat_map ids_of_frame changed.frames)
  frames_ids = subst (λ (fs : List AbstractFrame). AllByRecursion New (flat_map ids_of_frame fs)) (sym g.frames_are)
      (flat_each New ids_of_frame frames (all_weaker (HoldsIds state) (λ frame. AllByRecursion New (ids_of_frame frame)) frame_ids
      frames held))

  thrown_ids : AllByRecursion New (given_ids (changed.throwing ∷ []))
  thrown_ids = subst (λ (t : Option ℕ). AllByRecursion New (given_ids (t ∷ []))) (sym g.throwing_is)
      (all_weaker Old New stays (given_ids (throwing ∷ [])) thrown)

  pub changed_formed : IsWellFormed changed
  changed_formed = given_formed frames throwing (with_cells list state) (AreEqual state) (Share state) changed g
      (λ a b e. good.shared a b e)
      (all_joined New (flat_map ids_of_frame changed.frames)
      (given_ids (changed.throwing ∷ []) ++ flat_map (λ (c : ℕ × Cell). ids_in c.1) changed.cells) frames_ids
      (all_joined New (given_ids (changed.throwing ∷ [])) (flat_map (λ (c : ℕ × Cell). ids_in c.1) changed.cells) thrown_ids
      cells_ids))

-- what the frames of a well-formed state hold has cells
pub frames_held : (state : AbstractState) → IsWellFormed state → AllByRecursion (HoldsIds state) state.frames
frames_held state good = each state.frames
    (all_front (HasCell (λ _. true) state) (flat_map ids_of_frame state.frames)
    (given_ids (state.throwing ∷ []) ++ flat_map (λ (c : ℕ × Cell). ids_in c.1) state.cells)
    (recursion_from_All (HasCell (λ _. true) state) (ids_used state) good.used))
  where
    each : (frames : List AbstractFrame) → AllByRecursion (HasCell (λ _. true) state) (flat_map ids_of_frame frames)
        → AllByRecursion (HoldsIds state) frames
    each [] h = tt
    each (frame ∷ rest) h =
        let own = all_front (HasCell (λ _. true) state) (ids_of_frame frame) (flat_map ids_of_frame rest) h in (
          record {
            locals = all_front (HasCell (λ _. true) state) (given_ids frame.locals) frame.stack own;
            stack = all_back
                (HasCell (λ _. true) state) (given_ids frame.locals) frame.stack own;
          },
          each rest (all_back (HasCell (λ _. true) state) (ids_of_frame frame) (flat_map ids_of_frame rest) h),
        )

pub thrown_held : (state : AbstractState) → IsWellFormed state
    → AllByRecursion (HasCell (λ _. true) state) (given_ids (state.throwing ∷ []))
thrown_held state good =
    all_front (HasCell (λ _. true) state) (given_ids (state.throwing ∷ [])) (flat_map (λ (c : ℕ × Cell). ids_in c.1) state.cells)
    (all_back (HasCell (λ _. true) state) (flat_map ids_of_frame state.frames)
    (given_ids (state.throwing ∷ []) ++ flat_map (λ (c : ℕ × Cell). ids_in c.1) state.cells)
    (recursion_from_All (HasCell (λ _. true) state) (ids_used state) good.used))
