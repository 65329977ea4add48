-- A state without the ids that nothing reaches: what is asked of the whole state holds of it.
use Rattle.std.proofs.Common.{◌≡◌, ◌∙◌, ℕ, true, Bool, List, [], ◌∷◌, ◌++◌, Option, Some, slice_get, refl, sym, ap, subst}
use Rattle.std.specs.List.{AllByRecursion, flat_map}
use Rattle.std.specs.Option.{option_and_then}
use Rattle.std.proofs.lemmas.List.Elements.{All-from_recursion}
use Rattle.list_views.proofs.Quantified.{all_joined, all_front, all_back, all_weaker, all_places}
use Rattle.jvm_values.specs.Paths.{follow}
use Rattle.jvm_values.specs.TypedHeaps.{WorldTypes}
use Rattle.jvm_values.proofs.PathLaws.{joined}
use Rattle.abs_cells.specs.declared.cells.Cell.{Cell}
use Rattle.abs_cells.specs.AbstractStates.{AbstractFrame, AbstractState}
use Rattle.abs_cells.specs.Cells.{is_reference, is_known, ids_in, cell_at, HasCell}
use Rattle.abs_cells.specs.Sound.{AreIdsRising, given_ids, ids_of_frame, ids_used, IsWellFormed, IsSoundCell}
use Rattle.abs_reach.specs.Reached.{named_steps, positions, IsReached, IsDropped}
use Rattle.class_program.specs.Programs.{Program}
use Rattle.frame_types.specs.Tables.{CodeTypes}
use Rattle.abs_expand.specs.BadStates.{ArePlaced}
use Rattle.abs_expand.proofs.abs_plans.WellFormed.{flat_to, flat_from, frames_there, thrown_there, names_there}
use Rattle.place_sorts.proofs.Following.{Follows, cell_follows, frames_follow}
use Rattle.place_sorts.proofs.Keeping.{itself, frames_same, cell_same}
use Rattle.place_sorts.proofs.SortLists.{option_same, each_listed}

-- what holds of both holds of each
pub all_both : {X : Type 0} (P Q R : X → Type 0) → ((x : X) → P x → Q x → R x) → (xs : List X) → AllByRecursion P xs
    → AllByRecursion Q xs → AllByRecursion R xs
all_both P Q R h [] a b = tt
all_both P Q R h (x ∷ xs) a b = (h x a.0 b.0, all_both P Q R h xs a.1 b.1)

module _ (whole part : AbstractState) (good : IsWellFormed whole) (d : IsDropped whole part) (rising : AreIdsRising 0 part.cells) where
  abbrev InWhole : ℕ → Type 0
  InWhole = HasCell (λ _. true) whole

  abbrev InPart : ℕ → Type 0
  InPart = HasCell (λ _. true) part

  sort_still : (sort : Cell → Bool) (id : ℕ) → IsReached whole id → HasCell sort whole id → HasCell sort part id
  sort_still sort id r h = record { cell = h.cell; is = d.kept id r ∙ h.is; sort_is = h.sort_is }

  sort_was : (sort : Cell → Bool) (id : ℕ) → IsReached whole id → HasCell sort part id → HasCell sort whole id
  sort_was sort id r h = record { cell = h.cell; is = sym (d.kept id r) ∙ h.is; sort_is = h.sort_is }

  -- an id that is left is of the sort that it was
  left_follows : (id : ℕ) → InPart id → Follows whole part id id
  left_follows id there = record { int = sort_still _ id (d.gone id there); other = sort_still _ id (d.gone id there) }

  -- ---- ids that are left

  all_placed : AllByRecursion (IsReached whole) (positions whole)
  all_placed = all_places (IsReached whole) (positions whole)
      (λ n id e. record { place = n; start = id; stands = e; reaches = record { path = []; leads = refl } })

  thrown_reached : AllByRecursion (IsReached whole) (given_ids (whole.throwing ∷ []))
  thrown_reached = all_back (IsReached whole) (flat_map ids_of_frame whole.frames) (given_ids (whole.throwing ∷ [])) all_placed

  frames_reached : AllByRecursion (λ (frame : AbstractFrame). AllByRecursion (IsReached whole) (ids_of_frame frame)) whole.frames
  frames_reached =
      flat_from (IsReached whole) ids_of_frame whole.frames
      (all_front (IsReached whole) (flat_map ids_of_frame whole.frames) (given_ids (whole.throwing ∷ [])) all_placed)

  all_left : (ids : List ℕ) → AllByRecursion (IsReached whole) ids → AllByRecursion InWhole ids → AllByRecursion InPart ids
  all_left ids r a = all_both (IsReached whole) InWhole InPart (λ id. sort_still (λ _. true) id) ids r a

  frames_left : AllByRecursion (λ (frame : AbstractFrame). AllByRecursion InPart (ids_of_frame frame)) whole.frames
  frames_left =
      all_both (λ (frame : AbstractFrame). AllByRecursion (IsReached whole) (ids_of_frame frame))
      (λ (frame : AbstractFrame). AllByRecursion InWhole (ids_of_frame frame))
      (λ (frame : AbstractFrame). AllByRecursion InPart (ids_of_frame frame)) (λ frame. all_left (ids_of_frame frame)) whole.frames
      frames_reached (frames_there whole good)

  thrown_left : AllByRecursion InPart (given_ids (whole.throwing ∷ []))
  thrown_left = all_left (given_ids (whole.throwing ∷ [])) thrown_reached (thrown_there whole good)

  next_reached : (id n next : ℕ) → IsReached whole id → named_steps whole id n ≡ Some next → IsReached whole next
  next_reached id n next r e = record {
    place = r.place;
    start = r.start;
    stands = r.stands;
    reaches = record {
      path = r.reaches.path ++ (n ∷ []);
      leads = joined (named_steps whole) r.reaches.path (n ∷ []) r.start id next r.reaches.leads
          (ap (option_and_then (follow (named_steps whole) [])) e);
    };
  }

  -- the cell of an id that is left, and the ids that it names
  was_cell : (id : ℕ) (c : Cell) → cell_at part id ≡ Some c → cell_at whole id ≡ Some c
  was_cell id c e = sym (d.kept id (d.gone id (record { cell = c; is = e; sort_is = refl }))) ∙ e

  names_left : (id : ℕ) (c : Cell) → cell_at part id ≡ Some c → AllByRecursion InPart (ids_in c)
  names_left id c e =
      let r = d.gone id (record { cell = c; is = e; sort_is = refl }) in
      let was = was_cell id c e in
      all_left (ids_in c) (all_places (IsReached whole) (ids_in c) (λ n next f.
      next_reached id n next r (ap (option_and_then (λ (cell : Cell). slice_get (ids_in cell) n)) was ∙ f)))
      (names_there whole good id c was)

  -- ---- the state

  used_left : AllByRecursion InPart (ids_used part)
  used_left =
      all_joined InPart (flat_map ids_of_frame part.frames)
      (given_ids (part.throwing ∷ []) ++ flat_map (λ (c : ℕ × Cell). ids_in c.1) part.cells)
      (subst (λ (frames : List AbstractFrame). AllByRecursion InPart (flat_map ids_of_frame frames)) (sym d.frames)
      (flat_to InPart ids_of_frame whole.frames frames_left))
      (all_joined InPart (given_ids (part.throwing ∷ [])) (flat_map (λ (c : ℕ × Cell). ids_in c.1) part.cells)
      (subst (λ (thrown : Option ℕ). AllByRecursion InPart (given_ids (thrown ∷ []))) (sym d.throwing) thrown_left)
      (flat_to InPart (λ (c : ℕ × Cell). ids_in c.1) part.cells
      (each_listed (λ id c. AllByRecursion InPart (ids_in c)) 0 part.cells rising names_left)))

  pub left_formed : IsWellFormed part
  left_formed = record {
    rising = rising;
    used = All-from_recursion InPart (ids_used part) used_left;
    shared = λ a b e. let f = (d.eq a b).0 e in (d.share a b).1 (good.shared a b f.0, f.1);
    left = λ a b l s. let f = (d.share a b).0 s in sort_still is_reference a f.1.0 (good.left a b l f.0);
    right = λ a b l s. let f = (d.share a b).0 s in sort_still is_reference b f.1.1 (good.right a b l f.0);
    not_both_known = λ a b l s x y. let f = (d.share a b).0 s in good.not_both_known a b l f.0 (sort_was is_known a f.1.0 x)
        (sort_was is_known b f.1.1 y);
  }

  pub left_sound : (types : WorldTypes) → ((id : ℕ) (c : Cell) → cell_at whole id ≡ Some c → IsSoundCell types whole c)
      → (id : ℕ) (c : Cell) → cell_at part id ≡ Some c → IsSoundCell types part c
  left_sound types sound id c e =
      subst (IsSoundCell types part) (cell_same c)
      (cell_follows whole part itself types c
      (all_weaker InPart (λ (y : ℕ). Follows whole part y y) left_follows (ids_in c) (names_left id c e))
      (sound id c (was_cell id c e)))

  -- the thrown id
  pub left_thrown : (sort : Cell → Bool) → ((id : ℕ) → whole.throwing ≡ Some id → HasCell sort whole id) → (id : ℕ)
      → part.throwing ≡ Some id → HasCell sort part id
  left_thrown sort was id e =
      let thrown : whole.throwing ≡ Some id = sym d.throwing ∙ e in
      sort_still sort id (subst (λ (o : Option ℕ). AllByRecursion (IsReached whole) (given_ids (o ∷ []))) thrown thrown_reached).0
      (was id thrown)

  pub left_placed : (p : Program) (typing : ℕ → CodeTypes) → ArePlaced p typing whole whole.frames → ArePlaced p typing part part.frames
  left_placed p typing h =
      subst (ArePlaced p typing part) (frames_same whole.frames ∙ sym d.frames)
      (frames_follow whole part itself p typing whole.frames (d.throwing ∙ sym (option_same whole.throwing))
      (all_weaker (λ (frame : AbstractFrame). AllByRecursion InPart (ids_of_frame frame))
      (λ (frame : AbstractFrame). AllByRecursion (λ (y : ℕ). Follows whole part y y) (ids_of_frame frame))
      (λ frame. all_weaker InPart (λ (y : ℕ). Follows whole part y y) left_follows (ids_of_frame frame)) whole.frames frames_left) h)
