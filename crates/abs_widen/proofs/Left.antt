-- What is left in a widening: the cells of ids that positions reach, with the ids that they name.
use Rattle.std.proofs.Common.{◌≡◌, ℕ, zero, suc, ◌==◌, eqb, Bool, true, false, cond, List, [], ◌∷◌, ◌++◌, All, map, reverse, get_or}
use Rattle.std.proofs.Common.{Option, Some, None, refl, sym, ap, subst, ◌∙◌, inl, inr, append_assoc}
use Rattle.std.specs.Prelude.{slice_get}
use Rattle.std.specs.List.{AllZip, list_any, flat_map}
use Rattle.std.specs.Option.{option_and_then}
use Rattle.std.proofs.lemmas.Bool.{or_left, or_right, cases_eq, eq-eqb, ne_eqb}
use Rattle.std.proofs.lemmas.Option.{get_or_from_slice_get, none-some}
use Rattle.std.proofs.lemmas.List.Folds.{list_any-append}
use Rattle.std.proofs.lemmas.Map.Keys.{any_passes_from_place}
use Rattle.list_views.proofs.Quantified.{all_at, every_front}
use Rattle.list_views.proofs.Options.{then_some}
use Rattle.jvm_values.proofs.Options.{some_is}
use Rattle.jvm_values.proofs.PathLaws.{here, one_more, onward}
use Rattle.jvm_values.specs.Paths.{follow}
use Rattle.jvm_values.specs.TypedHeaps.{WorldTypes}
use Rattle.abs_cells.specs.declared.cells.Cell.{Cell}
use Rattle.abs_cells.specs.AbstractStates.{AbstractFrame, AbstractState}
use Rattle.abs_cells.specs.Cells.{is_int, ids_in, cell_in, cell_at, HasCell}
use Rattle.abs_cells.specs.Sound.{given_ids, ids_of_frame, IsWellFormed, IsSound}
use Rattle.abs_reach.specs.Reached.{named_steps, positions, IsReached}
use Rattle.abs_reach.specs.Instances.{image_in, Place, local, entry, frame_at, id_at}
use Rattle.abs_reach.proofs.Dropped.{any_stands, any_reversed, any_flat}
use Rattle.abs_reach.proofs.Walks.{named_has_cell}
use Rattle.abs_widen.specs.Rows.{Row, pairs_of}
use Rattle.abs_widen.specs.Visits.{is_among, pairs_in}
use Rattle.abs_widen.specs.inner.Visiting.{AreAsLong, AreCellsOf}
use Rattle.abs_widen.specs.Widening.{AreAlike, IsMergedCell, IsWidening}
use Rattle.abs_widen.proofs.Alike.{sound_at, paired_cells, all_as_long}
use Rattle.abs_widen.proofs.Closed.{among_at, below_among, among_paired}
use Rattle.abs_widen.proofs.Whole.{at_number, pair_at, numbered, merged_is_good}

-- ---- maps over cells

pub image_mapped : (f : ℕ → ℕ) (cells : List (ℕ × Cell)) (n : ℕ) (c : Cell) → cell_in cells n ≡ Some c
    → image_in (map (λ (x : ℕ × Cell). (x.0, f x.0)) cells) n ≡ Some (f n)
image_mapped f [] n c e = absurd (none-some c e)
image_mapped f (x ∷ cells) n c e = elim (cases_eq x.0 n) [
  | inl same ↦ ap (λ (t : Bool). cond t (Some (f x.0)) (image_in (map (λ (y : ℕ × Cell). (y.0, f y.0)) cells) n))
      (eq-eqb x.0 n same) ∙ ap (λ (k : ℕ). Some (f k)) same
  | inr differ ↦
      let apart : eqb x.0 n ≡ false = ne_eqb x.0 n differ in
      ap (λ (t : Bool). cond t (Some (f x.0)) (image_in (map (λ (y : ℕ × Cell). (y.0, f y.0)) cells) n)) apart
      ∙ image_mapped f cells n c (sym (ap (λ (t : Bool). cond t (Some x.1) (cell_in cells n)) apart) ∙ e)
]

pub mapped_image : (f : ℕ → ℕ) (cells : List (ℕ × Cell)) (n image : ℕ)
    → image_in (map (λ (x : ℕ × Cell). (x.0, f x.0)) cells) n ≡ Some image → (c : Cell) × ((cell_in cells n ≡ Some c) × (image ≡ f n))
mapped_image f [] n image e = absurd (none-some image e)
mapped_image f (x ∷ cells) n image e = elim (cases_eq x.0 n) [
  | inl same ↦
      let t : eqb x.0 n ≡ true = eq-eqb x.0 n same in
      let is : f x.0 ≡ image = some_is
      (sym (ap (λ (b : Bool). cond b (Some (f x.0)) (image_in (map (λ (y : ℕ × Cell). (y.0, f y.0)) cells) n)) t) ∙ e) in
      (x.1, (ap (λ (b : Bool). cond b (Some x.1) (cell_in cells n)) t, sym is ∙ ap f same))
  | inr differ ↦
      let t : eqb x.0 n ≡ false = ne_eqb x.0 n differ in
      let rest = mapped_image f cells n image
      (sym (ap (λ (b : Bool). cond b (Some (f x.0)) (image_in (map (λ (y : ℕ × Cell). (y.0, f y.0)) cells) n)) t) ∙ e) in
      (rest.0, (ap (λ (b : Bool). cond b (Some x.1) (cell_in cells n)) t ∙ rest.1.0, rest.1.1))
]

pub same_ids : (f : ℕ → ℕ) (cells : List (ℕ × Cell))
    → map (λ (entry : ℕ × ℕ). entry.0) (map (λ (x : ℕ × Cell). (x.0, f x.0)) cells) ≡ map (λ (c : ℕ × Cell). c.0) cells
same_ids f [] = refl
same_ids f (x ∷ cells) = ap (λ (rest : List ℕ). x.0 ∷ rest) (same_ids f cells)

-- ---- ids at positions

module _ (state : AbstractState) where
  in_given : (locals : List (Option ℕ)) (n id : ℕ) → slice_get locals n ≡ Some (Some id)
      → list_any (λ x. x == id) (given_ids locals) ≡ true
  in_given [] n id e = absurd (none-some (Some id) e)
  in_given (None ∷ locals) zero id e = absurd (none-some id (some_is e))
  in_given (Some x ∷ locals) zero id e = or_left (x == id) (list_any (λ y. y == id) (given_ids locals)) (eq-eqb x id (some_is (some_is e)))
  in_given (None ∷ locals) (suc n) id e = in_given locals n id e
  in_given (Some x ∷ locals) (suc n) id e = or_right (x == id) (list_any (λ y. y == id) (given_ids locals)) (in_given locals n id e)

  in_frame : (f : ℕ) (frame : AbstractFrame) (id : ℕ) → frame_at state f ≡ Some frame
      → list_any (λ x. x == id) (ids_of_frame frame) ≡ true → list_any (λ x. x == id) (positions state) ≡ true
  in_frame f frame id e h =
      list_any-append (λ (x : ℕ). x == id) (flat_map ids_of_frame state.frames) (given_ids (state.throwing ∷ []))
      ∙ or_left (list_any (λ x. x == id) (flat_map ids_of_frame state.frames)) (list_any (λ x. x == id) (given_ids (state.throwing ∷ [])))
      (any_flat (λ (x : ℕ). x == id) ids_of_frame state.frames
      ∙ sym (any_reversed (λ (g : AbstractFrame). list_any (λ x. x == id) (ids_of_frame g)) state.frames)
      ∙ any_passes_from_place (λ (g : AbstractFrame). list_any (λ x. x == id) (ids_of_frame g)) (reverse state.frames) f frame e h)

  pub in_places : (place : Place) (id : ℕ) → id_at state place ≡ Some id → list_any (λ x. x == id) (positions state) ≡ true
  in_places (local f n) id e =
      let frame = then_some (λ (g : AbstractFrame). option_and_then (λ (x : Option ℕ). x) (slice_get g.locals n)) (frame_at state f)
      id e in
      let found = then_some (λ (x : Option ℕ). x) (slice_get frame.0.locals n) id frame.1.1 in
      let stands : slice_get frame.0.locals n ≡ Some (Some id) = found.1.0 ∙ ap Some found.1.1 in
      in_frame f frame.0 id frame.1.0
      (list_any-append (λ (x : ℕ). x == id) (given_ids frame.0.locals) frame.0.stack
      ∙ or_left (list_any (λ x. x == id) (given_ids frame.0.locals)) (list_any (λ x. x == id) frame.0.stack)
      (in_given frame.0.locals n id stands))
  in_places (entry f n) id e =
      let frame = then_some (λ (g : AbstractFrame). slice_get (reverse g.stack) n) (frame_at state f) id e in
      in_frame f frame.0 id frame.1.0
      (list_any-append (λ (x : ℕ). x == id) (given_ids frame.0.locals) frame.0.stack
      ∙ or_right (list_any (λ x. x == id) (given_ids frame.0.locals)) (list_any (λ x. x == id) frame.0.stack)
      (sym (any_reversed (λ (x : ℕ). x == id) frame.0.stack) ∙ any_passes_from_place (λ (x : ℕ). x == id) (reverse frame.0.stack) n
      id frame.1.1 (eq-eqb id id refl)))

  pub in_thrown : (id : ℕ) → state.throwing ≡ Some id → list_any (λ x. x == id) (positions state) ≡ true
  in_thrown id e =
      list_any-append (λ (x : ℕ). x == id) (flat_map ids_of_frame state.frames) (given_ids (state.throwing ∷ []))
      ∙ or_right (list_any (λ x. x == id) (flat_map ids_of_frame state.frames)) (list_any (λ x. x == id) (given_ids (state.throwing ∷ [])))
      (in_given (state.throwing ∷ []) 0 id (ap Some e))

  -- what steps reach from positions has cells
  module _ (good : IsWellFormed state) where
    positions_there : All (HasCell (λ _. true) state) (positions state)
    positions_there =
        every_front (HasCell (λ _. true) state) (flat_map ids_of_frame state.frames ++ given_ids (state.throwing ∷ []))
        (flat_map (λ c. ids_in c.1) state.cells)
        (subst (λ (xs : List ℕ). All (HasCell (λ _. true) state) xs)
        (sym (append_assoc (flat_map ids_of_frame state.frames) (given_ids (state.throwing ∷ []))
        (flat_map (λ c. ids_in c.1) state.cells))) good.used)

    path_there : (path : List ℕ) (x y : ℕ) → HasCell (λ _. true) state x → follow (named_steps state) path x ≡ Some y
        → HasCell (λ _. true) state y
    path_there [] x y h e = subst (HasCell (λ _. true) state) (some_is e) h
    path_there (i ∷ path) x y h e =
        let step = then_some (follow (named_steps state) path) (named_steps state x i) y e in
        let cell = then_some (λ (c : Cell). slice_get (ids_in c) i) (cell_at state x) step.0 step.1.0 in
        path_there path step.0 y (named_has_cell state good x i step.0 cell.0 cell.1.0 cell.1.1) step.1.1

    pub reached_has : (id : ℕ) → IsReached state id → HasCell (λ _. true) state id
    reached_has id r = path_there r.reaches.path r.start id
        (all_at (HasCell (λ _. true) state) (positions state) r.place r.start positions_there r.stands) r.reaches.leads

  pub named_reached : (x i y : ℕ) (c : Cell) → IsReached state x → cell_at state x ≡ Some c → slice_get (ids_in c) i ≡ Some y
      → IsReached state y
  named_reached x i y c r e f = record {
    place = r.place;
    start = r.start;
    stands = r.stands;
    reaches = onward (named_steps state) r.start x y r.reaches
        (one_more (named_steps state) x i y y (ap (option_and_then (λ (d : Cell). slice_get (ids_in d) i)) e ∙ f)
        (here (named_steps state) y y refl));
  }

  pub position_reached : (id : ℕ) → list_any (λ x. x == id) (positions state) ≡ true → IsReached state id
  position_reached id h =
      let found = any_stands id (positions state) h in
      record { place = found.0; start = id; stands = found.1; reaches = here (named_steps state) id id refl }

-- ---- the widening

-- an id of the widening: its pair, and the ids that its cell names
pub record IsLeft (types : WorldTypes) (a b : AbstractState) (pairs : List (ℕ × ℕ)) (result : AbstractState) (n : ℕ)
    (c : Cell) : Type 0 where
  pub pair : ℕ × ℕ
  pub pair_is : slice_get pairs n ≡ Some pair
  pub made : IsMergedCell types a b pairs pair c
  pub named : (i y : ℕ) → slice_get (ids_in c) i ≡ Some y → HasCell (λ _. true) result y

module _ (types : WorldTypes) (a b result : AbstractState) (alike : AreAlike a b) (w : IsWidening types a b result) where
  abbrev merged : AbstractState
  merged = w.is.merged

  pub long : AllZip AreAsLong a.frames b.frames
  long = all_as_long a b a.frames b.frames alike.frames

  good : IsWellFormed merged
  good = merged_is_good types a b w.pairs merged w.are_pairs w.few long w.is.is_merged

  pub reached_there : (id : ℕ) → IsReached merged id → HasCell (λ _. true) result id
  reached_there id r =
      let h = reached_has merged good id r in
      record { cell = h.cell; is = w.is.dropped.kept id r ∙ h.is; sort_is = refl }

  pub left : (n : ℕ) (c : Cell) → cell_at result n ≡ Some c → IsLeft types a b w.pairs result n c
  left n c e =
      let r : IsReached merged n = w.is.dropped.gone n (record { cell = c; is = e; sort_is = refl }) in
      let is : cell_at merged n ≡ Some c = sym (w.is.dropped.kept n r) ∙ e in
      let stands : slice_get merged.cells n ≡ Some (n, c) = at_number w.pairs merged.cells
      (numbered types a b w.pairs merged w.are_pairs w.few long w.is.is_merged) n c is in
      let pair = pair_at types a b w.pairs merged w.are_pairs w.few long w.is.is_merged n (n, c) stands in
      record {
        pair = pair.0;
        pair_is = pair.1;
        made = (w.is.is_merged.cells n pair.0 (n, c) pair.1 stands).1;
        named = λ i y f. reached_there y (named_reached merged n i y c r is f);
      }

  positions_same : positions result ≡ positions merged
  positions_same =
      ap (λ (fs : List AbstractFrame). flat_map ids_of_frame fs ++ given_ids (result.throwing ∷ [])) w.is.dropped.frames
      ∙ ap (λ (o : Option ℕ). flat_map ids_of_frame merged.frames ++ given_ids (o ∷ [])) w.is.dropped.throwing

  pub position_there : (id : ℕ) → list_any (λ x. x == id) (positions result) ≡ true → HasCell (λ _. true) result id
  position_there id h = reached_there id (position_reached merged id (ap (list_any (λ x. x == id)) (sym positions_same) ∙ h))

  pub place_there : (place : Place) (id : ℕ) → id_at result place ≡ Some id → HasCell (λ _. true) result id
  place_there place id e = position_there id (in_places result place id e)

  pub thrown_there : (id : ℕ) → result.throwing ≡ Some id → HasCell (λ _. true) result id
  thrown_there id e = position_there id (in_thrown result id e)

  -- ---- a map to one of the two states

  module _ (pick : ℕ × ℕ → ℕ) where
    abbrev pub entries : List (ℕ × ℕ)
    entries = map (λ (x : ℕ × Cell). (x.0, pick (get_or w.pairs x.0 (0, 0)))) result.cells

    pub image_at : (n : ℕ) (pair : ℕ × ℕ) → HasCell (λ _. true) result n → slice_get w.pairs n ≡ Some pair
        → image_in entries n ≡ Some (pick pair)
    image_at n pair h e =
        image_mapped (λ (k : ℕ). pick (get_or w.pairs k (0, 0))) result.cells n h.cell h.is
        ∙ ap (λ (p : ℕ × ℕ). Some (pick p)) (get_or_from_slice_get w.pairs n pair (0, 0) e)

    pub image_of : (n image : ℕ) (pair : ℕ × ℕ) → image_in entries n ≡ Some image → slice_get w.pairs n ≡ Some pair → image ≡ pick pair
    image_of n image pair e f =
        let back = mapped_image (λ (k : ℕ). pick (get_or w.pairs k (0, 0))) result.cells n image e in
        back.1.1 ∙ ap pick (get_or_from_slice_get w.pairs n pair (0, 0) f)

    pub image_cell : (n image : ℕ) → image_in entries n ≡ Some image → (c : Cell) × (cell_at result n ≡ Some c)
    image_cell n image e =
        let back = mapped_image (λ (k : ℕ). pick (get_or w.pairs k (0, 0))) result.cells n image e in
        (back.0, back.1.0)

    pub entries_list : map (λ (entry : ℕ × ℕ). entry.0) entries ≡ map (λ (c : ℕ × Cell). c.0) result.cells
    entries_list = same_ids (λ (k : ℕ). pick (get_or w.pairs k (0, 0))) result.cells

-- ---- the cells of a pair

module _ (types : WorldTypes) (a b result : AbstractState) (first : IsSound types a) (second : IsSound types b)
    (alike : AreAlike a b) (w : IsWidening types a b result) where
  pub cells_of : (n : ℕ) (c : Cell) (l : IsLeft types a b w.pairs result n c) → AreCellsOf types a b l.pair l.made.p l.made.q
  cells_of n c l =
      let is = paired_cells a b types first second alike l.pair
      (among_paired a b w.pairs w.are_pairs l.pair (among_at w.pairs n l.pair l.pair_is)) in
      let same_first : is.p ≡ l.made.p = some_is (sym is.of.first ∙ l.made.first) in
      let same_second : is.q ≡ l.made.q = some_is (sym is.of.second ∙ l.made.second) in
      record {
        first = l.made.first;
        second = l.made.second;
        first_sound = sound_at types a first l.pair.0 l.made.p l.made.first;
        second_sound = sound_at types b second l.pair.1 l.made.q l.made.second;
        alike = ap is_int (sym same_first) ∙ is.of.alike ∙ ap is_int same_second;
      }

  pub closed_at : (n : ℕ) (c : Cell) (l : IsLeft types a b w.pairs result n c) (r : ℕ × ℕ) → is_among r (pairs_of l.made.row) ≡ true
      → is_among r w.pairs ≡ true
  closed_at n c l r h = below_among a b w.pairs w.are_pairs l.pair r (among_at w.pairs n l.pair l.pair_is)
      (ap (λ (o : Option Row). is_among r (pairs_in o)) l.made.row_is ∙ h)
