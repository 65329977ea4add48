-- What the calls on pairs ask, once the map was tested; and ids that may stand for no other id's object.
use Rattle.std.proofs.Common.{◌≡◌, ◌≢◌, ℕ, ◌<◌, ◌==◌, Bool, true, false, not, List, length, get_or, map, Some, None, ◌⊎◌, inl, inr}
use Rattle.std.proofs.Common.{◌↔◌, refl, sym, ap, subst, ◌∙◌, eq-eqb}
use Rattle.std.proofs.lemmas.Bool.{false≢true, eqb-true, cases_Bool, not_from_false, not-true}
use Rattle.std.proofs.lemmas.Option.{slice_get-get_or}
use Rattle.abs_cells.specs.declared.cells.Cell.{Cell}
use Rattle.abs_cells.specs.AbstractStates.{AbstractState}
use Rattle.abs_cells.specs.IdSets.{has_id, are_touched}
use Rattle.abs_cells.specs.PairLists.{IsRising}
use Rattle.abs_cells.specs.Cells.{is_reference, is_of_sort, cell_at, HasCell, AreEqual}
use Rattle.abs_cells.specs.Sound.{AreIdsRising}
use Rattle.abs_cells.proofs.Checking.{has_cell_to}
use Rattle.abs_reach.specs.Instances.{image_in, MayBeOne}
use Rattle.abs_reach.proofs.Room.{has_cell_low}
use Rattle.abs_reach.proofs.Answering.{touch_from, touch_of, touched_of}
use Rattle.abs_reach.specs.Keys.{AreKeysRising}
use Rattle.abs_match.specs.inner.Matching.{AreMatched, IsApartImage}
use Rattle.abs_match.proofs.Entries.{image_is_there}
use Rattle.abs_match.proofs.Partners.{keys_rise}

module _ (state target : AbstractState) (entries : List (ℕ × ℕ)) (m : AreMatched state target entries) where
  pub entries_rise : AreKeysRising 0 entries
  entries_rise = keys_rise entries target.cells 0 m.lists.each m.lists.rise

  pub image_there : (id image : ℕ) → image_in entries id ≡ Some image → HasCell (λ _. true) state image
  image_there id image e = m.mapped id image e

  pub images_low : (n : ℕ) → n < length entries → (get_or entries n (0, 0)).1 < 2048
  images_low n l =
      let there = m.mapped (get_or entries n (0, 0)).0 (get_or entries n (0, 0)).1
      (image_is_there entries n (get_or entries n (0, 0)) entries_rise (slice_get-get_or entries n (0, 0) l)) in
      has_cell_low state.cells (get_or entries n (0, 0)).1 m.good.rising (has_cell_to (λ _. true) state (get_or entries n (0, 0)).1 there)

  pub id_low : (id : ℕ) (cell : Cell) → cell_at target id ≡ Some cell → id < 2048
  id_low id cell e = has_cell_low target.cells id m.lists.rise (ap (is_of_sort (λ _. true)) e)

  pub keys_of : (list : List (ℕ × Cell)) → list ≡ target.cells
      → map (λ (entry : ℕ × ℕ). entry.0) entries ≡ map (λ (c : ℕ × Cell). c.0) list
  keys_of list is = m.lists.each ∙ ap (map (λ (c : ℕ × Cell). c.0)) (sym is)

  pub rising_of : (list : List (ℕ × Cell)) → list ≡ target.cells → AreIdsRising 0 list
  rising_of list is = subst (λ (cs : List (ℕ × Cell)). AreIdsRising 0 cs) (sym is) m.lists.rise

pub apart_of : (target : AbstractState) (list : List (ℕ × Cell)) (entries held pairs : List (ℕ × ℕ)) (sort : Cell → Bool) (id : ℕ)
    (set : List ℕ) → list ≡ target.cells → held ≡ pairs
    → ((image : ℕ) → (has_id set image ≡ true) ↔ IsApartImage list entries held sort id image) → (image : ℕ)
    → (has_id set image ≡ true) ↔ IsApartImage target.cells entries pairs sort id image
apart_of target list entries held pairs sort id set e f h image =
    subst (λ (cs : List (ℕ × Cell)). (has_id set image ≡ true) ↔ IsApartImage cs entries pairs sort id image) e
    (subst (λ (ps : List (ℕ × ℕ)). (has_id set image ≡ true) ↔ IsApartImage list entries ps sort id image) f (h image))

-- ---- ids that stand for no other id's object

pub not_alone : (state : AbstractState) (id : ℕ) (others : List ℕ) → has_id others id ≡ true → HasCell is_reference state id
    → ((other : ℕ) → has_id others other ≡ true → MayBeOne state id other → ⊥) → ⊥
not_alone state id others h c all = all id h (inl (refl, c))

module _ (state : AbstractState) (id : ℕ) (others one : List ℕ) (held : List (ℕ × ℕ)) (is : held ≡ state.eq) (one_is : (n : ℕ)
    → has_id one n ≡ (n == id)) (touched : Bool) (value : touched ≡ are_touched one others held) (rising : IsRising held) where
  pub untouched : (has_id others id ≡ true → HasCell is_reference state id → ⊥) → not touched ≡ true → (other : ℕ)
      → has_id others other ≡ true → MayBeOne state id other → ⊥
  untouched never t other h may = go may
    where
      go : MayBeOne state id other → ⊥
      go (inl e) = never (subst (λ (z : ℕ). has_id others z ≡ true) (sym e.0) h) e.1
      go (inr e) = false≢true (sym (not-true touched t) ∙ touched_of one others held state.eq touched is value
          ∙ touch_from one others state.eq id other (one_is id ∙ eq-eqb id id refl) h e)

  pub if_alone : ((other : ℕ) → has_id others other ≡ true → MayBeOne state id other → ⊥) → not touched ≡ true
  if_alone all = elim (cases_Bool touched) [
    | inl t ↦
        let touch = touch_of one others held state.eq touched is rising value t in
        let same : touch.a ≡ id = eqb-true touch.a id (sym (one_is touch.a) ∙ touch.in_x) in
        absurd (all touch.b touch.in_y (inr (subst (λ (z : ℕ). AreEqual state z touch.b) same touch.pair)))
    | inr f ↦ not_from_false touched f
  ]
