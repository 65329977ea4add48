-- What the tests of the clauses answer, clause by clause, and together.
use Rattle.std.proofs.Common.{◌≡◌, ℕ, zero, suc, ◌+◌, ◌<◌, ◌≤◌, Bool, true, false, List, [], ◌∷◌, ◌++◌, length, map, reverse}
use Rattle.std.proofs.Common.{Option, Some, None, slice_get, ◌⊎◌, inl, inr, ◌↔◌, refl, sym, ap, subst, ◌∙◌, arith}
use Rattle.std.proofs.lemmas.Bool.{false≢true, cases_lt}
use Rattle.std.proofs.lemmas.List.{length-reverse, map-append, reverse-append, reverse-reverse}
use Rattle.std.proofs.lemmas.Option.{slice_get_within, slice_get-get_or, slice_get_past, none-some}
use Rattle.std.specs.Option.{option_and_then}
use Rattle.abs_cells.proofs.CellLaws.{place_of_cell}
use Rattle.list_views.proofs.Options.{then_some}
use Rattle.jvm_values.proofs.Options.{some_is}
use Rattle.jvm_values.specs.declared.types.Ty.{Ty}
use Rattle.abs_cells.specs.declared.cells.Cell.{Cell}
use Rattle.abs_cells.specs.AbstractStates.{AbstractFrame, AbstractState}
use Rattle.abs_cells.specs.Cells.{cell_in, is_of_sort, HasCell}
use Rattle.abs_cells.specs.Sound.{AreIdsRising, IsWellFormed}
use Rattle.abs_reach.specs.Instances.{image_in, local, entry, frame_at, FrameHead, head_of, ListsIds, Clause, whole_map, positions}
use Rattle.abs_reach.specs.Instances.{mode, cells, aliases, sharing, shapes, number_of, Agrees, Meets, HoldsClause, InstanceOf}
use Rattle.abs_reach.specs.Instances.{HasImageUnder, FailsAt, IsFirstFault}
use Rattle.abs_match.specs.inner.Matching.{IsLeastOf, lower_of, FramesMeet, FirstMeet, CellMeets, AreMatched, Tested, clause_of}
use Rattle.abs_match.specs.declared.clauses.IdClause.{IdClause}
use Rattle.abs_match.specs.declared.clauses.IdClause.TheVariants.{Cells, Aliases, Sharing, Shapes}
use Rattle.abs_match.proofs.Leasts.{turned, next_asked}
use Rattle.abs_match.proofs.Partners.{key, id_of, stands_in}

heads_turned : (xs : List AbstractFrame) → map head_of (reverse xs) ≡ reverse (map head_of xs)
heads_turned [] = refl
heads_turned (x ∷ xs) =
    ap (map head_of) (reverse-append (x ∷ []) xs) ∙ map-append head_of (reverse xs) (x ∷ [])
    ∙ ap (λ (heads : List FrameHead). heads ++ head_of x ∷ []) (heads_turned xs)
    ∙ sym (reverse-append (head_of x ∷ []) (map head_of xs))

-- frames from the bottom up have the same heads where frames from the top down have
pub heads_to : (xs ys : List AbstractFrame) → map head_of (reverse xs) ≡ map head_of (reverse ys) → map head_of xs ≡ map head_of ys
heads_to xs ys e =
    sym (reverse-reverse (map head_of xs)) ∙ ap reverse (sym (heads_turned xs)) ∙ ap reverse e ∙ ap reverse (heads_turned ys)
    ∙ reverse-reverse (map head_of ys)

pub heads_from : (xs ys : List AbstractFrame) → map head_of xs ≡ map head_of ys → map head_of (reverse xs) ≡ map head_of (reverse ys)
heads_from xs ys e = heads_turned xs ∙ ap reverse e ∙ sym (heads_turned ys)

pub heads_of : (xs ys those others : List AbstractFrame) → those ≡ xs → others ≡ ys → map head_of those ≡ map head_of others
    → map head_of xs ≡ map head_of ys
heads_of xs ys those others e f h = sym (ap (map head_of) e) ∙ h ∙ ap (map head_of) f

-- an id has a cell of a sort
pub sort_has : (sort : Cell → Bool) (state : AbstractState) (id : ℕ) → is_of_sort sort (cell_in state.cells id) ≡ true
    → HasCell sort state id
sort_has sort state id e = go (cell_in state.cells id) refl e
  where
    go : (found : Option Cell) → cell_in state.cells id ≡ found → is_of_sort sort found ≡ true → HasCell sort state id
    go None f h = absurd (false≢true h)
    go (Some cell) f h = record { cell = cell; is = f; sort_is = h }

pub has_sort : (sort : Cell → Bool) (state : AbstractState) (id : ℕ) → HasCell sort state id
    → is_of_sort sort (cell_in state.cells id) ≡ true
has_sort sort state id h = ap (is_of_sort sort) h.is ∙ h.sort_is

-- the ids that a map lists, of a list that is the target's cells
pub lists_to : (target : AbstractState) (entries : List (ℕ × ℕ)) (list : List (ℕ × Cell)) → list ≡ target.cells
    → (map key entries ≡ map id_of list) × AreIdsRising 0 list → ListsIds target entries
lists_to target entries list e l = record {
  each = l.0 ∙ ap (map id_of) e;
  rise = subst (λ (cs : List (ℕ × Cell)). AreIdsRising 0 cs) e l.1;
}

pub lists_from : (target : AbstractState) (entries : List (ℕ × ℕ)) (list : List (ℕ × Cell)) → list ≡ target.cells
    → ListsIds target entries → (map key entries ≡ map id_of list) × AreIdsRising 0 list
lists_from target entries list e l = (l.each ∙ ap (map id_of) (sym e), subst (λ (cs : List (ℕ × Cell)). AreIdsRising 0 cs) (sym e) l.rise)

module _ (sub : Ty → Ty → Bool) (state target : AbstractState) (entries : List (ℕ × ℕ)) where
  -- the part without an id fails
  pub fails_whole : (clause : Clause) (id : ℕ) → (Agrees state target entries clause → ⊥) → id ≡ 0
      → Tested sub state target entries clause (Some id)
  fails_whole clause id n e = inl (n, e)

  -- the part without an id holds, and the least id is known
  pub tested : (clause : Clause) (r : Option ℕ) → Agrees state target entries clause
      → IsLeastOf (Meets sub state target entries clause) r → Tested sub state target entries clause r
  tested clause None a l = (a, l)
  tested clause (Some id) a l = inr (record { agrees = a; fails = l.0; least = l.1 })

  -- ---- the map

  map_tested : (r : Option ℕ) → Agrees state target entries whole_map
      → IsLeastOf (λ id. (image : ℕ) → image_in entries id ≡ Some image → is_of_sort (λ _. true) (cell_in state.cells image) ≡ true)
      r → Tested sub state target entries whole_map r
  map_tested r a l =
      tested whole_map r a
      (turned (λ id. (image : ℕ) → image_in entries id ≡ Some image → is_of_sort (λ _. true) (cell_in state.cells image) ≡ true)
      (Meets sub state target entries whole_map) r
      (λ id h image e. sort_has (λ _. true) state image (h image e))
      (λ id h image e. has_sort (λ _. true) state image (h image e))
      l)

  pub map_tested_of : (list : List (ℕ × Cell)) (r : Option ℕ) → list ≡ state.cells → Agrees state target entries whole_map
      → IsLeastOf (λ id. (image : ℕ) → image_in entries id ≡ Some image → is_of_sort (λ _. true) (cell_in list image) ≡ true) r
      → Tested sub state target entries whole_map r
  map_tested_of list r e a l = map_tested r a
      (subst (λ (cs : List (ℕ × Cell)). IsLeastOf (λ id. (image : ℕ) → image_in entries id ≡ Some image
      → is_of_sort (λ _. true) (cell_in cs image) ≡ true) r) e l)

  -- ---- positions

  local_of : Option AbstractFrame → ℕ → Option ℕ
  local_of found n = option_and_then (λ (frame : AbstractFrame). option_and_then (λ (id : Option ℕ). id) (slice_get frame.locals n)) found

  entry_of : Option AbstractFrame → ℕ → Option ℕ
  entry_of found n = option_and_then (λ (frame : AbstractFrame). slice_get (reverse frame.stack) n) found

  module _ (as_many : length (reverse state.frames) ≡ length (reverse target.frames)) where
    same_frame : (f : ℕ) (frame : AbstractFrame) → frame_at target f ≡ Some frame → (own : AbstractFrame) × (frame_at state f ≡ Some own)
    same_frame f frame e =
        let low : f < length (reverse state.frames) = let l = slice_get_within (reverse target.frames) f frame e in omega
        (arith, l, as_many) in
        (_, slice_get-get_or (reverse state.frames) f frame low)

    other_frame : (f : ℕ) (frame : AbstractFrame) → frame_at state f ≡ Some frame → (own : AbstractFrame) × (frame_at target f ≡ Some own)
    other_frame f frame e =
        let low : f < length (reverse target.frames) = let l = slice_get_within (reverse state.frames) f frame e in omega
        (arith, l, as_many) in
        (_, slice_get-get_or (reverse target.frames) f frame low)

    places_to : (id : ℕ) → FirstMeet (FramesMeet entries (reverse target.frames) (reverse state.frames))
        (length (reverse target.frames)) id → Meets sub state target entries positions id
    unfolding local_of entry_of
    places_to id all (local f n) e =
        let there = then_some (λ (frame : AbstractFrame). option_and_then (λ (i : Option ℕ). i) (slice_get frame.locals n))
        (frame_at target f) id e in
        let own = same_frame f there.0 there.1.0 in
        let met = (all f (slice_get_within (reverse target.frames) f there.0 there.1.0) there.0 own.0 there.1.0 own.1).0 n there.1.1 in
        (met.0, (met.1.0, ap (λ (found : Option AbstractFrame). local_of found n) own.1 ∙ met.1.1))
    places_to id all (entry f n) e =
        let there = then_some (λ (frame : AbstractFrame). slice_get (reverse frame.stack) n) (frame_at target f) id e in
        let own = same_frame f there.0 there.1.0 in
        let met = (all f (slice_get_within (reverse target.frames) f there.0 there.1.0) there.0 own.0 there.1.0 own.1).1 n there.1.1 in
        (met.0, (met.1.0, ap (λ (found : Option AbstractFrame). entry_of found n) own.1 ∙ met.1.1))

    pub places_from : (id : ℕ) → Meets sub state target entries positions id
        → FirstMeet (FramesMeet entries (reverse target.frames) (reverse state.frames)) (length (reverse target.frames)) id
    unfolding local_of entry_of
    places_from id all f low theirs ours e g = (
      λ n h.
          let met = all (local f n) (ap (λ (found : Option AbstractFrame). local_of found n) e ∙ h) in
          (met.0, (met.1.0, sym (ap (λ (found : Option AbstractFrame). local_of found n) g) ∙ met.1.1)),
      λ n h.
          let met = all (entry f n) (ap (λ (found : Option AbstractFrame). entry_of found n) e ∙ h) in
          (met.0, (met.1.0, sym (ap (λ (found : Option AbstractFrame). entry_of found n) g) ∙ met.1.1)),
    )

    pub places_tested : (r : Option ℕ) → Agrees state target entries positions
        → IsLeastOf (FirstMeet (FramesMeet entries (reverse target.frames) (reverse state.frames)) (length (reverse target.frames)))
        r → Tested sub state target entries positions r
    places_tested r a l =
        tested positions r a (turned
        (FirstMeet (FramesMeet entries (reverse target.frames) (reverse state.frames)) (length (reverse target.frames)))
        (Meets sub state target entries positions) r places_to places_from l)

    pub places_tested_of : (theirs ours : List AbstractFrame) (r : Option ℕ) → theirs ≡ reverse target.frames
        → ours ≡ reverse state.frames → Agrees state target entries positions
        → IsLeastOf (FirstMeet (FramesMeet entries theirs ours) (length theirs)) r → Tested sub state target entries positions r
    places_tested_of theirs ours r e f a l =
        places_tested r a
        (subst (λ (ts : List AbstractFrame). IsLeastOf (FirstMeet (FramesMeet entries ts (reverse state.frames)) (length ts)) r) e
        (subst (λ (os : List AbstractFrame). IsLeastOf (FirstMeet (FramesMeet entries theirs os) (length theirs)) r) f l))

  -- ---- all of them

  pub holds_of : (clause : Clause) (r : Option ℕ) → r ≡ None → Tested sub state target entries clause r
      → HoldsClause sub state target entries clause
  holds_of clause r e t = subst (λ (x : Option ℕ). Tested sub state target entries clause x) e t

  pub fails_of : (clause : Clause) (r : Option ℕ) (id : ℕ) → r ≡ Some id → Tested sub state target entries clause r
      → FailsAt sub state target entries clause id
  fails_of clause r id e t = subst (λ (x : Option ℕ). Tested sub state target entries clause x) e t

  pub matched : IsWellFormed state → HoldsClause sub state target entries whole_map → AreMatched state target entries
  matched good h = record { good = good; lists = h.0; mapped = λ id image e. h.1 id image e }

  pub whole : HoldsClause sub state target entries whole_map → HoldsClause sub state target entries positions
      → HoldsClause sub state target entries mode → HoldsClause sub state target entries cells
      → HoldsClause sub state target entries aliases → HoldsClause sub state target entries sharing
      → HoldsClause sub state target entries shapes → InstanceOf sub state target entries
  whole a b c d e f g whole_map = a
  whole a b c d e f g positions = b
  whole a b c d e f g mode = c
  whole a b c d e f g cells = d
  whole a b c d e f g aliases = e
  whole a b c d e f g sharing = f
  whole a b c d e f g shapes = g

  -- the clauses before the one that fails hold
  Below : ℕ → Type 0
  Below n = (other : Clause) → number_of other < n → HoldsClause sub state target entries other

  pub first : (clause : Clause) (number id : ℕ) → number ≡ number_of clause
      → ((other : Clause) → number_of other < number_of clause → HoldsClause sub state target entries other)
      → FailsAt sub state target entries clause id → IsFirstFault sub state target entries number id
  first clause number id e earlier fails = record { clause = clause; is = e; earlier = earlier; fails = fails }

  pub below_1 : HoldsClause sub state target entries whole_map → (other : Clause) → number_of other < 1
      → HoldsClause sub state target entries other
  below_1 a whole_map l = a
  below_1 a positions l = absurd (omega (arith, l))
  below_1 a mode l = absurd (omega (arith, l))
  below_1 a cells l = absurd (omega (arith, l))
  below_1 a aliases l = absurd (omega (arith, l))
  below_1 a sharing l = absurd (omega (arith, l))
  below_1 a shapes l = absurd (omega (arith, l))

  pub below_2 : HoldsClause sub state target entries whole_map → HoldsClause sub state target entries positions → (other : Clause)
      → number_of other < 2 → HoldsClause sub state target entries other
  below_2 a b whole_map l = a
  below_2 a b positions l = b
  below_2 a b mode l = absurd (omega (arith, l))
  below_2 a b cells l = absurd (omega (arith, l))
  below_2 a b aliases l = absurd (omega (arith, l))
  below_2 a b sharing l = absurd (omega (arith, l))
  below_2 a b shapes l = absurd (omega (arith, l))

  -- from the clauses on ids on, whatever holds of all up to some
  pub below_3 : HoldsClause sub state target entries whole_map → HoldsClause sub state target entries positions
      → HoldsClause sub state target entries mode → (other : Clause) → number_of other < 3 → HoldsClause sub state target entries other
  below_3 a b c whole_map l = a
  below_3 a b c positions l = b
  below_3 a b c mode l = c
  below_3 a b c cells l = absurd (omega (arith, l))
  below_3 a b c aliases l = absurd (omega (arith, l))
  below_3 a b c sharing l = absurd (omega (arith, l))
  below_3 a b c shapes l = absurd (omega (arith, l))

  pub below_4 : ((other : Clause) → number_of other < 3 → HoldsClause sub state target entries other)
      → HoldsClause sub state target entries cells → (other : Clause) → number_of other < 4 → HoldsClause sub state target entries other
  below_4 h d whole_map l = h whole_map (omega arith)
  below_4 h d positions l = h positions (omega arith)
  below_4 h d mode l = h mode (omega arith)
  below_4 h d cells l = d
  below_4 h d aliases l = absurd (omega (arith, l))
  below_4 h d sharing l = absurd (omega (arith, l))
  below_4 h d shapes l = absurd (omega (arith, l))

  pub below_5 : ((other : Clause) → number_of other < 4 → HoldsClause sub state target entries other)
      → HoldsClause sub state target entries aliases → (other : Clause) → number_of other < 5 → HoldsClause sub state target entries other
  below_5 h d whole_map l = h whole_map (omega arith)
  below_5 h d positions l = h positions (omega arith)
  below_5 h d mode l = h mode (omega arith)
  below_5 h d cells l = h cells (omega arith)
  below_5 h d aliases l = d
  below_5 h d sharing l = absurd (omega (arith, l))
  below_5 h d shapes l = absurd (omega (arith, l))

  pub below_6 : ((other : Clause) → number_of other < 5 → HoldsClause sub state target entries other)
      → HoldsClause sub state target entries sharing → (other : Clause) → number_of other < 6 → HoldsClause sub state target entries other
  below_6 h d whole_map l = h whole_map (omega arith)
  below_6 h d positions l = h positions (omega arith)
  below_6 h d mode l = h mode (omega arith)
  below_6 h d cells l = h cells (omega arith)
  below_6 h d aliases l = h aliases (omega arith)
  below_6 h d sharing l = d
  below_6 h d shapes l = absurd (omega (arith, l))

  -- ---- ids without cells ask nothing

  pub vacuous : (clause : IdClause) (id : ℕ) → cell_in target.cells id ≡ None → Meets sub state target entries (clause_of clause) id
  vacuous Cells id e = λ cell f. absurd (none-some cell (sym e ∙ f))
  vacuous Aliases id e = λ other image other_image mp one. absurd (none-some mp.is.cell (sym e ∙ mp.is.is))
  vacuous Sharing id e = record {
    meets = λ o i oi mp r. absurd (none-some mp.is.cell (sym e ∙ mp.is.is));
    is_in = λ o i oi mp r.
        absurd (none-some mp.is.cell (sym e ∙ mp.is.is));
    holds = λ o i oi mp r. absurd (none-some mp.is.cell (sym e ∙ mp.is.is));
  }
  vacuous Shapes id e = λ cell shape image f g h. absurd (none-some cell (sym e ∙ f))

  pub all_cells : (clause : IdClause) (count : ℕ) (r : Option ℕ) → length target.cells ≤ count
      → IsLeastOf (FirstMeet (CellMeets (Meets sub state target entries (clause_of clause)) target.cells) count) r
      → IsLeastOf (Meets sub state target entries (clause_of clause)) r
  all_cells clause count r l h =
      turned (FirstMeet (CellMeets (Meets sub state target entries (clause_of clause)) target.cells) count)
      (Meets sub state target entries (clause_of clause)) r
      (λ id all. decide id all (cell_in target.cells id) refl)
      (λ id m n low c e is. m)
      h
    where
      decide : (id : ℕ) → FirstMeet (CellMeets (Meets sub state target entries (clause_of clause)) target.cells) count id
          → (found : Option Cell) → cell_in target.cells id ≡ found → Meets sub state target entries (clause_of clause) id
      decide id all None e = vacuous clause id e
      decide id all (Some cell) e =
          let place = place_of_cell target.cells id cell e in
          let low = slice_get_within target.cells place.0 (id, cell) place.1 in
          all place.0 (omega (arith, low, l)) (id, cell) place.1 refl

  pub agrees_free : (clause : IdClause) → Agrees state target entries (clause_of clause)
  agrees_free Cells = tt
  agrees_free Aliases = tt
  agrees_free Sharing = tt
  agrees_free Shapes = tt

  -- ---- cell after cell

  module _ (clause : IdClause) (list : List (ℕ × Cell)) (is : list ≡ target.cells) where
    in_target : (i : ℕ) (c : ℕ × Cell) → slice_get list i ≡ Some c → slice_get target.cells i ≡ Some c
    in_target i c e = ap (λ (cs : List (ℕ × Cell)). slice_get cs i) (sym is) ∙ e

    pub cell_more : (i : ℕ) (c : ℕ × Cell) (least found r : Option ℕ) → slice_get list i ≡ Some c
        → IsLeastOf (λ n. n ≡ c.0 → Meets sub state target entries (clause_of clause) n) found → r ≡ lower_of least found
        → IsLeastOf (FirstMeet (CellMeets (Meets sub state target entries (clause_of clause)) target.cells) i) least
        → IsLeastOf (FirstMeet (CellMeets (Meets sub state target entries (clause_of clause)) target.cells) (i + 1)) r
    cell_more i c least found r e one is_lower h =
        subst (λ (x : Option ℕ). IsLeastOf (FirstMeet (CellMeets (Meets sub state target entries (clause_of clause)) target.cells)
        (i + 1)) x) (sym is_lower)
        (next_asked (CellMeets (Meets sub state target entries (clause_of clause)) target.cells) i least found h
        (turned (λ n. n ≡ c.0 → Meets sub state target entries (clause_of clause) n)
        (CellMeets (Meets sub state target entries (clause_of clause)) target.cells i) found
        (λ n m d f g. m (sym (ap id_of (some_is (sym (in_target i c e) ∙ f)) ∙ g)))
        (λ n m g. m c (in_target i c e) (sym g))
        one))

    pub all_of : (count : ℕ) (r : Option ℕ) → length list ≤ count
        → IsLeastOf (FirstMeet (CellMeets (Meets sub state target entries (clause_of clause)) target.cells) count) r
        → IsLeastOf (Meets sub state target entries (clause_of clause)) r
    all_of count r l h = all_cells clause count r (subst (λ (cs : List (ℕ × Cell)). length cs ≤ count) is l) h

    pub cell_there : AreIdsRising 0 target.cells → (i : ℕ) (c : ℕ × Cell) → slice_get list i ≡ Some c → cell_in target.cells c.0 ≡ Some c.1
    cell_there rising i c e = stands_in target.cells i c rising (in_target i c e)

  -- one id that keeps a clause, or does not
  pub id_keeps : (clause : IdClause) (id : ℕ) → Meets sub state target entries (clause_of clause) id
      → IsLeastOf (λ n. n ≡ id → Meets sub state target entries (clause_of clause) n) None
  id_keeps clause id m n e = subst (λ (k : ℕ). Meets sub state target entries (clause_of clause) k) (sym e) m

  pub id_fails : (clause : IdClause) (id : ℕ) → (Meets sub state target entries (clause_of clause) id → ⊥)
      → IsLeastOf (λ n. n ≡ id → Meets sub state target entries (clause_of clause) n) (Some id)
  id_fails clause id n = (λ m. n (m refl), λ lower low e. absurd (omega (arith, low, e)))

  -- the same of a clause by another name
  pub by_clause : (clause other : IdClause) (id : ℕ) (b : Bool) → clause ≡ other
      → (b ≡ true) ↔ Meets sub state target entries (clause_of other) id
      → (b ≡ true) ↔ Meets sub state target entries (clause_of clause) id
  by_clause clause other id b e h = subst (λ (k : IdClause). (b ≡ true) ↔ Meets sub state target entries (clause_of k) id) (sym e) h

  -- what is asked of one cell of an id is asked of each
  pub one_cell : (id : ℕ) (cell : Cell) (b : Bool) → cell_in target.cells id ≡ Some cell
      → (b ≡ true) ↔ HasImageUnder sub state entries id cell → (b ≡ true) ↔ Meets sub state target entries cells id
  one_cell id cell b at h = (
    λ t other e. subst (λ (c : Cell). HasImageUnder sub state entries id c) (some_is (sym at ∙ e)) (h.0 t),
    λ all. h.1 (all cell at),
  )
