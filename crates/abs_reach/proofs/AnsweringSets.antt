-- What walks from all ids of a set and pairs answer.
use Rattle.std.proofs.Common.{◌≡◌, ◌≢◌, ℕ, ◌&&◌, ◌==◌, Bool, true, false, List, Some, None, ◌⊎◌, inl, inr, refl, sym, ap, subst}
use Rattle.std.proofs.Common.{◌∙◌, eq-eqb}
use Rattle.std.specs.Prelude.{◌↔◌}
use Rattle.std.specs.List.{list_any}
use Rattle.std.proofs.lemmas.Bool.{false≢true, and_parts, and_from, eqb-true}
use Rattle.abs_cells.specs.AbstractStates.{AbstractState}
use Rattle.abs_cells.specs.IdSets.{has_id, are_touched}
use Rattle.abs_cells.specs.Cells.{is_hazy, is_reference, is_of_sort, cell_at, HasCell, Share}
use Rattle.abs_cells.specs.Closures.{KnownFrom}
use Rattle.abs_cells.specs.Sound.{IsWellFormed}
use Rattle.abs_cells.proofs.Checking.{has_cell_from, has_cell_to}
use Rattle.abs_reach.specs.Known.{IsKnownFromSome, MayMeetSome, SomeMayBeIn, MayBeInSome}
use Rattle.abs_reach.specs.inner.Steps.{IsIn}
use Rattle.abs_reach.proofs.Answering.{in_both, IsInBoth, both_from, Touch, touch_from, share_counts}

module _ (state : AbstractState) (good : IsWellFormed state) where
  module _ (x : ℕ) (first : List ℕ) (met : (id : ℕ) → (has_id first id ≡ true) ↔ KnownFrom state x id) (set second : List ℕ)
      (met_too : (id : ℕ) → (has_id second id ≡ true) ↔ IsKnownFromSome state set id) where
    pub common_some : IsInBoth is_reference state.cells first second → MayMeetSome state x set
    common_some h =
        let counts = has_cell_from is_reference state h.id h.is in
        let k = (met_too h.id).0 h.in_second in
        record {
          y = k.x;
          is_in = k.is_in;
          there = k.there;
          may_meet = record {
            p = h.id;
            q = h.id;
            from_x = (met h.id).0 h.in_first;
            from_y = k.from_x;
            p_counts = counts;
            q_counts = counts;
            meet
                = inl refl;
          };
        }

    pub share_some : Touch first second state.share → MayMeetSome state x set
    share_some t =
        let counts = share_counts state good t.a t.b t.differ t.pair in
        let k = (met_too t.b).0 t.in_y in
        record {
          y = k.x;
          is_in = k.is_in;
          there = k.there;
          may_meet = record {
            p = t.a;
            q = t.b;
            from_x = (met t.a).0 t.in_x;
            from_y = k.from_x;
            p_counts = counts.0;
            q_counts = counts.1;
            meet =
                inr t.pair;
          };
        }

    pub must_share_some : list_any (in_both is_reference first second) state.cells ≡ false → MayMeetSome state x set
        → are_touched first second state.share ≡ true
    must_share_some none s =
        let m = s.may_meet in
        let far : IsIn second m.q = (met_too m.q).1 (record { x = s.y; is_in = s.is_in; there = s.there; from_x = m.from_y }) in
        elim m.meet [
          | inl e ↦
              let there : IsIn second m.p = subst (λ (z : ℕ). IsIn second z) (sym e) far in
              absurd (false≢true (sym none ∙ both_from is_reference state.cells first second m.p ((met m.p).1 m.from_x) there
              (has_cell_to is_reference state m.p m.p_counts)))
          | inr r ↦ touch_from first second state.share m.p m.q ((met m.p).1 m.from_x) far r
        ]

  module _ (x : ℕ) (set first : List ℕ) (met : (id : ℕ) → (has_id first id ≡ true) ↔ KnownFrom state x id) where
    pub some_inside : IsInBoth is_reference state.cells set first → SomeMayBeIn state set x
    some_inside h = record {
      k = h.id;
      is_in = h.in_first;
      may_be_in = record
          { counts = has_cell_from is_reference state h.id h.is; there = inl ((met h.id).0 h.in_second) };
    }

  module _ (x : ℕ) (set first hazy : List ℕ) (met : (id : ℕ) → (has_id first id ≡ true) ↔ KnownFrom state x id) (hazy_is : (n : ℕ)
      → has_id hazy n ≡ (has_id first n && is_of_sort is_hazy (cell_at state n))) where
    pub some_shares : Touch set hazy state.share → SomeMayBeIn state set x
    some_shares t =
        let p = and_parts (has_id first t.b) (is_of_sort is_hazy (cell_at state t.b)) (sym (hazy_is t.b) ∙ t.in_y) in
        let counts = share_counts state good t.a t.b t.differ t.pair in
        record {
          k = t.a;
          is_in = t.in_x;
          may_be_in = record {
            counts = counts.0;
            there = inr
                (record { q = t.b; from_x = (met t.b).0 p.0; hazy = has_cell_from is_hazy state t.b p.1; share = t.pair });
          };
        }

    pub some_must_share : list_any (in_both is_reference set first) state.cells ≡ false → SomeMayBeIn state set x
        → are_touched set hazy state.share ≡ true
    some_must_share none s = elim s.may_be_in.there [
      | inl r ↦ absurd (false≢true (sym none ∙ both_from is_reference state.cells set first s.k s.is_in ((met s.k).1 r)
          (has_cell_to is_reference state s.k s.may_be_in.counts)))
      | inr r ↦ touch_from set hazy state.share s.k r.q s.is_in
          (hazy_is r.q ∙ and_from (has_id first r.q) (is_of_sort is_hazy (cell_at state r.q)) ((met r.q).1 r.from_x)
          (has_cell_to is_hazy state r.q r.hazy)) r.share
    ]

  module _ (k : ℕ) (set first : List ℕ) (met : (id : ℕ) → (has_id first id ≡ true) ↔ IsKnownFromSome state set id)
      (counts : HasCell is_reference state k) where
    pub inside_some : has_id first k ≡ true → MayBeInSome state k set
    inside_some h =
        let s = (met k).0 h in
        record { y = s.x; is_in = s.is_in; there = s.there; may_be_in = record { counts = counts; there = inl s.from_x } }

  module _ (k : ℕ) (set first one hazy : List ℕ) (met : (id : ℕ) → (has_id first id ≡ true) ↔ IsKnownFromSome state set id)
      (one_is : (n : ℕ) → has_id one n ≡ (n == k)) (hazy_is : (n : ℕ)
      → has_id hazy n ≡ (has_id first n && is_of_sort is_hazy (cell_at state n))) (counts : HasCell is_reference state k) where
    pub shares_some : Touch one hazy state.share → MayBeInSome state k set
    shares_some t =
        let is : t.a ≡ k = eqb-true t.a k (sym (one_is t.a) ∙ t.in_x) in
        let p = and_parts (has_id first t.b) (is_of_sort is_hazy (cell_at state t.b)) (sym (hazy_is t.b) ∙ t.in_y) in
        let s = (met t.b).0 p.0 in
        record {
          y = s.x;
          is_in = s.is_in;
          there = s.there;
          may_be_in = record {
            counts = counts;
            there = inr
                (record {
                  q = t.b;
                  from_x = s.from_x;
                  hazy = has_cell_from is_hazy state t.b p.1;
                  share = subst
                      (λ (z : ℕ). Share state z t.b) is t.pair;
                });
          };
        }

    pub must_share_there : has_id first k ≡ false → MayBeInSome state k set → are_touched one hazy state.share ≡ true
    must_share_there none s = elim s.may_be_in.there [
      | inl r ↦ absurd (false≢true (sym none ∙ (met k).1 (record { x = s.y; is_in = s.is_in; there = s.there; from_x = r })))
      | inr r ↦ touch_from one hazy state.share k r.q (one_is k ∙ eq-eqb k k refl)
          (hazy_is r.q ∙ and_from (has_id first r.q) (is_of_sort is_hazy (cell_at state r.q))
          ((met r.q).1 (record { x = s.y; is_in = s.is_in; there = s.there; from_x = r.from_x }))
          (has_cell_to is_hazy state r.q r.hazy)) r.share
    ]
