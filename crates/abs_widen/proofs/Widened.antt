-- What is left of the state of all pairs, without the ids that nothing reaches, is a widening.
use Rattle.std.proofs.Common.{◌≡◌, ◌≢◌, ◌⊎◌, ℕ, ◌<◌, ◌≤◌, Bool, true, false, not, ◌&&◌, List, [], ◌∷◌, length, reverse, Option}
use Rattle.std.proofs.Common.{Some, refl, sym, ap, subst, ◌∙◌, inl, inr, arith}
use Rattle.std.specs.Prelude.{◌↔◌, slice_get}
use Rattle.std.specs.List.{AllByRecursion}
use Rattle.std.specs.Option.{option_map}
use Rattle.std.proofs.lemmas.Bool.{and_from, cases_lt, or_cases, false≢true, false_from_ne_true}
use Rattle.abs_cells.proofs.CellLaws.{hazy_not_known}
use Rattle.jvm_values.proofs.Options.{some_is}
use Rattle.jvm_values.specs.TypedHeaps.{WorldTypes}
use Rattle.abs_cells.specs.declared.cells.Cell.{Cell}
use Rattle.abs_cells.specs.AbstractStates.{AbstractFrame, AbstractState}
use Rattle.abs_cells.specs.Cells.{is_known, is_hazy, is_reference, cell_in, cell_at, HasCell, AreEqual, Share}
use Rattle.abs_cells.specs.Closures.{MayMeet, MayBeIn}
use Rattle.abs_cells.specs.Sound.{AreIdsRising}
use Rattle.abs_cells.specs.PairLists.{has}
use Rattle.abs_cells.proofs.PairLaws.{has_swapped}
use Rattle.abs_reach.specs.Reached.{IsDropped}
use Rattle.abs_reach.specs.Instances.{MayBeOne}
use Rattle.abs_widen.specs.Visits.{thrown_pair, ArePairs}
use Rattle.abs_widen.specs.inner.Visiting.{ArePairCells}
use Rattle.abs_widen.specs.Widening.{number_of, merged_frames, AreMergedCells, MayJoin, OnOneSide, MustShare, without_pairs}
use Rattle.abs_widen.specs.Widening.{IsMerged, IsWidening}
use Rattle.abs_widen.specs.inner.Pairing.{may_join_cells, IsPairedBy, IsPairedAs, AreOne, MayJoinAt, WantsOne, WantsShare, IsWithin}
use Rattle.abs_widen.specs.inner.Pairing.{AreJoined, IsPaired}
use Rattle.abs_widen.proofs.Whole.{in_order, may_join_parts}

-- ---- what holds of two ids holds of them turned

pub one_turned : (state : AbstractState) (x y : ℕ) → MayBeOne state x y → MayBeOne state y x
one_turned state x y (inl h) = inl (sym h.0, subst (λ (z : ℕ). HasCell is_reference state z) h.0 h.1)
one_turned state x y (inr h) = inr (has_swapped x y state.eq ∙ h)

pub meet_turned : (state : AbstractState) (x y : ℕ) → MayMeet state x y → MayMeet state y x
meet_turned state x y h = record {
  p = h.q;
  q = h.p;
  from_x = h.from_y;
  from_y = h.from_x;
  p_counts = h.q_counts;
  q_counts = h.p_counts;
  meet = elim h.meet [
    | inl e ↦ inl (sym e)
    | inr s ↦ inr (has_swapped h.p h.q state.share ∙ s)
  ];
}

module _ (a b : AbstractState) (pairs : List (ℕ × ℕ)) where
  side_turned : (holds : AbstractState → ℕ → ℕ → Type 0) → ((state : AbstractState) (x y : ℕ) → holds state x y → holds state y x)
      → (m n : ℕ) → OnOneSide holds a b pairs m n → OnOneSide holds a b pairs n m
  side_turned holds turn m n h = record {
    p = h.q;
    q = h.p;
    first = h.second;
    second = h.first;
    side = elim h.side [
      | inl s ↦ inl (turn a h.p.0 h.q.0 s)
      | inr s ↦ inr (turn b h.p.1 h.q.1 s)
    ];
  }

  module _ (result : AbstractState) where
    joins_turned : (m n : ℕ) → MayJoin result m n → MayJoin result n m
    joins_turned m n h = record { differ = λ e. h.differ (sym e); first = h.second; second = h.first; not_both = λ k l. h.not_both l k }

    said_one_turned : (m n : ℕ) → MayJoin result m n × OnOneSide MayBeOne a b pairs m n
        → MayJoin result n m × OnOneSide MayBeOne a b pairs n m
    said_one_turned m n h = (joins_turned m n h.0, side_turned MayBeOne one_turned m n h.1)

    must_turned : (m n : ℕ) → MustShare a b pairs result m n → MustShare a b pairs result n m
    must_turned m n (inl h) = inl (side_turned MayBeOne one_turned m n h)
    must_turned m n (inr (inl h)) = inr (inl ((h.0.1, h.0.0), side_turned MayMeet meet_turned m n h.1))
    must_turned m n (inr (inr (inl h))) = inr (inr (inr h))
    must_turned m n (inr (inr (inr h))) = inr (inr (inl h))

    said_share_turned : (m n : ℕ) → MayJoin result m n × MustShare a b pairs result m n
        → MayJoin result n m × MustShare a b pairs result n m
    said_share_turned m n h = (joins_turned m n h.0, must_turned m n h.1)

-- ---- sorts of cells

hazy_of : (c : Cell) → is_reference c ≡ true → is_known c ≡ false → is_hazy c ≡ true
hazy_of c e f = elim (or_cases (is_known c) (is_hazy c) e) [
  | inl t ↦ absurd (false≢true (sym f ∙ t))
  | inr t ↦ t
]

not_both_true : (s t : Bool) → ((s ≡ true) → (t ≡ true) → ⊥) → not (s && t) ≡ true
not_both_true true true h = absurd (h refl refl)
not_both_true true false h = refl
not_both_true false t h = refl

-- ---- the result

module _ (types : WorldTypes) (a b : AbstractState) (pairs : List (ℕ × ℕ)) (merged left result : AbstractState)
    (is : IsMerged types a b pairs merged) (dropped : IsDropped merged left) (paired : IsPaired a b pairs left result) where
  bare_dropped : IsDropped merged (without_pairs result)
  bare_dropped = record {
    frames = paired.frames ∙ sym is.frames;
    throwing = paired.throwing ∙ dropped.throwing;
    kept = λ id r. ap (λ (cells : List (ℕ × Cell)). cell_in cells id) paired.cells ∙ dropped.kept id r;
    gone = λ id h. dropped.gone id
        (record { cell = h.cell; is = ap (λ (cells : List (ℕ × Cell)). cell_in cells id) (sym paired.cells) ∙ h.is; sort_is = refl });
    eq = λ m n. ((λ h. absurd (false≢true h)), (λ h. absurd (false≢true (ap (has m n) (sym is.eq) ∙ h.0))));
    share = λ m n. ((λ h. absurd (false≢true h)), (λ h. absurd (false≢true (ap (has m n) (sym is.share) ∙ h.0))));
  }

  sort_at : (sort : Cell → Bool) (n : ℕ) (c : Cell) → cell_at result n ≡ Some c → HasCell sort result n → sort c ≡ true
  sort_at sort n c e h = ap sort (some_is (sym e ∙ h.is)) ∙ h.sort_is

  -- from ids that are wanted

  module _ (m n : ℕ) (p q : ℕ × ℕ) (c d : Cell) (at : MayJoinAt pairs result.cells m n p q c d) where
    they_join : m ≢ n → MayJoin result m n
    they_join differ =
        let parts = may_join_parts c d at.joins in
        record {
          differ = differ;
          first = record { cell = c; is = at.c_is; sort_is = parts.0 };
          second = record { cell = d; is = at.d_is; sort_is = parts.1.0 };
          not_both = λ h k. parts.1.1 (sort_at is_known m c at.c_is h) (sort_at is_known n d at.d_is k);
        }

    one_side : (holds : AbstractState → ℕ → ℕ → Type 0) → holds a p.0 q.0 ⊎ holds b p.1 q.1 → OnOneSide holds a b pairs m n
    one_side holds h = record { p = p; q = q; first = at.p_is; second = at.q_is; side = h }

    other_side : (holds : AbstractState → ℕ → ℕ → Type 0) → holds a q.0 p.0 ⊎ holds b q.1 p.1 → OnOneSide holds a b pairs n m
    other_side holds h = record { p = q; q = p; first = at.q_is; second = at.p_is; side = h }

    they_share : (s t : Bool) → is_known c ≡ s → is_known d ≡ t → IsPairedBy s t a b p q → MustShare a b pairs result m n
    they_share true t e f h =
        let parts = may_join_parts c d at.joins in
        let hazy = hazy_of d parts.1.0 (false_from_ne_true (is_known d) (parts.1.1 e)) in
        inr (inr (inl (
          (record { cell = c; is = at.c_is; sort_is = e }, record { cell = d; is = at.d_is; sort_is = hazy }),
          one_side
              MayBeIn h,
        )))
    they_share false true e f h =
        let parts = may_join_parts c d at.joins in
        inr (inr (inr (
          (
            record { cell = d; is = at.d_is; sort_is = f },
            record
                { cell = c; is = at.c_is; sort_is = hazy_of c parts.0 e },
          ),
          other_side MayBeIn h,
        )))
    they_share false false e f h =
        let parts = may_join_parts c d at.joins in
        inr (inl (
          (
            record { cell = c; is = at.c_is; sort_is = hazy_of c parts.0 e },
            record
                { cell = d; is = at.d_is; sort_is = hazy_of d parts.1.0 f },
          ),
          one_side MayMeet h,
        ))

    they_must : AreOne a b p q ⊎ IsPairedAs a b p q c d → MustShare a b pairs result m n
    they_must (inl h) = inl (one_side MayBeOne h)
    they_must (inr h) = they_share (is_known c) (is_known d) refl refl h

  said_one : (m n : ℕ) → m ≢ n → WantsOne a b pairs result.cells m n → MayJoin result m n × OnOneSide MayBeOne a b pairs m n
  said_one m n differ w = (they_join m n w.p w.q w.c w.d w.at differ, one_side m n w.p w.q w.c w.d w.at MayBeOne w.one)

  said_share : (m n : ℕ) → m ≢ n → WantsShare a b pairs result.cells m n → MayJoin result m n × MustShare a b pairs result m n
  said_share m n differ w = (they_join m n w.p w.q w.c w.d w.at differ, they_must m n w.p w.q w.c w.d w.at w.shares)

  -- to ids that are wanted

  module _ (m n : ℕ) (join : MayJoin result m n) where
    abbrev c : Cell
    c = join.first.cell

    abbrev d : Cell
    d = join.second.cell

    cells_join : may_join_cells c d ≡ true
    cells_join =
        and_from (is_reference c && is_reference d) (not (is_known c && is_known d))
        (and_from (is_reference c) (is_reference d) join.first.sort_is join.second.sort_is)
        (not_both_true (is_known c) (is_known d)
        (λ h k. join.not_both (record { cell = c; is = join.first.is; sort_is = h })
        (record { cell = d; is = join.second.is; sort_is = k })))

    join_at : (p q : ℕ × ℕ) → slice_get pairs m ≡ Some p → slice_get pairs n ≡ Some q → MayJoinAt pairs result.cells m n p q c d
    join_at p q e f = record {
      p_is = e;
      q_is = f;
      c_is = join.first.is;
      d_is = join.second.is;
      joins = cells_join;
    }

    wanted_one : OnOneSide MayBeOne a b pairs m n → WantsOne a b pairs result.cells m n
    wanted_one h = record { p = h.p; q = h.q; c = c; d = d; at = join_at h.p h.q h.first h.second; one = h.side }

    paired_by : (p q : ℕ × ℕ) (s t : Bool) → is_known c ≡ s → is_known d ≡ t → IsPairedBy s t a b p q → IsPairedAs a b p q c d
    paired_by p q s t e f h =
        subst (λ (x : Bool). IsPairedBy x (is_known d) a b p q) (sym e)
        (subst (λ (y : Bool). IsPairedBy s y a b p q) (sym f) h)

    first_known : HasCell is_known result m → is_known c ≡ true
    first_known h = sort_at is_known m c join.first.is h

    second_known : HasCell is_known result n → is_known d ≡ true
    second_known h = sort_at is_known n d join.second.is h

    first_hazy : HasCell is_hazy result m → is_known c ≡ false
    first_hazy h = hazy_not_known c (sort_at is_hazy m c join.first.is h)

    second_hazy : HasCell is_hazy result n → is_known d ≡ false
    second_hazy h = hazy_not_known d (sort_at is_hazy n d join.second.is h)

    wanted_share : MustShare a b pairs result m n → WantsShare a b pairs result.cells m n
    wanted_share (inl h) = record { p = h.p; q = h.q; c = c; d = d; at = join_at h.p h.q h.first h.second; shares = inl h.side }
    wanted_share (inr (inl h)) =
        let side = h.1 in
        record {
          p = side.p;
          q = side.q;
          c = c;
          d = d;
          at = join_at side.p side.q side.first side.second;
          shares = inr (paired_by side.p side.q false false (first_hazy h.0.0) (second_hazy h.0.1) side.side);
        }
    wanted_share (inr (inr (inl h))) =
        let side = h.1 in
        record {
          p = side.p;
          q = side.q;
          c = c;
          d = d;
          at = join_at side.p side.q side.first side.second;
          shares = inr (paired_by side.p side.q true false (first_known h.0.0) (second_hazy h.0.1) side.side);
        }
    wanted_share (inr (inr (inr h))) =
        let side = h.1 in
        record {
          p = side.q;
          q = side.p;
          c = c;
          d = d;
          at = join_at side.q side.p side.second side.first;
          shares = inr (paired_by side.q side.p false true (first_hazy h.0.1) (second_known h.0.0) side.side);
        }

  -- the two lists

  more : (m n : ℕ) → m < n → m ≢ n
  more m n l e = absurd (omega (arith, l, e))

  below : (m n : ℕ) → n ≤ m → m ≢ n → n < m
  below m n l d = omega (arith, l, d)

  eq_is : (m n : ℕ) → AreEqual result m n ↔ (MayJoin result m n × OnOneSide MayBeOne a b pairs m n)
  eq_is m n = (
    λ h. elim (in_order (WantsOne a b pairs result.cells) result.eq paired.eq m n h) [
      | inl w ↦ said_one m n (more m n w.1) w.0
      | inr w ↦ said_one_turned a b pairs result n m (said_one n m (more n m w.1) w.0)
    ],
    λ h. elim (cases_lt m n) [
      | inl l ↦ (paired.eq.each m n l).1 (wanted_one m n h.0 h.1)
      | inr l ↦
          let back = said_one_turned a b pairs result m n h in
          let other : n < m = below m n l h.0.differ in
          has_swapped n m result.eq ∙ (paired.eq.each n m other).1 (wanted_one n m back.0 back.1)
    ],
  )

  share_is : (m n : ℕ) → Share result m n ↔ (MayJoin result m n × MustShare a b pairs result m n)
  share_is m n = (
    λ h. elim (in_order (WantsShare a b pairs result.cells) result.share paired.share m n h) [
      | inl w ↦ said_share m n (more m n w.1) w.0
      | inr w ↦ said_share_turned a b pairs result n m (said_share n m (more n m w.1) w.0)
    ],
    λ h. elim (cases_lt m n) [
      | inl l ↦ (paired.share.each m n l).1 (wanted_share m n h.0 h.1)
      | inr l ↦
          let back = said_share_turned a b pairs result m n h in
          let other : n < m = below m n l h.0.differ in
          has_swapped n m result.share ∙ (paired.share.each n m other).1 (wanted_share n m back.0 back.1)
    ],
  )

  pub is_widening : ArePairs a b pairs → length pairs ≤ 512 → AreIdsRising 0 left.cells → IsWidening types a b result
  is_widening are few rising = record {
    pairs = pairs;
    are_pairs = are;
    few = few;
    is = record {
      merged = merged;
      is_merged = is;
      dropped = bare_dropped;
      rising = subst (AreIdsRising 0) (sym paired.cells) rising;
      eq = eq_is;
      share = share_is;
    };
  }

-- ---- for the calls

-- both ids of pairs have cells
pub all_within : (types : WorldTypes) (a b : AbstractState) (pairs : List (ℕ × ℕ)) → AllByRecursion (ArePairCells types a b) pairs
    → AllByRecursion (IsWithin a b) pairs
all_within types a b [] h = tt
all_within types a b (p ∷ pairs) h =
    let cells = h.0 in (
      record {
        first = record { cell = cells.p; is = cells.of.first; sort_is = refl };
        second = record { cell = cells.q; is = cells.of.second; sort_is = refl };
      },
      all_within types a b pairs h.1,
    )

-- a state that is made of its parts
pub merged_of : (types : WorldTypes) (a b : AbstractState) (pairs : List (ℕ × ℕ)) (frames : List AbstractFrame) (thrown : Option ℕ)
    (cells : List (ℕ × Cell)) (eq share : List (ℕ × ℕ)) (made : AbstractState)
    → made ≡ record { frames = reverse frames; throwing = thrown; cells = cells; eq = eq; share = share }
    → reverse frames ≡ merged_frames a b pairs a.frames b.frames
    → thrown ≡ option_map (number_of pairs) (thrown_pair a.throwing b.throwing)
    → (length cells ≡ length pairs) × AreMergedCells types a b pairs cells → eq ≡ [] → share ≡ [] → IsMerged types a b pairs made
merged_of types a b pairs frames thrown cells eq share made e f t c none empty =
    subst (IsMerged types a b pairs) (sym e) (record { frames = f; throwing = t; long = c.0; cells = c.1; eq = none; share = empty })

-- a state that is given its pairs
pub paired_of : (a b : AbstractState) (pairs : List (ℕ × ℕ)) (left : AbstractState) (frames : List AbstractFrame)
    (thrown : Option ℕ) (cells : List (ℕ × Cell)) (eq share : List (ℕ × ℕ)) (made : AbstractState)
    → made ≡ record { frames = reverse frames; throwing = thrown; cells = cells; eq = eq; share = share }
    → reverse frames ≡ merged_frames a b pairs a.frames b.frames → thrown ≡ left.throwing → cells ≡ left.cells
    → AreJoined (WantsOne a b pairs left.cells) eq × AreJoined (WantsShare a b pairs left.cells) share → IsPaired a b pairs left made
paired_of a b pairs left frames thrown cells eq share made e f t c j =
    subst (IsPaired a b pairs left) (sym e) (record {
      frames = f;
      throwing = t;
      cells = c;
      eq = subst (λ (l : List (ℕ × Cell)). AreJoined (WantsOne a b pairs l) eq) (sym c) j.0;
      share = subst (λ (l : List (ℕ × Cell)). AreJoined (WantsShare a b pairs l) share) (sym c) j.1;
    })
