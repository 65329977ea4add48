-- Which ids are wanted as pairs, from the tests of their cells.
use Rattle.std.proofs.Common.{◌≡◌, ◌⊎◌, ℕ, ◌<◌, Bool, true, false, List, length, Some, None, Result, Ok, Err, OnOk, refl, sym}
use Rattle.std.proofs.Common.{subst, ◌∙◌, inl, inr}
use Rattle.std.specs.Prelude.{◌↔◌, slice_get, IsTrue, if◌then◌else◌}
use Rattle.std.proofs.lemmas.Bool.{false≢true}
use Rattle.std.proofs.lemmas.Option.{slice_get_within, none-some}
use Rattle.jvm_values.proofs.Options.{some_is}
use Rattle.abs_cells.specs.declared.cells.Cell.{Cell}
use Rattle.abs_cells.specs.AbstractStates.{AbstractState}
use Rattle.abs_cells.specs.PairLists.{added}
use Rattle.abs_cells.specs.Cells.{cell_in}
use Rattle.abs_widen.specs.inner.Pairing.{may_join_cells, IsPairedAs, AreOne, MayJoinAt, WantsOne, WantsShare, IsPut}

-- a pair is put among others where a test says that it is wanted
pub put_is : (wants : ℕ → ℕ → Type 0) (m n : ℕ) (w : Bool) (old new : List (ℕ × ℕ)) → (IsTrue w ↔ wants m n)
    → new ≡ (if w then added m n old else old) → IsPut wants m n old new
put_is wants m n true old new is e = inl (is.0 refl, e)
put_is wants m n false old new is e = inr ((λ x. false≢true (is.1 x)), e)

-- two ids with their pairs and cells
module _ (a b : AbstractState) (pairs : List (ℕ × ℕ)) (cells : List (ℕ × Cell)) (m n : ℕ) (p q : ℕ × ℕ) (first second : Cell)
    (p_is : slice_get pairs m ≡ Some p) (q_is : slice_get pairs n ≡ Some q) (c_is : cell_in cells m ≡ Some first)
    (d_is : cell_in cells n ≡ Some second) where
  at : may_join_cells first second ≡ true → MayJoinAt pairs cells m n p q first second
  at j = record { p_is = p_is; q_is = q_is; c_is = c_is; d_is = d_is; joins = j }

  -- others at these ids are the same
  module _ (r s : ℕ × ℕ) (c d : Cell) (other : MayJoinAt pairs cells m n r s c d) where
    r_is : r ≡ p
    r_is = some_is (sym other.p_is ∙ p_is)

    s_is : s ≡ q
    s_is = some_is (sym other.q_is ∙ q_is)

    first_cell : c ≡ first
    first_cell = some_is (sym other.c_is ∙ c_is)

    second_cell : d ≡ second
    second_cell = some_is (sym other.d_is ∙ d_is)

    joins : may_join_cells first second ≡ true
    joins = subst (λ (x : Cell). may_join_cells x second ≡ true) first_cell
        (subst (λ (y : Cell). may_join_cells c y ≡ true) second_cell other.joins)

    one : AreOne a b r s → AreOne a b p q
    one h = subst (λ (x : ℕ × ℕ). AreOne a b x q) r_is (subst (λ (y : ℕ × ℕ). AreOne a b r y) s_is h)

    paired : IsPairedAs a b r s c d → IsPairedAs a b p q first second
    paired h =
        subst (λ (x : ℕ × ℕ). IsPairedAs a b x q first second) r_is
        (subst (λ (y : ℕ × ℕ). IsPairedAs a b r y first second) s_is
        (subst (λ (x : Cell). IsPairedAs a b r s x second) first_cell
        (subst (λ (y : Cell). IsPairedAs a b r s c y) second_cell h)))

    shared : AreOne a b r s ⊎ IsPairedAs a b r s c d → AreOne a b p q ⊎ IsPairedAs a b p q first second
    shared (inl h) = inl (one h)
    shared (inr h) = inr (paired h)

  pub wants_one : (w : Bool) → (IsTrue w ↔ ((may_join_cells first second ≡ true) × AreOne a b p q))
      → IsTrue w ↔ WantsOne a b pairs cells m n
  wants_one w is = (
    λ t. let h = is.0 t in record { p = p; q = q; c = first; d = second; at = at h.0; one = h.1 },
    λ x. is.1 (joins x.p x.q x.c x.d x.at, one x.p x.q x.c x.d x.at x.one),
  )

  pub wants_share : (w : Bool)
      → (IsTrue w ↔ ((may_join_cells first second ≡ true) × (AreOne a b p q ⊎ IsPairedAs a b p q first second)))
      → IsTrue w ↔ WantsShare a b pairs cells m n
  wants_share w is = (
    λ t. let h = is.0 t in record { p = p; q = q; c = first; d = second; at = at h.0; shares = h.1 },
    λ x. is.1 (joins x.p x.q x.c x.d x.at, shared x.p x.q x.c x.d x.at x.shares),
  )

  pub both_put : (w s : Bool) → (IsTrue w ↔ ((may_join_cells first second ≡ true) × AreOne a b p q))
      → (IsTrue s ↔ ((may_join_cells first second ≡ true) × (AreOne a b p q ⊎ IsPairedAs a b p q first second)))
      → (old new older newer : List (ℕ × ℕ)) → new ≡ (if w then added m n old else old) → newer ≡ (if s then added m n older else older)
      → IsPut (WantsOne a b pairs cells) m n old new × IsPut (WantsShare a b pairs cells) m n older newer
  both_put w s w_is s_is old new older newer e f = (
    put_is (WantsOne a b pairs cells) m n w old new (wants_one w w_is) e,
    put_is (WantsShare a b pairs cells) m n s older newer (wants_share s s_is) f,
  )

-- an id without a cell is wanted with none
module _ (a b : AbstractState) (pairs : List (ℕ × ℕ)) (cells : List (ℕ × Cell)) where
  pub low_unwanted : (m n : ℕ) → cell_in cells m ≡ None → (eq shared : List (ℕ × ℕ)) → IsPut (WantsOne a b pairs cells) m n eq eq
      × IsPut (WantsShare a b pairs cells) m n shared shared
  low_unwanted m n e eq shared = (
    inr ((λ w. none-some w.c (sym e ∙ w.at.c_is)), refl),
    inr ((λ w. none-some w.c (sym e ∙ w.at.c_is)), refl),
  )

  pub one_unwanted : (i n : ℕ) → cell_in cells n ≡ None → WantsOne a b pairs cells i n → ⊥
  one_unwanted i n e w = none-some w.d (sym e ∙ w.at.d_is)

  pub share_unwanted : (i n : ℕ) → cell_in cells n ≡ None → WantsShare a b pairs cells i n → ⊥
  share_unwanted i n e w = none-some w.d (sym e ∙ w.at.d_is)

-- wanted ids have pairs
pub one_within : (a b : AbstractState) (pairs : List (ℕ × ℕ)) (cells : List (ℕ × Cell)) (i j : ℕ) → WantsOne a b pairs cells i j
    → j < length pairs
one_within a b pairs cells i j w = slice_get_within pairs j w.q w.at.q_is

pub share_within : (a b : AbstractState) (pairs : List (ℕ × ℕ)) (cells : List (ℕ × Cell)) (i j : ℕ) → WantsShare a b pairs cells i j
    → j < length pairs
share_within a b pairs cells i j w = slice_get_within pairs j w.q w.at.q_is
