-- Cells with their numbers, one more of them.
use Rattle.std.proofs.Common.{◌≡◌, ◌⊎◌, ℕ, zero, suc, ◌+◌, ◌<◌, ◌≤◌, List, [], ◌∷◌, ◌++◌, length, get_or, length-append, Option}
use Rattle.std.proofs.Common.{Some, refl, sym, ap, subst, ◌∙◌, inl, inr, arith}
use Rattle.std.specs.Prelude.{slice_get, MatchOption}
use Rattle.std.specs.List.{AllByRecursion}
use Rattle.std.proofs.lemmas.Option.{none-some}
use Rattle.jvm_values.proofs.Options.{some_is}
use Rattle.jvm_values.specs.TypedHeaps.{WorldTypes}
use Rattle.abs_cells.specs.declared.cells.Cell.{Cell}
use Rattle.abs_cells.specs.AbstractStates.{AbstractState}
use Rattle.abs_widen.specs.Widening.{IsMergedCell, AreMergedCells}

-- an item of a list with one more item
slice_last : {A : Type 0} (xs : List A) (x : A) (k : ℕ) (y : A) → slice_get (xs ++ x ∷ []) k ≡ Some y
    → (slice_get xs k ≡ Some y) ⊎ ((k ≡ length xs) × (x ≡ y))
slice_last [] x zero y e = inr (refl, some_is e)
slice_last [] x (suc k) y e = absurd (none-some y e)
slice_last (u ∷ xs) x zero y e = inl e
slice_last (u ∷ xs) x (suc k) y e = elim (slice_last xs x k y e) [
  | inl h ↦ inl h
  | inr h ↦ inr (ap suc h.0, h.1)
]

-- what holds of all items holds at each place
pub holds_at : {A : Type 0} (P : A → Type 0) (xs : List A) (n : ℕ) (d : A) → AllByRecursion P xs → n < length xs → P (get_or xs n d)
holds_at P [] n d h l = absurd (omega (arith, l))
holds_at P (x ∷ xs) zero d h l = h.0
holds_at P (x ∷ xs) (suc n) d h l = holds_at P xs n d h.1 (omega (arith, l))

module _ (types : WorldTypes) (a b : AbstractState) (pairs : List (ℕ × ℕ)) where
  pub merged_none : AreMergedCells types a b pairs []
  merged_none n pair entry e f = absurd (none-some entry f)

  pub merged_more : (cells : List (ℕ × Cell)) (n : ℕ) (pair : ℕ × ℕ) (cell : Cell) → length cells ≡ n
      → slice_get pairs n ≡ Some pair → IsMergedCell types a b pairs pair cell
      → AreMergedCells types a b pairs cells → AreMergedCells types a b pairs (cells ++ (n, cell) ∷ [])
  merged_more cells n pair cell long is made all k other entry e f = elim (slice_last cells (n, cell) k entry f) [
    | inl h ↦ all k other entry e h
    | inr h ↦
        let at : k ≡ n = h.0 ∙ long in
        let same : pair ≡ other = some_is (sym is ∙ ap (slice_get pairs) (sym at) ∙ e) in (
          ap (λ (x : ℕ × Cell). x.0) (sym h.1) ∙ sym at,
          subst (λ (x : ℕ × Cell). IsMergedCell types a b pairs other x.1) h.1
              (subst (λ (p : ℕ × ℕ). IsMergedCell types a b pairs p cell) same made),
        )
  ]

  pub merged_goes : (cells new : List (ℕ × Cell)) (n : ℕ) (pair : ℕ × ℕ) (cell : Cell) (found : Option Cell) → found ≡ Some cell
      → MatchOption found ⊥ (λ made. IsMergedCell types a b pairs pair made)
      → slice_get pairs n ≡ Some pair → new ≡ cells ++ (n, cell) ∷ [] → (length cells ≡ n) × AreMergedCells types a b pairs cells
      → (length new ≡ n + 1) × AreMergedCells types a b pairs new
  merged_goes cells new n pair cell found e made is goes before =
      let long : length (cells ++ (n, cell) ∷ []) ≡ length cells + 1 = length-append cells ((n, cell) ∷ []) in
      let here = subst (λ (o : Option Cell). MatchOption o ⊥ (λ made. IsMergedCell types a b pairs pair made)) e made in (
        ap length goes ∙ long ∙ ap (λ (k : ℕ). k + 1) before.0,
        subst (AreMergedCells types a b pairs) (sym goes) (merged_more cells n pair cell before.0 is here before.1),
      )

  pub merged_ends : (cells : List (ℕ × Cell)) (n : ℕ) → length pairs ≤ n → n ≤ length pairs
      → (length cells ≡ n) × AreMergedCells types a b pairs cells → (length cells ≡ length pairs) × AreMergedCells types a b pairs cells
  merged_ends cells n l m h = let e = h.0 in (omega (arith, e, l, m), h.1)
