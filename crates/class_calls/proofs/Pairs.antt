-- Pairs that are listed.
use Rattle.std.proofs.Common.{◌≡◌, ℕ, zero, suc, ◌+◌, ◌<◌, true, List, [], ◌∷◌, ◌++◌, Some, ◌⊎◌, inl, inr, sym, ap, subst, ◌∙◌, arith}
use Rattle.std.specs.Prelude.{IsTrue, slice_get}
use Rattle.jvm_values.specs.declared.types.Slot.{Slot}
use Rattle.class_world.specs.World.{World}
use Rattle.input_desc.specs.Fitting.{IsListed}
use Rattle.class_calls.specs.declared.describe.inputs.Listed.{Listed}
use Rattle.class_calls.specs.describe.Whole.{is_wanted, ListsAll}
use Rattle.class_calls.specs.describe.inner.Rows.{AreListedTo, AreListedBelow}

-- in either order
pub swapped : (i j : ℕ) (pairs : List (ℕ × ℕ)) → IsListed i j pairs → IsListed j i pairs
swapped i j [] h = absurd h
swapped i j (pair ∷ pairs) (inl h) = inr (inl h)
swapped i j (pair ∷ pairs) (inr (inl h)) = inl h
swapped i j (pair ∷ pairs) (inr (inr h)) = inr (inr (swapped i j pairs h))

-- behind other pairs
pub listed_behind : (i j : ℕ) (front pairs : List (ℕ × ℕ)) → IsListed i j pairs → IsListed i j (front ++ pairs)
listed_behind i j [] pairs h = h
listed_behind i j (pair ∷ front) pairs h = inr (inr (listed_behind i j front pairs h))

-- one that stands somewhere
pub listed_at : (i j place : ℕ) (pairs : List (ℕ × ℕ)) (pair : ℕ × ℕ) → slice_get pairs place ≡ Some pair → pair.0 ≡ i → pair.1 ≡ j
    → IsListed i j pairs
listed_at i j place [] pair e f g = absurd cc
listed_at i j zero (p ∷ pairs) pair e f g = let same : p ≡ pair = cc in inl
    (ap (λ (q : ℕ × ℕ). q.0) same ∙ f, ap (λ (q : ℕ × ℕ). q.1) same ∙ g)
listed_at i j (suc place) (p ∷ pairs) pair e f g = inr (inr (listed_at i j place pairs pair e f g))

-- one input more
pub listed_more : (world : World) (listed : Listed) (slots' : List Slot) (pairs : List (ℕ × ℕ)) (j count : ℕ) (a b : Slot)
    → slice_get slots' count ≡ Some a → slice_get slots' j ≡ Some b → (IsTrue (is_wanted world listed a b) → IsListed count j pairs)
    → AreListedTo world listed slots' pairs j count → AreListedTo world listed slots' pairs j (count + 1)
listed_more world listed slots' pairs j count a b at_a at_b one all i c d l at_c at_d wanted = go (split i count l)
  where
    split : (i count : ℕ) → i < count + 1 → (i < count) ⊎ (i ≡ count)
    split i zero l = inr (omega (arith, l))
    split zero (suc count) l = inl (omega arith)
    split (suc i) (suc count) l = more (split i count (omega (arith, l)))
      where
        more : (i < count) ⊎ (i ≡ count) → (suc i < suc count) ⊎ (suc i ≡ suc count)
        more (inl k) = inl (omega (arith, k))
        more (inr k) = inr (ap suc k)

    here : i ≡ count → IsListed i j pairs
    here same =
        let c_is : a ≡ c = let k : Some a ≡ Some c = sym at_a ∙ ap (slice_get slots') (sym same) ∙ at_c in cc in
        let d_is : b ≡ d = let k : Some b ≡ Some d = sym at_b ∙ at_d in cc in
        let both : is_wanted world listed a b ≡ true = ap (λ x. is_wanted world listed x b) c_is
        ∙ ap (is_wanted world listed c) d_is ∙ wanted in
        subst (λ n. IsListed n j pairs) (sym same) (one both)

    go : (i < count) ⊎ (i ≡ count) → IsListed i j pairs
    go (inl k) = all i c d k at_c at_d wanted
    go (inr k) = here k

-- one row more
pub rows_more : (world : World) (listed : Listed) (slots' : List Slot) (pairs : List (ℕ × ℕ)) (count : ℕ)
    → AreListedTo world listed slots' pairs count count → AreListedBelow world listed slots' pairs count
    → AreListedBelow world listed slots' pairs (count + 1)
rows_more world listed slots' pairs count one all j l i a b k at_a at_b wanted = go (split j count l)
  where
    split : (j count : ℕ) → j < count + 1 → (j < count) ⊎ (j ≡ count)
    split j zero l = inr (omega (arith, l))
    split zero (suc count) l = inl (omega arith)
    split (suc j) (suc count) l = more (split j count (omega (arith, l)))
      where
        more : (j < count) ⊎ (j ≡ count) → (suc j < suc count) ⊎ (suc j ≡ suc count)
        more (inl m) = inl (omega (arith, m))
        more (inr m) = inr (ap suc m)

    go : (j < count) ⊎ (j ≡ count) → IsListed i j pairs
    go (inl m) = all j m i a b k at_a at_b wanted
    go (inr m) = subst (λ n. IsListed i n pairs) (sym m)
        (one i a b (subst (λ n. i < n) m k) at_a (ap (slice_get slots') (sym m) ∙ at_b) wanted)

-- all rows
pub all_rows : (world : World) (listed : Listed) (slots' : List Slot) (pairs : List (ℕ × ℕ)) (count : ℕ)
    → ((j : ℕ) (b : Slot) → slice_get slots' j ≡ Some b → j < count) → AreListedBelow world listed slots' pairs count
    → ListsAll world listed slots' pairs
all_rows world listed slots' pairs count within all i j a b l at_a at_b wanted = all j (within j b at_b) i a b l at_a at_b wanted
