-- Pairs whose keys rise, as the cells of ids and the images of ids are, and where a key stands among them.
use Rattle.std.specs.Prelude.{◌≡◌, ℕ, suc, ◌<◌, ◌≤◌, List, [], ◌∷◌, length, slice_index_or}

-- the keys of a list of pairs rise, from a number on
abbrev pub AreKeysRising : {X : Type 0} → ℕ → List (ℕ × X) → Type 0
AreKeysRising low [] = Unit {0}
AreKeysRising low (pair ∷ pairs) = (low ≤ pair.0) × AreKeysRising (suc pair.0) pairs

-- an id is the key of the pair at a place of a list
abbrev pub IsKeyAt : {X : Type 0} → List (ℕ × X) → ℕ → ℕ → Type 0
IsKeyAt pairs id k = (k < length pairs) × ((d : ℕ × _) → (slice_index_or pairs k d).0 ≡ id)

-- an id is the key of no pair of a list
abbrev pub IsNoKey : {X : Type 0} → List (ℕ × X) → ℕ → Type 0
IsNoKey pairs id = (k : ℕ) (d : ℕ × _) → k < length pairs → (slice_index_or pairs k d).0 ≡ id → ⊥
