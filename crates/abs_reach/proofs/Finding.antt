-- Ids among cells that rise.
use Rattle.std.proofs.Common.{◌≡◌, ℕ, suc, ◌<◌, List, [], ◌∷◌, length, get_or, Some, None, refl}
use Rattle.abs_cells.specs.declared.cells.Cell.{Cell}
use Rattle.abs_cells.specs.Cells.{cell_in}
use Rattle.abs_cells.specs.Sound.{AreIdsRising}
use Rattle.abs_reach.specs.Keys.{AreKeysRising, IsNoKey}
use Rattle.abs_reach.proofs.Keys as keys

-- the ids of cells are keys that rise
pub ids_are_keys : (low : ℕ) (cells : List (ℕ × Cell)) → AreIdsRising low cells → AreKeysRising low cells
ids_are_keys low [] r = tt
ids_are_keys low (c ∷ cells) r = (r.0, ids_are_keys (suc c.0) cells r.1.1)

pub rises : (low : ℕ) (cells : List (ℕ × Cell)) (j k : ℕ) (d : ℕ × Cell) → AreIdsRising low cells → j < k → k < length cells
    → (get_or cells j d).0 < (get_or cells k d).0
rises low cells j k d r = keys.rises low cells j k d (ids_are_keys low cells r)

pub stands : (low : ℕ) (cells : List (ℕ × Cell)) (id k : ℕ) (d : ℕ × Cell) → AreIdsRising low cells → k < length cells
    → (get_or cells k d).0 ≡ id → cell_in cells id ≡ Some (get_or cells k d).1
stands low cells id k d r = keys.stands cell_in (λ id. refl) (λ c cells id. refl) low cells id k d (ids_are_keys low cells r)

pub none : (cells : List (ℕ × Cell)) (id : ℕ) → IsNoKey cells id → cell_in cells id ≡ None
none cells id = keys.none cell_in (λ id. refl) (λ c cells id. refl) cells id
