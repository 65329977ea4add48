-- Images among the rising keys of a map.
use Rattle.std.proofs.Common.{◌≡◌, ℕ, ◌<◌, List, length, get_or, Some, None, refl}
use Rattle.abs_reach.specs.Instances.{image_in}
use Rattle.abs_reach.specs.Keys.{AreKeysRising, IsNoKey}
use Rattle.abs_reach.proofs.Keys as keys

pub stands : (low : ℕ) (entries : List (ℕ × ℕ)) (id k : ℕ) (d : ℕ × ℕ) → AreKeysRising low entries → k < length entries
    → (get_or entries k d).0 ≡ id → image_in entries id ≡ Some (get_or entries k d).1
stands = keys.stands image_in (λ id. refl) (λ c entries id. refl)

pub none : (entries : List (ℕ × ℕ)) (id : ℕ) → IsNoKey entries id → image_in entries id ≡ None
none = keys.none image_in (λ id. refl) (λ c entries id. refl)
