-- Sets that are dealt out to steps in the steps' order.
use Rattle.std.specs.Prelude.{◌≤◌, ℕ, zero, suc, Bool, true, false, List, [], ◌∷◌, Some, None}
use Rattle.descent.specs.Steps.{Given}

-- each step below a number has its set, and no other one has
abbrev pub is_dealt : Given → ℕ → Bool
is_dealt [] zero = true
is_dealt [] (suc n) = false
is_dealt (Some set ∷ rest) zero = false
is_dealt (Some set ∷ rest) (suc n) = is_dealt rest n
is_dealt (None ∷ rest) zero = is_dealt rest zero
is_dealt (None ∷ rest) (suc n) = false

-- numbers rise: the first is not below one, and each is above the one before
abbrev pub Rises : ℕ → List ℕ → Type 0
Rises low [] = Unit {0}
Rises low (n ∷ rest) = (low ≤ n) × Rises (suc n) rest
