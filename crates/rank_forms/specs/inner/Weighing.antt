-- Words of private calls: how classes are listed, each once.
use Rattle.std.specs.Prelude.{ℕ, suc, ℤ, pos, ◌++◌, List, [], ◌∷◌, if◌then◌else◌, nat_lt}

-- each class once, from a number on
abbrev pub one_at : ℕ → ℕ → List (ℕ × ℤ)
one_at class low = if nat_lt class low then [] else (class, pos 1) ∷ []

abbrev pub next_low : ℕ → ℕ → ℕ
next_low class low = if nat_lt class low then low else suc class

abbrev pub ones_from : ℕ → List ℕ → List (ℕ × ℤ)
ones_from low [] = []
ones_from low (class ∷ rest) = one_at class low ++ ones_from (next_low class low) rest
