-- Paths over numbered places, in heaps and in abstract states alike.
use Rattle.std.specs.Prelude.{◌≡◌, ℕ, List, [], ◌∷◌, Option, Some}
use Rattle.std.specs.Option.{option_and_then}

-- where each numbered step of each place leads, if it leads anywhere
abbrev pub Steps : Type 0
Steps = ℕ → ℕ → Option ℕ

-- where a path from a place leads: its steps one after another
abbrev pub follow : Steps → List ℕ → ℕ → Option ℕ
follow steps [] a = Some a
follow steps (i ∷ path) a = option_and_then (follow steps path) (steps a i)

-- some path leads from `a` to `b`; the empty one leads from a place to itself
pub record Reaches (steps : Steps) (a b : ℕ) : Type 0 where
  pub path : List ℕ
  pub leads : follow steps path a ≡ Some b

-- one path, the empty one counted, leads from `a` to each place that it reaches
abbrev pub IsTreeFrom : Steps → ℕ → Type 0
IsTreeFrom steps a = (p q : List ℕ) (b : ℕ) → follow steps p a ≡ Some b → follow steps q a ≡ Some b → p ≡ q

-- no nonempty path leads from a place that `a` reaches back to that place
abbrev pub IsDagFrom : Steps → ℕ → Type 0
IsDagFrom steps a = (p : List ℕ) (b : ℕ) → follow steps p a ≡ Some b → (q : List ℕ) → follow steps q b ≡ Some b → q ≡ []
