-- Steps of which each may find nothing, one after another, and what a call answers to them.
use Rattle.std.specs.Prelude.{◌≡◌, Bool, Option, Some, None, option_and_then, if◌then◌else◌}

infixl 10 ◌>>=◌
-- one step and then the next, which is given what the first one found; where the first finds nothing, nothing is
-- found
abbrev pub ◌>>=◌ : {A B : Type 0} → Option A → (A → Option B) → Option B
o >>= next = option_and_then next o

-- a test as a step, after which the next follows where it holds, and nothing is found where it does not
abbrev pub asked : Bool → Option (Unit {0})
asked test = if test then Some tt else None

-- What a call found, seen by `view`, is what there is to find.
abbrev pub Finds : {X Y : Type 0} → (X → Y) → Option X → Option Y → Type 0
Finds view (Some x) there = there ≡ Some (view x)
Finds view None there = there ≡ None
