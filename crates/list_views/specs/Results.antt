-- Steps of which each may have a fault, one after another, and what a call answers to them that may want memory.
use Rattle.std.specs.Prelude.{◌≡◌, Bool, List, [], ◌∷◌, Option, Some, None, Result, Ok, Err, MatchBool, if◌then◌else◌}

-- ---- steps

infixl 10 ◌>>=◌
-- one step and then the next, which is given what the first one answered; the fault of the first is the fault of both
abbrev pub ◌>>=◌ : {A B E : Type 0} → Result A E → (A → Result B E) → Result B E
(Ok x) >>= next = next x
(Err fault) >>= next = Err fault

-- a step's value in another form
abbrev pub mapped : {A B E : Type 0} → (A → B) → Result A E → Result B E
mapped f (Ok x) = Ok (f x)
mapped f (Err fault) = Err fault

-- a step's fault in another form
abbrev pub with_fault : {A E F : Type 0} → (E → F) → Result A E → Result A F
with_fault f (Ok x) = Ok x
with_fault f (Err fault) = Err (f fault)

-- what is there, else a fault
abbrev pub wanted : {A E : Type 0} → E → Option A → Result A E
wanted fault (Some x) = Ok x
wanted fault None = Err fault

-- nothing where a test holds, else a fault
abbrev pub required : {E : Type 0} → E → Bool → Result (Unit {0}) E
required fault test = if test then Ok tt else Err fault

-- the fault if there is one, else the next step
abbrev pub unless : {A E : Type 0} → Option E → Result A E → Result A E
unless (Some fault) next = Err fault
unless None next = next

-- a step for each item of a list, up to the first fault
abbrev pub each : {A B E : Type 0} → (A → Result B E) → List A → Result (List B) E
each step [] = Ok []
each step (x ∷ xs) = step x >>= λ y. each step xs >>= λ ys. Ok (y ∷ ys)

-- ---- answers

-- What a call answers, seen by `view`, is what is due.
abbrev pub Answers : {X Y E : Type 0} → (X → Y) → Result X E → Result Y E → Type 0
Answers view (Ok x) due = due ≡ Ok (view x)
Answers view (Err fault) due = due ≡ Err fault

-- This fault is due, or it is want of memory, which `is_memory` tells.
abbrev pub IsDue : {Y E : Type 0} → (E → Bool) → E → Result Y E → Type 0
IsDue is_memory fault due = MatchBool (is_memory fault) (Unit {0}) (due ≡ Err fault)

-- What a call answers, seen by `view`, is what is due, unless memory ran out.
abbrev pub Gives : {X Y E : Type 0} → (E → Bool) → (X → Y) → Result X E → Result Y E → Type 0
Gives is_memory view (Ok x) due = due ≡ Ok (view x)
Gives is_memory view (Err fault) due = IsDue is_memory fault due

-- This fault is there, or it is want of memory, which `is_memory` tells.
abbrev pub IsFault : {E : Type 0} → (E → Bool) → E → Option E → Type 0
IsFault is_memory found fault = MatchBool (is_memory found) (Unit {0}) (fault ≡ Some found)

-- What a test answers is the fault that is there, if any, unless memory ran out.
abbrev pub Refuses : {X E : Type 0} → (E → Bool) → Result X E → Option E → Type 0
Refuses is_memory (Ok x) fault = fault ≡ None
Refuses is_memory (Err found) fault = IsFault is_memory found fault
