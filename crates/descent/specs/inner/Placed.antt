-- How a split is tested: each rule of the set beside its place.
use Rattle.std.specs.Prelude.{ℕ, ◌&&◌, List, [], ◌∷◌, Option, Some, None, if◌then◌else◌, map}
use Rattle.descent.specs.declared.faults.DescentFault.{DescentFault}
use Rattle.descent.specs.declared.rules.PathRule.{PathRule}
use Rattle.descent.specs.Splits.{place_in, is_followed, is_below, back_fault, loops_at, least_of_two}

-- a number that may be missing, and one more that may be
abbrev pub lesser : Option ℕ → Option ℕ → Option ℕ
lesser None other = other
lesser (Some n) other = Some (least_of_two n other)

abbrev pub Placed : Type 0
Placed = List (ℕ × Option ℕ)

abbrev pub placed_of : List (List ℕ) → List ℕ → Placed
placed_of parts set = map (λ (rule : ℕ). (rule, place_in parts rule)) set

abbrev pub lower_among : List PathRule → ℕ → Option ℕ → Placed → Option ℕ
lower_among rules rule place [] = None
lower_among rules rule place (entry ∷ rest) = if is_followed rules rule entry.0 && is_below entry.1 place then Some entry.0 else
    lower_among rules rule place rest

abbrev pub back_among : List PathRule → Placed → Placed → Option DescentFault
back_among rules all [] = None
back_among rules all (entry ∷ rest) = back_fault entry.0 (lower_among rules entry.0 entry.1 all) (back_among rules all rest)

abbrev pub loop_among : List PathRule → List (List ℕ) → List (Option ℕ) → Placed → Option ℕ
loop_among rules parts steps [] = None
loop_among rules parts steps (entry ∷ rest) = if loops_at rules parts steps entry.0 entry.1 then Some entry.0 else loop_among rules
    parts steps rest
