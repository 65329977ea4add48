-- A set of rules that is divided into parts. A set is the list of its rules' numbers, rising.
use Rattle.std.specs.Prelude.{ℕ, suc, ◌==◌, ◌&&◌, not, Bool, false, List, [], ◌∷◌, ◌++◌, Option, Some, None, is_none, if◌then◌else◌}
use Rattle.std.specs.Prelude.{nat_lt, slice_get, filter, find}
use Rattle.std.specs.List.{list_any, concat}
use Rattle.descent.specs.declared.faults.DescentFault.{DescentFault}
use Rattle.descent.specs.declared.faults.DescentFault.TheVariants.{NotCovered, BackEdge, Loops}
use Rattle.descent.specs.declared.rules.PathRule.{PathRule}

-- a rule's number is in a list of numbers
abbrev pub has : List ℕ → ℕ → Bool
has set rule = list_any (λ (other : ℕ). other == rule) set

-- a rule stands in some part
abbrev pub stands_in : List (List ℕ) → ℕ → Bool
stands_in parts rule = list_any (λ (part : List ℕ). has part rule) parts

-- a rule stands exactly once in a part
abbrev pub stands_once : List ℕ → ℕ → Bool
stands_once [] rule = false
stands_once (other ∷ rest) rule = if other == rule then not (has rest rule) else stands_once rest rule

-- the part in which the rule stands, counted from `n`, where it stands exactly once in all parts
abbrev pub place_from : ℕ → List (List ℕ) → ℕ → Option ℕ
place_from n [] rule = None
place_from n (part ∷ rest) rule = if has part rule then
    (if stands_once part rule && not (stands_in rest rule) then Some n else None) else place_from (suc n) rest rule

-- the part in which a rule stands, counted from 0, where it stands exactly once in all parts
abbrev pub place_in : List (List ℕ) → ℕ → Option ℕ
place_in parts rule = place_from 0 parts rule

-- a rule of the set that doesn't stand exactly once in the parts, or one of the parts that isn't in the set
abbrev pub is_misplaced : List ℕ → List (List ℕ) → ℕ → Bool
is_misplaced set parts rule = if has set rule then is_none (place_in parts rule) else stands_in parts rule

-- the lesser of a number and of one that may be missing
abbrev pub least_of_two : ℕ → Option ℕ → ℕ
least_of_two n None = n
least_of_two n (Some m) = if nat_lt m n then m else n

-- the least number of a list, if it has one
abbrev pub least : List ℕ → Option ℕ
least [] = None
least (n ∷ rest) = Some (least_of_two n (least rest))

-- the least rule that stands in the set and not exactly once in the parts, or in the parts and not in the set
abbrev pub uncovered : List ℕ → List (List ℕ) → Option ℕ
uncovered set parts = least (filter (is_misplaced set parts) (set ++ concat parts))

-- of two rules that are there, the first ends at the cut at which the second starts
abbrev pub meet_at : Option PathRule → Option PathRule → Bool
meet_at None next = false
meet_at (Some rule) None = false
meet_at (Some rule) (Some next) = rule.to == next.from

-- rule `next` may come right after rule `rule`: the one ends at the cut at which the other starts
abbrev pub is_followed : List PathRule → ℕ → ℕ → Bool
is_followed rules rule next = meet_at (slice_get rules rule) (slice_get rules next)

-- of two places that are there, the first is below the second
abbrev pub is_below : Option ℕ → Option ℕ → Bool
is_below None place = false
is_below (Some n) None = false
is_below (Some n) (Some m) = nat_lt n m

-- the first rule of the set that follows the rule and stands in a lower part
abbrev pub lower_one : List PathRule → List ℕ → List (List ℕ) → ℕ → Option ℕ
lower_one rules set parts rule = find
    (λ (next : ℕ). is_followed rules rule next && is_below (place_in parts next) (place_in parts rule)) set

-- a rule that is followed by this one of a lower part is a fault; a rule that isn't leaves it to the later rules
abbrev pub back_fault : ℕ → Option ℕ → Option DescentFault → Option DescentFault
back_fault rule None rest = rest
back_fault rule (Some next) rest = Some (BackEdge rule next)

-- the first of these rules that is followed by one of a lower part, with the rule that follows it
abbrev pub back_edge : List PathRule → List ℕ → List (List ℕ) → List ℕ → Option DescentFault
back_edge rules set parts [] = None
back_edge rules set parts (rule ∷ rest) = back_fault rule (lower_one rules set parts rule) (back_edge rules set parts rest)

-- the part has one rule, which doesn't follow itself
abbrev pub is_lone : List PathRule → ℕ → List ℕ → Bool
is_lone rules rule [] = false
is_lone rules rule (only ∷ []) = not (is_followed rules rule rule)
is_lone rules rule (one ∷ more ∷ rest) = false

-- a rule may be taken again and again in its part: no step takes the part, and the rule isn't alone in it or follows itself
abbrev pub loops_in : List PathRule → ℕ → Option (List ℕ) → Option (Option ℕ) → Bool
loops_in rules rule (Some part) (Some None) = not (is_lone rules rule part)
loops_in rules rule part step = false

-- a rule may be taken again and again in the part at which it stands; a rule without a place can't
abbrev pub loops_at : List PathRule → List (List ℕ) → List (Option ℕ) → ℕ → Option ℕ → Bool
loops_at rules parts steps rule None = false
loops_at rules parts steps rule (Some place) = loops_in rules rule (slice_get parts place) (slice_get steps place)

-- the first rule of the set that stands in a part that no step takes, and isn't alone there or follows itself
abbrev pub first_loop : List PathRule → List ℕ → List (List ℕ) → List (Option ℕ) → Option ℕ
first_loop rules set parts steps = find (λ (rule : ℕ). loops_at rules parts steps rule (place_in parts rule)) set

-- a rule that may be taken again and again where no step looks is a fault
abbrev pub loop_fault : Option ℕ → Option DescentFault
loop_fault None = None
loop_fault (Some rule) = Some (Loops rule)

-- the first of two faults, each of which may be missing
abbrev pub edge_fault : Option DescentFault → Option DescentFault → Option DescentFault
edge_fault None later = later
edge_fault (Some fault) later = Some fault

-- a rule that the parts don't cover comes before the later faults
abbrev pub cover_fault : Option ℕ → Option DescentFault → Option DescentFault
cover_fault None later = later
cover_fault (Some rule) later = Some (NotCovered rule)

-- why the parts, with their steps, are no split of the set: a rule isn't covered; or a rule is followed by one of a lower part; or a part
-- that no step takes has a rule that may be taken again
abbrev pub split_fault : List PathRule → List ℕ → List (List ℕ) → List (Option ℕ) → Option DescentFault
split_fault rules set parts steps = cover_fault (uncovered set parts)
    (edge_fault (back_edge rules set parts set) (loop_fault (first_loop rules set parts steps)))
