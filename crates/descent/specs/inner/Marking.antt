-- How a split that holds is found by one walk over its parts, with marks of rules and of cuts.
use Rattle.std.specs.Prelude.{ℕ, ◌≡◌, ◌&&◌, ◌||◌, not, Bool, true, false, List, [], ◌∷◌, Option, Some, None, if◌then◌else◌, nat_lt}
use Rattle.std.specs.Prelude.{get_or, slice_get, slice_set, length}
use Rattle.descent.specs.declared.rules.PathRule.{PathRule}
use Rattle.descent.specs.Splits.{is_followed}

-- marks after a walk that went through, or None where it stopped
abbrev pub IsDone : Bool → Option (List Bool) → List Bool → Type 0
IsDone true gave after = gave ≡ Some after
IsDone false gave after = gave ≡ None

-- a mark for each rule of a set
abbrev pub mark_all : List ℕ → List Bool → Option (List Bool)
mark_all [] marks = Some marks
mark_all (rule ∷ rest) marks = if nat_lt rule (length marks) then mark_all rest (slice_set marks rule true) else None

-- the marks of a part's rules are taken away; each rule must have one
abbrev pub take_part : List ℕ → List Bool → Option (List Bool)
take_part [] marks = Some marks
take_part (rule ∷ rest) marks = if get_or marks rule false then take_part rest (slice_set marks rule false) else None

abbrev pub then_marks : (List Bool → Option (List Bool)) → Option (List Bool) → Option (List Bool)
then_marks next None = None
then_marks next (Some marks) = next marks

-- the marks of all parts' rules
abbrev pub take_all : List (List ℕ) → List Bool → Option (List Bool)
take_all [] marks = Some marks
take_all (part ∷ rest) marks = then_marks (λ (left : List Bool). take_all rest left) (take_part part marks)

-- no rule of the set has a mark
abbrev pub all_off : List ℕ → List Bool → Bool
all_off [] marks = true
all_off (rule ∷ rest) marks = not (get_or marks rule false) && all_off rest marks

-- the rule ends at a marked cut
abbrev pub ends_marked : Option PathRule → List Bool → Bool
ends_marked None marks = false
ends_marked (Some rule) marks = get_or marks rule.to false

abbrev pub enters : List PathRule → List ℕ → List Bool → Bool
enters rules [] marks = false
enters rules (rule ∷ rest) marks = ends_marked (slice_get rules rule) marks || enters rules rest marks

-- a mark for the cut at which the rule starts
abbrev pub mark_start : Option PathRule → List Bool → Option (List Bool)
mark_start None marks = None
mark_start (Some rule) marks = if nat_lt rule.from (length marks) then Some (slice_set marks rule.from true) else None

abbrev pub mark_starts : List PathRule → List ℕ → List Bool → Option (List Bool)
mark_starts rules [] marks = Some marks
mark_starts rules (rule ∷ rest) marks = then_marks (λ (more : List Bool). mark_starts rules rest more)
    (mark_start (slice_get rules rule) marks)

-- no rule of a part ends at a cut at which one of an earlier part starts
abbrev pub flow : List PathRule → List (List ℕ) → List Bool → Option (List Bool)
flow rules [] marks = Some marks
flow rules (part ∷ rest) marks = if enters rules part marks then None else then_marks (λ (more : List Bool). flow rules rest more)
    (mark_starts rules part marks)

-- the part has at most one rule, which doesn't follow itself
abbrev pub is_light : List PathRule → List ℕ → Bool
is_light rules [] = true
is_light rules (only ∷ []) = not (is_followed rules only only)
is_light rules (one ∷ more ∷ rest) = false

-- each part that no step takes is light
abbrev pub all_light : List PathRule → List (List ℕ) → List (Option ℕ) → Bool
all_light rules [] steps = true
all_light rules (part ∷ rest) [] = true
all_light rules (part ∷ rest) (None ∷ more) = is_light rules part && all_light rules rest more
all_light rules (part ∷ rest) (Some step ∷ more) = all_light rules rest more
