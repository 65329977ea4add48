-- How the rules that one rule reaches are marked: by groups of rules that start at one cut. Each group stands at its first rule.
use Rattle.std.specs.Prelude.{ℕ, suc, ◌==◌, ◌&&◌, not, Bool, true, false, List, [], ◌∷◌, ◌++◌, Option, Some, None, if◌then◌else◌}
use Rattle.std.specs.Prelude.{get_or, length, nat_lt, slice_set}
use Rattle.descent.specs.declared.rules.PathRule.{PathRule}

-- the first rule that starts at a cut; the rules are counted from n
abbrev pub first_from : ℕ → ℕ → List PathRule → Option ℕ
first_from cut n [] = None
first_from cut n (rule ∷ rest) = if rule.from == cut then Some n else first_from cut (suc n) rest

-- all of them
abbrev pub all_from : ℕ → ℕ → List PathRule → List ℕ
all_from cut n [] = []
all_from cut n (rule ∷ rest) = if rule.from == cut then n ∷ all_from cut (suc n) rest else all_from cut (suc n) rest

-- for each rule the first of those that start where it ends
abbrev pub next_of : List PathRule → List PathRule → List (Option ℕ)
next_of rules [] = []
next_of rules (rule ∷ rest) = first_from rule.to 0 rules ∷ next_of rules rest

abbrev pub is_at : ℕ → Option ℕ → Bool
is_at n None = false
is_at n (Some first) = first == n

-- rule n with those that start where it does, if it is the first of them
abbrev pub group_at : List PathRule → ℕ → PathRule → List ℕ
group_at rules n rule = if is_at n (first_from rule.from 0 rules) then all_from rule.from 0 rules else []

abbrev pub groups_of : List PathRule → ℕ → List PathRule → List (List ℕ)
groups_of rules n [] = []
groups_of rules n (rule ∷ rest) = group_at rules n rule ∷ groups_of rules (suc n) rest

-- the marks of the groups that are come to, and the groups that are still to be gone on from
abbrev pub Noted : Type 0
Noted = List Bool × List ℕ

-- a group that may be come to for the first time
abbrev pub noted : Option ℕ → Noted → Noted
noted None notes = notes
noted (Some group) notes = if nat_lt group (length notes.0) && not (get_or notes.0 group false) then
    (slice_set notes.0 group true, notes.1 ++ group ∷ []) else notes

-- the marks of the rules, and what is noted of groups
abbrev pub Front : Type 0
Front = List Bool × Noted

-- the rules of a group are marked
abbrev pub spread : List (Option ℕ) → List ℕ → Front → Front
spread next [] front = front
spread next (rule ∷ rest) front = spread next rest (slice_set front.0 rule true, noted (get_or next rule None) front.1)
