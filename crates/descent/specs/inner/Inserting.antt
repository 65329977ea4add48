-- How classes are built: rule after rule, by a table that tells which rules reach which.
use Rattle.std.specs.Prelude.{ℕ, zero, suc, ◌≡◌, ◌<◌, Bool, true, false, List, [], ◌∷◌, ◌++◌, if◌then◌else◌, get_or, length, nat_lt}
use Rattle.std.specs.Prelude.{◌&&◌, insert, remove}
use Rattle.descent.specs.declared.rules.PathRule.{PathRule}
use Rattle.descent.specs.Components.{Reaches}

-- row p of the table has a mark for each rule that p reaches
abbrev pub tells : List (List Bool) → ℕ → ℕ → Bool
tells table p q = get_or (get_or table p []) q false

pub record IsRow (rules : List PathRule) (rule : ℕ) (row : List Bool) : Type 0 where
  pub count : length row ≡ length rules
  pub sound : (q : ℕ) → get_or row q false ≡ true → Reaches rules rule q
  pub complete : (q : ℕ) → q < length rules → Reaches rules rule q → get_or row q false ≡ true

pub record IsTable (rules : List PathRule) (table : List (List Bool)) : Type 0 where
  pub count : length table ≡ length rules
  pub rows : (p : ℕ) → p < length rules → IsRow rules p (get_or table p [])

-- the first rule of a class
abbrev pub head_of : List ℕ → ℕ
head_of [] = 0
head_of (rule ∷ rest) = rule

-- a rule that reaches the first class goes into it, or stands before it; else it goes on to the later classes
abbrev pub placed_at : Bool → ℕ → List ℕ → List (List ℕ) → List (List ℕ)
placed_at true rule class rest = (class ++ rule ∷ []) ∷ rest
placed_at false rule class rest = (rule ∷ []) ∷ class ∷ rest

abbrev pub insert_into : List (List Bool) → ℕ → List (List ℕ) → List (List ℕ)
insert_into table rule [] = (rule ∷ []) ∷ []
insert_into table rule (class ∷ rest) = if tells table rule (head_of class) then placed_at (tells table (head_of class) rule) rule
    class rest else class ∷ insert_into table rule rest

-- the first class whose first rule the rule reaches, counted from 0, or their number
abbrev pub first_at : List (List Bool) → ℕ → List (List ℕ) → ℕ
first_at table rule [] = 0
first_at table rule (class ∷ rest) = if tells table rule (head_of class) then 0 else suc (first_at table rule rest)

-- whether the class is there, and its first rule reaches the rule
abbrev pub joins : List (List Bool) → ℕ → List (List ℕ) → ℕ → Bool
joins table rule classes n = nat_lt n (length classes) && tells table (head_of (get_or classes n [])) rule

-- the rule at the end of class n, or as a class of its own before it
abbrev pub put_at : Bool → ℕ → ℕ → List (List ℕ) → List (List ℕ)
put_at true rule n classes = insert (remove classes n) n (get_or classes n [] ++ rule ∷ [])
put_at false rule n classes = insert classes n (rule ∷ [])

-- so many rules from `low` on
abbrev pub insert_all : List (List Bool) → ℕ → ℕ → List (List ℕ) → List (List ℕ)
insert_all table low zero classes = classes
insert_all table low (suc count) classes = insert_all table (suc low) count (insert_into table low classes)
