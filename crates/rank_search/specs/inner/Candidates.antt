-- Words of private calls: the forms of one place and of two that come into question, by the numbers of a table.
use Rattle.std.specs.Prelude.{ℕ, ℤ, pos, negsuc, ◌≡◌, ◌<◌, ◌+ℤ◌, ◌*ℤ◌, ◌==◌, ◌&&◌, Bool, true, false, List, [], ◌∷◌, Option, Some}
use Rattle.std.specs.Prelude.{None, if◌then◌else◌, get_or, ◌||◌, int_le, int_lt, unsigned_abs}
use Rattle.descent.specs.declared.rules.PathRule.{PathRule}
use Rattle.descent.specs.declared.rules.Place.{Place}
use Rattle.rank_search.specs.declared.candidates.Candidate.{Candidate}
use Rattle.rank_search.specs.declared.searching.PlainForm.{PlainForm}
use Rattle.rank_search.specs.declared.searching.PlainForm.TheVariants.{Ints, Size}
use Rattle.rank_search.specs.Plain.{IsMultiple, LowersBy, RanksInts, RanksSize}
use Rattle.rank_search.specs.Stepwise.{StepwiseRanks}
use Rattle.rank_forms.specs.rule_links.Ties.{IsMoved}

-- a form of the ints at two places, by their numbers in the list of places
abbrev pub value_of : Option ℤ → Option ℤ → ℤ → ℤ → Option ℤ
value_of None other times more = None
value_of (Some c) None times more = None
value_of (Some c) (Some d) times more = Some (times *ℤ c +ℤ more *ℤ d)

abbrev pub form_value : Candidate → List (Option ℤ) → Option ℤ
form_value form changes = value_of (get_or changes form.one None) (get_or changes form.other None) form.times form.more

abbrev pub is_weak : Option ℤ → Bool
is_weak None = false
is_weak (Some c) = int_le c (pos 0)

abbrev pub is_fall : Option ℤ → Bool
is_fall None = false
is_fall (Some c) = int_lt c (pos 0)

abbrev pub never_rises : Candidate → List (List (Option ℤ)) → Bool
never_rises form [] = true
never_rises form (changes ∷ rest) = is_weak (form_value form changes) && never_rises form rest

abbrev pub falls : Candidate → List (List (Option ℤ)) → Bool
falls form [] = false
falls form (changes ∷ rest) = is_fall (form_value form changes) || falls form rest

abbrev pub ranks_by : Candidate → List (List (Option ℤ)) → Bool
ranks_by form table = never_rises form table && falls form table

-- the multiples from -4 to 4 other than 0
abbrev pub multiple_of : ℕ → ℤ
multiple_of n = if n == 0 then pos 1 else
    (if n == 1 then negsuc 0 else
    (if n == 2 then pos 2 else
    (if n == 3 then negsuc 1 else (if n == 4 then pos 3 else (if n == 5 then negsuc 2 else (if n == 6 then pos 4 else negsuc 3))))))

-- no sum of multiples of two of the first places ranks the rules
abbrev pub NoneOfPair : List (List (Option ℤ)) → ℕ → ℕ → ℕ → Type 0
NoneOfPair table one other count = (n k : ℕ) → n < count → k < 8
    → ranks_by (record { one = one; times = multiple_of n; other = other; more = multiple_of k }) table ≡ false

abbrev pub NoneWithOne : List (List (Option ℤ)) → ℕ → ℕ → Type 0
NoneWithOne table one count = (other : ℕ) → other < count → NoneOfPair table one other 8

abbrev pub NoSum : List (List (Option ℤ)) → ℕ → ℕ → Type 0
NoSum table ones count = (one : ℕ) → one < ones → NoneWithOne table one count

-- no int and no negative of one ranks the rules
abbrev pub NoOne : List (List (Option ℤ)) → ℕ → Type 0
NoOne table count = (i n : ℕ) → i < count → n < 2 → ranks_by (record { one = i; times = multiple_of n; other = i; more = pos 0 })
    table ≡ false

-- a form of one int, or of two, that ranks the rules by the table; the places are below a number
pub record IsOneFound (table : List (List (Option ℤ))) (count : ℕ) (form : Candidate) : Type 0 where
  pub one : form.one < count
  pub other : form.other ≡ form.one
  pub times : unsigned_abs form.times ≡ 1
  pub more : form.more ≡ pos 0
  pub ranks : ranks_by form table ≡ true

pub record IsSumFound (table : List (List (Option ℤ))) (count : ℕ) (form : Candidate) : Type 0 where
  pub one : form.one < count
  pub other : form.other < count
  pub times : IsMultiple form.times
  pub more : IsMultiple form.more
  pub ranks : ranks_by form table ≡ true

-- the form of one place whose falls are the numbers of a table
abbrev pub falling_form : ℕ → Candidate
falling_form one = record { one = one; times = negsuc 0; other = one; more = pos 0 }

abbrev pub NoFall : List (List (Option ℤ)) → List (List (Option ℤ)) → ℕ → Type 0
NoFall weak strict count = (one : ℕ) → one < count → (never_rises (falling_form one) weak && falls (falling_form one) strict) ≡ false

-- no form of a kind ranks the rules
abbrev pub NoInts : List PathRule → Type 0
NoInts rules = (form : List (Place × ℤ)) → RanksInts rules form → ⊥

abbrev pub NoSize : List PathRule → Type 0
NoSize rules = (place : Place) → RanksSize rules place → ⊥

abbrev pub NoSteps : List PathRule → Bool → Type 0
NoSteps rules negative = (place : Place) → StepwiseRanks rules negative place → ⊥

-- a plain form that ranks the rules, with how its ints are found to move
abbrev pub IsTold : List PathRule → PlainForm → Type 0
IsTold rules (Ints form) = LowersBy IsMoved rules form
IsTold rules (Size place) = RanksSize rules place
