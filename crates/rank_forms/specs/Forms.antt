-- Forms: the form of each cut that is made of multiples of what stands at places, and how rules are listed with it.
use Rattle.std.specs.Prelude.{ℕ, suc, ℤ, pos, ◌+ℤ◌, ◌≡◌, ◌≤◌, ◌==◌, Bool, List, [], ◌∷◌, ◌++◌, Option, Some, None}
use Rattle.std.specs.Prelude.{if◌then◌else◌, nat_lt, int_lt, slice_get, length}
use Rattle.std.specs.Ordering.{int_eq}
use Rattle.descent.specs.declared.proof.CutForm.{CutForm}
use Rattle.descent.specs.declared.proof.RankRule.{RankRule}
use Rattle.descent.specs.declared.proof.RankRule.TheVariants.{Weak, Strict}
use Rattle.descent.specs.declared.rules.PathRule.{PathRule}
use Rattle.descent.specs.declared.rules.Place.{Place}
use Rattle.descent.specs.declared.rules.SlotForm.{SlotForm}
use Rattle.rank_forms.specs.declared.following.Bound.{Bound}
use Rattle.rank_forms.specs.declared.following.Followed.{Followed}
use Rattle.rank_forms.specs.Following.{IsAlong}
use Rattle.rank_forms.specs.RankSteps.{IsCutOf}
use Rattle.rank_forms.specs.rule_links.Positions.{slot_at}
use Rattle.rank_forms.specs.rule_links.FallLinks.{StepsDown}

-- numbers that rise from one on, all below another one
abbrev pub RiseTo : ℕ → List ℕ → ℕ → Type 0
RiseTo low [] end = low ≤ end
RiseTo low (cut ∷ rest) end = (low ≤ cut) × RiseTo (suc cut) rest end

-- a number is in a list of numbers
abbrev pub IsIn : List ℕ → ℕ → Type 0
IsIn cuts cut = (k : ℕ) × (slice_get cuts k ≡ Some cut)

-- the cuts of the rules, rising
pub record AreCuts (rules : List PathRule) (cuts : List ℕ) : Type 0 where
  pub end : ℕ
  pub rise : RiseTo 0 cuts end
  pub from : (n : ℕ) (rule : PathRule) → slice_get rules n ≡ Some rule → IsIn cuts rule.from
  pub to : (n : ℕ) (rule : PathRule) → slice_get rules n ≡ Some rule → IsIn cuts rule.to
  pub only : (k cut : ℕ) → slice_get cuts k ≡ Some cut → IsCutOf rules cut

-- the slots at a cut: of the first rule that starts or ends there, at its start if it does both; none where no rule does
abbrev pub slots_for : List PathRule → ℕ → List SlotForm
slots_for [] cut = []
slots_for (rule ∷ rest) cut = if rule.from == cut then rule.first else (if rule.to == cut then rule.last else slots_for rest cut)

-- the id of a slot that is there, so many times
abbrev pub id_of : Option SlotForm → ℤ → List (ℕ × ℤ)
id_of None times = []
id_of (Some slot) times = (slot.id, times) ∷ []

-- the ids of the slots of a kind at places, each as often as its place counts
abbrev pub ids_at : List SlotForm → Bool → List (Place × ℤ) → List (ℕ × ℤ)
ids_at slots size [] = []
ids_at slots size (part ∷ rest) = id_of (slot_at slots size part.0) part.1 ++ ids_at slots size rest

-- an id so many times, and nothing where it counts 0 times
abbrev pub alone : ℕ → ℤ → List (ℕ × ℤ)
alone id times = if int_eq times (pos 0) then [] else (id, times) ∷ []

-- two ids in their order; where both are one id, its multiples add up
abbrev pub pair_of : ℕ × ℤ → ℕ × ℤ → List (ℕ × ℤ)
pair_of one other = if nat_lt one.0 other.0 then one ∷ other ∷ [] else
    (if nat_lt other.0 one.0 then other ∷ one ∷ [] else alone one.0 (one.1 +ℤ other.1))

-- at most two ids in their order, where the multiples of one id add up; longer lists stay as they are
abbrev pub joined : List (ℕ × ℤ) → List (ℕ × ℤ)
joined [] = []
joined (one ∷ []) = one ∷ []
joined (one ∷ other ∷ []) = pair_of one other
joined (one ∷ other ∷ more ∷ rest) = one ∷ other ∷ more ∷ rest

-- the multiples of ids that a form of places has at a cut with these slots
abbrev pub multiples_at : List SlotForm → Bool → List (Place × ℤ) → List (ℕ × ℤ)
multiples_at slots size parts = joined (ids_at slots size parts)

-- the form of a cut: the constant, and the multiples of ints, or of sizes, that a form of places has there
abbrev pub form_of : ℕ → List SlotForm → Bool → List (Place × ℤ) → ℤ → CutForm
form_of cut slots size parts constant = record {
  cut = cut;
  constant = constant;
  ints = if size then [] else multiples_at slots size parts;
  sizes = if size then multiples_at slots size parts else [];
}

-- the forms of cuts, one after another, for a form of places with one constant
abbrev pub forms_over : List PathRule → Bool → List (Place × ℤ) → ℤ → List ℕ → List CutForm
forms_over rules size parts constant [] = []
forms_over rules size parts constant (cut ∷ cuts) = form_of cut (slots_for rules cut) size parts constant ∷ forms_over rules size
    parts constant cuts

-- the bound that a rule is listed as strict with: that of its start, where the form falls by at least 1
abbrev pub strict_bound : Followed → Option Bound
strict_bound followed = if int_lt (pos 0) followed.falls then followed.bound else None

-- the number that a bound shows the form's terms to be at least 0 with, where there is a bound
abbrev pub base_of_bound : Option Bound → Option ℤ
base_of_bound None = None
base_of_bound (Some bound) = Some bound.base

-- the greater of two numbers, each of which may be missing
abbrev pub greater_of : Option ℤ → Option ℤ → Option ℤ
greater_of best None = best
greater_of None (Some base) = Some base
greater_of (Some most) (Some base) = if int_lt most base then Some base else Some most

-- the greatest number that the bounds of strict rules need, beside what was the greatest before
abbrev pub needed : Option ℤ → List Followed → Option ℤ
needed best [] = best
needed best (followed ∷ rest) = needed (greater_of best (base_of_bound (strict_bound followed))) rest

-- a number that may be missing, which then is 0
abbrev pub or_zero : Option ℤ → ℤ
or_zero None = pos 0
or_zero (Some number) = number

-- how a rule is listed: as weak without a bound, as strict with one
abbrev pub listed_by : ℕ → List (ℕ × ℤ) → Option Bound → RankRule
listed_by number fall None = Weak number fall
listed_by number fall (Some bound) = Strict number fall bound.rows

-- how a rule is listed by what is followed along it
abbrev pub listed_as : ℕ → Followed → RankRule
listed_as number followed = listed_by number followed.fall (strict_bound followed)

-- how rules are listed, by what is followed along each; they are numbered from here on
abbrev pub list_from : ℕ → List Followed → List RankRule
list_from number [] = []
list_from number (followed ∷ rest) = listed_as number followed ∷ list_from (suc number) rest

-- what is followed along each of the rules, in the rules' order
pub record AreFollowed (negative : Bool) (rules : List PathRule) (place : Place) (all : List Followed) : Type 0 where
  pub count : length all ≡ length rules
  pub each : (n : ℕ) (rule : PathRule) (followed : Followed) → slice_get rules n ≡ Some rule → slice_get all n ≡ Some followed
      → IsAlong negative rule place followed

-- what is told of the steps of a place's int, or of its negative, along all rules: nothing only where no steps lead along one of them
abbrev pub TellsAll : Bool → List PathRule → Place → Option (List Followed) → Type 0
TellsAll negative rules place None = (n : ℕ) × (rule : PathRule) × (slice_get rules n ≡ Some rule)
    × ((c : ℤ) → StepsDown negative rule place c → ⊥)
TellsAll negative rules place (Some all) = AreFollowed negative rules place all
