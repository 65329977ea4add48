-- Falls: ties to variables of greater numbers, and the greatest falls of the sizes and ints at places along rules.
use Rattle.std.specs.Prelude.{ℕ, suc, ℤ, pos, negsuc, ◌≡◌, ◌⊎◌, ◌<◌, ◌+ℤ◌, ◌≤ℤ◌, ◌&&◌, ◌++◌, Bool, true, false}
use Rattle.std.specs.Prelude.{List, [], ◌∷◌, Option, Some, None, if◌then◌else◌, slice_get, get_or}
use Rattle.std.specs.Prelude.{length}
use Rattle.std.specs.List.{All, list_any}
use Rattle.std.specs.Ordering.{int_eq}
use Rattle.lin_core.specs.Rows.{coefficient_of}
use Rattle.lin_core.specs.declared.rows.RowKind.TheVariants.{IsZero}
use Rattle.lin_core.specs.declared.rows.WRow.{WRow}
use Rattle.descent.specs.declared.rules.PathRule.{PathRule}
use Rattle.descent.specs.declared.rules.Place.{Place}
use Rattle.descent.specs.declared.rules.SlotForm.{SlotForm}
use Rattle.rank_forms.specs.declared.rule_links.links.Come.{Come}
use Rattle.rank_forms.specs.declared.rule_links.links.Link.{Link}
use Rattle.rank_forms.specs.declared.rule_links.links.Tie.{Tie}
use Rattle.rank_forms.specs.rule_links.Links.{IsWay, total}
use Rattle.rank_forms.specs.rule_links.SizeLinks.{SizeFalls, weighed_once, GivesSize}
use Rattle.rank_forms.specs.rule_links.Positions.{StandsAt, same}
use Rattle.rank_forms.specs.rule_links.Ties.{InTies, IsReached, Known, is_bound, is_inequality, is_alone}
use Rattle.rank_forms.specs.rule_links.FallLinks.{StepsDown, IsBounded, sign, SaysFall, SaysBack}

-- all ties lead to greater numbers
abbrev pub AreRising : List Tie → Type 0
AreRising ties = All (λ (tie : Tie). tie.link.from < tie.link.to) ties

-- at least so much is known
abbrev pub IsAtLeast : Option Come → ℤ → Type 0
IsAtLeast None by = ⊥
IsAtLeast (Some come) by = by ≤ℤ come.by

-- each list of links from the first variable adds up to at most what is known of its end
abbrev pub IsGreatest : List Tie → ℕ → Known → Type 0
IsGreatest ties first known = (links : List Link) (variable : ℕ) → IsWay (InTies ties) first links variable
    → IsAtLeast (get_or known variable None) (total links)

-- what is known of a variable comes from the tie that is noted last: as much more as what is known of the tie's start; without a tie it is
-- the first variable, by 0
abbrev pub ComesBy : List Tie → ℕ → Known → ℕ → ℤ → Option Tie → Type 0
ComesBy ties first known variable by None = (variable ≡ first) × (by ≡ pos 0)
ComesBy ties first known variable by (Some tie) = (k : ℕ) × (slice_get ties k ≡ Some tie) × (tie.link.to ≡ variable) × (come : Come)
    × (get_or known tie.link.from None ≡ Some come) × (by ≡ come.by +ℤ tie.link.by)

-- what is known of each variable comes from the tie that is noted last for it
abbrev pub AreLinked : List Tie → ℕ → Known → Type 0
AreLinked ties first known = (variable : ℕ) (come : Come) → get_or known variable None ≡ Some come
    → ComesBy ties first known variable come.by come.last

-- the greatest sums of links from the first variable: no list of links adds up to more than is known of its end, some list adds up to just
-- that, and the ties noted last lead there
pub record IsLongest (ties : List Tie) (first : ℕ) (known : Known) : Type 0 where
  pub greatest : IsGreatest ties first known
  pub reached : (variable : ℕ) (come : Come) → get_or known variable None ≡ Some come → IsReached ties first variable come.by
  pub linked : AreLinked ties first known

-- sizes: the constant of a row where every class weighs 1
abbrev pub size_constant : WRow → ℤ
size_constant row = row.constant +ℤ weighed_once row.weights

-- a row says that the variable is at least 0
abbrev pub is_zero : ℕ → WRow → Bool
is_zero variable row = is_bound variable (pos 1) row && int_eq row.constant (pos 0)

-- the first row that says the variable is at least 0; the rows are counted from n
abbrev pub zero_from : ℕ → ℕ → List WRow → Option ℕ
zero_from variable n [] = None
zero_from variable n (row ∷ rest) = if is_zero variable row then Some n else zero_from variable (suc n) rest

-- some row says that the variable is at least 0
abbrev pub has_zero : ℕ → List WRow → Bool
has_zero variable rows = list_any (λ (row : WRow). is_zero variable row) rows

-- a row bounds the variable at a rule's start, on the side that counts for the int or for its negative
abbrev pub bounds : Bool → ℕ → WRow → Bool
bounds negative start row = is_inequality row.kind && is_alone start (sign negative) row.terms

-- some row bounds the variable at a rule's start, on the side that counts
abbrev pub has_bound : Bool → ℕ → List WRow → Bool
has_bound negative start rows = list_any (λ (row : WRow). bounds negative start row) rows

-- what was found is at least so much
abbrev pub IsFall : Option ℤ → ℤ → Type 0
IsFall None c = ⊥
IsFall (Some d) c = c ≤ℤ d

-- what is told of the size at a place along a rule: some fall of it, and the greatest of all
pub record TellsSize (rule : PathRule) (place : Place) (fall : Option ℤ) : Type 0 where
  pub told : (c : ℤ) → SizeFalls rule place c → IsFall fall c
  pub says : (c : ℤ) → fall ≡ Some c → SizeFalls rule place c

-- what is asked of a rule beside its fall: nothing, or, where `bounded`, that it bounds the start
abbrev pub IsAsked : Bool → Bool → PathRule → ℕ → Type 0
IsAsked false negative rule start = Unit {0}
IsAsked true negative rule start = IsBounded negative rule start

-- what is told of the int at a place, or of its negative, along a rule, where `bounded` of rules alone that bound the start: some fall of
-- it, and the greatest of all
pub record TellsSteps (bounded negative : Bool) (rule : PathRule) (place : Place) (fall : Option ℤ) : Type 0 where
  pub told : (c : ℤ) (steps : StepsDown negative rule place c) → IsAsked bounded negative rule steps.start → IsFall fall c
  pub says : (c : ℤ) → fall ≡ Some c → (steps : StepsDown negative rule place c) × IsAsked bounded negative rule steps.start

-- a list has what is told of each place, at the place's number
abbrev pub TellAll : (Place → Option ℤ → Type 0) → List Place → List (Option ℤ) → Type 0
TellAll tells places told = (length told ≡ length places)
    × ((k : ℕ) (place : Place) → slice_get places k ≡ Some place → tells place (get_or told k None))

-- a table has what is told of each place along each rule, at the rule's number
abbrev pub IsTableOf : (PathRule → Place → Option ℤ → Type 0) → List PathRule → List Place → List (List (Option ℤ)) → Type 0
IsTableOf tells rules places table = (length table ≡ length rules)
    × ((n : ℕ) (rule : PathRule) → slice_get rules n ≡ Some rule → TellAll (tells rule) places (get_or table n []))

-- each place of the kind at which one variable stands alone is among the places
abbrev pub ArePlaces : List SlotForm → Bool → List Place → Type 0
ArePlaces slots size places = (place : Place) (variable : ℕ) → StandsAt slots size place variable → (k : ℕ)
    × (slice_get places k ≡ Some place)

-- the places are those of the first rule's start: each place of the kind at which one variable stands alone is among them
abbrev pub ArePlacesOf : List PathRule → Bool → List Place → Type 0
ArePlacesOf rules size places = (rule : PathRule) → slice_get rules 0 ≡ Some rule → ArePlaces rule.first size places

-- the places of a slot, where it is of the kind
abbrev pub places_of : Bool → SlotForm → List Place
places_of size slot = if same slot.size size then slot.places else []

-- the places of all slots of a kind, slot after slot
abbrev pub places_in : Bool → List SlotForm → List Place
places_in size [] = []
places_in size (slot ∷ rest) = places_of size slot ++ places_in size rest

-- the places of the first rule's slots of a kind where the rule starts; none where there is no rule
abbrev pub places_at_start : Bool → List PathRule → List Place
places_at_start size [] = []
places_at_start size (rule ∷ rest) = places_in size rule.first

-- a row says of a link that the int falls by as much as the link tells, or, taken back, that an equation says so where it is taken with -1
abbrev pub SaysAt : Bool → Bool → WRow → Link → Type 0
SaysAt negative false row link = SaysFall negative row link link.by
SaysAt negative true row link = SaysBack negative row link link.by

-- a tie of a fall: the row of its number says what its link tells
pub record IsFallTie (negative : Bool) (rows : List WRow) (tie : Tie) : Type 0 where
  pub row : WRow
  pub at : slice_get rows tie.row ≡ Some row
  pub says : SaysAt negative tie.back row tie.link
  pub alone : tie.beside ≡ None

-- a row gives the size of the link's start as the sum in which the link's end stands, or, taken back, ties two sizes alone
abbrev pub SaysSize : List WRow → WRow → Bool → Link → Type 0
SaysSize rows row false link = GivesSize rows row link.from × (coefficient_of link.to row.terms ≤ℤ negsuc 0)
    × (link.by +ℤ size_constant row ≡ pos 0)
SaysSize rows row true link = ((row.terms ≡ (link.from, negsuc 0) ∷ (link.to, pos 1) ∷ [])
    ⊎ (row.terms ≡ (link.to, pos 1) ∷ (link.from, negsuc 0) ∷ [])) × (link.by ≡ size_constant row)

-- a tie of sizes: the equation of its number says what its link tells
pub record IsSizeTie (rows : List WRow) (tie : Tie) : Type 0 where
  pub row : WRow
  pub at : slice_get rows tie.row ≡ Some row
  pub equation : row.kind ≡ IsZero
  pub says : SaysSize rows row tie.back tie.link
  pub alone : tie.beside ≡ None
