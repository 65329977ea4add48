-- The steps of a proof, tested one by one, and the first fault.
use Rattle.std.specs.Prelude.{ℕ, zero, suc, ◌≡◌, ◌==◌, ◌&&◌, not, Bool, true, false, List, [], ◌∷◌, Option, Some, None, Result}
use Rattle.std.specs.Prelude.{if◌then◌else◌, nat_lt, slice_get, slice_set, length, filter, replicate, ℤ}
use Rattle.std.specs.List.{filter_map}
pub use Rattle.list_views.specs.Lists.{numbers_from}
use Rattle.list_views.specs.Results as results
use Rattle.descent.specs.declared.faults.DescentFault.{DescentFault}
use Rattle.descent.specs.declared.faults.DescentFault.TheVariants.{NotCovered, BadStep}
use Rattle.descent.specs.declared.faults.StepFault.{StepFault}
use Rattle.descent.specs.declared.faults.StepFault.TheVariants.{At, Memory}
use Rattle.descent.specs.declared.proof.Proof.{Proof}
use Rattle.descent.specs.declared.proof.ProofStep.{ProofStep}
use Rattle.descent.specs.declared.proof.ProofStep.TheVariants.{Empty, Split, Rank, Dead}
use Rattle.descent.specs.declared.proof.RankRule.{RankRule}
use Rattle.descent.specs.declared.proof.RankRule.TheVariants.{Weak, Strict}
use Rattle.descent.specs.declared.proof.RankStep.{RankStep}
use Rattle.descent.specs.declared.rules.PathRule.{PathRule}
use Rattle.descent.specs.Chains.{ChainsEnd}
use Rattle.descent.specs.Conditions.{AreRules, AreSteps}
use Rattle.descent.specs.Orders.{Says}
use Rattle.descent.specs.Rankings.{Ranking, weak_fault, strict_fault, bounded_fault, dead_fault}
use Rattle.descent.specs.Splits.{has, split_fault, edge_fault}

-- what a rank step ranks by: the order `size` counts sizes with the step's weights, the order `linear` ints alone
abbrev pub ranking_of : RankStep → Ranking
ranking_of step = record { forms = step.forms; weights = if step.size then step.weights else []; sizes = step.size }

-- the number of a rule that a rank step lists
abbrev pub rule_of : RankRule → ℕ
rule_of (Weak rule fall) = rule
rule_of (Strict rule fall bound) = rule

-- why a listed rule isn't as its rank step says, where an order says this of weak, strict and bounded rules: a strict one has to fall and
-- to start at 0 or above
abbrev pub listed_fault : Says → Says → Says → RankRule → Option PathRule → Option DescentFault
listed_fault weak strict bounded listed None = Some (NotCovered (rule_of listed))
listed_fault weak strict bounded (Weak number fall) (Some rule) = weak number rule fall
listed_fault weak strict bounded (Strict number fall bound) (Some rule) = edge_fault (strict number rule fall) (bounded number rule bound)

-- why the listed rules don't rank the set: a rule stands in the set or in the list alone, both being walked in rising order, or a listed
-- rule isn't as the list says
abbrev pub rank_fault : Says → Says → Says → List PathRule → List ℕ → List RankRule → Option DescentFault
rank_fault weak strict bounded rules [] [] = None
rank_fault weak strict bounded rules [] (listed ∷ more) = Some (NotCovered (rule_of listed))
rank_fault weak strict bounded rules (rule ∷ rest) [] = Some (NotCovered rule)
rank_fault weak strict bounded rules (rule ∷ rest) (listed ∷ more) =
    if nat_lt rule (rule_of listed) then Some (NotCovered rule) else
    (if nat_lt (rule_of listed) rule then Some (NotCovered (rule_of listed)) else
    edge_fault (listed_fault weak strict bounded listed (slice_get rules rule)) (rank_fault weak strict bounded rules rest more))

-- why the listed rules don't rank the set under an order's forms
abbrev pub ranking_fault : Ranking → List PathRule → List ℕ → List RankRule → Option DescentFault
ranking_fault ranking = rank_fault (weak_fault ranking) (strict_fault ranking) (bounded_fault ranking)

-- the number of a rule that is listed as weak; none for a strict one
abbrev pub if_weak : RankRule → Option ℕ
if_weak (Weak rule fall) = Some rule
if_weak (Strict rule fall bound) = None

-- the numbers of the rules that are listed as weak, which a later step has to take
abbrev pub weak_ones : List RankRule → List ℕ
weak_ones listed = filter_map if_weak listed

-- the rules of a set but for one
abbrev pub without : ℕ → List ℕ → List ℕ
without rule set = filter (λ (other : ℕ). not (other == rule)) set

-- why a rule of this number isn't shown to be one that can never be taken: it isn't there, or its rows don't show that -1 is at least 0
abbrev pub dead_at : ℕ → Option PathRule → List (ℕ × ℤ) → Option DescentFault
dead_at number None multipliers = Some (NotCovered number)
dead_at number (Some rule) multipliers = dead_fault number rule multipliers

-- a set that a step says to be empty has no rule; its first rule is a fault
abbrev pub empty_fault : List ℕ → Option DescentFault
empty_fault [] = None
empty_fault (rule ∷ rest) = Some (NotCovered rule)

-- what a step breaks for its set, the naming of steps aside
abbrev pub step_fault : List PathRule → List ℕ → ProofStep → Option DescentFault
step_fault rules set Empty = empty_fault set
step_fault rules set (Split parts steps) = split_fault rules set parts steps
step_fault rules set (Rank step rest) = ranking_fault (ranking_of step) rules set step.rules
step_fault rules set (Dead rule multipliers rest) = if has set rule then dead_at rule (slice_get rules rule) multipliers else Some
    (NotCovered rule)

-- what one part of a split leaves: to its step, if it has one, the rules of the set that stand in the part
abbrev pub part_left : List ℕ → List ℕ → Option ℕ → Option (ℕ × List ℕ)
part_left set part None = None
part_left set part (Some step) = Some (step, filter (has part) set)

-- what a split leaves to later steps, part by part: the part's step with the rules of the set that stand in the part, or nothing for a
-- part that no step takes
abbrev pub parts_left : List ℕ → List (List ℕ) → List (Option ℕ) → List (Option (ℕ × List ℕ))
parts_left set [] steps = []
parts_left set (part ∷ rest) [] = []
parts_left set (part ∷ rest) (step ∷ more) = part_left set part step ∷ parts_left set rest more

-- what is left, if anything is: the parts that no step takes leave nothing
abbrev pub same_option : Option (ℕ × List ℕ) → Option (ℕ × List ℕ)
same_option left = left

-- the sets that a step leaves to later steps, each beside the number of its step: a split its parts, a rank step its weak rules, a dead
-- rule all others
abbrev pub leaves : List ℕ → ProofStep → List (ℕ × List ℕ)
leaves set Empty = []
leaves set (Split parts steps) = filter_map same_option (parts_left set parts steps)
leaves set (Rank step rest) = (rest, weak_ones step.rules) ∷ []
leaves set (Dead rule multipliers rest) = (rest, without rule set) ∷ []

-- the sets that steps were given, by their numbers; a step that no earlier one named has none yet
abbrev pub Given : Type 0
Given = List (Option (List ℕ))

-- a set is given to a later step that is there and has none yet
abbrev pub is_free : Option (Option (List ℕ)) → Bool
is_free None = false
is_free (Some None) = true
is_free (Some (Some set)) = false

-- the sets that step `number` leaves are given to the steps that it names, if each of these is a later one, is there and
-- wasn't named before
abbrev pub give : ℕ → List (ℕ × List ℕ) → Given → Option Given
give number [] given = Some given
give number (left ∷ rest) given = if nat_lt number left.0 && is_free (slice_get given left.0) then give number rest
    (slice_set given left.0 (Some left.1)) else None

-- the set that a step was given, where it is there and was given one
abbrev pub set_of : Option (Option (List ℕ)) → Option (List ℕ)
set_of None = None
set_of (Some set) = set

-- a step that has its set either names steps as it may not, or breaks a rule for its set, or the later steps go on with the sets that it
-- gives; `next` is what they have as their first fault
abbrev pub go_on : ℕ → Option DescentFault → Option Given → (Given → Option StepFault) → Option StepFault
go_on number fault None next = Some (At number BadStep)
go_on number None (Some given) next = next given
go_on number (Some fault) (Some given) next = Some (At number fault)

-- a step that no earlier one gave a set is badly named; else it is tried for its set
abbrev pub try_step : List PathRule → ℕ → ProofStep → Given → Option (List ℕ) → (Given → Option StepFault) → Option StepFault
try_step rules number step given None next = Some (At number BadStep)
try_step rules number step given (Some set) next = go_on number (step_fault rules set step) (give number (leaves set step) given) next

-- the first fault of the steps from `number` on, where these sets were given before
abbrev pub first_fault_from : List PathRule → ℕ → Given → List ProofStep → Option StepFault
first_fault_from rules number given [] = None
first_fault_from rules number given (step ∷ rest) = try_step rules number step given (set_of (slice_get given number))
    (λ (after : Given). first_fault_from rules (suc number) after rest)

-- the sets as a proof begins: step 0 is given all rules, by their numbers, and no other step has a set yet
abbrev pub given_first : ℕ → ℕ → Given
given_first rules zero = []
given_first rules (suc steps) = Some (numbers_from 0 rules) ∷ replicate steps None

-- the first fault of a proof for the rules, with the step that has it; a proof without a step has none that takes the rules
abbrev pub proof_fault : List PathRule → List ProofStep → Option StepFault
proof_fault rules [] = Some (At 0 BadStep)
proof_fault rules (step ∷ rest) = first_fault_from rules 0 (given_first (length rules) (length (step ∷ rest))) (step ∷ rest)

-- a proof is closed for the rules: no step has a fault, so each holds for the set that it takes
abbrev pub Closed : List PathRule → Proof → Type 0
Closed rules proof = proof_fault rules proof.steps ≡ None

-- an answer is want of memory, which says nothing of the proof
abbrev pub is_memory : StepFault → Bool
is_memory Memory = true
is_memory fault = false

-- an answer says what the proof's first fault is; want of memory says nothing
abbrev pub Refuses : Result (Unit {0}) StepFault → Option StepFault → Type 0
Refuses answer fault = results.Refuses is_memory answer fault

-- where a proof of good rules is closed, every chain of the rules ends: no sequence of turns goes on for ever
abbrev pub ClosedProofsEnd : Type 0
ClosedProofsEnd = (rules : List PathRule) (proof : Proof) → AreRules rules → AreSteps proof.steps → Closed rules proof → ChainsEnd rules
