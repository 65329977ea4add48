-- How many turns a chain has: for each turn of a rank step's strict rules as many as the step counts, and the parts that no step takes.
use Rattle.std.proofs.Common.{◌≡◌, ◌∙◌, inl, inr, ℕ, zero, suc, ◌+◌, ◌-◌, ◌<◌, ◌≤◌, Bool, true, false, cond, eqb, List, []}
use Rattle.std.proofs.Common.{◌∷◌, length, ℤ, pos, negsuc, ◌+ℤ◌, ◌≤ℤ◌, Option, Some, None, refl, sym, ap, subst, arith}
use Rattle.std.specs.Prelude.{◌&&◌, not, nat_lt, slice_get, slice_set, slice_index_or}
use Rattle.std.specs.List.{All}
use Rattle.std.proofs.lemmas.Bool.{false≢true, eq-eqb, or_left, or_right, cases_eq, lt-ltb, and_from, not_from_false}
use Rattle.std.proofs.lemmas.Int.{ints}
use Rattle.std.proofs.lemmas.Option.{none-some, slice_get_within, same_Some}
use Rattle.lin_core.specs.Weights.{unweighed}
use Rattle.descent.specs.declared.faults.DescentFault.{DescentFault}
use Rattle.descent.specs.declared.faults.DescentFault.TheVariants.{NotCovered, NotStrict}
use Rattle.descent.specs.declared.faults.StepFault.{StepFault}
use Rattle.descent.specs.declared.proof.ProofStep.{ProofStep}
use Rattle.descent.specs.declared.proof.ProofStep.TheVariants.{Empty, Split, Rank, Dead}
use Rattle.descent.specs.declared.rules.PathRule.{PathRule}
use Rattle.descent.specs.Chains.{Turn, IsTurn}
use Rattle.descent.specs.Conditions.{AreRules, AreSteps, IsStep}
use Rattle.descent.specs.Rankings.{minus_one, dead_fault}
use Rattle.descent.specs.lemmas.Shown.{need_holds}
use Rattle.descent.specs.Splits.{has}
use Rattle.descent.specs.Steps.{numbers_from, weak_ones, without, dead_at, empty_fault, step_fault, leaves, Given, is_free, give, set_of}
use Rattle.descent.specs.Steps.{first_fault_from, given_first, proof_fault}
use Rattle.descent.specs.Valuations.{Meets}
use Rattle.descent.proofs.Moving.{has_filter}
use Rattle.descent.proofs.Ranked.{rule_fits}
use Rattle.descent.proofs.Walked.{IsGiven, AllGiven, IsDone, done, first_length, gave, not_dead}
use Rattle.bound_check.specs.Parts.{handed, given_on, given_from, count_at, untaken_in, untaken_from, untaken_at}
use Rattle.bound_check.proofs.LawChains.{IsChain, AllIn, total, Counted, is_turn, counted_more}
use Rattle.bound_check.proofs.LawRanked.{ranked_counted}
use Rattle.bound_check.proofs.LawParted.{AllCounted, parted_counted}

-- ---- what turns weigh

-- a rank step counts the rules of its set that it doesn't leave
abbrev pub is_counted : Option (List ℕ) → ProofStep → ℕ → Bool
is_counted None step rule = false
is_counted (Some set) Empty rule = false
is_counted (Some set) (Split parts steps) rule = false
is_counted (Some set) (Rank step rest) rule = has set rule && not (has (weak_ones step.rules) rule)
is_counted (Some set) (Dead dead multipliers rest) rule = false

abbrev pub if_counted : Bool → ℕ → ℕ
if_counted true number = number
if_counted false number = 0

-- with each turn of a rule that a step counts go as many as parts under the step that no step takes
abbrev pub weight_from : Given → ℕ → List ProofStep → ℕ → ℕ
weight_from sets number [] rule = 0
weight_from sets number (step ∷ rest) rule = if_counted (is_counted (set_of (slice_get sets number)) step rule)
    (1 + untaken_in number (untaken_from (suc number) rest) step) + weight_from sets (suc number) rest rule

heavier : (counted : Bool) (number more : ℕ) → more ≤ if_counted counted number + more
heavier true number more = omega arith
heavier false number more = omega arith

counted_in : (counted : Bool) (number more : ℕ) → counted ≡ true → number + more ≤ if_counted counted number + more
counted_in true number more e = omega arith
counted_in false number more e = absurd (false≢true e)

-- ---- one step

-- a rule that can never be taken has no turn
no_turn : (rules : List PathRule) (number : ℕ) (rule : PathRule) (multipliers : List (ℕ × ℤ)) (turn : Turn) → AreRules rules
    → slice_get rules number ≡ Some rule → dead_fault number rule multipliers ≡ None → IsTurn rules turn → turn.rule ≡ number → ⊥
no_turn rules number rule multipliers turn fit is shown t at =
    let same = same_Some t.taken rule (sym t.is ∙ ap (slice_get rules) at ∙ is) in
    below_zero (need_holds (NotStrict number) unweighed rule minus_one multipliers turn.valuation (rule_fits rules number rule fit is)
    (λ class. omega (arith, ints)) tt shown (subst (λ (r : PathRule). Meets r turn.valuation) same t.meets))
  where
    below_zero : pos 0 ≤ℤ (pos 0 +ℤ negsuc 0) → ⊥
    below_zero h = omega (arith, ints)

without_dead : (rules : List PathRule) (set : List ℕ) (number : ℕ) (rule : PathRule) (multipliers : List (ℕ × ℤ)) → AreRules rules
    → slice_get rules number ≡ Some rule → dead_fault number rule multipliers ≡ None → (turns : List Turn) → IsChain rules turns
    → AllIn set turns → AllIn (without number set) turns
without_dead rules set number rule multipliers fit is shown [] chain inside = tt
without_dead rules set number rule multipliers fit is shown (turn ∷ turns) chain inside = (
  has_filter (λ (other : ℕ). not (eqb other number)) set turn.rule inside.0
      (not_dead (eqb turn.rule number) turn.rule number refl
      (no_turn rules number rule multipliers turn fit is shown (is_turn rules turn turns chain.0))),
  without_dead rules set number rule multipliers fit is shown turns chain.1 inside.1,
)

dead_counted : (rules : List PathRule) (set : List ℕ) (number most : ℕ) (weight : ℕ → ℕ) (found : Option PathRule)
    (multipliers : List (ℕ × ℤ)) → AreRules rules → slice_get rules number ≡ found → dead_at number found multipliers ≡ None
    → Counted rules (without number set) most weight → Counted rules set most weight
dead_counted rules set number most weight None multipliers fit is e counted turns chain inside = absurd (cc)
dead_counted rules set number most weight (Some rule) multipliers fit is e counted turns chain inside =
    counted turns chain (without_dead rules set number rule multipliers fit is e turns chain inside)

dead_member : (member : Bool) (found : Option DescentFault) (other : DescentFault) → cond member found (Some other) ≡ None → found ≡ None
dead_member true found other e = e
dead_member false found other e = absurd (cc)

none_counted : (rules : List PathRule) (set : List ℕ) (most : ℕ) (weight : ℕ → ℕ) → empty_fault set ≡ None
    → Counted rules set most weight
none_counted rules (x ∷ rest) most weight e turns chain inside = absurd (cc)
none_counted rules [] most weight e [] chain inside = omega arith
none_counted rules [] most weight e (turn ∷ turns) chain inside = absurd (false≢true inside.0)

-- a step without a fault, where the chains of the sets that it leaves are counted
step_counted : (rules : List PathRule) (set : List ℕ) (number : ℕ) (later : List ℕ) (step : ProofStep) (weight heavy : ℕ → ℕ)
    → AreRules rules → IsStep step → step_fault rules set step ≡ None → ((rule : ℕ) → weight rule ≤ heavy rule)
    → ((rule : ℕ) → is_counted (Some set) step rule ≡ true → suc (untaken_in number later step) + weight rule ≤ heavy rule)
    → AllCounted rules number later weight (leaves set step) → Counted rules set (untaken_in number later step) heavy
step_counted rules set number later Empty weight heavy fit is e more counts all = none_counted rules set 0 heavy e
step_counted rules set number later (Split parts steps) weight heavy fit is e more counts all =
    counted_more rules set (untaken_in number later (Split parts steps)) weight heavy more
    (parted_counted rules set parts steps e number later weight is all)
step_counted rules set number later (Rank step rest) weight heavy fit is e more counts all =
    ranked_counted rules set (weak_ones step.rules) (count_at number later rest) weight heavy all.0 more
    (λ rule h n. counts rule (and_from (has set rule) (not (has (weak_ones step.rules) rule)) h
    (not_from_false (has (weak_ones step.rules) rule) n)))
step_counted rules set number later (Dead dead multipliers rest) weight heavy fit is e more counts all =
    counted_more rules set (count_at number later rest) weight heavy more
    (dead_counted rules set dead (count_at number later rest) weight (slice_get rules dead) multipliers fit refl
    (dead_member (has set dead) (dead_at dead (slice_get rules dead) multipliers) (NotCovered dead) e) all.0)

-- ---- the walk over the steps

-- what is given is handed on
handed_cases : (later free : Bool) (gives : Option Given) (all after : Given) → cond (later && free) gives None ≡ Some after
    → (gives ≡ Some after → all ≡ after) → all ≡ after
handed_cases true true gives all after e more = more e
handed_cases true false gives all after e more = absurd (cc)
handed_cases false free gives all after e more = absurd (cc)

handed_is : (number : ℕ) (lefts : List (ℕ × List ℕ)) (given after : Given) → give number lefts given ≡ Some after
    → handed lefts given ≡ after
handed_is number [] given after e = same_Some given after e
handed_is number (left ∷ rest) given after e = handed_cases (nat_lt number left.0) (is_free (slice_get given left.0))
    (give number rest (slice_set given left.0 (Some left.1))) (handed rest (slice_set given left.0 (Some left.1))) after e
    (λ h. handed_is number rest (slice_set given left.0 (Some left.1)) after h)

pub goes_on : (rules : List PathRule) (number : ℕ) (step : ProofStep) (given : Given) (next : Given → Option StepFault)
    → (t : IsDone rules number step given next) → given_on step given (set_of (slice_get given number)) ≡ t.after
goes_on rules number step given next t = ap (λ (o : Option (Option (List ℕ))). given_on step given (set_of o)) t.own
    ∙ handed_is number (leaves t.set step) given t.after t.gives

-- the sets that are given stay
kept_on : (rules : List PathRule) (number : ℕ) (given : Given) (steps : List ProofStep) → first_fault_from rules number given steps ≡ None
    → (j : ℕ) (set : List ℕ) → slice_get given j ≡ Some (Some set) → slice_get (given_from number given steps) j ≡ Some (Some set)
kept_on rules number given [] e j set at = at
kept_on rules number given (step ∷ rest) e j set at =
    let t = done rules number step given (slice_get given number)
    (λ (after : Given). first_fault_from rules (suc number) after rest) refl e in
    let g = gave number (leaves t.set step) given t.after t.gives in
    ap (λ (gs : Given). slice_get (given_from (suc number) gs rest) j)
    (goes_on rules number step given (λ (after : Given). first_fault_from rules (suc number) after rest) t)
    ∙ kept_on rules (suc number) t.after rest t.others j set (g.kept j set at)

-- a later step's count
count_is : (number step most : ℕ) (later : List ℕ) → number < step → slice_index_or later (step - suc number) 0 ≡ most
    → count_at number later step ≡ most
count_is number step most later low e = ap (λ (b : Bool). cond b (slice_index_or later (step - suc number) 0) 0)
    (lt-ltb number step low) ∙ e

all_counted : (rules : List PathRule) (number : ℕ) (later : List ℕ) (weight : ℕ → ℕ) (after : Given) (lefts : List (ℕ × List ℕ))
    → AllGiven number after lefts
    → ((j : ℕ) (set : List ℕ) → suc number ≤ j → slice_get after j ≡ Some (Some set)
    → Counted rules set (slice_index_or later (j - suc number) 0) weight)
    → AllCounted rules number later weight lefts
all_counted rules number later weight after [] all counted = tt
all_counted rules number later weight after (left ∷ rest) all counted = (
  subst (λ (most : ℕ). Counted rules left.1 most weight)
      (sym (count_is number left.0 (slice_index_or later (left.0 - suc number) 0) later all.0 refl))
      (counted left.0 left.1 (omega (arith, all.0)) all.1),
  all_counted rules number later weight after rest all.2 counted,
)

same_set : (given : Given) (number j : ℕ) (own set : List ℕ) → slice_get given number ≡ Some (Some own)
    → slice_get given j ≡ Some (Some set) → j ≡ number → own ≡ set
same_set given number j own set is at same = one_set own set (sym is ∙ ap (slice_get given) (sym same) ∙ at)
  where
    one_set : (a b : List ℕ) → ◌≡◌ {A = Option (Option (List ℕ))} (Some (Some a)) (Some (Some b)) → a ≡ b
    one_set a b e = cc

first_count : (number j : ℕ) (most : ℕ) (later : List ℕ) → j ≡ number → slice_index_or (most ∷ later) (j - number) 0 ≡ most
first_count number j most later e =
    let z : j - number ≡ 0 = omega (arith, e) in
    ap (λ (k : ℕ). slice_index_or (most ∷ later) k 0) z

later_count : (number j : ℕ) (most : ℕ) (later : List ℕ) → suc number ≤ j
    → slice_index_or (most ∷ later) (j - number) 0 ≡ slice_index_or later (j - suc number) 0
later_count number j most later low =
    let z : j - number ≡ suc (j - suc number) = omega (arith, low) in
    ap (λ (k : ℕ). slice_index_or (most ∷ later) k 0) z

above : (a b : ℕ) → a ≤ b → (b ≡ a → ⊥) → suc a ≤ b
above a b h n = omega (arith, h, n)

-- one step, where the chains of the sets of later steps are counted
one_step : (rules : List PathRule) (number : ℕ) (step : ProofStep) (rest : List ProofStep) (own : List ℕ) (given after sets : Given)
    → AreRules rules → IsStep step → step_fault rules own step ≡ None → IsGiven number (leaves own step) given after
    → slice_get sets number ≡ Some (Some own)
    → ((k : ℕ) (set : List ℕ) → suc number ≤ k → slice_get after k ≡ Some (Some set)
    → Counted rules set (slice_index_or (untaken_from (suc number) rest) (k - suc number) 0) (weight_from sets (suc number) rest))
    → Counted rules own (untaken_in number (untaken_from (suc number) rest) step) (weight_from sets number (step ∷ rest))
one_step rules number step rest own given after sets fit is holds g there counted =
    let later = untaken_from (suc number) rest in
    let count = untaken_in number later step in
    let weight = weight_from sets (suc number) rest in
    let counts : ℕ → Bool = λ (rule : ℕ). is_counted (set_of (slice_get sets number)) step rule in
    step_counted rules own number later step weight (weight_from sets number (step ∷ rest)) fit is holds
    (λ rule. heavier (counts rule) (1 + count) (weight rule))
    (λ rule c. one_more count (weight rule) _ (counted_in (counts rule) (1 + count) (weight rule)
    (ap (λ (o : Option (Option (List ℕ))). is_counted (set_of o) step rule) there ∙ c)))
    (all_counted rules number later weight after (leaves own step) g.all counted)
  where
    one_more : (a b c : ℕ) → (1 + a) + b ≤ c → suc a + b ≤ c
    one_more a b c h = omega (arith, h)

pub walk_counted : (rules : List PathRule) (number : ℕ) (given : Given) (steps : List ProofStep) → AreRules rules → All IsStep steps
    → length given ≡ number + length steps → first_fault_from rules number given steps ≡ None → (j : ℕ) (set : List ℕ) → number ≤ j
    → slice_get given j ≡ Some (Some set)
    → Counted rules set (slice_index_or (untaken_from number steps) (j - number) 0)
    (weight_from (given_from number given steps) number steps)
walk_counted rules number given [] fit are count e j set low at =
    absurd (omega (arith, count, low, slice_get_within given j (Some set) at))
walk_counted rules number given (step ∷ rest) fit are count e j set low at =
    let next : Given → Option StepFault = λ (after : Given). first_fault_from rules (suc number) after rest in
    let t = done rules number step given (slice_get given number) next refl e in
    let g = gave number (leaves t.set step) given t.after t.gives in
    let sets = given_from (suc number) t.after rest in
    let later = untaken_from (suc number) rest in
    let count_here = untaken_in number later step in
    let rest_counted : (k : ℕ) (s : List ℕ) → suc number ≤ k → slice_get t.after k ≡ Some (Some s)
    → Counted rules s (slice_index_or later (k - suc number) 0) (weight_from sets (suc number) rest) =
    walk_counted rules (suc number) t.after rest fit (λ i x w. are (suc i) x (omega (arith, w))) (omega (arith, g.count, count)) t.others in
    let here : Counted rules t.set count_here (weight_from sets number (step ∷ rest)) =
    one_step rules number step rest t.set given t.after sets fit (are 0 step (omega arith)) t.holds g
    (kept_on rules (suc number) t.after rest t.others number t.set (g.kept number t.set t.own)) rest_counted in
    subst (λ (gs : Given). Counted rules set (slice_index_or (untaken_from number (step ∷ rest)) (j - number) 0)
    (weight_from (given_from (suc number) gs rest) number (step ∷ rest))) (sym (goes_on rules number step given next t))
    (elim (cases_eq j number) as (λ o. Counted rules set (slice_index_or (count_here ∷ later) (j - number) 0)
    (weight_from sets number (step ∷ rest))) [
      | inl same ↦ subst (λ (most : ℕ). Counted rules set most (weight_from sets number (step ∷ rest)))
          (sym (first_count number j count_here later same))
          (subst (λ (s : List ℕ). Counted rules s count_here (weight_from sets number (step ∷ rest)))
          (same_set given number j t.set set t.own at same) here)
      | inr other ↦
          let past = above number j low other in
          subst (λ (most : ℕ). Counted rules set most (weight_from sets number (step ∷ rest)))
          (sym (later_count number j count_here later past))
          (counted_more rules set (slice_index_or later (j - suc number) 0) (weight_from sets (suc number) rest)
          (weight_from sets number (step ∷ rest))
          (λ rule. heavier (is_counted (set_of (slice_get sets number)) step rule) (1 + count_here)
          (weight_from sets (suc number) rest rule))
          (rest_counted j set past (g.kept j set at)))
    ])

-- ---- the whole proof

-- every rule is given to the first step
has_numbers : (low count rule : ℕ) → low ≤ rule → rule < low + count → has (numbers_from low count) rule ≡ true
has_numbers low zero rule h k = absurd (omega (arith, h, k))
has_numbers low (suc count) rule h k = elim (cases_eq low rule) as (λ o. has (numbers_from low (suc count)) rule ≡ true) [
  | inl e ↦ or_left (eqb low rule) (has (numbers_from (suc low) count) rule) (eq-eqb low rule e)
  | inr n ↦ or_right (eqb low rule) (has (numbers_from (suc low) count) rule)
      (has_numbers (suc low) count rule (above low rule h (λ e. n (sym e))) (omega (arith, k)))
]

all_in : (rules : List PathRule) (turns : List Turn) → IsChain rules turns → AllIn (numbers_from 0 (length rules)) turns
all_in rules [] chain = tt
all_in rules (turn ∷ turns) chain =
    let t = is_turn rules turn turns chain.0 in (
      has_numbers 0 (length rules) turn.rule (omega arith) (omega (arith, slice_get_within rules turn.rule t.taken t.is)),
      all_in rules turns chain.1,
    )

-- the set of each step
abbrev pub sets_of : List PathRule → List ProofStep → Given
sets_of rules steps = given_from 0 (given_first (length rules) (length steps)) steps

pub chain_counted : (rules : List PathRule) (steps : List ProofStep) → AreRules rules → AreSteps steps → proof_fault rules steps ≡ None
    → (turns : List Turn) → IsChain rules turns
    → length turns ≤ untaken_at steps 0 + total (weight_from (sets_of rules steps) 0 steps) turns
chain_counted rules [] fit are e turns chain = absurd (cc)
chain_counted rules (step ∷ rest) fit are e turns chain =
    let count = first_length (length rules) (suc (length rest)) in
    walk_counted rules 0 (given_first (length rules) (suc (length rest))) (step ∷ rest) fit are (omega (arith, count)) e 0
    (numbers_from 0 (length rules)) (omega arith) refl turns chain (all_in rules turns chain)

-- ---- a step's set

-- each step of a closed proof holds for its set
walk_holds : (rules : List PathRule) (number : ℕ) (given : Given) (steps : List ProofStep)
    → first_fault_from rules number given steps ≡ None → (i : ℕ) (step : ProofStep) (set : List ℕ) → slice_get steps i ≡ Some step
    → slice_get (given_from number given steps) (number + i) ≡ Some (Some set) → step_fault rules set step ≡ None
walk_holds rules number given [] e i step set is at = absurd (none-some step is)
walk_holds rules number given (first ∷ rest) e zero step set is at =
    let next : Given → Option StepFault = λ (after : Given). first_fault_from rules (suc number) after rest in
    let t = done rules number first given (slice_get given number) next refl e in
    let kept = kept_on rules number given (first ∷ rest) e number t.set t.own in
    let there : number + 0 ≡ number = omega arith in
    let same = same_set (given_from number given (first ∷ rest)) number (number + 0) t.set set kept at there in
    subst (λ (s : List ℕ). step_fault rules s step ≡ None) same
    (subst (λ (f : ProofStep). step_fault rules t.set f ≡ None) (same_Some first step is) t.holds)
walk_holds rules number given (first ∷ rest) e (suc i) step set is at =
    let next : Given → Option StepFault = λ (after : Given). first_fault_from rules (suc number) after rest in
    let t = done rules number first given (slice_get given number) next refl e in
    let there : number + suc i ≡ suc number + i = omega arith in
    walk_holds rules (suc number) t.after rest t.others i step set is
    (subst (λ (gs : Given). slice_get (given_from (suc number) gs rest) (suc number + i) ≡ Some (Some set))
    (goes_on rules number first given next t)
    (ap (slice_get (given_from number given (first ∷ rest))) (sym there) ∙ at))

pub step_holds : (rules : List PathRule) (steps : List ProofStep) → proof_fault rules steps ≡ None → (i : ℕ) (step : ProofStep)
    (set : List ℕ) → slice_get steps i ≡ Some step → slice_get (sets_of rules steps) i ≡ Some (Some set) → step_fault rules set step ≡ None
step_holds rules [] e i step set is at = absurd (none-some step is)
step_holds rules (first ∷ rest) e i step set is at =
    let there : 0 + i ≡ i = omega arith in
    walk_holds rules 0 (given_first (length rules) (suc (length rest))) (first ∷ rest) e i step set is
    (ap (slice_get (sets_of rules (first ∷ rest))) there ∙ at)
