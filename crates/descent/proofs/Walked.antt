-- The walk over the steps of a closed proof.
use Rattle.std.proofs.Common.{◌≡◌, ℕ, zero, suc, ◌+◌, ◌<◌, ◌≤◌, Bool, true, false, cond, eqb, List, [], ◌∷◌, length, ℤ, pos, negsuc}
use Rattle.std.proofs.Common.{◌+ℤ◌, ◌≤ℤ◌, Option, Some, None, subst, ap, arith, refl, ◌∙◌, sym, inl, inr}
use Rattle.std.specs.Prelude.{◌&&◌, not, nat_lt, slice_get, slice_set}
use Rattle.std.specs.List.{All}
use Rattle.std.proofs.lemmas.Bool.{false≢true, eqb-true, eq-eqb, or_left, or_right, cases_eq, ltb-true}
use Rattle.std.proofs.lemmas.Int.{ints}
use Rattle.std.proofs.lemmas.List.{length-replicate}
use Rattle.std.proofs.lemmas.Option.{slice_get_within}
use mathlib.Core.WellFounded.{Acc}
use Rattle.lin_core.specs.Weights.{unweighed, AreWeights}
use Rattle.descent.specs.declared.faults.DescentFault.{DescentFault}
use Rattle.descent.specs.declared.faults.DescentFault.TheVariants.{NotCovered, NotStrict}
use Rattle.descent.specs.declared.faults.StepFault.{StepFault}
use Rattle.descent.specs.declared.proof.ProofStep.{ProofStep}
use Rattle.descent.specs.declared.proof.ProofStep.TheVariants.{Empty, Split, Rank, Dead}
use Rattle.descent.specs.declared.proof.RankStep.{RankStep}
use Rattle.descent.specs.declared.rules.PathRule.{PathRule}
use Rattle.descent.specs.Chains.{Turn, IsTurn, Follows, ChainsEnd, NoInfiniteChain}
use Rattle.descent.specs.Conditions.{AreRules, AreSteps, IsStep, IsRanked}
use Rattle.descent.specs.lemmas.RankingLaws.{ranking_laws, no_weights}
use Rattle.descent.specs.Laws.{start_value, end_value}
use Rattle.descent.specs.Rankings.{weak_fault, strict_fault, bounded_fault, takes_start, takes_end, minus_one, dead_fault}
use Rattle.descent.specs.lemmas.Shown.{need_holds}
use Rattle.descent.specs.Splits.{has}
use Rattle.descent.specs.Steps.{numbers_from, ranking_of, ranking_fault, weak_ones, without, dead_at, empty_fault, step_fault}
use Rattle.descent.specs.Steps.{leaves, Given, is_free, give, set_of, go_on, try_step, first_fault_from, given_first, proof_fault}
use Rattle.descent.specs.Valuations.{Meets}
use Rattle.descent.proofs.Moving.{EndsAt, Ends, outside, fewer, has_filter}
use Rattle.descent.proofs.Parted.{AllEnd, parted_end}
use Rattle.descent.proofs.Ranked.{IsRanking, ranked_at, ranked_end, rule_fits}

-- a rule that can never be taken
never : (rules : List PathRule) (number : ℕ) (rule : PathRule) (multipliers : List (ℕ × ℤ)) (u : Turn) → AreRules rules
    → slice_get rules number ≡ Some rule → dead_fault number rule multipliers ≡ None → IsTurn rules u → u.rule ≡ number → ⊥
never rules number rule multipliers u fit is shown turn at =
    let same = one_rule turn.taken rule (sym turn.is ∙ ap (slice_get rules) at ∙ is) in
    let meets = subst (λ (r : PathRule). Meets r u.valuation) same turn.meets in
    below_zero (need_holds (NotStrict number) unweighed rule minus_one multipliers u.valuation (rule_fits rules number rule fit is)
    (λ class. omega (arith, ints)) tt shown meets)
  where
    one_rule : (a b : PathRule) → ◌≡◌ {A = Option PathRule} (Some a) (Some b) → a ≡ b
    one_rule a b e = cc

    below_zero : pos 0 ≤ℤ (pos 0 +ℤ negsuc 0) → ⊥
    below_zero h = omega (arith, ints)

pub not_dead : (here : Bool) (x number : ℕ) → eqb x number ≡ here → (x ≡ number → ⊥) → not here ≡ true
not_dead true x number e n = absurd (n (eqb-true x number e))
not_dead false x number e n = refl

dead_cases : (rules : List PathRule) (set : List ℕ) (number : ℕ) (found : Option PathRule) (multipliers : List (ℕ × ℤ))
    → AreRules rules → slice_get rules number ≡ found → dead_at number found multipliers ≡ None → Ends rules (without number set)
    → Ends rules set
dead_cases rules set number None multipliers fit is e ends turn = absurd (cc)
dead_cases rules set number (Some rule) multipliers fit is e ends turn = fewer rules set (without number set) (λ v u m. record {
  follows = m.follows;
  from_set = has_filter (λ (other : ℕ). not (eqb other number)) set u.rule m.from_set
      (not_dead (eqb u.rule number) u.rule number refl (λ at. never rules number rule multipliers u fit is e m.follows.before at));
}) turn (ends turn)

dead_member : (member : Bool) (found fault : Option DescentFault) (other : DescentFault) → cond member found (Some other) ≡ None
    → found ≡ None
dead_member true found fault other e = e
dead_member false found fault other e = absurd (cc)

-- the weights of a rank step's order
pub weighs : (size : Bool) (weights : List (ℕ × ℤ)) → AreWeights weights → AreWeights (cond size weights [])
weighs true weights fit = fit
weighs false weights fit = no_weights

rank_ends : (rules : List PathRule) (set : List ℕ) (step : RankStep) → AreRules rules → IsRanked step
    → ranking_fault (ranking_of step) rules set step.rules ≡ None → Ends rules (weak_ones step.rules) → Ends rules set
rank_ends rules set step fit ranked e ends =
    let ranking = ranking_of step in
    let ranks : IsRanking rules set (weak_ones step.rules) (weak_fault ranking) (strict_fault ranking) (bounded_fault ranking)
    (λ rule. takes_start ranking rule ≡ true) (λ rule. takes_end ranking rule ≡ true) (start_value ranking) (end_value ranking)
    = record {
      laws = ranking_laws ranking (weighs step.size step.weights ranked.weights);
      fit = fit;
      each = λ number rule h is. ranked_at (weak_fault ranking) (strict_fault ranking) (bounded_fault ranking) rules set step.rules
          number rule e h is;
    } in
    ranked_end rules set (weak_ones step.rules) (weak_fault ranking) (strict_fault ranking) (bounded_fault ranking)
    (λ rule. takes_start ranking rule ≡ true) (λ rule. takes_end ranking rule ≡ true) (start_value ranking) (end_value ranking)
    ranks ends

empty_ends : (rules : List PathRule) (set : List ℕ) → empty_fault set ≡ None → Ends rules set
empty_ends rules [] e turn = outside rules [] turn refl
empty_ends rules (x ∷ rest) e turn = absurd (cc)

-- a step without a fault, of which the sets that it leaves end
pub step_ends : (rules : List PathRule) (set : List ℕ) (step : ProofStep) → AreRules rules → IsStep step
    → step_fault rules set step ≡ None → AllEnd rules (leaves set step) → Ends rules set
step_ends rules set Empty fit is e all = empty_ends rules set e
step_ends rules set (Split parts steps) fit is e all = parted_end rules set parts steps is e all
step_ends rules set (Rank step rest) fit is e all = rank_ends rules set step fit is e all.0
step_ends rules set (Dead number multipliers rest) fit is e all = dead_cases rules set number (slice_get rules number) multipliers
    fit refl (dead_member (has set number) (dead_at number (slice_get rules number) multipliers) None (NotCovered number) e) all.0

-- what is given to steps
set_same : (given : Given) (n : ℕ) (set : List ℕ) → n < length given → slice_get (slice_set given n (Some set)) n ≡ Some (Some set)
set_same [] n set low = absurd (omega arith)
set_same (x ∷ rest) zero set low = refl
set_same (x ∷ rest) (suc n) set low = set_same rest n set (omega arith)

set_other : (given : Given) (n j : ℕ) (set : List ℕ) → (j ≡ n → ⊥) → slice_get (slice_set given n (Some set)) j ≡ slice_get given j
set_other [] n j set other = refl
set_other (x ∷ rest) zero zero set other = absurd (other refl)
set_other (x ∷ rest) zero (suc j) set other = refl
set_other (x ∷ rest) (suc n) zero set other = refl
set_other (x ∷ rest) (suc n) (suc j) set other = set_other rest n j set (λ e. other (ap suc e))

set_length : (given : Given) (n : ℕ) (set : List ℕ) → length (slice_set given n (Some set)) ≡ length given
set_length [] n set = refl
set_length (x ∷ rest) zero set = refl
set_length (x ∷ rest) (suc n) set = ap suc (set_length rest n set)

abbrev pub AllGiven : ℕ → Given → List (ℕ × List ℕ) → Type 0
AllGiven number after [] = Unit {0}
AllGiven number after (left ∷ rest) = (number < left.0) × (slice_get after left.0 ≡ Some (Some left.1)) × AllGiven number after rest

pub record IsGiven (number : ℕ) (lefts : List (ℕ × List ℕ)) (given after : Given) : Type 0 where
  pub count : length after ≡ length given
  pub kept : (j : ℕ) (set : List ℕ) → slice_get given j ≡ Some (Some set) → slice_get after j ≡ Some (Some set)
  pub all : AllGiven number after lefts

free_low : (given : Given) (n : ℕ) (found : Option (Option (List ℕ))) → slice_get given n ≡ found → is_free found ≡ true → n < length given
free_low given n None e h = absurd (false≢true h)
free_low given n (Some None) e h = slice_get_within given n None e
free_low given n (Some (Some set)) e h = absurd (false≢true h)

gave_cases : (number : ℕ) (left : ℕ × List ℕ) (rest : List (ℕ × List ℕ)) (given after : Given) (later free : Bool)
    → nat_lt number left.0 ≡ later → is_free (slice_get given left.0) ≡ free
    → cond (later && free) (give number rest (slice_set given left.0 (Some left.1))) None ≡ Some after
    → (give number rest (slice_set given left.0 (Some left.1)) ≡ Some after
    → IsGiven number rest (slice_set given left.0 (Some left.1)) after) → IsGiven number (left ∷ rest) given after
gave_cases number left rest given after false free l f e more = absurd (cc)
gave_cases number left rest given after true false l f e more = absurd (cc)
gave_cases number left rest given after true true l f e more =
    let m = more e in
    let low = free_low given left.0 (slice_get given left.0) refl f in
    record {
      count = m.count ∙ set_length given left.0 left.1;
      kept = λ j set is. m.kept j set
          (set_other given left.0 j left.1 (λ same. taken (subst (λ (n : ℕ). slice_get given n ≡ Some (Some set)) same is) f) ∙ is);
      all = (ltb-true number left.0 l, m.kept left.0 left.1 (set_same given left.0 left.1 low), m.all);
    }
  where
    taken : {found : Option (Option (List ℕ))} {set : List ℕ} → found ≡ Some (Some set) → is_free found ≡ true → ⊥
    taken is f = false≢true (subst (λ (o : Option (Option (List ℕ))). is_free o ≡ true) is f)

pub gave : (number : ℕ) (lefts : List (ℕ × List ℕ)) (given after : Given) → give number lefts given ≡ Some after
    → IsGiven number lefts given after
gave number [] given after e =
    let same : given ≡ after = cc in
    record { count = ap length (sym same); kept = λ j set is. subst (λ (g : Given). slice_get g j ≡ Some (Some set)) same is; all = tt }
gave number (left ∷ rest) given after e = gave_cases number left rest given after (nat_lt number left.0)
    (is_free (slice_get given left.0)) refl refl e (λ h. gave number rest (slice_set given left.0 (Some left.1)) after h)

all_end : (rules : List PathRule) (number : ℕ) (after : Given) (lefts : List (ℕ × List ℕ)) → AllGiven number after lefts
    → ((j : ℕ) (set : List ℕ) → suc number ≤ j → slice_get after j ≡ Some (Some set) → Ends rules set) → AllEnd rules lefts
all_end rules number after [] all ends = tt
all_end rules number after (left ∷ rest) all ends =
    (ends left.0 left.1 (omega (arith, all.0)) all.1, all_end rules number after rest all.2 ends)

-- a step that has no fault, with what it gives
pub record IsDone (rules : List PathRule) (number : ℕ) (step : ProofStep) (given : Given) (next : Given → Option StepFault) : Type 0 where
  pub set : List ℕ
  pub after : Given
  pub own : slice_get given number ≡ Some (Some set)
  pub holds : step_fault rules set step ≡ None
  pub gives : give number (leaves set step) given ≡ Some after
  pub others : next after ≡ None

record HasGone (fault : Option DescentFault) (gives : Option Given) (next : Given → Option StepFault) : Type 0 where
  pub after : Given
  pub holds : fault ≡ None
  pub is : gives ≡ Some after
  pub others : next after ≡ None

gone : (number : ℕ) (fault : Option DescentFault) (gives : Option Given) (next : Given → Option StepFault)
    → go_on number fault gives next ≡ None → HasGone fault gives next
gone number fault None next e = absurd (cc)
gone number None (Some given) next e = record { after = given; holds = refl; is = refl; others = e }
gone number (Some fault) (Some given) next e = absurd (cc)

pub done : (rules : List PathRule) (number : ℕ) (step : ProofStep) (given : Given) (found : Option (Option (List ℕ))) (next : Given
    → Option StepFault) → slice_get given number ≡ found → try_step rules number step given (set_of found) next ≡ None
    → IsDone rules number step given next
done rules number step given None next is e = absurd (cc)
done rules number step given (Some None) next is e = absurd (cc)
done rules number step given (Some (Some set)) next is e =
    let g = gone number (step_fault rules set step) (give number (leaves set step) given) next e in
    record { set = set; after = g.after; own = is; holds = g.holds; gives = g.is; others = g.others }

ends_own : (rules : List PathRule) (number j : ℕ) (own set : List ℕ) (given : Given) → slice_get given number ≡ Some (Some own)
    → slice_get given j ≡ Some (Some set) → j ≡ number → Ends rules own → Ends rules set
ends_own rules number j own set given is at same ends =
    let e : own ≡ set = one_set own set (sym is ∙ ap (slice_get given) (sym same) ∙ at) in
    subst (λ (s : List ℕ). Ends rules s) e ends
  where
    one_set : (a b : List ℕ) → ◌≡◌ {A = Option (Option (List ℕ))} (Some (Some a)) (Some (Some b)) → a ≡ b
    one_set a b e = cc

pub walk_ends : (rules : List PathRule) (number : ℕ) (given : Given) (steps : List ProofStep) → AreRules rules → All IsStep steps
    → length given ≡ number + length steps → first_fault_from rules number given steps ≡ None → (j : ℕ) (set : List ℕ) → number ≤ j
    → slice_get given j ≡ Some (Some set) → Ends rules set
walk_ends rules number given [] fit are count e j set low at =
    let within = slice_get_within given j (Some set) at in
    absurd (omega (arith, count, within, low))
walk_ends rules number given (step ∷ rest) fit are count e j set low at =
    let d = done rules number step given (slice_get given number)
    (λ (after : Given). first_fault_from rules (suc number) after rest) refl e in
    let g = gave number (leaves d.set step) given d.after d.gives in
    let total : length d.after ≡ suc number + length rest = omega (arith, g.count, count) in
    let tail : All IsStep rest = λ i x w. are (suc i) x (omega (arith, w)) in
    let ends : (k : ℕ) (s : List ℕ) → suc number ≤ k → slice_get d.after k ≡ Some (Some s) → Ends rules s = walk_ends rules
    (suc number) d.after rest fit tail total d.others in
    elim (cases_eq j number) as (λ o. Ends rules set) [
      | inl same ↦ ends_own rules number j d.set set given d.own at same
          (step_ends rules d.set step fit (are 0 step (omega arith)) d.holds (all_end rules number d.after (leaves d.set step) g.all ends))
      | inr other ↦ ends j set (above number j low other) (g.kept j set at)
    ]
  where
    above : (a b : ℕ) → a ≤ b → (b ≡ a → ⊥) → suc a ≤ b
    above a b h n = omega (arith, n)

-- every rule is given to the first step
has_numbers : (low count rule : ℕ) → low ≤ rule → rule < low + count → has (numbers_from low count) rule ≡ true
has_numbers low zero rule h k = absurd (omega (arith, h, k))
has_numbers low (suc count) rule h k = elim (cases_eq low rule) as (λ o. has (numbers_from low (suc count)) rule ≡ true) [
  | inl e ↦ or_left (eqb low rule) (has (numbers_from (suc low) count) rule) (eq-eqb low rule e)
  | inr n ↦ or_right (eqb low rule) (has (numbers_from (suc low) count) rule)
      (has_numbers (suc low) count rule (above low rule h n) (omega (arith, k)))
]
  where
    above : (a b : ℕ) → a ≤ b → (a ≡ b → ⊥) → suc a ≤ b
    above a b h n = omega (arith, n)

all_follow : (rules : List PathRule) (turn : Turn) → EndsAt rules (numbers_from 0 (length rules)) turn
    → Acc (λ (v u : Turn). Follows rules u v) turn
all_follow rules turn (Acc.intro t h) = Acc.intro t
    (λ v f. all_follow rules v
    (h v (record {
      follows = f;
      from_set = has_numbers 0 (length rules) t.rule (omega arith)
          (omega (arith, slice_get_within rules t.rule f.before.taken f.before.is));
    })))

pub first_length : (rules steps : ℕ) → length (given_first rules steps) ≡ steps
first_length rules zero = refl
first_length rules (suc steps) = ap suc (length-replicate {A = Option (List ℕ)} steps None)

pub closed_ends : (rules : List PathRule) (steps : List ProofStep) → AreRules rules → AreSteps steps
    → proof_fault rules steps ≡ None → ChainsEnd rules
closed_ends rules [] fit are e turn = absurd (cc)
closed_ends rules (step ∷ rest) fit are e turn =
    let count = first_length (length rules) (suc (length rest)) in
    all_follow rules turn (walk_ends rules 0 (given_first (length rules) (suc (length rest))) (step ∷ rest) fit are
    (omega (arith, count)) e 0 (numbers_from 0 (length rules)) (omega arith) refl turn)

-- there is no infinite chain where chains end
no_chain : (rules : List PathRule) (turn : Turn) → Acc (λ (v u : Turn). Follows rules u v) turn → (chain : ℕ → Turn)
    → chain zero ≡ turn → ((n : ℕ) → Follows rules (chain n) (chain (suc n))) → ⊥
no_chain rules turn (Acc.intro t h) chain e f = no_chain rules (chain (suc zero))
    (h (chain (suc zero)) (subst (λ (u : Turn). Follows rules u (chain (suc zero))) e (f zero))) (λ n. chain (suc n)) refl (λ n. f (suc n))

pub none_infinite : (rules : List PathRule) → ChainsEnd rules → NoInfiniteChain rules
none_infinite rules ends chain follows = no_chain rules (chain zero) (ends (chain zero)) chain refl follows
