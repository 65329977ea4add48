-- A closed proof without idle parts is readable.
use Rattle.std.proofs.Common.{◌≡◌, ◌∙◌, ◌<◌, ◌≤◌, ℕ, zero, suc, List, [], ◌∷◌, length, Option, Some, None}
use Rattle.std.proofs.Common.{slice_get, refl, sym, ap, subst, arith}
use Rattle.std.specs.Prelude.{replicate, Bool, true, false, ℤ}
use Rattle.std.specs.List.{AllByRecursion}
use Rattle.std.proofs.lemmas.List.Elements.{All-from_recursion, recursion_from_All, All-weaker}
use Rattle.std.proofs.lemmas.Option.{none-some}
use Rattle.list_views.proofs.Quantified.{all_weaker}
use Rattle.descent.specs.declared.faults.DescentFault.{DescentFault}
use Rattle.descent.specs.declared.faults.StepFault.{StepFault}
use Rattle.descent.specs.declared.faults.StepFault.TheVariants.{At}
use Rattle.descent.specs.declared.faults.DescentFault.TheVariants.{BadStep}
use Rattle.descent.specs.declared.proof.CutForm.{CutForm}
use Rattle.descent.specs.declared.proof.ProofStep.{ProofStep}
use Rattle.descent.specs.declared.proof.ProofStep.TheVariants.{Empty, Split, Rank, Dead}
use Rattle.descent.specs.declared.proof.RankRule.{RankRule}
use Rattle.descent.specs.declared.proof.RankRule.TheVariants.{Weak, Strict}
use Rattle.descent.specs.declared.proof.RankStep.{RankStep}
use Rattle.descent.specs.declared.rules.PathRule.{PathRule}
use Rattle.descent.specs.Conditions as limits
use Rattle.descent.specs.Rankings.{weak_fault, strict_fault, bounded_fault}
use Rattle.descent.specs.Splits.{uncovered, back_edge, first_loop, edge_fault, loop_fault}
use Rattle.descent.specs.Steps.{Given, ranking_of, step_fault, leaves, weak_ones, set_of, give, go_on, try_step, first_fault_from}
use Rattle.descent.specs.Steps.{given_first}
use Rattle.descent.proofs.Walked.{gave}
use Rattle.chain_proofs.specs.Dealt.{Rises}
use Rattle.chain_proofs.specs.inner.Dealt.{IsSet, AreSets}
use Rattle.chain_proofs.specs.Lean.{IsLeanRank, IsLeanStep}
use Rattle.chain_proofs.proofs.Renumbered.{listed_are}
use Rattle.chain_proofs.proofs.Spending.{set_given, sets_first, weak_rise, weak_below}
use Rattle.cert_form.specs.cert_write.Readable.{IsNumber, IsMaybe, IsMultiplier, IsForm, IsRule, IsRank, IsStep, OnlyWith}
use Rattle.prove_core.specs.TextLaws.{ProofsAreReadable}
use Rattle.prove_core.specs.ReadableRules.{IsReadableRule, AreReadableRules}
use Rattle.prove_core.proofs.Multipliers.{HasSmall, IsFittingIn, all_fit}
use Rattle.prove_core.proofs.Forms.{IsFormFor, forms_fit, forms_rise}
use Rattle.prove_core.proofs.Sets.{LeavesSets, sets_after, named_low, parts_leave, steps_low, covered, parts_low, rules_rise}

-- ---- rank steps

rule_fits : (one : RankRule) → limits.IsListed one → HasSmall one → IsRule one
rule_fits (Weak rule fall) few small = (few, All-from_recursion IsMultiplier fall small)
rule_fits (Strict rule fall bound) few small = (
  (few.0, All-from_recursion IsMultiplier fall small.0),
  (few.1, All-from_recursion IsMultiplier bound small.1),
)

module _ (rules : List PathRule) (readable : AreReadableRules rules) where
  rules_fit : (step : RankStep) (listed : List RankRule) → AllByRecursion limits.IsListed listed
      → AllByRecursion (IsFittingIn (ranking_of step) rules) listed → AllByRecursion IsRule listed
  rules_fit step [] few fitting = tt
  rules_fit step (one ∷ listed) few fitting =
      (rule_fits one few.0 fitting.0.fitting.small, rules_fit step listed few.1 fitting.1)

  weights_only : (step : RankStep) → IsLeanRank rules step → OnlyWith step.size step.weights
  weights_only step lean = go step.size refl
    where
      go : (b : Bool) → step.size ≡ b → OnlyWith b step.weights
      go true e = tt
      go false e = ap (λ (ws : List (ℕ × ℤ)). length ws) (lean.linear e).0

  rank_fits : (set : List ℕ) (step : RankStep) → IsSet (length rules) set → step_fault rules set (Rank step 0) ≡ None
      → limits.IsRanked step → IsLeanRank rules step → IsRank step
  rank_fits set step is holds ranked lean =
      let few = All-weaker IsReadableRule (λ (rule : PathRule). length rule.rows ≤ 65536) (λ rule r. r.rows) rules readable.each in
      let ranking = ranking_of step in
      let fitting = all_fit ranking rules few set step.rules holds in
      let forms = forms_fit rules step readable.each fitting ranked lean in
      let numbers = listed_are (weak_fault ranking) (strict_fault ranking) (bounded_fault ranking) rules set step.rules holds in
      record {
        weights_rise = lean.classes;
        weights = ranked.weights;
        sized = weights_only step lean;
        forms_rise = forms_rise step.size 0 step.forms lean.rise forms;
        forms = All-from_recursion (IsForm step.size) step.forms (all_weaker (IsFormFor step.size) (IsForm step.size)
            (λ (form : CutForm) f. f.fits) step.forms forms);
        rules_rise = rules_rise (length rules) 0 step.rules readable.few (subst (Rises 0) (sym numbers) is.rise)
            (subst (AllByRecursion (λ (n : ℕ). n < length rules)) (sym numbers) is.below);
        rules = All-from_recursion IsRule step.rules
            (rules_fit step step.rules (recursion_from_All limits.IsListed step.rules ranked.rules) fitting);
      }

  -- ---- one step

  -- it is readable, and it leaves sets
  record IsRead (step : ProofStep) (set : List ℕ) : Type 0 where
    step_is : IsStep step
    left : LeavesSets (length rules) (leaves set step)

  weak_set : (set : List ℕ) (step : RankStep) → IsSet (length rules) set → step_fault rules set (Rank step 0) ≡ None
      → IsSet (length rules) (weak_ones step.rules)
  weak_set set step is holds =
      let ranking = ranking_of step in
      let numbers = listed_are (weak_fault ranking) (strict_fault ranking) (bounded_fault ranking) rules set step.rules holds in
      record {
        rise = weak_rise 0 step.rules (subst (Rises 0) (sym numbers) is.rise);
        below = weak_below (length rules) step.rules
            (subst (AllByRecursion (λ (n : ℕ). n < length rules)) (sym numbers) is.below);
      }

  one_step : (end : ℕ) (set : List ℕ) (step : ProofStep) → end ≤ 4294967296 → IsSet (length rules) set
      → step_fault rules set step ≡ None → AllByRecursion (λ (left : ℕ × List ℕ). left.0 < end) (leaves set step)
      → limits.IsStep step → IsLeanStep rules step → IsRead step set
  one_step end set Empty most is holds named limit lean = record { step_is = tt; left = tt }
  one_step end set (Split parts steps) most is holds named limit lean =
      let none = covered (uncovered set parts)
      (edge_fault (back_edge rules set parts set) (loop_fault (first_loop rules set parts steps))) holds in
      record {
        step_is = (
          limit,
          (
            parts_low (length rules) set parts readable.few is none,
            All-from_recursion (IsMaybe IsNumber) steps (steps_low end set parts steps most limit named),
          ),
        );
        left = parts_leave (length rules) set parts steps is;
      }
  one_step end set (Rank step rest) most is holds named limit lean =
      let low = named.0 in
      record {
        step_is = (rank_fits set step is holds limit lean, omega (arith, low, most));
        left = (weak_set set step is holds, tt);
      }
  one_step end set (Dead rule multipliers rest) most is holds named limit lean = absurd lean

  -- ---- one after another

  record HasHeld (number : ℕ) (step : ProofStep) (given : Given) (next : Given → Option StepFault) : Type 0 where
    set : List ℕ
    own : set_of (slice_get given number) ≡ Some set
    holds : step_fault rules set step ≡ None
    after : Given
    gives : give number (leaves set step) given ≡ Some after
    others : next after ≡ None

  held : (number : ℕ) (step : ProofStep) (given : Given) (next : Given → Option StepFault) (found : Option (List ℕ))
      → set_of (slice_get given number) ≡ found → try_step rules number step given found next ≡ None → HasHeld number step given next
  held number step given next None own e = absurd (none-some (At number BadStep) (sym e))
  held number step given next (Some set) own e = go (step_fault rules set step) (give number (leaves set step) given) refl refl e
    where
      go : (fault : Option DescentFault) (gives : Option Given) → step_fault rules set step ≡ fault
          → give number (leaves set step) given ≡ gives → go_on number fault gives next ≡ None → HasHeld number step given next
      go fault None f g h = absurd (none-some (At number BadStep) (sym h))
      go (Some fault) (Some after) f g h = absurd (none-some (At number fault) (sym h))
      go None (Some after) f g h = record { set = set; own = own; holds = f; after = after; gives = g; others = h }

  walk : (end number : ℕ) (given : Given) (steps : List ProofStep) → end ≤ 4294967296 → length given ≡ end
      → AreSets (length rules) given → first_fault_from rules number given steps ≡ None → AllByRecursion limits.IsStep steps
      → AllByRecursion (λ (step : ProofStep). IsLeanStep rules step) steps → AllByRecursion IsStep steps
  walk end number given [] most long sets e limit lean = tt
  walk end number given (step ∷ rest) most long sets e limit lean =
      let h = held number step given (λ (after : Given). first_fault_from rules (suc number) after rest) (set_of (slice_get given number))
      refl e in
      let is = set_given (length rules) given number h.set sets h.own in
      let g = gave number (leaves h.set step) given h.after h.gives in
      let count = g.count ∙ long in
      let named = subst (λ (n : ℕ). AllByRecursion (λ (left : ℕ × List ℕ). left.0 < n) (leaves h.set step)) count
      (named_low number h.after (leaves h.set step) g.all) in
      let read = one_step end h.set step most is h.holds named limit.0 lean.0 in (
        read.step_is,
        walk end (suc number) h.after rest most count
            (sets_after (length rules) number (leaves h.set step) given h.after sets read.left h.gives) h.others limit.1 lean.1,
      )

abbrev no_set : Option (List ℕ)
no_set = None

first_long : (count steps : ℕ) → length (given_first count steps) ≡ steps
first_long count zero = refl
first_long count (suc steps) = ap suc (none_long steps)
  where
    none_long : (n : ℕ) → length (replicate n no_set) ≡ n
    none_long zero = refl
    none_long (suc n) = ap suc (none_long n)

pub proofs_are_readable : ProofsAreReadable
proofs_are_readable rules [] readable closed limit lean = absurd (none-some (At 0 BadStep) (sym closed))
proofs_are_readable rules (step ∷ rest) readable closed limit lean =
    let count = length (step ∷ rest) in
    let few = readable.few in
    let many = lean.few in
    All-from_recursion IsStep (step ∷ rest)
    (walk rules readable count 0 (given_first (length rules) count) (step ∷ rest) (omega (arith, few, many)) (first_long (length rules) count)
    (sets_first (length rules) count) closed (recursion_from_All limits.IsStep (step ∷ rest) limit)
    (recursion_from_All (λ (one : ProofStep). IsLeanStep rules one) (step ∷ rest) lean.lean))
