-- What a chain's turns weigh is at most what a bound's terms are worth.
use Rattle.std.proofs.Common.{◌≡◌, ◌∙◌, ℕ, suc, ◌+◌, ◌*◌, ◌≤◌, Bool, true, false, List, [], ◌∷◌, ◌++◌, length, ℤ, pos, ◌+ℤ◌}
use Rattle.std.proofs.Common.{Option, Some, None, slice_get, slice_index_or, refl, sym, ap, subst, arith}
use Rattle.std.proofs.lemmas.Nat.{mul-le}
use Rattle.std.specs.List.{All}
use Rattle.jvm_values.specs.States.{MachineState}
use Rattle.abs_cells.specs.AbstractStates.{AbstractState}
use Rattle.abs_cells.specs.Fits.{Meaning}
use Rattle.descent.specs.declared.proof.ProofStep.{ProofStep}
use Rattle.descent.specs.declared.proof.ProofStep.TheVariants.{Empty, Split, Rank, Dead}
use Rattle.descent.specs.declared.proof.RankStep.{RankStep}
use Rattle.descent.specs.declared.rules.PathRule.{PathRule}
use Rattle.descent.specs.Chains.{Turn}
use Rattle.descent.specs.Conditions.{AreRules, AreSteps, IsStep, IsRanked}
use Rattle.descent.specs.Steps.{set_of, Given, proof_fault}
use Rattle.bound_text.specs.declared.texts.BoundEntry.{BoundEntry}
use Rattle.bound_check.specs.declared.bound.RootForm.{RootForm}
use Rattle.bound_check.specs.Parts.{rank_at, rank_in, untaken_in, untaken_from, untaken_at}
use Rattle.bound_check.specs.Entries.{bound_fault}
use Rattle.bound_check.specs.Bounds.{root_form, entry_of, term_of, terms_from, FormWorth, TermsWorth, no_term, next_term, not_below_zero}
use Rattle.bound_check.proofs.LawChains.{IsChain, total}
use Rattle.bound_check.proofs.LawCounting.{is_counted, if_counted, weight_from, sets_of, chain_counted, step_holds}
use Rattle.bound_check.proofs.LawUses.{once, uses, with_forms, BeginsAt, uses_few}
use Rattle.bound_check.proofs.LawEntries.{has_entry}

-- ---- sums over turns

no_weight : (turns : List Turn) → total (λ (rule : ℕ). 0) turns ≡ 0
no_weight [] = refl
no_weight (turn ∷ turns) = let h = no_weight turns in omega (arith, h)

counted_total : (counted : ℕ → Bool) (number : ℕ) (weight : ℕ → ℕ) (turns : List Turn)
    → total (λ (rule : ℕ). if_counted (counted rule) number + weight rule) turns ≡ number * uses counted turns + total weight turns
counted_total counted number weight [] = omega arith
counted_total counted number weight (turn ∷ turns) =
    one (counted turn.rule) (weight turn.rule) _ (uses counted turns) (total weight turns) (counted_total counted number weight turns)
  where
    one : (b : Bool) (here rest count more : ℕ) → rest ≡ number * count + more
        → (if_counted b number + here) + rest ≡ number * (once b + count) + (here + more)
    one true here rest count more e = omega (arith, e)
    one false here rest count more e = omega (arith, e)

none_used : (counted : ℕ → Bool) → ((rule : ℕ) → counted rule ≡ false) → (turns : List Turn) → uses counted turns ≡ 0
none_used counted none [] = refl
none_used counted none (turn ∷ turns) =
    let h = none_used counted none turns in
    ap (λ (b : Bool). once b + uses counted turns) (none turn.rule) ∙ omega (arith, h)

-- ---- steps that count no rule

abbrev CountsNone : ProofStep → Type 0
CountsNone step = (set : Option (List ℕ)) (rule : ℕ) → is_counted set step rule ≡ false

none_empty : CountsNone Empty
none_empty None rule = refl
none_empty (Some set) rule = refl

none_split : (parts : List (List ℕ)) (steps : List (Option ℕ)) → CountsNone (Split parts steps)
none_split parts steps None rule = refl
none_split parts steps (Some set) rule = refl

none_dead : (dead rest : ℕ) (multipliers : List (ℕ × ℤ)) → CountsNone (Dead dead multipliers rest)
none_dead dead rest multipliers None rule = refl
none_dead dead rest multipliers (Some set) rule = refl

-- ---- terms

-- terms are worth a number that is at least another one
record WorthMore (state : MachineState) (meaning : Meaning) (terms : List (ℕ × RootForm)) (least : ℕ) : Type 0 where
  pub sum : ℕ
  pub worth : TermsWorth state meaning terms sum
  pub enough : least ≤ sum

-- a form at node 0 has a value, and where a chain has a first turn the whole form begins there with it
pub record RootWorth (rules : List PathRule) (state : MachineState) (meaning : Meaning) (root : AbstractState) (sized : ℕ → Bool)
    (turns : List Turn) (rank : RankStep) (entry : BoundEntry) : Type 0 where
  pub value : ℤ
  pub worth : FormWorth state meaning (root_form root sized rank entry) value
  pub begins : BeginsAt rules (with_forms rank entry.forms) turns value

module _ (rules : List PathRule) (steps : List ProofStep) (entries : List BoundEntry) (fit : AreRules rules) (are : AreSteps steps)
    (closed : proof_fault rules steps ≡ None) (none : bound_fault rules steps entries ≡ None) (state : MachineState) (meaning : Meaning)
    (root : AbstractState) (sized : ℕ → Bool) (turns : List Turn) (chain : IsChain rules turns)
    (worths : (rank : RankStep) (entry : BoundEntry) → IsRanked rank → RootWorth rules state meaning root sized turns rank entry) where
  abbrev sets : Given
  sets = sets_of rules steps

  module _ (number : ℕ) (step : ProofStep) (rest : List ProofStep) (is : slice_get steps number ≡ Some step)
      (count : untaken_in number (untaken_from (suc number) rest) step ≡ untaken_at steps number)
      (more : WorthMore state meaning (terms_from root sized steps entries (suc number) rest)
      (total (weight_from sets (suc number) rest) turns))
    where
      abbrev here : ℕ
      here = 1 + untaken_in number (untaken_from (suc number) rest) step

      abbrev counted : ℕ → Bool
      counted rule = is_counted (set_of (slice_get sets number)) step rule

      weighs : total (weight_from sets number (step ∷ rest)) turns
          ≡ here * uses counted turns + total (weight_from sets (suc number) rest) turns
      weighs = counted_total counted here (weight_from sets (suc number) rest) turns

      abbrev Worth : Type 0
      Worth = WorthMore state meaning (terms_from root sized steps entries number (step ∷ rest))
          (total (weight_from sets number (step ∷ rest)) turns)

      -- a step that is no rank step has no term
      other : rank_at steps number ≡ None → CountsNone step → Worth
      other no_rank counts =
          let unused = none_used counted (counts (set_of (slice_get sets number))) turns in
          let nothing = mul_none here (uses counted turns) unused in
          record {
            sum = more.sum;
            worth = subst (λ (o : Option RankStep). TermsWorth state meaning (term_of root sized steps number o (entry_of number entries)
                ++ terms_from root sized steps entries (suc number) rest) more.sum) (sym no_rank) more.worth;
            enough = omega (arith, weighs, nothing, more.enough);
          }
        where
          mul_none : (a b : ℕ) → b ≡ 0 → a * b ≡ 0
          mul_none a b e = ap (λ (n : ℕ). a * n) e ∙ omega arith

      ranked : (rank : RankStep) (later : ℕ) → step ≡ Rank rank later → IsRanked rank → rank_at steps number ≡ Some rank → Worth
      ranked rank later same fits at =
          let h = has_entry rules steps entries none number step rank is at in
          let w = h.has_whole in
          let shown = step_holds rules steps closed number (Rank rank later) w.set (is ∙ ap (λ (s : ProofStep). Some s) same)
          (set_there (slice_get sets number) refl w.is) in
          let worth = worths rank h.entry fits in
          let few = uses_few rules w.set rank h.entry.forms fit fits shown w.whole turns worth.value chain worth.begins in
          let used : uses counted turns ≤ not_below_zero (worth.value +ℤ pos 1) = used_here w.set rank later same w.is few in
          let product = mul-le here (uses counted turns) here (not_below_zero (worth.value +ℤ pos 1)) (omega arith) used in
          let number_is : here ≡ 1 + untaken_at steps number = ap (λ (n : ℕ). 1 + n) count in
          record {
            sum = (1 + untaken_at steps number) * not_below_zero (worth.value +ℤ pos 1) + more.sum;
            worth = with_term rank h.entry at h.is
                (next_term (1 + untaken_at steps number, root_form root sized rank h.entry)
                (terms_from root sized steps entries (suc number) rest) worth.value more.sum worth.worth more.worth);
            enough = subst (λ (k : ℕ). total (weight_from sets number (step ∷ rest)) turns
                ≤ k * not_below_zero (worth.value +ℤ pos 1) + more.sum) number_is
                (omega (arith, weighs, product, more.enough));
          }
        where
          set_there : (found : Option (Option (List ℕ))) {set : List ℕ} → slice_get sets number ≡ found → set_of found ≡ Some set
              → slice_get sets number ≡ Some (Some set)
          set_there None {set} e f = absurd (cc)
          set_there (Some s) {set} e f = e ∙ ap (λ (o : Option (List ℕ)). Some o) f

          used_here : (set : List ℕ) (r : RankStep) (l : ℕ) → step ≡ Rank r l → set_of (slice_get sets number) ≡ Some set → {most : ℕ}
              → uses (λ (rule : ℕ). is_counted (Some set) (Rank r l) rule) turns ≤ most → uses counted turns ≤ most
          used_here set r l e f {most} u = subst
              (λ (s : ProofStep). uses (λ (rule : ℕ). is_counted (set_of (slice_get sets number)) s rule) turns ≤ most)
              (sym e)
              (subst (λ (o : Option (List ℕ)). uses (λ (rule : ℕ). is_counted o (Rank r l) rule) turns ≤ most) (sym f) u)

          with_term : (r : RankStep) (entry : BoundEntry) → rank_at steps number ≡ Some r → entry_of number entries ≡ Some entry → {sum : ℕ}
              → TermsWorth state meaning ((1 + untaken_at steps number, root_form root sized r entry)
              ∷ terms_from root sized steps entries (suc number) rest) sum
              → TermsWorth state meaning (terms_from root sized steps entries number (step ∷ rest)) sum
          with_term r entry e f {sum} t =
              subst (λ (o : Option RankStep). TermsWorth state meaning (term_of root sized steps number o (entry_of number entries)
              ++ terms_from root sized steps entries (suc number) rest) sum) (sym e)
              (subst (λ (o : Option BoundEntry). TermsWorth state meaning (term_of root sized steps number (Some r) o
              ++ terms_from root sized steps entries (suc number) rest) sum) (sym f) t)

      by_step : (s : ProofStep) → step ≡ s → IsStep s → Worth
      by_step Empty e fits = other (ap rank_in is ∙ ap (λ (t : ProofStep). rank_in (Some t)) e) (subst CountsNone (sym e) none_empty)
      by_step (Split parts takes) e fits = other (ap rank_in is ∙ ap (λ (t : ProofStep). rank_in (Some t)) e)
          (subst CountsNone (sym e) (none_split parts takes))
      by_step (Rank rank later) e fits = ranked rank later e fits (ap rank_in is ∙ ap (λ (t : ProofStep). rank_in (Some t)) e)
      by_step (Dead dead multipliers later) e fits = other (ap rank_in is ∙ ap (λ (t : ProofStep). rank_in (Some t)) e)
          (subst CountsNone (sym e) (none_dead dead later multipliers))

  worth_from : (number : ℕ) (rest : List ProofStep) → All IsStep rest → ((i : ℕ) → slice_get rest i ≡ slice_get steps (number + i))
      → ((i : ℕ) → slice_index_or (untaken_from number rest) i 0 ≡ slice_index_or (untaken_from 0 steps) (number + i) 0)
      → WorthMore state meaning (terms_from root sized steps entries number rest) (total (weight_from sets number rest) turns)
  worth_from number [] fits at counts = record { sum = 0; worth = no_term; enough = let h = no_weight turns in omega (arith, h) }
  worth_from number (step ∷ rest) fits at counts =
      let z : number + 0 ≡ number = omega arith in
      by_step number step rest (sym (at 0 ∙ ap (slice_get steps) z))
      (counts 0 ∙ ap (λ (k : ℕ). slice_index_or (untaken_from 0 steps) k 0) z)
      (worth_from (suc number) rest (λ i x w. fits (suc i) x (omega (arith, w)))
      (λ i. at (suc i) ∙ ap (slice_get steps) (shift i))
      (λ i. counts (suc i) ∙ ap (λ (k : ℕ). slice_index_or (untaken_from 0 steps) k 0) (shift i)))
      step refl (fits 0 step (omega arith))
    where
      shift : (i : ℕ) → number + suc i ≡ suc number + i
      shift i = omega arith

  -- how many turns a chain has
  pub record Bounded : Type 0 where
    pub sum : ℕ
    pub worth : TermsWorth state meaning (terms_from root sized steps entries 0 steps) sum
    pub few : length turns ≤ untaken_at steps 0 + sum

  pub chain_bounded : Bounded
  chain_bounded =
      let w = worth_from 0 steps are (λ i. ap (slice_get steps) (zero_on i))
      (λ i. ap (λ (k : ℕ). slice_index_or (untaken_from 0 steps) k 0) (zero_on i)) in
      let counted = chain_counted rules steps fit are closed turns chain in
      record { sum = w.sum; worth = w.worth; few = omega (arith, counted, w.enough) }
    where
      zero_on : (i : ℕ) → i ≡ 0 + i
      zero_on i = omega arith
