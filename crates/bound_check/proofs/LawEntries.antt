-- What entries without a fault show of each rank step's whole form.
use Rattle.std.proofs.Common.{◌≡◌, ◌∙◌, inl, inr, ℕ, zero, suc, ◌+◌, Bool, true, false, cond, eqb, List, [], ◌∷◌, ◌++◌}
use Rattle.std.proofs.Common.{Option, Some, None, slice_get, refl, sym, ap, subst, arith}
use Rattle.std.specs.Prelude.{◌&&◌, ◌||◌, not, is_none}
use Rattle.std.specs.List.{list_all, list_any}
use Rattle.std.specs.Option.{option_or}
use Rattle.std.proofs.lemmas.Bool.{both_ways, false≢true, true≢false, eqb-true, eq-eqb, or_left, or_right, or_cases, and_parts, not-true}
use Rattle.std.proofs.lemmas.Option.{none-some, same_Some}
use Rattle.descent.specs.declared.faults.DescentFault.{DescentFault}
use Rattle.descent.specs.declared.faults.DescentFault.TheVariants as faults
use Rattle.descent.specs.declared.proof.CutForm.{CutForm}
use Rattle.descent.specs.declared.proof.ProofStep.{ProofStep}
use Rattle.descent.specs.declared.proof.RankStep.{RankStep}
use Rattle.descent.specs.declared.rules.PathRule.{PathRule}
use Rattle.descent.specs.Rankings.{weak_fault, form_at}
use Rattle.descent.specs.Splits.{has}
use Rattle.bound_text.specs.declared.texts.BoundRule.{BoundRule}
use Rattle.bound_text.specs.declared.texts.BoundEntry.{BoundEntry}
use Rattle.bound_check.specs.declared.fault.BoundFault.TheVariants.{NotRank, BadList, Missing}
use Rattle.bound_check.specs.Parts.{rank_at, set_at}
use Rattle.bound_check.specs.Entries.{whole_ranking, lists_rise, is_end_of, is_own_cut, are_good_lists, fall_of, told, rule_fault}
use Rattle.bound_check.specs.Entries.{rules_fault, lists_fault, is_above, outer_fault, entry_fault_by, entry_fault, entries_fault, is_named}
use Rattle.bound_check.specs.Entries.{missing_from, bound_fault}
use Rattle.bound_check.specs.Bounds.{entry_of}
use Rattle.bound_check.proofs.LawUses.{IsWhole}

zero_on : (n : ℕ) → 0 + n ≡ n
zero_on n = omega arith

or_none : {A : Type 0} (a b : Option A) → option_or a b ≡ None → (a ≡ None) × (b ≡ None)
or_none None b e = (refl, e)
or_none (Some x) b e = absurd (none-some x (sym e))

-- ---- the entry of a step

record EntryFine (rules : List PathRule) (steps : List ProofStep) (step : ℕ) (entry : BoundEntry) : Type 0 where
  pub step_is : entry.step ≡ step
  pub number : ℕ
  pub before : Option ℕ
  pub fine : entry_fault rules steps number before entry ≡ None

entry_fine : (rules : List PathRule) (steps : List ProofStep) (n : ℕ) (before : Option ℕ) (entries : List BoundEntry) (step : ℕ)
    (entry : BoundEntry) → entries_fault rules steps n before entries ≡ None → entry_of step entries ≡ Some entry
    → EntryFine rules steps step entry
entry_fine rules steps n before [] step entry e is = absurd (none-some entry is)
entry_fine rules steps n before (first ∷ rest) step entry e is =
    let both = or_none (entry_fault rules steps n before first) (entries_fault rules steps (suc n) (Some first.step) rest) e in
    by_step (eqb first.step step) refl is both.0
    (λ later. entry_fine rules steps (suc n) (Some first.step) rest step entry both.1 later)
  where
    by_step : (here : Bool) → eqb first.step step ≡ here → cond here (Some first) (entry_of step rest) ≡ Some entry
        → entry_fault rules steps n before first ≡ None
        → (entry_of step rest ≡ Some entry → EntryFine rules steps step entry) → EntryFine rules steps step entry
    by_step true same k fine more =
        let is_first = same_Some first entry k in
        subst (λ (b : BoundEntry). EntryFine rules steps step b) is_first
        (record { step_is = eqb-true first.step step same; number = n; before = before; fine = fine })
    by_step false other k fine more = more k

named : (step : ℕ) (entries : List BoundEntry) → is_named step entries ≡ true → (entry : BoundEntry) × (entry_of step entries ≡ Some entry)
named step [] h = absurd (false≢true h)
named step (first ∷ rest) h = by_step (eqb first.step step) refl h (λ k. named step rest k)
  where
    by_step : (here : Bool) → eqb first.step step ≡ here → (here || is_named step rest) ≡ true
        → (is_named step rest ≡ true → (entry : BoundEntry) × (entry_of step rest ≡ Some entry))
        → (entry : BoundEntry) × (cond here (Some first) (entry_of step rest) ≡ Some entry)
    by_step true same k more = (first, refl)
    by_step false other k more = more k

-- each rank step has an entry
all_named : (entries : List BoundEntry) (steps : List ProofStep) (number : ℕ) (rest : List ProofStep)
    → missing_from entries steps number rest ≡ None → (i : ℕ) (step : ProofStep) (rank : RankStep) → slice_get rest i ≡ Some step
    → rank_at steps (number + i) ≡ Some rank → is_named (number + i) entries ≡ true
all_named entries steps number [] e i step rank is at = absurd (none-some step is)
all_named entries steps number (first ∷ rest) e i step rank is at =
    by_case (is_none (rank_at steps number) || is_named number entries) refl e
    (λ none k is_k at_k. all_named entries steps (suc number) rest none k step rank is_k at_k) i is at
  where
    not_none : (found : Option RankStep) → found ≡ Some rank → is_none found ≡ true → ⊥
    not_none None f t = none-some rank f
    not_none (Some r) f t = false≢true t

    here : (named_here : is_none (rank_at steps number) || is_named number entries ≡ true) → rank_at steps (number + 0) ≡ Some rank
        → is_named (number + 0) entries ≡ true
    here t at0 =
        let z : number + 0 ≡ number = omega arith in
        subst (λ (k : ℕ). is_named k entries ≡ true) (sym z)
        (elim (or_cases (is_none (rank_at steps number)) (is_named number entries) t) as (λ o. is_named number entries ≡ true) [
          | inl none ↦ absurd (not_none (rank_at steps number) (subst (λ (k : ℕ). rank_at steps k ≡ Some rank) z at0) none)
          | inr yes_named ↦ yes_named
        ])

    by_case : (b : Bool) → (is_none (rank_at steps number) || is_named number entries) ≡ b
        → cond b (missing_from entries steps (suc number) rest) (Some (Missing number)) ≡ None
        → (missing_from entries steps (suc number) rest ≡ None → (k : ℕ) → slice_get rest k ≡ Some step
        → rank_at steps (suc number + k) ≡ Some rank → is_named (suc number + k) entries ≡ true)
        → (k : ℕ) → slice_get (first ∷ rest) k ≡ Some step → rank_at steps (number + k) ≡ Some rank → is_named (number + k) entries ≡ true
    by_case false t m more k is_k at_k = absurd (none-some (Missing number) (sym m))
    by_case true t m more zero is_k at_k = here t at_k
    by_case true t m more (suc k) is_k at_k =
        let z : number + suc k ≡ suc number + k = omega arith in
        subst (λ (j : ℕ). is_named j entries ≡ true) (sym z)
        (more m k is_k (subst (λ (j : ℕ). rank_at steps j ≡ Some rank) z at_k))

-- ---- cuts of own forms

any_has : (test : ℕ → Bool) (set : List ℕ) (number : ℕ) → has set number ≡ true → test number ≡ true → list_any test set ≡ true
any_has test [] number h t = absurd (false≢true h)
any_has test (x ∷ set) number h t =
    elim (or_cases (eqb x number) (has set number) h) as (λ o. list_any test (x ∷ set) ≡ true) [
      | inl e ↦ or_left (test x) (list_any test set) (subst (λ (y : ℕ). test y ≡ true) (sym (eqb-true x number e)) t)
      | inr more ↦ or_right (test x) (list_any test set) (any_has test set number more t)
    ]

-- forms of other cuts have none for this one
none_added : (own : ℕ → Bool) (added : List CutForm) (cut : ℕ) → list_all (λ (f : CutForm). not (own f.cut)) added ≡ true
    → own cut ≡ true → form_at added cut ≡ None
none_added own [] cut all is = refl
none_added own (first ∷ rest) cut all is =
    let both = and_parts (not (own first.cut)) (list_all (λ (f : CutForm). not (own f.cut)) rest) all in
    by_cut (eqb first.cut cut) refl both.0 (none_added own rest cut both.1 is)
  where
    by_cut : (here : Bool) → eqb first.cut cut ≡ here → not (own first.cut) ≡ true → form_at rest cut ≡ None
        → cond here (Some first) (form_at rest cut) ≡ None
    by_cut true same other more = absurd (both_ways (own first.cut) (not-true (own first.cut) other)
        (subst (λ (c : ℕ). own c ≡ true) (sym (eqb-true first.cut cut same)) is))
    by_cut false same other more = more

form_with : (own added : List CutForm) (cut : ℕ) → form_at added cut ≡ None → form_at (own ++ added) cut ≡ form_at own cut
form_with [] added cut none = none
form_with (first ∷ own) added cut none = ap (λ (o : Option CutForm). cond (eqb first.cut cut) (Some first) o) (form_with own added cut none)

-- ---- an entry without a fault

none_told : (n number : ℕ) (fault : Option DescentFault) → told n number fault ≡ None → fault ≡ None
none_told n number None e = refl
none_told n number (Some (faults.Lin fault)) e = absurd (cc)
none_told n number (Some (faults.NotWeak rule)) e = absurd (cc)
none_told n number (Some (faults.NotStrict rule)) e = absurd (cc)
none_told n number (Some (faults.NotBounded rule)) e = absurd (cc)
none_told n number (Some (faults.NotCovered rule)) e = absurd (cc)
none_told n number (Some (faults.BackEdge rule next)) e = absurd (cc)
none_told n number (Some (faults.Loops rule)) e = absurd (cc)
none_told n number (Some faults.BadStep) e = absurd (cc)

cond_none : {A : Type 0} (b : Bool) (found : Option A) → b ≡ false → cond b None found ≡ None → found ≡ None
cond_none true found f e = absurd (true≢false f)
cond_none false found f e = e

falls_outside : (n : ℕ) (set : List ℕ) (step : RankStep) (entry : BoundEntry) (number : ℕ) (rules : List PathRule)
    → rules_fault (weak_fault (whole_ranking step entry)) n set entry number rules ≡ None
    → (i : ℕ) (rule : PathRule) → slice_get rules i ≡ Some rule
    → has set (number + i) ≡ false
    → weak_fault (whole_ranking step entry) (number + i) rule (fall_of (number + i) entry.rules) ≡ None
falls_outside n set step entry number [] e i rule is other = absurd (none-some rule is)
falls_outside n set step entry number (first ∷ rest) e i rule is other =
    let weak = weak_fault (whole_ranking step entry) in
    let both = or_none (outer_fault weak n set entry number first) (rules_fault weak n set entry (suc number) rest) e in
    at i is other both.0 (λ k is_k other_k. falls_outside n set step entry (suc number) rest both.1 k rule is_k other_k)
  where
    at : (k : ℕ) → slice_get (first ∷ rest) k ≡ Some rule → has set (number + k) ≡ false
        → outer_fault (weak_fault (whole_ranking step entry)) n set entry number first ≡ None
        → ((j : ℕ) → slice_get rest j ≡ Some rule → has set (suc number + j) ≡ false
        → weak_fault (whole_ranking step entry) (suc number + j) rule (fall_of (suc number + j) entry.rules) ≡ None)
        → weak_fault (whole_ranking step entry) (number + k) rule (fall_of (number + k) entry.rules) ≡ None
    at zero is_k other_k here more =
        let z : number + 0 ≡ number = omega arith in
        let outside = subst (λ (j : ℕ). has set j ≡ false) z other_k in
        let weak = none_told n number (weak_fault (whole_ranking step entry) number first (fall_of number entry.rules))
        (cond_none (has set number) (rule_fault (weak_fault (whole_ranking step entry)) n entry number first) outside here) in
        subst (λ (j : ℕ). weak_fault (whole_ranking step entry) j rule (fall_of j entry.rules) ≡ None) (sym z)
        (subst (λ (r : PathRule). weak_fault (whole_ranking step entry) number r (fall_of number entry.rules) ≡ None)
        (same_Some first rule is_k) weak)
    at (suc k) is_k other_k here more =
        let z : number + suc k ≡ suc number + k = omega arith in
        subst (λ (j : ℕ). weak_fault (whole_ranking step entry) j rule (fall_of j entry.rules) ≡ None) (sym z)
        (more k is_k (subst (λ (j : ℕ). has set j ≡ false) z other_k))

module _ (rules : List PathRule) (set : List ℕ) (step : RankStep) (entry : BoundEntry) (n : ℕ) where
  own_end : (number cut : ℕ) (rule : PathRule) → has set number ≡ true → slice_get rules number ≡ Some rule
      → is_end_of cut (Some rule) ≡ true → is_own_cut rules set step cut ≡ true
  own_end number cut rule member is end =
      or_right (list_any (λ (f : CutForm). eqb f.cut cut) step.forms) (list_any (λ (r : ℕ). is_end_of cut (slice_get rules r)) set)
      (any_has (λ (r : ℕ). is_end_of cut (slice_get rules r)) set number member
      (ap (is_end_of cut) is ∙ end))

  outside_at : (k number : ℕ) → k ≡ number → (rule : PathRule)
      → weak_fault (whole_ranking step entry) k rule (fall_of k entry.rules) ≡ None
      → weak_fault (whole_ranking step entry) number rule (fall_of number entry.rules) ≡ None
  outside_at k number e rule h = subst (λ (j : ℕ). weak_fault (whole_ranking step entry) j rule (fall_of j entry.rules) ≡ None) e h

  good_is_whole : are_good_lists rules set step entry ≡ true
      → rules_fault (weak_fault (whole_ranking step entry)) n set entry 0 rules ≡ None
      → IsWhole rules set step entry.forms
  good_is_whole good none =
      let one = and_parts (lists_rise entry) (list_all (λ (f : CutForm). not (is_own_cut rules set step f.cut)) entry.forms
      && list_all (λ (r : BoundRule). not (has set r.rule)) entry.rules) good in
      let two = and_parts (list_all (λ (f : CutForm). not (is_own_cut rules set step f.cut)) entry.forms)
      (list_all (λ (r : BoundRule). not (has set r.rule)) entry.rules) one.1 in
      record {
        inside = λ number rule member is. (
          form_with step.forms entry.forms rule.from (none_added (is_own_cut rules set step) entry.forms rule.from two.0
              (own_end number rule.from rule member is (or_left (eqb rule.from rule.from) (eqb rule.to rule.from)
              (eq-eqb rule.from rule.from refl)))),
          form_with step.forms entry.forms rule.to (none_added (is_own_cut rules set step) entry.forms rule.to two.0
              (own_end number rule.to rule member is (or_right (eqb rule.from rule.to) (eqb rule.to rule.to)
              (eq-eqb rule.to rule.to refl)))),
        );
        outside = λ number rule other is. (
          fall_of number entry.rules,
          outside_at (0 + number) number (zero_on number) rule (falls_outside n set step entry 0 rules none number rule is
              (subst (λ (k : ℕ). has set k ≡ false) (sym (zero_on number)) other)),
        );
      }

  fine_is_whole : (good : Bool) → are_good_lists rules set step entry ≡ good
      → cond good (rules_fault (weak_fault (whole_ranking step entry)) n set entry 0 rules) (Some (BadList n)) ≡ None
      → IsWhole rules set step entry.forms
  fine_is_whole true g e = good_is_whole g e
  fine_is_whole false g e = absurd (none-some (BadList n) (sym e))

-- the set of a rank step, and its whole form
pub record HasWhole (rules : List PathRule) (steps : List ProofStep) (step : ℕ) (rank : RankStep) (entry : BoundEntry) : Type 0 where
  pub set : List ℕ
  pub is : set_at rules steps step ≡ Some set
  pub whole : IsWhole rules set rank entry.forms

by_fault : (rules : List PathRule) (steps : List ProofStep) (number step : ℕ) (before : Option ℕ) (rank : RankStep) (entry : BoundEntry)
    (found : Option RankStep) (set : Option (List ℕ)) → found ≡ Some rank → set_at rules steps step ≡ set
    → entry_fault_by rules number before entry found set ≡ None → HasWhole rules steps step rank entry
by_fault rules steps number step before rank entry None set f s e = absurd (none-some rank f)
by_fault rules steps number step before rank entry (Some r) None f s e = absurd (none-some (NotRank number entry.step) (sym e))
by_fault rules steps number step before rank entry (Some r) (Some set) f s e = by_order (is_above before entry.step) e
  where
    by_order : (above : Bool) → cond above (lists_fault rules number set r entry) (Some (NotRank number entry.step)) ≡ None
        → HasWhole rules steps step rank entry
    by_order true k = record {
      set = set;
      is = s;
      whole = subst (λ (q : RankStep). IsWhole rules set q entry.forms) (same_Some r rank f)
          (fine_is_whole rules set r entry number (are_good_lists rules set r entry) refl k);
    }
    by_order false k = absurd (none-some (NotRank number entry.step) (sym k))

-- a rank step of a proof with its entry
pub record HasEntry (rules : List PathRule) (steps : List ProofStep) (entries : List BoundEntry) (step : ℕ) (rank : RankStep) : Type 0 where
  pub entry : BoundEntry
  pub is : entry_of step entries ≡ Some entry
  pub has_whole : HasWhole rules steps step rank entry

pub has_entry : (rules : List PathRule) (steps : List ProofStep) (entries : List BoundEntry) → bound_fault rules steps entries ≡ None
    → (number : ℕ) (step : ProofStep) (rank : RankStep) → slice_get steps number ≡ Some step → rank_at steps number ≡ Some rank
    → HasEntry rules steps entries number rank
has_entry rules steps entries none number step rank is at =
    let both = or_none (entries_fault rules steps 0 None entries) (missing_from entries steps 0 steps) none in
    let entry = named number entries (subst (λ (k : ℕ). is_named k entries ≡ true) (zero_on number)
    (all_named entries steps 0 steps both.1 number step rank is
    (subst (λ (k : ℕ). rank_at steps k ≡ Some rank) (sym (zero_on number)) at))) in
    let f = entry_fine rules steps 0 None entries number entry.0 both.0 entry.1 in
    record {
      entry = entry.0;
      is = entry.1;
      has_whole = by_fault rules steps f.number number f.before rank entry.0 (rank_at steps number) (set_at rules steps number) at refl
          (subst (λ (k : ℕ). entry_fault_by rules f.number f.before entry.0 (rank_at steps k) (set_at rules steps k) ≡ None)
          f.step_is f.fine);
    }
