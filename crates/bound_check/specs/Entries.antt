-- Entries of a bound: what is shown of each, and the first fault.
use Rattle.std.specs.Prelude.{ℕ, suc, ◌==◌, ◌&&◌, ◌||◌, not, nat_lt, Bool, true, false, if◌then◌else◌, List, [], ◌∷◌, ◌++◌, map}
use Rattle.std.specs.Prelude.{Option, Some, None, slice_get, ℤ}
use Rattle.std.specs.List.{list_all, list_any}
use Rattle.std.specs.Option.{option_or, is_none}
use Rattle.descent.specs.declared.faults.DescentFault.{DescentFault}
use Rattle.descent.specs.declared.faults.DescentFault.TheVariants as faults
use Rattle.descent.specs.declared.proof.CutForm.{CutForm}
use Rattle.descent.specs.declared.proof.ProofStep.{ProofStep}
use Rattle.descent.specs.declared.proof.RankStep.{RankStep}
use Rattle.descent.specs.declared.rules.PathRule.{PathRule}
use Rattle.descent.specs.Orders.{Says}
use Rattle.descent.specs.Rankings.{Ranking, weak_fault}
use Rattle.descent.specs.Splits.{has}
use Rattle.bound_check.specs.declared.fault.BoundFault.{BoundFault}
use Rattle.bound_check.specs.declared.fault.BoundFault.TheVariants.{NotRank, BadList, Lin, NotWeak, Missing}
use Rattle.bound_text.specs.declared.texts.BoundRule.{BoundRule}
use Rattle.bound_text.specs.declared.texts.BoundEntry.{BoundEntry}
use Rattle.bound_check.specs.Parts.{set_at, rank_at}

-- ---- whole forms

-- the forms of a rank step and those that its entry adds; at a cut without one the form is 0
abbrev pub whole_forms : RankStep → BoundEntry → List CutForm
whole_forms step entry = step.forms ++ entry.forms

-- what the whole forms rank by: as the step does, so in a step of ints alone sizes count nothing and no class has a weight
abbrev pub whole_ranking : RankStep → BoundEntry → Ranking
whole_ranking step entry = record { forms = whole_forms step entry; weights = if step.size then step.weights else []; sizes = step.size }

-- ---- lists

-- a number is above the one before, if there is one
abbrev pub is_above : Option ℕ → ℕ → Bool
is_above None number = true
is_above (Some before) number = nat_lt before number

-- the numbers of a list rise, and are above the one before, if there is one
abbrev pub rise_after : Option ℕ → List ℕ → Bool
rise_after before [] = true
rise_after before (number ∷ numbers) = is_above before number && rise_after (Some number) numbers

-- each number of a list is above the one before
abbrev pub rises : List ℕ → Bool
rises numbers = rise_after None numbers

-- the ids of a list of multiples
abbrev pub keys : List (ℕ × ℤ) → List ℕ
keys entries = map (λ (e : ℕ × ℤ). e.0) entries

-- the ids of a form's multiples rise, those of ints and those of sizes
abbrev pub form_rises : CutForm → Bool
form_rises form = rises (keys form.ints) && rises (keys form.sizes)

-- the lists of an entry rise: its forms by their cuts, the multiples of each form by their ids, and its rules by their numbers
abbrev pub lists_rise : BoundEntry → Bool
lists_rise entry = rises (map (λ (f : CutForm). f.cut) entry.forms)
    && (list_all form_rises entry.forms && rises (map (λ (r : BoundRule). r.rule) entry.rules))

-- a rule is there, and starts or ends at a cut
abbrev pub is_end_of : ℕ → Option PathRule → Bool
is_end_of cut None = false
is_end_of cut (Some rule) = (rule.from == cut) || (rule.to == cut)

-- a cut is the step's own: the step lists a form for it, or a rule of its set starts or ends there
abbrev pub is_own_cut : List PathRule → List ℕ → RankStep → ℕ → Bool
is_own_cut rules set step cut = list_any (λ (f : CutForm). f.cut == cut) step.forms
    || list_any (λ (r : ℕ). is_end_of cut (slice_get rules r)) set

-- the lists of an entry are as they must be: they rise, and name neither a cut that is the step's own nor a rule of its set
abbrev pub are_good_lists : List PathRule → List ℕ → RankStep → BoundEntry → Bool
are_good_lists rules set step entry = lists_rise entry
    && (list_all (λ (f : CutForm). not (is_own_cut rules set step f.cut)) entry.forms
    && list_all (λ (r : BoundRule). not (has set r.rule)) entry.rules)

-- ---- rules outside the set

-- the multipliers of a rule; one that isn't listed has none
abbrev pub fall_of : ℕ → List BoundRule → List (ℕ × ℤ)
fall_of rule [] = []
fall_of rule (listed ∷ rest) = if listed.rule == rule then listed.fall else fall_of rule rest

-- what is not shown of a rule, as a fault of the entry
abbrev pub told : ℕ → ℕ → Option DescentFault → Option BoundFault
told entry rule None = None
told entry rule (Some (faults.Lin fault)) = Some (Lin entry fault)
told entry rule (Some _) = Some (NotWeak entry rule)

-- the fault of an entry at a rule: by the entry's multipliers it isn't shown that the whole form never rises on the rule
abbrev pub rule_fault : Says → ℕ → BoundEntry → ℕ → PathRule → Option BoundFault
rule_fault weak n entry number rule = told n number (weak number rule (fall_of number entry.rules))

-- the fault of an entry at a rule outside the step's set; nothing is asked of a rule in the set
abbrev pub outer_fault : Says → ℕ → List ℕ → BoundEntry → ℕ → PathRule → Option BoundFault
outer_fault weak n set entry number rule = if has set number then None else rule_fault weak n entry number rule

-- the fault of an entry at the first of the rules, numbered from one on, that is outside the set and for which `weak` has a fault
abbrev pub rules_fault : Says → ℕ → List ℕ → BoundEntry → ℕ → List PathRule → Option BoundFault
rules_fault weak n set entry number [] = None
rules_fault weak n set entry number (rule ∷ rules) = option_or (outer_fault weak n set entry number rule)
    (rules_fault weak n set entry (suc number) rules)

-- ---- entries

-- the first fault of an entry for a step: its lists are not as they must be, or it isn't shown of a rule outside the set that the whole
-- form never rises on it
abbrev pub lists_fault : List PathRule → ℕ → List ℕ → RankStep → BoundEntry → Option BoundFault
lists_fault rules n set step entry = if are_good_lists rules set step entry
    then rules_fault (weak_fault (whole_ranking step entry)) n set entry 0 rules else Some (BadList n)

-- the first fault of an entry that names a step: there is no rank step with a set, or it isn't above the step of the entry before, or the
-- entry has a fault for it
abbrev pub entry_fault_by : List PathRule → ℕ → Option ℕ → BoundEntry → Option RankStep → Option (List ℕ) → Option BoundFault
entry_fault_by rules n before entry (Some step) (Some set) = if is_above before entry.step then lists_fault rules n set step entry else
    Some (NotRank n entry.step)
entry_fault_by rules n before entry _ _ = Some (NotRank n entry.step)

-- the first fault of an entry, by the rank step that it names and the set that this step is given
abbrev pub entry_fault : List PathRule → List ProofStep → ℕ → Option ℕ → BoundEntry → Option BoundFault
entry_fault rules steps n before entry = entry_fault_by rules n before entry (rank_at steps entry.step) (set_at rules steps entry.step)

-- the first fault of a list of entries, numbered from one on
abbrev pub entries_fault : List PathRule → List ProofStep → ℕ → Option ℕ → List BoundEntry → Option BoundFault
entries_fault rules steps n before [] = None
entries_fault rules steps n before (entry ∷ rest) = option_or (entry_fault rules steps n before entry)
    (entries_fault rules steps (suc n) (Some entry.step) rest)

-- ---- steps without an entry

-- an entry names a step
abbrev pub is_named : ℕ → List BoundEntry → Bool
is_named step entries = list_any (λ (e : BoundEntry). e.step == step) entries

-- a step is no rank step, or an entry names it
abbrev pub is_covered : List BoundEntry → List ProofStep → ℕ → Bool
is_covered entries steps number = is_none (rank_at steps number) || is_named number entries

-- the least rank step, from one on, that no entry names
abbrev pub missing_from : List BoundEntry → List ProofStep → ℕ → List ProofStep → Option BoundFault
missing_from entries steps number [] = None
missing_from entries steps number (step ∷ rest) = if is_covered entries steps number then missing_from entries steps (suc number) rest
    else Some (Missing number)

-- ---- the whole

-- the first fault of the entries, and after them the least rank step without one
abbrev pub bound_fault : List PathRule → List ProofStep → List BoundEntry → Option BoundFault
bound_fault rules steps entries = option_or (entries_fault rules steps 0 None entries) (missing_from entries steps 0 steps)
