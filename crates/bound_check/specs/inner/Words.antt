-- Words of private calls: sets that are handed on, parts that no step takes, and lists of entries.
use Rattle.std.specs.Prelude.{◌≡◌, ℕ, ◌+◌, ◌==◌, not, Bool, List, [], ◌∷◌, map, Option, Some, None, slice_get, slice_index_or}
use Rattle.std.specs.List.{list_all, list_any}
use Rattle.descent.specs.declared.proof.CutForm.{CutForm}
use Rattle.descent.specs.declared.proof.ProofStep.{ProofStep}
use Rattle.descent.specs.declared.proof.ProofStep.TheVariants.{Empty, Split, Rank, Dead}
use Rattle.descent.specs.declared.proof.RankStep.{RankStep}
use Rattle.descent.specs.declared.rules.PathRule.{PathRule}
use Rattle.descent.specs.Splits.{has}
use Rattle.descent.specs.Steps.{Given}
use Rattle.bound_text.specs.declared.texts.BoundRule.{BoundRule}
use Rattle.bound_check.specs.Entries.{is_end_of, is_own_cut}
use Rattle.bound_check.specs.Parts.{handed}

-- ---- sets

-- one set more is handed on, if there is one, whatever comes after it
abbrev pub Hands : Option (ℕ × List ℕ) → Given → Given → Type 0
Hands None old new = (more : List (ℕ × List ℕ)) → handed more old ≡ handed more new
Hands (Some left) old new = (more : List (ℕ × List ℕ)) → handed (left ∷ more) old ≡ handed more new

-- ---- parts that no step takes

-- how many parts of a split no step takes, where each step has a count
abbrev pub untaken_of_parts : List ℕ → List (Option ℕ) → ℕ
untaken_of_parts counts [] = 0
untaken_of_parts counts (None ∷ steps) = 1 + untaken_of_parts counts steps
untaken_of_parts counts (Some step ∷ steps) = slice_index_or counts step 0 + untaken_of_parts counts steps

-- how many parts no step takes in a step, where each step has a count
abbrev pub untaken_of_step : List ℕ → ProofStep → ℕ
untaken_of_step counts Empty = 0
untaken_of_step counts (Split parts steps) = untaken_of_parts counts steps
untaken_of_step counts (Rank step rest) = slice_index_or counts rest 0
untaken_of_step counts (Dead rule multipliers rest) = slice_index_or counts rest 0

-- ---- lists

-- the cuts of forms
abbrev pub form_cuts : List CutForm → List ℕ
form_cuts forms = map (λ (f : CutForm). f.cut) forms

-- the numbers of rules
abbrev pub rule_numbers : List BoundRule → List ℕ
rule_numbers rules = map (λ (r : BoundRule). r.rule) rules

-- a form is listed for a cut
abbrev pub lists_cut : List CutForm → ℕ → Bool
lists_cut forms cut = list_any (λ (f : CutForm). f.cut == cut) forms

-- a rule of a set starts or ends at a cut
abbrev pub ends_at : List PathRule → List ℕ → ℕ → Bool
ends_at rules set cut = list_any (λ (r : ℕ). is_end_of cut (slice_get rules r)) set

-- no form is for a cut that is a step's own
abbrev pub spares_cuts : List PathRule → List ℕ → RankStep → List CutForm → Bool
spares_cuts rules set step forms = list_all (λ (f : CutForm). not (is_own_cut rules set step f.cut)) forms

-- no listed rule is in a set
abbrev pub spares_rules : List ℕ → List BoundRule → Bool
spares_rules set rules = list_all (λ (r : BoundRule). not (has set r.rule)) rules
