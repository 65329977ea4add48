-- Sets of rules, and what a search that is asked for their rules finds.
use Rattle.std.specs.Prelude.{◌≡◌, ℕ, List, Option}
use Rattle.std.specs.Prelude.{Some, None, slice_get}
use Rattle.std.specs.List.{AllZip}
use Rattle.descent.specs.declared.proof.RankStep.{RankStep}
use Rattle.descent.specs.declared.rules.PathRule.{PathRule}
use Rattle.rank_forms.specs.RankSteps.{IsRankStep}
use Rattle.chain_proofs.specs.Dealt.{Rises}

-- these rules are those of these numbers
abbrev pub AreOwn : List PathRule → List ℕ → List PathRule → Type 0
AreOwn rules set own = AllZip (λ (n : ℕ) (rule : PathRule). slice_get rules n ≡ Some rule) set own

-- what a search finds for rules: a rank step that a closed proof takes for them; where it finds none, `none` is said of them
abbrev pub RanksOwn : (List PathRule → Type 0) → List PathRule → Option RankStep → Type 0
RanksOwn none own (Some step) = IsRankStep own step
RanksOwn none own None = none own

-- a search may be asked for the rules of each set of these rules' numbers
abbrev pub IsAsked : (List PathRule → Type 0) → List PathRule → Type 0
IsAsked asks rules = (set : List ℕ) (own : List PathRule) → Rises 0 set → AreOwn rules set own → asks own
