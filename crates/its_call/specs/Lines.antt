-- The texts of `its`.
use Rattle.std.specs.Prelude.{ℕ, List, [], ◌∷◌, ◌++◌, codes, slice_get}
use Rattle.std.specs.Fmt.{decimal}
use Rattle.std.specs.List.{flat_map}
use Rattle.std.specs.Option.{option_map_or}
use Rattle.list_views.specs.FaultWords.{joined}
use Rattle.chain_proofs.specs.declared.proving.LeftRule.{LeftRule}

-- `YES` and a newline
abbrev pub yes_line : List ℕ
yes_line = codes "YES\n"

-- the name of a location
abbrev pub place_name : List (List ℕ) → ℕ → List ℕ
place_name places n = option_map_or (λ (name : List ℕ). name) (slice_get places n) []

-- a rule, by its number and the locations at its ends: `rule R FROM TO` and a newline
abbrev pub rule_line : List (List ℕ) → LeftRule → List ℕ
rule_line places left = joined (codes "rule " ∷ decimal left.rule ∷ codes " " ∷ place_name places left.from ∷ codes " " ∷ place_name
    places left.to ∷ codes "\n" ∷ [])

-- the text of a maybe: a line that says so, and a line for each rule that is left
abbrev pub maybe_text : List (List ℕ) → List LeftRule → List ℕ
maybe_text places left = codes "MAYBE component\n" ++ flat_map (rule_line places) left
