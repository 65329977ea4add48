-- Weights: the weight 1 for each class that the rows of rules name.
use Rattle.std.specs.Prelude.{ℕ, ℤ, pos, ◌≡◌, ◌++◌, List, [], ◌∷◌}
use Rattle.std.specs.List.{All}
use Rattle.lin_core.specs.Rows.{Rise}
use Rattle.lin_core.specs.Weights.{AreWeights, weight_in}
use Rattle.lin_core.specs.declared.rows.WRow.{WRow}
use Rattle.descent.specs.declared.rules.PathRule.{PathRule}
use Rattle.rank_forms.specs.Forms.{IsIn}

-- the classes of a list of weights
abbrev pub classes_of : List (ℕ × ℤ) → List ℕ
classes_of [] = []
classes_of (weight ∷ rest) = weight.0 ∷ classes_of rest

-- the classes that stand with a weight in rows
abbrev pub row_classes : List WRow → List ℕ
row_classes [] = []
row_classes (row ∷ rest) = classes_of row.weights ++ row_classes rest

-- the classes that stand with a weight in the rows of rules
abbrev pub all_classes : List PathRule → List ℕ
all_classes [] = []
all_classes (rule ∷ rest) = row_classes rule.rows ++ all_classes rest

-- the weights 1 of just the classes that the rules' rows name: each of these weighs 1, and no other class has a weight
pub record AreOnes (rules : List PathRule) (weights : List (ℕ × ℤ)) : Type 0 where
  pub rise : Rise 4294967296 weights
  pub limits : AreWeights weights
  pub named : All (λ (class : ℕ). weight_in weights class ≡ pos 1) (all_classes rules)
  pub only : All (λ (weight : ℕ × ℤ). (weight.1 ≡ pos 1) × IsIn (all_classes rules) weight.0) weights
