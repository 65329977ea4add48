-- What YES says.
use Rattle.std.specs.Prelude.{◌≡◌, ℕ, List, [], ◌∷◌, ◌++◌, Result, IfOk}
use Rattle.input_steps.specs.declared.refused.Refused.{Refused}
use Rattle.desc_steps.specs.Headline.{AllEnd}
use Rattle.generate_text.specs.Descriptions.{description}
use Rattle.jterm.specs.declared.generate.Generated.{Generated}
use Rattle.jterm.specs.GenerateLines.{yes_begin}
use Rattle.jterm.specs.GenerateAnswers.{IsClass}

-- the output begins with `blocks N answer YES`
abbrev pub SaysYes : ℕ → List ℕ → Type 0
SaysYes n out = (rest : List ℕ) × (out ≡ yes_begin n ++ rest)

-- where the answer is YES, every state that the description fits ends, of the program of these files
abbrev pub FilesEndIfYes : ℕ → List (List ℕ) → Result Generated Refused → Type 0
FilesEndIfYes n files result = IfOk result (λ generated. SaysYes n generated.out → AllEnd files description)

-- The headline: so it does of the class file that the listing says.
abbrev pub AllEndIfYes : ℕ → Result Generated Refused → Type 0
AllEndIfYes n result = (class : List ℕ) → IsClass n class → FilesEndIfYes n (class ∷ []) result
