-- Words for the private calls that put an answer together.
use Rattle.std.specs.Prelude.{◌≡◌, ℕ, Bool, List, Ok}
use Rattle.prove_call.specs.declared.answer.Answer.{Answer}
use Rattle.prove_call.specs.Lines.{yes_text}
use Rattle.check_call.specs.Answers as check
use Rattle.check_call.specs.Lines.{accepted}
use Rattle.generate_text.specs.Descriptions.{description}
use Rattle.jterm.specs.declared.generate.Generated.{Generated}
use Rattle.jterm.specs.GenerateLines.{first_line, check_word, blocks_line}

-- the line for an answer of `prove`, and its reason
abbrev pub generated_of : ℕ → Answer → Bool → Generated
generated_of n answer is_accepted = record { out = blocks_line n (first_line answer.out) (check_word is_accepted); reason = answer.reason }

-- the output of a `prove` has a certificate that is accepted
abbrev pub HasAccepted : List ℕ → List (List ℕ) → Type 0
HasAccepted out files = (cert : List ℕ) × ((out ≡ yes_text cert) × check.Answers cert description files (Ok accepted))
