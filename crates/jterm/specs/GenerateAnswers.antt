-- What `generate` answers for a number of blocks.
use Rattle.std.specs.Prelude.{◌≡◌, ◌⊎◌, ℕ, List, [], ◌∷◌, true, false, codes, Some, None, Result, Ok, Err}
use Rattle.abs_cells.specs.declared.packed.PackedPairs.{PackedPairs}
use Rattle.term_graph.specs.Limits.{most_nodes}
use Rattle.input_steps.specs.declared.refused.Refused.{Refused}
use Rattle.input_steps.specs.declared.refused.Refused.TheVariants.{At, Memory}
use Rattle.input_steps.specs.Steps.{Then}
use Rattle.class_calls.specs.asm_call.Answers.{IsClassFile, RefusesListing}
use Rattle.prove_core.specs.declared.found.Reason.{Reason}
use Rattle.prove_call.specs.declared.answer.Answer.{Answer}
use Rattle.prove_call.specs.Answers as prove
use Rattle.prove_call.specs.Answers.{yes_with}
use Rattle.check_call.specs.Answers as check
use Rattle.check_call.specs.Lines.{accepted}
use Rattle.generate_text.specs.Descriptions.{description}
use Rattle.generate_text.specs.Listings.{listing_of}
use Rattle.jterm.specs.declared.generate.Generated.{Generated}
use Rattle.jterm.specs.GenerateLines.{first_line, check_word, blocks_line}

-- the class file of so many blocks, as `asm` makes it of their listing
abbrev pub IsClass : ℕ → List ℕ → Type 0
IsClass n class = IsClassFile (listing_of n) class

-- `prove` with 20,000 nodes answers so for the description of the class that was made, and these files
abbrev pub Proves : List (List ℕ) → Result Answer Refused → Type 0
Proves files = prove.Answers most_nodes description files

-- the answer maybe, with this text and this reason
abbrev pub maybe_of : List ℕ → Reason PackedPairs → Answer
maybe_of text reason = record { status = 1; out = text; reason = Some reason }

-- the answer for a class that was made says YES: `prove` gives a certificate, and `check` accepts its bytes
pub record IsYes (n : ℕ) (files : List (List ℕ)) (generated : Generated) : Type 0 where
  pub cert : List ℕ
  pub proved : Proves files (Ok (yes_with cert))
  pub checked : check.Answers cert description files (Ok accepted)
  pub out : generated.out ≡ blocks_line n (codes "YES") (check_word true)
  pub reason : generated.reason ≡ None

-- the answer for a class that was made says MAYBE: `prove` gives no certificate, for a reason, and there is nothing
-- to check
pub record IsMaybe (n : ℕ) (files : List (List ℕ)) (generated : Generated) : Type 0 where
  pub text : List ℕ
  pub why : Reason PackedPairs
  pub proved : Proves files (Ok (maybe_of text why))
  pub out : generated.out ≡ blocks_line n (first_line text) (check_word false)
  pub reason : generated.reason ≡ Some why

-- what `generate` answers for the class file that was made: its line; or the file is refused as `prove` refuses it
abbrev pub AnswersFiles : ℕ → List (List ℕ) → Result Generated Refused → Type 0
AnswersFiles n files (Ok generated) = IsYes n files generated ⊎ IsMaybe n files generated
AnswersFiles n files (Err (At place fault)) = Proves files (Err (At place fault))
AnswersFiles n files (Err Memory) = Unit {0}

-- What `generate` answers for a number of blocks: the listing says a class file, and the answer is that for it; or
-- the listing is refused. Want of memory has no cause.
abbrev pub Answers : ℕ → Result Generated Refused → Type 0
Answers n = Then {A = List ℕ} {X = Generated} (IsClass n) (RefusesListing (listing_of n)) (λ class. AnswersFiles n (class ∷ []))
