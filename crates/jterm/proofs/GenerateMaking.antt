-- From the class file that is made to the answer.
use Rattle.std.proofs.Common.{◌≡◌, ℕ, List, [], ◌∷◌, Result, Ok, Err, inl, inr, subst}
use Rattle.asm_lines.specs.declared.fault.AsmFault.{AsmFault}
use Rattle.class_asm.specs.Classes.{assembled}
use Rattle.input_steps.specs.declared.refused.Refused.{Refused}
use Rattle.input_steps.specs.declared.refused.Refused.TheVariants.{At, Memory}
use Rattle.input_steps.proofs.OneAnswer.{ok_one}
use Rattle.class_calls.specs.asm_call.Answers as asm
use Rattle.generate_text.specs.Listings.{listing_of}
use Rattle.jterm.specs.declared.generate.Generated.{Generated}
use Rattle.jterm.specs.GenerateAnswers.{IsClass, AnswersFiles, Answers}
use Rattle.jterm.specs.GenerateHeadline.{FilesEndIfYes, AllEndIfYes}

-- the listing is refused
pub class_refused : (n : ℕ) (refused : Refused) → asm.Answers (listing_of n) (Err refused) → Answers n (Err refused)
class_refused n (At place fault) h = inl h
class_refused n Memory h = tt

-- it says a class file, and the answer is that for it
pub class_goes : (n : ℕ) (class : List ℕ) (result : Result Generated Refused) → IsClass n class → AnswersFiles n (class ∷ []) result
    → Answers n result
class_goes n class (Ok generated) is h = (class, (is, h))
class_goes n class (Err (At place fault)) is h = inr (class, (is, h))
class_goes n class (Err Memory) is h = tt

-- what YES says of the class file that is made, it says of the one that the listing says
pub class_ends : (n : ℕ) (class : List ℕ) (result : Result Generated Refused) → IsClass n class
    → FilesEndIfYes n (class ∷ []) result → AllEndIfYes n result
class_ends n class result is ends = λ made has.
    subst (λ (file : List ℕ). FilesEndIfYes n (file ∷ []) result) (ok_one {E = AsmFault} (assembled (listing_of n)) class made is has) ends
