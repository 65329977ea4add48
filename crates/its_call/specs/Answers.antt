-- What is said of a text of rules, and why.
use Rattle.std.specs.Prelude.{◌≡◌, ◌⊎◌, ℕ, List, ◌++◌, Some, None, Result, Ok, Err, MatchBool}
use Rattle.its_front.specs.declared.fault.ItsFault.{ItsFault}
use Rattle.its_front.specs.declared.reading.Its.{Its}
use Rattle.its_front.specs.Faults.{is_memory}
use Rattle.its_front.specs.Reading.{rules_of}
use Rattle.its_front.specs.Steps.{StepsEnd, NoInfiniteWalk}
use Rattle.its_call.specs.declared.its_search.searching.ItsFound.{ItsFound}
use Rattle.its_call.specs.declared.its_search.searching.ItsFound.TheVariants.{Proof, Left}
use Rattle.its_call.specs.its_search.Found.{Finds}
use Rattle.its_call.specs.declared.answer.ItsAnswer.{ItsAnswer}
use Rattle.its_call.specs.Lines.{yes_line, maybe_text}

-- what is said of a system by what was found for its rules: yes for a proof; else maybe with a line for each rule
-- that is left, and these rules are kept
abbrev pub Tells : Its → ItsFound → ItsAnswer → Type 0
Tells its (Proof proof) answer = answer ≡ record { status = 0; out = yes_line; left = None }
Tells its (Left proof rules) answer = answer ≡ record { status = 1; out = maybe_text its.places rules; left = Some (Left proof rules) }

-- an answer is that of a text: the text says a system, and the answer is what is said of what was found for its rules
pub record IsSaid (text : List ℕ) (answer : ItsAnswer) : Type 0 where
  pub its : Its
  pub said : rules_of text ≡ Ok its
  pub found : ItsFound
  pub finds : Finds its.rules found
  pub tells : Tells its found answer

-- the answer to a text of rules, or the text's first fault; want of memory has no cause
abbrev pub Answers : List ℕ → Result ItsAnswer ItsFault → Type 0
Answers text (Ok answer) = IsSaid text answer
Answers text (Err fault) = MatchBool (is_memory fault) (Unit {0}) (rules_of text ≡ Err fault)

-- yes is said: the status is 0, or the output begins with it
abbrev pub SaysYes : ItsAnswer → Type 0
SaysYes answer = (answer.status ≡ 0) ⊎ ((rest : List ℕ) × (answer.out ≡ yes_line ++ rest))

-- the text says a system whose steps end: no sequence of them is infinite
pub record IsEnding (text : List ℕ) : Type 0 where
  pub its : Its
  pub said : rules_of text ≡ Ok its
  pub ends : StepsEnd its
  pub no_infinite : NoInfiniteWalk its

-- what the headline of `its` says: where yes is said, the text says a system whose steps end
abbrev pub SystemEnds : List ℕ → Result ItsAnswer ItsFault → Type 0
SystemEnds text (Ok answer) = SaysYes answer → IsEnding text
SystemEnds text (Err fault) = Unit {0}
