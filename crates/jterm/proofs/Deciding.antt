-- From what a command says of the bytes of its files to the answer.
use Rattle.std.proofs.Common.{◌≡◌, ◌≤◌, ◌-◌, ℕ, List, [], ◌∷◌, length, Result, Ok, Err, IfOk, map, drop, take, get_or, refl, sym}
use Rattle.std.proofs.Common.{subst, ap, ◌∙◌, arith}
use Rattle.std.proofs.lemmas.List.{length-map}
use Rattle.list_views.proofs.Items.{take_length}
use Rattle.input_steps.specs.declared.refused.Refused.{Refused}
use Rattle.prove_call.specs.Answers as prove
use Rattle.prove_call.specs.declared.answer.Answer.{Answer}
use Rattle.prove_call.specs.Headline.{AllEndIfYes}
use Rattle.its_call.specs.Answers.{IsEnding}
use Rattle.its_call.specs.Lines as its
use Rattle.class_calls.specs.run_call.Answers as run
use Rattle.check_call.specs.declared.outcome.Outcome.{Outcome}
use Rattle.check_call.specs.Answers as check
use Rattle.check_call.specs.Headline.{AllEndIfAccepted}
use Rattle.class_calls.specs.declared.command_rows.table.Request.{Request}
use Rattle.class_calls.specs.declared.command_rows.table.Request.TheVariants.{Prove, Check, Run, Asm, Generate, Its}
use Rattle.class_calls.specs.command_rows.Rows.{Takes, least_files, row_at}
use Rattle.jterm.specs.declared.verdict.Verdict.{Verdict}
use Rattle.jterm.specs.Decision.{Says, Ruled, Proved, done_of, DoneWith, verdict_of, IsAnswer, HoldsClaim}
use Rattle.jterm.proofs.Proving.{verdict_of_prove, proved_true}
use Rattle.jterm.proofs.Checking.{judged_with, accepted_true}

-- ---- outputs

-- an output of which something holds is that of a verdict of which it does
pub done_with : (P : Result (List ℕ) Refused → Type 0) (out : Result (List ℕ) Refused) (result : Result Verdict Refused)
    → result ≡ done_of out → P out → DoneWith P result
done_with P (Ok out) result e h = subst (DoneWith P) (sym e) (refl, refl, refl, h)
done_with P (Err refused) result e h = subst (DoneWith P) (sym e) h

-- an answer of which something holds is that of a verdict of which it does
pub proved_with : (P : Result Answer Refused → Type 0) (answer : Result Answer Refused) (result : Result Verdict Refused)
    → result ≡ verdict_of_prove answer → P answer → Proved P result
proved_with P (Ok answer) result e h = subst (Proved P) (sym e) (refl, h)
proved_with P (Err refused) result e h = subst (Proved P) (sym e) h

-- ---- claims

-- what is claimed for a request and contents, for those that are the same
pub claimed : (request own : Request) (given contents : List (List ℕ)) (result : Result Verdict Refused) → request ≡ own
    → given ≡ contents → IfOk result (λ verdict. HoldsClaim own contents verdict) → IfOk result (λ verdict. HoldsClaim request given verdict)
claimed request own given contents result asked e h =
    subst (λ (r : Request). IfOk result (λ verdict. HoldsClaim r given verdict)) (sym asked)
    (subst (λ (fs : List (List ℕ)). IfOk result (λ verdict. HoldsClaim own fs verdict)) (sym e) h)

-- where nothing is claimed
pub run_claim : (request : Request) (fuel : ℕ) (given : List (List ℕ)) (result : Result Verdict Refused) → request ≡ Run fuel
    → IfOk result (λ verdict. HoldsClaim request given verdict)
run_claim request fuel given (Ok verdict) asked = subst (λ (r : Request). HoldsClaim r given verdict) (sym asked) tt
run_claim request fuel given (Err refused) asked = tt

pub asm_claim : (request : Request) (given : List (List ℕ)) (result : Result Verdict Refused) → request ≡ Asm
    → IfOk result (λ verdict. HoldsClaim request given verdict)
asm_claim request given (Ok verdict) asked = subst (λ (r : Request). HoldsClaim r given verdict) (sym asked) tt
asm_claim request given (Err refused) asked = tt

-- ---- inputs

-- as many inputs as the row of the request has files
pub least_inputs : {A : Type 0} (f : A → List ℕ) (inputs : List A) (request asked : Request) → request ≡ asked
    → Takes request (length inputs) → least_files (row_at asked) ≤ length (map f inputs)
least_inputs f inputs request asked is t =
    let here : Takes asked (length inputs) = subst (λ (r : Request). Takes r (length inputs)) is t in
    let some = here.1 in
    let same = length-map inputs f in
    omega (arith, some, same)

-- none where it has none
pub no_inputs : {A : Type 0} (f : A → List ℕ) (inputs : List A) (request : Request) (n : ℕ) → request ≡ Generate n
    → Takes request (length inputs) → map f inputs ≡ []
no_inputs f [] request n is t = refl
no_inputs {A} f (x ∷ inputs) request n is t =
    let here : Takes (Generate n) (length (x ∷ inputs)) = subst (λ (r : Request). Takes r (length (x ∷ inputs))) is t in
    absurd (let few = here.2 in omega (arith, few))

-- the first input and the others, as they are handed on
pub inputs_are : {A : Type 0} (f : A → List ℕ) (inputs : List A) (one : A) (first : List ℕ) → 2 ≤ length (map f inputs)
    → one ≡ get_or inputs 0 one → first ≡ f one
    → map f inputs ≡ first ∷ map f (take (length inputs - 1) (drop 1 inputs))
inputs_are f [] one first some at is = absurd (omega arith)
inputs_are {A} f (x ∷ xs) one first some at is =
    let here : f x ≡ first = sym (is ∙ ap f at) in
    let long : length (x ∷ xs) - 1 ≡ length xs = omega arith in
    let others : xs ≡ take (length (x ∷ xs) - 1) xs = sym (ap (λ (n : ℕ). take n xs) long ∙ take_length xs) in
    ap (λ (w : List ℕ). w ∷ map f xs) here ∙ ap (λ (ys : List A). first ∷ map f ys) others

-- the first two inputs and the others, as they are handed on
pub inputs_are_two : {A : Type 0} (f : A → List ℕ) (inputs : List A) (one two : A) (first second : List ℕ)
    → 3 ≤ length (map f inputs) → one ≡ get_or inputs 0 one → first ≡ f one
    → two ≡ get_or inputs 1 two → second ≡ f two → map f inputs ≡ first ∷ second ∷ map f (take (length inputs - 2) (drop 2 inputs))
inputs_are_two f [] one two first second some at is at_two is_two = absurd (omega arith)
inputs_are_two f (x ∷ []) one two first second some at is at_two is_two = absurd (omega arith)
inputs_are_two {A} f (x ∷ y ∷ xs) one two first second some at is at_two is_two =
    let here : f x ≡ first = sym (is ∙ ap f at) in
    let there : f y ≡ second = sym (is_two ∙ ap f at_two) in
    let long : length (x ∷ y ∷ xs) - 2 ≡ length xs = omega arith in
    let others : xs ≡ take (length (x ∷ y ∷ xs) - 2) xs = sym (ap (λ (n : ℕ). take n xs) long ∙ take_length xs) in
    ap (λ (w : List ℕ). w ∷ f y ∷ map f xs) here
    ∙ (ap (λ (w : List ℕ). first ∷ w ∷ map f xs) there ∙ ap (λ (ys : List A). first ∷ second ∷ map f ys) others)

pub prove_answer : (request : Request) (nodes : ℕ) (given : List (List ℕ)) (desc : List ℕ) (files : List (List ℕ))
    (answer : Result Answer Refused) (result : Result Verdict Refused)
    → request ≡ Prove nodes → given ≡ desc ∷ files → result ≡ verdict_of_prove answer → prove.Answers nodes desc files answer
    → IsAnswer request given result
prove_answer request nodes given desc files answer result asked e d a =
    let here : IsAnswer (Prove nodes) given result = subst (λ (fs : List (List ℕ)). IsAnswer (Prove nodes) fs result) (sym e)
    (proved_with (prove.Answers nodes desc files) answer result d a) in
    subst (λ (r : Request). IsAnswer r given result) (sym asked) here

pub run_answer : (request : Request) (fuel : ℕ) (given : List (List ℕ)) (state : List ℕ) (files : List (List ℕ))
    (out : Result (List ℕ) Refused) (result : Result Verdict Refused)
    → request ≡ Run fuel → given ≡ state ∷ files → result ≡ done_of out → run.Answers fuel state files out → IsAnswer request given result
run_answer request fuel given state files out result asked e d a =
    let here : IsAnswer (Run fuel) given result = subst (λ (fs : List (List ℕ)). IsAnswer (Run fuel) fs result) (sym e)
    (done_with (run.Answers fuel state files) out result d a) in
    subst (λ (r : Request). IsAnswer r given result) (sym asked) here

pub prove_claim : (request : Request) (nodes : ℕ) (given : List (List ℕ)) (desc : List ℕ) (files : List (List ℕ))
    (answer : Result Answer Refused) (result : Result Verdict Refused)
    → request ≡ Prove nodes → given ≡ desc ∷ files → result ≡ verdict_of_prove answer → prove.Answers nodes desc files answer
    → AllEndIfYes files desc answer → IfOk result (λ verdict. HoldsClaim request given verdict)
prove_claim request nodes given desc files answer result asked e d a ends =
    claimed request (Prove nodes) given (desc ∷ files) result asked e (proved_true nodes desc files answer result d a ends)

pub check_answer : (request : Request) (given : List (List ℕ)) (cert desc : List ℕ) (files : List (List ℕ))
    (out : Result Outcome Refused) (result : Result Verdict Refused)
    → request ≡ Check → given ≡ cert ∷ desc ∷ files → result ≡ verdict_of out → check.Answers cert desc files out
    → IsAnswer request given result
check_answer request given cert desc files out result asked e d a =
    let here : IsAnswer Check given result = subst (λ (fs : List (List ℕ)). IsAnswer Check fs result) (sym e)
    (judged_with (check.Answers cert desc files) out result d a) in
    subst (λ (r : Request). IsAnswer r given result) (sym asked) here

pub check_claim : (request : Request) (given : List (List ℕ)) (cert desc : List ℕ) (files : List (List ℕ))
    (out : Result Outcome Refused) (result : Result Verdict Refused)
    → request ≡ Check → given ≡ cert ∷ desc ∷ files → result ≡ verdict_of out → check.Answers cert desc files out
    → AllEndIfAccepted files desc out → IfOk result (λ verdict. HoldsClaim request given verdict)
check_claim request given cert desc files out result asked e d a ends =
    claimed request Check given (cert ∷ desc ∷ files) result asked e (accepted_true cert desc files out result d a ends)

-- ---- rules

-- a single input is all of them
pub one_input : {A : Type 0} (f : A → List ℕ) (inputs : List A) (request : Request) (one : A) (first : List ℕ) → request ≡ Its
    → Takes request (length inputs) → one ≡ get_or inputs 0 one → first ≡ f one → map f inputs ≡ first ∷ []
one_input {A} f inputs request one first asked t at is =
    let here : Takes Its (length inputs) = subst (λ (r : Request). Takes r (length inputs)) asked t in
    by inputs (let some = here.1 in let few = here.2 in omega (arith, some, few)) at
  where
    by : (xs : List A) → length xs ≡ 1 → one ≡ get_or xs 0 one → map f xs ≡ first ∷ []
    by [] e at = absurd (omega (arith, e))
    by (x ∷ []) e at = ap (λ (w : List ℕ). w ∷ []) (sym (is ∙ ap f at))
    by (x ∷ y ∷ xs) e at = absurd (omega (arith, e))

pub its_answer : (request : Request) (given : List (List ℕ)) (text : List ℕ) (result : Result Verdict Refused) → request ≡ Its
    → given ≡ text ∷ [] → Ruled text result → IsAnswer request given result
its_answer request given text result asked e a =
    let here : IsAnswer Its given result = subst (λ (fs : List (List ℕ)). IsAnswer Its fs result) (sym e) a in
    subst (λ (r : Request). IsAnswer r given result) (sym asked) here

pub its_claim : (request : Request) (given : List (List ℕ)) (text : List ℕ) (result : Result Verdict Refused) → request ≡ Its
    → given ≡ text ∷ [] → IfOk result (λ verdict. Says its.yes_line verdict → IsEnding text)
    → IfOk result (λ verdict. HoldsClaim request given verdict)
its_claim request given text result asked e h = claimed request Its given (text ∷ []) result asked e h
