-- From what a command says of the bytes of a certificate and of other files to its answer.
use Rattle.std.proofs.Common.{◌≡◌, ◌≤◌, ◌-◌, ℕ, List, [], ◌∷◌, length, Result, Ok, Err, IfOk, map, drop, take, get_or, refl, sym}
use Rattle.std.proofs.Common.{None, subst, ap, ◌∙◌, arith, inl, inr}
use Rattle.std.proofs.lemmas.List.{length-map}
use Rattle.list_views.proofs.Items.{take_length}
use Rattle.input_steps.specs.declared.refused.Refused.{Refused}
use Rattle.check_call.specs.declared.outcome.Outcome.{Outcome}
use Rattle.cert_making.specs.migrate_call.Answers as migrate
use Rattle.cert_making.specs.migrate_call.Headline.{IsMigratedIfDone}
use Rattle.cert_calls.specs.loop_call.Answers as looping
use Rattle.cert_calls.specs.bound_call.Answers as bounding
use Rattle.cert_calls.specs.bound_call.Headline.{AllEndWithinIfDone}
use Rattle.cert_calls.specs.loop_call.Headline.{AllGoOnIfDone}
use Rattle.cert_calls.specs.loop_call.Lines.{no_line}
use Rattle.cert_calls.specs.throws_call.Answers as throws
use Rattle.cert_calls.specs.throws_call.Headline.{AllEndAsSaidIfDone}
use Rattle.class_calls.specs.declared.command_rows.table.Request.{Request}
use Rattle.class_calls.specs.declared.command_rows.table.Request.TheVariants.{Migrate, Bound, Loop, Throws}
use Rattle.class_calls.specs.command_rows.Rows.{Takes, least_files, row_at}
use Rattle.jterm.specs.declared.verdict.Verdict.{Verdict}
use Rattle.jterm.specs.Decision.{Says, verdict_of, IsAnswer, HoldsClaim}
use Rattle.jterm.proofs.Checking.{judged_with, judged_done, loop_judged}
use Rattle.jterm.proofs.Deciding.{claimed}

-- ---- inputs

-- as many as the row has files
pub least_taken : {A : Type 0} (f : A → List ℕ) (inputs : List A) (request : Request) → Takes request (length inputs)
    → least_files (row_at request) ≤ length (map f inputs)
least_taken f inputs request t =
    let some = t.1 in
    let same = length-map inputs f in
    omega (arith, some, same)

-- the first three inputs and the others, as they are handed on
pub inputs_are_three : {A : Type 0} (f : A → List ℕ) (inputs : List A) (one two three : A) (first second third : List ℕ)
    → 4 ≤ length (map f inputs) → one ≡ get_or inputs 0 one → first ≡ f one → two ≡ get_or inputs 1 two → second ≡ f two
    → three ≡ get_or inputs 2 three → third ≡ f three
    → map f inputs ≡ first ∷ second ∷ third ∷ map f (take (length inputs - 3) (drop 3 inputs))
inputs_are_three f [] one two three first second third some a b c d e g = absurd (omega arith)
inputs_are_three f (x ∷ []) one two three first second third some a b c d e g = absurd (omega arith)
inputs_are_three f (x ∷ y ∷ []) one two three first second third some a b c d e g = absurd (omega arith)
inputs_are_three {A} f (x ∷ y ∷ z ∷ xs) one two three first second third some at is at_two is_two at_three is_three =
    let here : f x ≡ first = sym (is ∙ ap f at) in
    let there : f y ≡ second = sym (is_two ∙ ap f at_two) in
    let last : f z ≡ third = sym (is_three ∙ ap f at_three) in
    let long : length (x ∷ y ∷ z ∷ xs) - 3 ≡ length xs = omega arith in
    let others : xs ≡ take (length (x ∷ y ∷ z ∷ xs) - 3) xs = sym (ap (λ (n : ℕ). take n xs) long ∙ take_length xs) in
    ap (λ (w : List ℕ). w ∷ f y ∷ f z ∷ map f xs) here
    ∙ (ap (λ (w : List ℕ). first ∷ w ∷ f z ∷ map f xs) there
    ∙ (ap (λ (w : List ℕ). first ∷ second ∷ w ∷ map f xs) last
    ∙ ap (λ (ys : List A). first ∷ second ∷ third ∷ map f ys) others))

-- ---- requests

pub asked_takes : (request own : Request) (count : ℕ) → request ≡ own → Takes request count → Takes own count
asked_takes request own count asked t = subst (λ (r : Request). Takes r count) asked t

pub asked_answer : (request own : Request) (given : List (List ℕ)) (result : Result Verdict Refused) → request ≡ own
    → IsAnswer own given result → IsAnswer request given result
asked_answer request own given result asked a = subst (λ (r : Request). IsAnswer r given result) (sym asked) a

pub asked_claim : (request own : Request) (given : List (List ℕ)) (result : Result Verdict Refused) → request ≡ own
    → IfOk result (λ verdict. HoldsClaim own given verdict) → IfOk result (λ verdict. HoldsClaim request given verdict)
asked_claim request own given result asked h = claimed request own given given result asked refl h

-- ---- `migrate` and `throws`

module _ (given : List (List ℕ)) (cert desc : List ℕ) (files : List (List ℕ)) (out : Result Outcome Refused)
    (result : Result Verdict Refused) (split : given ≡ cert ∷ desc ∷ files) (is : result ≡ verdict_of out) where
  pub migrate_answer : migrate.Answers cert desc files out → IsAnswer Migrate given result
  migrate_answer a = subst (λ (fs : List (List ℕ)). IsAnswer Migrate fs result) (sym split)
      (judged_with (migrate.Answers cert desc files) out result is a)

  pub throws_answer : throws.Answers cert desc files out → IsAnswer Throws given result
  throws_answer a = subst (λ (fs : List (List ℕ)). IsAnswer Throws fs result) (sym split)
      (judged_with (throws.Answers cert desc files) out result is a)

-- an outcome's claim is its verdict's
module _ (Claim : Verdict → Type 0) where
  told : (out : Result Outcome Refused) (result : Result Verdict Refused) → result ≡ verdict_of out
      → IfOk out (λ outcome. Claim (record { status = outcome.status; out = outcome.out; reason = None; its = None })) → IfOk result Claim
  told (Ok outcome) result e h = subst (λ (r : Result Verdict Refused). IfOk r Claim) (sym e) h
  told (Err refused) result e h = subst (λ (r : Result Verdict Refused). IfOk r Claim) (sym e) tt

migrate_claims : (cert desc : List ℕ) (files : List (List ℕ)) (out : Result Outcome Refused) → IsMigratedIfDone files desc cert out
    → IfOk out (λ outcome. HoldsClaim Migrate (cert ∷ desc ∷ files)
    (record { status = outcome.status; out = outcome.out; reason = None; its = None }))
migrate_claims cert desc files (Ok outcome) h = h
migrate_claims cert desc files (Err refused) h = tt

throws_claims : (cert desc : List ℕ) (files : List (List ℕ)) (out : Result Outcome Refused) → AllEndAsSaidIfDone files desc out
    → IfOk out (λ outcome. HoldsClaim Throws (cert ∷ desc ∷ files)
    (record { status = outcome.status; out = outcome.out; reason = None; its = None }))
throws_claims cert desc files (Ok outcome) h = h
throws_claims cert desc files (Err refused) h = tt

module _ (given : List (List ℕ)) (cert desc : List ℕ) (files : List (List ℕ)) (out : Result Outcome Refused)
    (result : Result Verdict Refused) (split : given ≡ cert ∷ desc ∷ files) (is : result ≡ verdict_of out) where
  pub migrate_claim : IsMigratedIfDone files desc cert out → IfOk result (λ verdict. HoldsClaim Migrate given verdict)
  migrate_claim h = claimed Migrate Migrate given (cert ∷ desc ∷ files) result refl split
      (told (λ verdict. HoldsClaim Migrate (cert ∷ desc ∷ files) verdict) out result is (migrate_claims cert desc files out h))

  pub throws_claim : AllEndAsSaidIfDone files desc out → IfOk result (λ verdict. HoldsClaim Throws given verdict)
  throws_claim h = claimed Throws Throws given (cert ∷ desc ∷ files) result refl split
      (told (λ verdict. HoldsClaim Throws (cert ∷ desc ∷ files) verdict) out result is (throws_claims cert desc files out h))

-- ---- `bound`

bound_claims : (bound cert desc : List ℕ) (files : List (List ℕ)) (out : Result Outcome Refused) → AllEndWithinIfDone files desc out
    → IfOk out (λ outcome. HoldsClaim Bound (bound ∷ cert ∷ desc ∷ files)
    (record { status = outcome.status; out = outcome.out; reason = None; its = None }))
bound_claims bound cert desc files (Ok outcome) h = h
bound_claims bound cert desc files (Err refused) h = tt

module _ (given : List (List ℕ)) (bound cert desc : List ℕ) (files : List (List ℕ)) (out : Result Outcome Refused)
    (result : Result Verdict Refused) (split : given ≡ bound ∷ cert ∷ desc ∷ files) (is : result ≡ verdict_of out) where
  pub bound_answer : bounding.Answers bound cert desc files out → IsAnswer Bound given result
  bound_answer a = subst (λ (fs : List (List ℕ)). IsAnswer Bound fs result) (sym split)
      (judged_with (bounding.Answers bound cert desc files) out result is a)

  pub bound_claim : AllEndWithinIfDone files desc out → IfOk result (λ verdict. HoldsClaim Bound given verdict)
  bound_claim h = claimed Bound Bound given (bound ∷ cert ∷ desc ∷ files) result refl split
      (told (λ verdict. HoldsClaim Bound (bound ∷ cert ∷ desc ∷ files) verdict) out result is (bound_claims bound cert desc files out h))

-- ---- `loop`

-- where `NO` is said the status is 0
no_is_done : (cert state desc : List ℕ) (files : List (List ℕ)) (outcome : Outcome)
    → looping.Answers cert state desc files (Ok outcome)
    → Says no_line (record { status = outcome.status; out = outcome.out; reason = None; its = None }) → outcome.status ≡ 0
no_is_done cert state desc files outcome a (inl none) = none
no_is_done cert state desc files outcome a (inr begins) =
    judged_done (looping.Answers cert state desc files) (loop_judged cert state desc files)
    (record { status = outcome.status; out = outcome.out; reason = None; its = None }) (refl, refl, a) 78 (λ e. omega (arith, e))
    (ap (λ (line : List ℕ). get_or line 0 0) begins.1)

loop_claims : (cert state desc : List ℕ) (files : List (List ℕ)) (out : Result Outcome Refused) → looping.Answers cert state desc files out
    → AllGoOnIfDone files desc state out → IfOk out (λ outcome. HoldsClaim Loop (cert ∷ state ∷ desc ∷ files)
    (record { status = outcome.status; out = outcome.out; reason = None; its = None }))
loop_claims cert state desc files (Ok outcome) a h = λ says. h (no_is_done cert state desc files outcome a says)
loop_claims cert state desc files (Err refused) a h = tt

module _ (given : List (List ℕ)) (cert state desc : List ℕ) (files : List (List ℕ)) (out : Result Outcome Refused)
    (result : Result Verdict Refused) (split : given ≡ cert ∷ state ∷ desc ∷ files) (is : result ≡ verdict_of out) where
  pub loop_answer : looping.Answers cert state desc files out → IsAnswer Loop given result
  loop_answer a = subst (λ (fs : List (List ℕ)). IsAnswer Loop fs result) (sym split)
      (judged_with (looping.Answers cert state desc files) out result is a)

  pub loop_claim : looping.Answers cert state desc files out → AllGoOnIfDone files desc state out
      → IfOk result (λ verdict. HoldsClaim Loop given verdict)
  loop_claim a h = claimed Loop Loop given (cert ∷ state ∷ desc ∷ files) result refl split
      (told (λ verdict. HoldsClaim Loop (cert ∷ state ∷ desc ∷ files) verdict) out result is (loop_claims cert state desc files out a h))
