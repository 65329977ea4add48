-- A request has one answer for the contents of its files.
use Rattle.std.proofs.Common.{◌≡◌, ℕ, List, [], ◌∷◌, Option, Some, None, Result, Ok, Err, refl, sym, ap, ◌∙◌}
use Rattle.std.specs.Prelude.{◌≢◌}
use Rattle.class_calls.specs.asm_call.Answers as asm
use Rattle.class_calls.proofs.AsmOneAnswer as assembling
use Rattle.jterm.specs.declared.generate.Generated.{Generated}
use Rattle.jterm.specs.GenerateAnswers as generate
use Rattle.jterm.proofs.GenerateOneAnswer as generating
use Rattle.its_front.specs.declared.fault.ItsFault.{ItsFault}
use Rattle.its_front.specs.declared.reading.Its as systems
use Rattle.its_front.specs.Reading.{rules_of}
use Rattle.input_steps.specs.declared.refused.Refused.{Refused}
use Rattle.input_steps.specs.declared.refused.Refused.TheVariants.{At, Memory}
use Rattle.input_steps.specs.declared.refused.Place.TheVariants as places
use Rattle.input_steps.specs.declared.refused.Fault.TheVariants as faults
use Rattle.input_steps.proofs.OneAnswer.{IsOne, at_one}
use Rattle.prove_call.specs.Answers as prove
use Rattle.prove_call.specs.declared.answer.Answer.{Answer}
use Rattle.prove_call.specs.Laws.{refusal_of}
use Rattle.prove_call.proofs.OneAnswer as proving
use Rattle.check_call.specs.declared.outcome.Outcome.{Outcome}
use Rattle.check_call.specs.Answers as check
use Rattle.check_call.proofs.OneAnswer as checking
use Rattle.cert_making.specs.migrate_call.Answers as migrate
use Rattle.cert_making.proofs.MigrateOneAnswer as migrating
use Rattle.cert_calls.specs.loop_call.Answers as looping
use Rattle.cert_calls.specs.bound_call.Answers as bounding
use Rattle.cert_calls.proofs.LoopOneAnswer as loops
use Rattle.cert_calls.proofs.BoundOneAnswer as bounded
use Rattle.cert_calls.specs.throws_call.Answers as throws
use Rattle.cert_calls.proofs.ThrowsOneAnswer as reporting
use Rattle.class_calls.specs.run_call.Answers as run
use Rattle.class_calls.proofs.RunOneAnswer as running
use Rattle.class_calls.specs.declared.command_rows.table.Request.{Request}
use Rattle.class_calls.specs.declared.command_rows.table.Request.TheVariants.{Prove, Check, Run, Asm, Generate, Migrate, Bound, Loop, Its, Throws}
use Rattle.jterm.specs.declared.verdict.Verdict.{Verdict}
use Rattle.jterm.specs.Decision.{Ruled, Proved, DoneWith, Judged, Made, IsAnswer}
use Rattle.jterm.specs.Laws.{AreAlike, AreOne}

-- ---- verdicts

some_said : {X : Type 0} (said : X) → (let r : Result X Refused = Ok said in r) ≢ Err Memory
some_said said e = cc

-- where what is said is one, so is the verdict that has its parts
module _ {X : Type 0} (verdict_of : X → Verdict) (P : Result X Refused → Type 0) (Q : Result Verdict Refused → Type 0)
    (was : (v : Verdict) → Q (Ok v) → (x : X) × (P (Ok x) × (v ≡ verdict_of x))) (refused : (r : Refused) → Q (Err r) → P (Err r))
    (one : IsOne P) where
  verdict_one : IsOne Q
  verdict_one (Ok v) (Ok w) h k nr ns =
      let a = was v h in
      let b = was w k in
      let e : (let r : Result X Refused = Ok a.0 in r) ≡ Ok b.0 = one (Ok a.0) (Ok b.0) a.1.0 b.1.0 (some_said a.0) (some_said b.0) in
      let same : a.0 ≡ b.0 = cc in
      ap Ok (a.1.1 ∙ (ap verdict_of same ∙ sym b.1.1))
  verdict_one (Ok v) (Err (At place fault)) h k nr ns =
      let a = was v h in
      let e : (let r : Result X Refused = Ok a.0 in r) ≡ Err (At place fault) = one (Ok a.0) (Err (At place fault)) a.1.0
      (refused (At place fault) k) (some_said a.0) (λ m. cc) in
      absurd (cc)
  verdict_one (Ok v) (Err Memory) h k nr ns = absurd (ns refl)
  verdict_one (Err (At place fault)) (Ok w) h k nr ns =
      let b = was w k in
      let e : (let r : Result X Refused = Err (At place fault) in r) ≡ Ok b.0 = one (Err (At place fault)) (Ok b.0)
      (refused (At place fault) h) b.1.0 (λ m. cc) (some_said b.0) in
      absurd (cc)
  verdict_one (Err (At p f)) (Err (At q g)) h k nr ns =
      let e : (let r : Result X Refused = Err (At p f) in r) ≡ Err (At q g) = one (Err (At p f)) (Err (At q g)) (refused (At p f) h)
      (refused (At q g) k) (λ m. cc) (λ m. cc) in
      let same : At p f ≡ At q g = cc in
      ap Err same
  verdict_one (Err (At place fault)) (Err Memory) h k nr ns = absurd (ns refl)
  verdict_one (Err Memory) s h k nr ns = absurd (nr refl)

done_one : (P : Result (List ℕ) Refused → Type 0) → IsOne P → IsOne (DoneWith P)
done_one P = verdict_one (λ (out : List ℕ). record { status = 0; out = out; reason = None; its = None }) P (DoneWith P)
    (λ v h. (v.out, (h.3, λ i. record { status = h.0 i; out = v.out; reason = h.1 i; its = h.2 i }))) (λ r h. h)

judged_one : (P : Result Outcome Refused → Type 0) → IsOne P → IsOne (Judged P)
judged_one P = verdict_one (λ (outcome : Outcome). record { status = outcome.status; out = outcome.out; reason = None; its = None })
    P (Judged P) (λ v h. (
      record { status = v.status; out = v.out },
      (h.2, λ i. record { status = v.status; out = v.out; reason = h.0 i; its = h.1 i }),
    )) (λ r h. h)

-- ---- requests

-- one answer is one answer of any request
one_is : (request : Request) (a b : Result Verdict Refused) → ((x y : Verdict) → x ≡ y → AreAlike request x y) → a ≡ b → AreOne request a b
one_is request (Ok x) (Ok y) alike e = alike x y (let same : x ≡ y = cc in same)
one_is request (Ok x) (Err s) alike e = absurd (cc)
one_is request (Err r) (Ok y) alike e = absurd (cc)
one_is request (Err r) (Err s) alike e = let same : r ≡ s = cc in same

known : (refused : Refused) → (let r : Result Verdict Refused = Err refused in r) ≢ Err Memory
    → (let r : Result Answer Refused = Err refused in r) ≢ Err Memory
known (At place fault) some e = cc
known Memory some e = some refl

-- where a `prove` is refused it is so for one place and fault
proved_one : (nodes : ℕ) (P : Result Answer Refused → Type 0)
    → ((a b : Result Answer Refused) → P a → P b → a ≢ Err Memory → b ≢ Err Memory → refusal_of a ≡ refusal_of b)
    → (a b : Result Verdict Refused) → Proved P a → Proved P b → a ≢ Err Memory → b ≢ Err Memory → AreOne (Prove nodes) a b
proved_one nodes P one (Ok x) (Ok y) h k nr ns = tt
proved_one nodes P one (Ok x) (Err s) h k nr ns = let e : (let n : Option Refused = None in n) ≡ Some s = one _ _ h.1 k
    (some_said _) (known s ns) in absurd (cc)
proved_one nodes P one (Err r) (Ok y) h k nr ns = let e : Some r ≡ None = one _ _ h k.1 (known r nr) (some_said _) in absurd (cc)
proved_one nodes P one (Err r) (Err s) h k nr ns = let e : Some r ≡ Some s = one _ _ h k (known r nr) (known s ns) in let same : r
    ≡ s = cc in same

known_made : (refused : Refused) → (let r : Result Verdict Refused = Err refused in r) ≢ Err Memory
    → (let r : Result Generated Refused = Err refused in r) ≢ Err Memory
known_made (At place fault) some e = cc
known_made Memory some e = some refl

-- where a `generate` is refused it is so for one place and fault
made_one : (n : ℕ) (P : Result Generated Refused → Type 0)
    → ((a b : Result Generated Refused) → P a → P b → a ≢ Err Memory → b ≢ Err Memory → refusal_of a ≡ refusal_of b)
    → (a b : Result Verdict Refused) → Made P a → Made P b → a ≢ Err Memory → b ≢ Err Memory → AreOne (Generate n) a b
made_one n P one (Ok x) (Ok y) h k nr ns = tt
made_one n P one (Ok x) (Err s) h k nr ns = let e : (let n : Option Refused = None in n) ≡ Some s = one _ _ h.2 k (some_said _)
    (known_made s ns) in absurd (cc)
made_one n P one (Err r) (Ok y) h k nr ns = let e : Some r ≡ None = one _ _ h k.2 (known_made r nr) (some_said _) in absurd (cc)
made_one n P one (Err r) (Err s) h k nr ns = let e : Some r ≡ Some s = one _ _ h k (known_made r nr) (known_made s ns) in let same :
    r ≡ s = cc in same

-- where an `its` is refused it is so for one place and fault
abbrev Read : Type 0
Read = Result systems.Its ItsFault

rules_fault_one : (text : List ℕ) (f g : ItsFault) → rules_of text ≡ Err f → rules_of text ≡ Err g → f ≡ g
rules_fault_one text f g h k = let e : (let r : Read = Err f in r) ≡ Err g = sym h ∙ k in cc

ruled_one : (text : List ℕ) (a b : Result Verdict Refused) → Ruled text a → Ruled text b → a ≢ Err Memory → b ≢ Err Memory → AreOne Its a b
ruled_one text (Ok x) (Ok y) h k nr ns = tt
ruled_one text (Ok x) (Err (At place fault)) h k nr ns = let e : (let r : Read = Ok h.1.its in r) ≡ Err k.cause = sym h.1.said
    ∙ k.holds in absurd (cc)
ruled_one text (Ok x) (Err Memory) h k nr ns = absurd (ns refl)
ruled_one text (Err (At place fault)) (Ok y) h k nr ns = let e : (let r : Read = Ok k.1.its in r) ≡ Err h.cause = sym k.1.said
    ∙ h.holds in absurd (cc)
ruled_one text (Err (At p f)) (Err (At q g)) h k nr ns =
    let e = at_one {C = ItsFault} (λ fault. places.Its) faults.Its (λ fault. rules_of text ≡ Err fault) (rules_fault_one text) p q f
    g h k in
    λ i. At (e.0 i) (e.1 i)
ruled_one text (Err (At place fault)) (Err Memory) h k nr ns = absurd (ns refl)
ruled_one text (Err Memory) s h k nr ns = absurd (nr refl)

pub answers_one : (request : Request) (contents : List (List ℕ)) (a b : Result Verdict Refused) → IsAnswer request contents a
    → IsAnswer request contents b → a ≢ Err Memory → b ≢ Err Memory → AreOne request a b
answers_one (Prove nodes) [] a b x y some more = absurd x
answers_one (Prove nodes) (desc ∷ files) a b x y some more = proved_one nodes (prove.Answers nodes desc files)
    (proving.refusals_one nodes nodes desc files) a b x y some more
answers_one Check [] a b x y some more = absurd x
answers_one Check (cert ∷ []) a b x y some more = absurd x
answers_one Check (cert ∷ desc ∷ files) a b x y some more = one_is Check a b (λ v w e. e)
    (judged_one (check.Answers cert desc files) (checking.answers_one cert desc files) a b x y some more)
answers_one (Run fuel) [] a b x y some more = absurd x
answers_one (Run fuel) (state ∷ files) a b x y some more = one_is (Run fuel) a b (λ v w e. e)
    (done_one (run.Answers fuel state files) (running.answers_one fuel state files) a b x y some more)
answers_one Asm [] a b x y some more = absurd x
answers_one Asm (listing ∷ []) a b x y some more = one_is Asm a b (λ v w e. e)
    (done_one (asm.Answers listing) (assembling.answers_one listing) a b x y some more)
answers_one Asm (listing ∷ other ∷ files) a b x y some more = absurd x
answers_one (Generate n) [] a b x y some more = made_one n (generate.Answers n) (generating.refusals_one n) a b x y some more
answers_one (Generate n) (file ∷ files) a b x y some more = absurd x
answers_one Migrate [] a b x y some more = absurd x
answers_one Migrate (cert ∷ []) a b x y some more = absurd x
answers_one Migrate (cert ∷ desc ∷ files) a b x y some more = one_is Migrate a b (λ v w e. e)
    (judged_one (migrate.Answers cert desc files) (migrating.answers_one cert desc files) a b x y some more)
answers_one Bound [] a b x y some more = absurd x
answers_one Bound (bound ∷ []) a b x y some more = absurd x
answers_one Bound (bound ∷ cert ∷ []) a b x y some more = absurd x
answers_one Bound (bound ∷ cert ∷ desc ∷ files) a b x y some more = one_is Bound a b (λ v w e. e)
    (judged_one (bounding.Answers bound cert desc files) (bounded.answers_one bound cert desc files) a b x y some more)
answers_one Loop [] a b x y some more = absurd x
answers_one Loop (cert ∷ []) a b x y some more = absurd x
answers_one Loop (cert ∷ state ∷ []) a b x y some more = absurd x
answers_one Loop (cert ∷ state ∷ desc ∷ files) a b x y some more = one_is Loop a b (λ v w e. e)
    (judged_one (looping.Answers cert state desc files) (loops.answers_one cert state desc files) a b x y some more)
answers_one Throws [] a b x y some more = absurd x
answers_one Throws (cert ∷ []) a b x y some more = absurd x
answers_one Throws (cert ∷ desc ∷ files) a b x y some more = one_is Throws a b (λ v w e. e)
    (judged_one (throws.Answers cert desc files) (reporting.answers_one cert desc files) a b x y some more)
answers_one Its [] a b x y some more = absurd x
answers_one Its (text ∷ []) a b x y some more = ruled_one text a b x y some more
answers_one Its (text ∷ other ∷ files) a b x y some more = absurd x
