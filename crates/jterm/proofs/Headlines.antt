-- What the outputs of commands over certificates say of the contents of their files.
use Rattle.std.proofs.Common.{◌≡◌, ℕ, List, ◌∷◌, Option, sym, ◌∙◌, inl, inr, arith}
use Rattle.std.specs.Io.KnownBytes.{Appends}
use Rattle.io_ports.specs.Told.{Told}
use Rattle.cert_making.specs.migrate_call.Headline.{IsMigrated}
use Rattle.cert_calls.specs.loop_call.Headline.{AllGoOnForEver}
use Rattle.cert_calls.specs.loop_call.Lines.{no_line}
use Rattle.cert_calls.specs.throws_call.Headline.{AllEndAsSaid}
use Rattle.cert_calls.specs.bound_call.Headline.{AllEndWithin}
use Rattle.class_calls.specs.declared.command_rows.table.Request.{Request}
use Rattle.class_calls.specs.declared.command_rows.table.Request.TheVariants.{Migrate, Bound, Loop, Throws}
use Rattle.class_calls.specs.command_rows.Words.{IsCommand}
use Rattle.jterm.specs.declared.verdict.Verdict.{Verdict}
use Rattle.jterm.specs.Decision.{HoldsClaim}
use Rattle.jterm.specs.Words.{IsMigrate, IsBound, IsLoop, IsThrows}
use Rattle.jterm.specs.Outside.{AreTold, Claims, IsWritten, file_limits}
use Rattle.jterm.specs.inner.Failure.{IsAnswered}
use Rattle.jterm.proofs.Endings.{told_claim, claimed_says}

module _ {S : Type 0} (faults : S → ℕ) (taken : S → Option (List ℕ)) (old new : S) (words : List (List ℕ)) (request : Request)
    (names : List (List ℕ)) (held : List ℕ → Told) (verdict : Verdict) (status : ℕ) where
  -- status 0 is the verdict's own, and its output was put
  put_done : IsWritten faults taken old new verdict status → status ≡ 0 → (verdict.status ≡ 0) × Appends (taken old) (taken new) verdict.out
  put_done (inl put) none = (sym put.0 ∙ none, put.1)
  put_done (inr failed) none = absurd (omega (arith, failed.0, none))

  -- what the lines say in which ways runs end
  pub headline_of_throws : (c d : List ℕ) (cs : List (List ℕ)) (cert desc : List ℕ) (classes : List (List ℕ))
      → IsCommand words request names → IsAnswered (file_limits request) request names held verdict
      → IsWritten faults taken old new verdict status → IsThrows words c d cs → AreTold held (c ∷ d ∷ cs) (cert ∷ desc ∷ classes)
      → status ≡ 0 → (lines : List ℕ) × Appends (taken old) (taken new) lines × AllEndAsSaid classes desc lines
  headline_of_throws c d cs cert desc classes command answered written is tells none =
      let claim : HoldsClaim Throws (cert ∷ desc ∷ classes) verdict = told_claim words held request Throws names (c ∷ d ∷ cs)
      answered.contents (cert ∷ desc ∷ classes) verdict command is answered.read tells answered.claim in
      let put = put_done written none in
      (verdict.out, put.1, claim put.0)

  -- what the lines of a bound say
  pub headline_of_bound : (b c d : List ℕ) (cs : List (List ℕ)) (bound cert desc : List ℕ) (classes : List (List ℕ))
      → IsCommand words request names → IsAnswered (file_limits request) request names held verdict
      → IsWritten faults taken old new verdict status → IsBound words b c d cs
      → AreTold held (b ∷ c ∷ d ∷ cs) (bound ∷ cert ∷ desc ∷ classes)
      → status ≡ 0 → (lines : List ℕ) × Appends (taken old) (taken new) lines × AllEndWithin classes desc lines
  headline_of_bound b c d cs bound cert desc classes command answered written is tells none =
      let claim : HoldsClaim Bound (bound ∷ cert ∷ desc ∷ classes) verdict = told_claim words held request Bound names (b ∷ c ∷ d ∷ cs)
      answered.contents (bound ∷ cert ∷ desc ∷ classes) verdict command is answered.read tells answered.claim in
      let put = put_done written none in
      (verdict.out, put.1, claim put.0)

  -- what NO says
  pub headline_of_loop : (c s d : List ℕ) (cs : List (List ℕ)) (cert state desc : List ℕ) (classes : List (List ℕ))
      → IsCommand words request names → IsAnswered (file_limits request) request names held verdict
      → IsWritten faults taken old new verdict status → IsLoop words c s d cs
      → AreTold held (c ∷ s ∷ d ∷ cs) (cert ∷ state ∷ desc ∷ classes)
      → Claims no_line taken old new status → AllGoOnForEver classes desc state
  headline_of_loop c s d cs cert state desc classes command answered written is tells claims =
      let claim : HoldsClaim Loop (cert ∷ state ∷ desc ∷ classes) verdict = told_claim words held request Loop names (c ∷ s ∷ d ∷ cs)
      answered.contents (cert ∷ state ∷ desc ∷ classes) verdict command is answered.read tells answered.claim in
      claim (claimed_says no_line faults taken old new verdict status written claims)

  -- what is said of a certificate in form 2
  pub headline_of_migrate : (c d : List ℕ) (cs : List (List ℕ)) (cert desc : List ℕ) (classes : List (List ℕ))
      → IsCommand words request names → IsAnswered (file_limits request) request names held verdict
      → IsWritten faults taken old new verdict status → IsMigrate words c d cs → AreTold held (c ∷ d ∷ cs) (cert ∷ desc ∷ classes)
      → status ≡ 0 → (text : List ℕ) × Appends (taken old) (taken new) text × IsMigrated classes desc cert text
  headline_of_migrate c d cs cert desc classes command answered written is tells none =
      let claim : HoldsClaim Migrate (cert ∷ desc ∷ classes) verdict = told_claim words held request Migrate names (c ∷ d ∷ cs)
      answered.contents (cert ∷ desc ∷ classes) verdict command is answered.read tells answered.claim in
      let put = put_done written none in
      (verdict.out, put.1, claim put.0)
