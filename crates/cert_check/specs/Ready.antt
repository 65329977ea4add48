-- Valid certificates show that walks and runs end.
use Rattle.class_program.specs.Widths.{HasWidths}
use Rattle.code_verify.specs.Typings.{IsTypingOf}
use Rattle.descent.specs.Conditions.{AreSteps}
use Rattle.cert_check.specs.Certified.{IsCertified}
use Rattle.cert_check.specs.Valid.{Case, IsValid}

-- A valid certificate shows that its graph ends. Premises: the certificate is valid; the program's numbers are of their fields' widths; the
-- typing is the program's own; and the steps of the proof are within the limits of proofs. Then the graph is certified to end from the
-- state that the certificate begins with
abbrev pub ValidIsCertified : Type 0
ValidIsCertified =
    (case : Case) (valid : IsValid case) → HasWidths case.program → IsTypingOf case.program case.typing
    → AreSteps case.steps
    → IsCertified case.program case.typing case.nodes case.cuts case.root
