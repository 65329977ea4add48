-- A certificate in form 2.
use Rattle.std.specs.Prelude.{ℕ, List, ◌++◌, codes}
use Rattle.serde_json.specs.Written.{compact_text}
use Rattle.desc_steps.specs.Names.{names_of}
use Rattle.cert_check.specs.Valid.{Case}
use Rattle.cert_form.specs.cert_write.Data.{content_of, certificate}
use Rattle.check_call.specs.declared.outcome.Outcome.{Outcome}

-- the compact text in form 2 of a case's graph, cuts and proof: a node that an `expand` node in front of it names has no state
abbrev pub second_form : Case → List ℕ
second_form case = compact_text (certificate (names_of case.program.world) (content_of case.nodes case.cuts case.steps))

-- the outcome of `migrate`: the certificate in form 2 and a newline, with status 0
abbrev pub migrated : Case → Outcome
migrated case = record { status = 0; out = second_form case ++ codes "\n" }
