-- What `throws` answers for the bytes of a certificate, of a description and of class files: as `check` does, but that a valid certificate
-- has the lines of the ways in which runs end.
use Rattle.std.specs.Prelude.{◌≡◌, ℕ, List, Result}
use Rattle.class_world.specs.World.{World}
use Rattle.input_steps.specs.declared.refused.Refused.{Refused}
use Rattle.throw_report.specs.declared.ways.Report.{Report}
use Rattle.throw_report.specs.Lines.{report_text}
use Rattle.throw_report.specs.Reports.{IsReport}
use Rattle.check_call.specs.declared.outcome.Outcome.{Outcome}
use Rattle.check_call.specs.Answers.{SayingValid, OfBytes}

-- the outcome of `throws`: a report in words, with status 0
abbrev pub reported : World → Report → Outcome
reported world report = record { status = 0; out = report_text world report }

-- what `throws` says of a valid case: the report of its graph, in words
abbrev pub SaysReport : SayingValid
SaysReport case valid outcome = (report : Report) × (IsReport case.nodes report × (outcome ≡ reported case.program.world report))

-- what `throws` answers for the bytes of a certificate, of a description and of class files
abbrev pub Answers : List ℕ → List ℕ → List (List ℕ) → Result Outcome Refused → Type 0
Answers = OfBytes SaysReport
