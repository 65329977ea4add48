-- The report of a certificate that is checked, and what it promises.
use Rattle.std.specs.Prelude.{◌≡◌, Result, Ok, Err}
use Rattle.jvm_values.specs.States.{MachineState}
use Rattle.abs_cells.specs.AbstractStates.{AbstractState}
use Rattle.class_program.specs.Programs.{Program}
use Rattle.input_desc.specs.declared.desc.Desc.{Desc}
use Rattle.input_desc.specs.Descs.{IsOwnDesc}
use Rattle.input_desc.specs.Fitting.{FitsDescription}
use Rattle.input_desc.specs.Initial.{initial_of}
use Rattle.cert_check.specs.declared.refusal.Refusal.{Refusal}
use Rattle.cert_check.specs.Valid.{Case, IsValid, Tells}
use Rattle.throw_report.specs.declared.ways.Report.{Report}
use Rattle.throw_report.specs.Reports.{IsReport}
use Rattle.throw_report.specs.Endings.{EndsAsReported}

-- the report of a valid certificate's graph, or the first item of the certificate that fails
abbrev pub Reported : Case → Result Report Refusal → Type 0
Reported case (Ok report) = IsValid case × IsReport case.nodes report
Reported case (Err refusal) = Tells case (Err refusal)

-- every state that the description fits has a run that ends in a way that the report has
abbrev pub AllEndAsReported : Program → Desc → Report → Type 0
AllEndAsReported p desc report = (state : MachineState) → FitsDescription p desc state → EndsAsReported p report state

-- of each description of the program whose initial state is the root's, every state that the description fits has a run that ends in a way
-- that the report has
abbrev pub OwnRunsEnd : Program → AbstractState → Report → Type 0
OwnRunsEnd p root report = (desc : Desc) → IsOwnDesc p desc → root ≡ initial_of p desc → AllEndAsReported p desc report
