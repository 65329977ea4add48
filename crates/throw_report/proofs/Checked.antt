-- What reports promise: of any graph, and of that of a valid certificate.
use Rattle.std.proofs.Common.{◌≡◌, ℕ, List, subst}
use Rattle.abs_cells.specs.AbstractStates.{AbstractState}
use Rattle.class_program.specs.Programs.{Program, IsClosed}
use Rattle.class_program.specs.Widths.{HasWidths}
use Rattle.frame_types.specs.Tables.{CodeTypes}
use Rattle.code_verify.specs.Typings.{IsTypingOf}
use Rattle.term_graph.specs.Graphs.{GraphNode}
use Rattle.cert_check.specs.Certified.{IsCertified}
use Rattle.throw_report.specs.declared.ways.Report.{Report}
use Rattle.throw_report.specs.Reports.{IsReport}
use Rattle.throw_report.specs.Laws.{AllWalksEndSo, WalksEndAsReported, CertifiedRunsEndAsReported}
use Rattle.throw_report.specs.Answers.{OwnRunsEnd}

-- the graph is the same after the check
pub own_runs_end : (p : Program) (typing : ℕ → CodeTypes) (root : AbstractState) (nodes after : List GraphNode) (cuts : List ℕ)
    (report : Report) → CertifiedRunsEndAsReported → IsClosed p → HasWidths p → IsTypingOf p typing → after ≡ nodes
    → IsCertified p typing nodes cuts root → IsReport after report → OwnRunsEnd p root report
own_runs_end p typing root nodes after cuts report law closed widths typing_is same certified is desc own begins state fits = law p
    typing desc nodes cuts report closed widths typing_is own
    (subst (λ (s : AbstractState). IsCertified p typing nodes cuts s) begins certified)
    (subst (λ (ns : List GraphNode). IsReport ns report) same is) state fits

-- the graph is the same after the marking
pub walks_end_so : (nodes after : List GraphNode) (report : Report) → WalksEndAsReported → after ≡ nodes → IsReport after report
    → AllWalksEndSo nodes report
walks_end_so nodes after report law same is = law nodes report (subst (λ (ns : List GraphNode). IsReport ns report) same is)
