-- The outcomes of `loop`, with their lines.
use Rattle.std.specs.Prelude.{ℕ, List, [], ◌∷◌, codes}
use Rattle.list_views.specs.FaultWords.{joined}
use Rattle.cert_check.specs.declared.refusal.Cause.TheVariants as causes
use Rattle.cert_check.specs.Valid.{graph_item}
use Rattle.loop_check.specs.declared.fault.LoopFault.{LoopFault}
use Rattle.loop_check.specs.declared.fault.LoopFault.TheVariants.{Graph}
use Rattle.loop_check.specs.Lines.{cause_text as loop_cause}
use Rattle.check_call.specs.declared.outcome.Outcome.{Outcome}
use Rattle.check_call.specs.Causes.{cause_text}
use Rattle.check_call.specs.Lines.{refused_at}

-- the line that no run ends: `NO` and a newline
abbrev pub no_line : List ℕ
no_line = codes "NO\n"

-- the line that a loop is refused: `REFUSED loop: CAUSE` and a newline
abbrev pub refused_line : List ℕ → List ℕ
refused_line cause = joined (codes "REFUSED loop: " ∷ cause ∷ codes "\n" ∷ [])

-- the outcome of `loop` where no run ends: status 0 and its line
abbrev pub never_ends : Outcome
never_ends = record { status = 0; out = no_line }

-- the outcome of `loop` for a fault: status 2 and its line; a fault of the graph is that of an item, as `check` says
-- it
abbrev pub refused_for : LoopFault → Outcome
refused_for (Graph node what) = refused_at (graph_item node what) (cause_text (causes.Graph what))
refused_for fault = record { status = 2; out = refused_line (loop_cause fault) }
