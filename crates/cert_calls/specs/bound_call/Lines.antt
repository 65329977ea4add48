-- The outcomes of `bound`, with their lines.
use Rattle.std.specs.Prelude.{ℕ, List, [], ◌∷◌, codes}
use Rattle.list_views.specs.FaultWords.{joined}
use Rattle.class_world.specs.World.{World}
use Rattle.bound_check.specs.declared.bound.Bound.{Bound}
use Rattle.bound_check.specs.declared.refusal.BoundRefusal.{BoundRefusal}
use Rattle.bound_check.specs.Lines.{bound_lines, cause_text}
use Rattle.check_call.specs.declared.outcome.Outcome.{Outcome}

-- the outcome of `bound`: a bound in words, with status 0
abbrev pub bounded : World → Bound → Outcome
bounded world bound = record { status = 0; out = bound_lines world bound }

-- the line that a bound is refused: `REFUSED bound: CAUSE` and a newline
abbrev pub refused_line : List ℕ → List ℕ
refused_line cause = joined (codes "REFUSED bound: " ∷ cause ∷ codes "\n" ∷ [])

-- the outcome of `bound` where the bound is refused: status 2, and the line with the cause
abbrev pub refused_for : BoundRefusal → Outcome
refused_for refusal = record { status = 2; out = refused_line (cause_text refusal) }
