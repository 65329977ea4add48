use Rattle.std.proofs.Common.{◌≡◌, ℕ, take}
use Rattle.std.specs.List.{list_any}
use Rattle.abs_cells.specs.IdSets.{has_id}
use Rattle.abs_reach.proofs.Answering.{is_hazy_here}
use Rattle.abs_reach.proofs.meeting.hazy_among.Given as goal

abbrev pub invariant-loop-id : goal.invariant-loop-id
invariant-loop-id l = (n : ℕ) → has_id l.ids n ≡ list_any (is_hazy_here l.set n) (take l.id-index l.cells)
