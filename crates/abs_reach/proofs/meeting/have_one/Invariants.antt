use Rattle.std.proofs.Common.{◌≡◌, false, take}
use Rattle.std.specs.List.{list_any}
use Rattle.abs_cells.specs.Cells.{sort_test}
use Rattle.abs_reach.proofs.Answering.{in_both}
use Rattle.abs_reach.proofs.meeting.have_one.Given as goal

abbrev pub invariant-loop-id : goal.invariant-loop-id
invariant-loop-id l = list_any (in_both (sort_test l.sort) l.first l.second) (take l.id-index l.cells) ≡ false
