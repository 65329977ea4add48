use Rattle.std.proofs.Common.{◌≡◌, map, take}
use Rattle.abs_match.proofs.Partners.{key, id_of}
use Rattle.abs_match.proofs.finding.unnoted.Given as goal

abbrev pub invariant-loop-id : goal.invariant-loop-id
invariant-loop-id l = map key l.entries.items ≡ map id_of (take l.id-index l.cells)
