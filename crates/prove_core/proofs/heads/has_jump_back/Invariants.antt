use Rattle.std.proofs.Common.{◌≡◌, drop}
use Rattle.std.specs.List.{list_any}
use Rattle.prove_core.specs.Heads.{jumps_back}
use Rattle.prove_core.proofs.heads.has_jump_back.Given as goal

abbrev pub invariant-loop-at : goal.invariant-loop-at
invariant-loop-at l = list_any (jumps_back l.place) (drop l.at-index l.insns) ≡ list_any (jumps_back l.place) l.insns
