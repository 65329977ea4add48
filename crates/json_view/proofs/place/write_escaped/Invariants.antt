use Rattle.std.proofs.Common.{◌≡◌, ◌++◌, take}
use Rattle.json_view.specs.Place.{escaped}
use Rattle.json_view.proofs.place.write_escaped.Given as goal

abbrev pub invariant-loop-byte : goal.invariant-loop-byte
invariant-loop-byte l = l.pointer ≡ l.initial.pointer ++ escaped (take l.byte-index l.name)
