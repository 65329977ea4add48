use Rattle.std.proofs.Common.{◌≡◌, ◌++◌, map, drop}
use Rattle.survey.specs.Lines.{printed}
use Rattle.survey.proofs.lines.put_printed.Given as goal

abbrev pub invariant-loop-byte : goal.invariant-loop-byte
invariant-loop-byte l = l.line ++ map printed (drop l.byte-index l.bytes) ≡ l.fn.line ++ map printed l.bytes
