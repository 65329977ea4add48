use Rattle.std.proofs.Common.{◌≡◌, ◌++◌, drop}
use Rattle.std.specs.List.{flat_map}
use Rattle.bound_check.specs.Lines.{multiple_text}
use Rattle.bound_check.proofs.lines.put_multiples.Given as goal

abbrev pub invariant-loop-entry : goal.invariant-loop-entry
invariant-loop-entry l = l.text ++ flat_map (multiple_text l.word) (drop l.entry-index l.multiples)
    ≡ l.initial.text ++ flat_map (multiple_text l.word) l.multiples
