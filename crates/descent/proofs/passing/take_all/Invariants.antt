use Rattle.std.proofs.Common.{◌≡◌, drop}
use Rattle.descent.specs.inner.Marking.{take_all}
use Rattle.descent.proofs.passing.take_all.Given as goal

abbrev pub invariant-loop-part : goal.invariant-loop-part
invariant-loop-part l = take_all (drop l.part-index l.parts) l.marks.items ≡ take_all l.parts l.initial.marks.items
