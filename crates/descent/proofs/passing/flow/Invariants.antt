use Rattle.std.proofs.Common.{◌≡◌, drop}
use Rattle.descent.specs.inner.Marking.{flow}
use Rattle.descent.proofs.passing.flow.Given as goal

abbrev pub invariant-loop-part : goal.invariant-loop-part
invariant-loop-part l = flow l.rules (drop l.part-index l.parts) l.marks.items ≡ flow l.rules l.parts l.initial.marks.items
