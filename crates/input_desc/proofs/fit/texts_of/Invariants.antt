use Rattle.std.proofs.Common.{◌≡◌, ◌++◌}
use Rattle.input_desc.proofs.fit.texts_of.Given as goal

abbrev pub invariant-loop-text : goal.invariant-loop-text
invariant-loop-text l = l.texts ≡ l.initial.texts ++ l.yielded
