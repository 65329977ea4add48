use Rattle.std.proofs.Common.{◌≡◌, drop}
use Rattle.abs_reach.specs.abs_sound.Zips.{all_zip}
use Rattle.abs_expand.specs.inner.PlaceTests.{is_entry_of}
use Rattle.abs_expand.proofs.places.is_stack_of.Given as goal

abbrev pub invariant-loop-n : goal.invariant-loop-n
invariant-loop-n l = all_zip (is_entry_of l.cells) (drop l.n l.places) (drop l.n l.stack) ≡ all_zip (is_entry_of l.cells) l.places l.stack
