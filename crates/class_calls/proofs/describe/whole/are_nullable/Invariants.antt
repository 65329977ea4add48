use Rattle.std.proofs.Common.{◌≡◌, drop}
use Rattle.std.specs.List.{list_all}
use Rattle.class_calls.specs.describe.Whole.{is_nullable}
use Rattle.class_calls.proofs.describe.whole.are_nullable.Given as goal

abbrev pub invariant-loop-input : goal.invariant-loop-input
invariant-loop-input l = list_all is_nullable (drop l.input-index l.inputs) ≡ list_all is_nullable l.inputs
