use Rattle.std.proofs.Common.{◌≡◌, length}
use Rattle.class_calls.specs.command_rows.Rows.{commands}
use Rattle.class_calls.specs.command_rows.inner.Reading.{command_named}
use Rattle.class_calls.proofs.command_rows.words.command_named.Given as goal

abbrev pub invariant-loop-command : goal.invariant-loop-command
invariant-loop-command l = command_named l.rest l.fn.word ≡ command_named commands l.fn.word

abbrev pub decreases-loop-command : goal.decreases-loop-command
decreases-loop-command l = length l.rest
