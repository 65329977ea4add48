use Rattle.std.proofs.Common.{◌≡◌, ◌++◌, take}
use Rattle.std.specs.List.{flat_map}
use Rattle.class_read.specs.Text.{handler_text}
use Rattle.class_read.proofs.writing.put_handlers.Given as goal

abbrev pub invariant-loop-handler : goal.invariant-loop-handler
invariant-loop-handler l = l.out ≡ l.fn.out ++ flat_map handler_text (take l.handler-index l.table)
