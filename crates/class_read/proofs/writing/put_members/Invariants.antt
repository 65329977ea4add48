use Rattle.std.proofs.Common.{◌≡◌, ◌++◌, take}
use Rattle.std.specs.List.{flat_map}
use Rattle.class_read.specs.Text.{member_text}
use Rattle.class_read.proofs.writing.put_members.Given as goal

abbrev pub invariant-loop-m : goal.invariant-loop-m
invariant-loop-m l = l.out ≡ l.fn.out ++ flat_map member_text (take l.m-index l.members)
