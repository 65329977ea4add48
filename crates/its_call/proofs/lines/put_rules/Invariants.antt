use Rattle.std.proofs.Common.{◌≡◌, ◌++◌, drop}
use Rattle.std.specs.List.{flat_map}
use Rattle.its_call.specs.Lines.{rule_line}
use Rattle.its_call.proofs.lines.put_rules.Given as goal

-- the lines so far, and those that are to come
abbrev pub invariant-loop-one : goal.invariant-loop-one
invariant-loop-one l = l.text ++ flat_map (rule_line l.places) (drop l.one-index l.left) ≡ l.initial.text ++ flat_map
    (rule_line l.places) l.left
