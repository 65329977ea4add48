use Rattle.std.proofs.Common.{◌≡◌, ◌++◌, drop}
use Rattle.std.specs.List.{flat_map}
use Rattle.class_program.specs.Views.{program_of}
use Rattle.prove_call.specs.Lines.{rule_line}
use Rattle.prove_call.proofs.lines.put_rules.Given as goal

-- the lines so far, and those that are to come
abbrev pub invariant-loop-rule : goal.invariant-loop-rule
invariant-loop-rule g l = l.text ++ flat_map (rule_line (program_of l.program) l.graph) (drop l.rule-index l.left) ≡ l.initial.text
    ++ flat_map (rule_line (program_of l.program) l.graph) l.left
