use Rattle.std.proofs.Common.{◌≡◌, ◌++◌, drop}
use Rattle.std.specs.List.{flat_map}
use Rattle.class_world.specs.Worlds.{classes_of}
use Rattle.bound_check.specs.Lines.{first_lines, term_line}
use Rattle.bound_check.proofs.lines.bound_lines.Given as goal

abbrev pub invariant-loop-term : goal.invariant-loop-term
invariant-loop-term l = l.text ++ flat_map (term_line (classes_of l.world)) (drop l.term-index l.bound.terms)
    ≡ first_lines l.bound.steps l.bound.constant ++ flat_map (term_line (classes_of l.world)) l.bound.terms
