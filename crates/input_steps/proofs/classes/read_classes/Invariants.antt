use Rattle.std.proofs.Common.{map, take}
use Rattle.input_steps.specs.Classes.{AllSpell}
use Rattle.input_steps.proofs.classes.read_classes.Given as goal

abbrev pub invariant-loop-number : goal.invariant-loop-number
invariant-loop-number l = AllSpell (take l.number (map (λ file. file.items) l.files)) l.classes.items
