use Rattle.std.proofs.Common.{◌≡◌, map, take}
use Rattle.abs_expand.specs.Children.{field_with}
use Rattle.abs_expand.proofs.making.fields_to.Given as goal

abbrev pub invariant-loop-other : goal.invariant-loop-other
invariant-loop-other l = l.made ≡ map (field_with l.k l.place l.id) (take l.other-index l.cells)
