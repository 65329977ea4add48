-- States that a grower takes.
use Rattle.std.specs.Prelude.{All}
use Rattle.abs_cells.specs.AbstractStates.{AbstractState}
use Rattle.graph_build.specs.declared.grower.Grown.{Grown}
use Rattle.graph_build.specs.declared.grower.Grown.TheVariants.{End, Children}

-- what a state becomes has good states alone
abbrev pub AreGood : {P : Type 0} → (AbstractState → Type 0) → Grown P → Type 0
AreGood good End = Unit {0}
AreGood good (Children states) = All good states
