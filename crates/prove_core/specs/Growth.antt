-- What the graph of a program's runs grows by, with its loop heads.
use Rattle.std.specs.Prelude.{ℕ}
use Rattle.class_program.specs.Programs.{Program}
use Rattle.frame_types.specs.Tables.{CodeTypes}
use Rattle.graph_build.specs.Rules.{GrowthRules}
use Rattle.graph_laws.specs.Growth.{growth_by}
use Rattle.prove_core.specs.Heads.{is_head}

-- what the graph of a program's runs grows by: expansions, instances and widenings, with the heads of loops
abbrev pub growth_of : Program → (ℕ → CodeTypes) → GrowthRules
growth_of p typing = growth_by p typing (is_head p)
