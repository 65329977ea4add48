-- What a grower answers.
use Rattle.std.specs.Prelude.{ℕ, List, Option, Some, None, Result, Ok, Err}
use Rattle.std.specs.List.{AllByRecursion}
use Rattle.abs_cells.specs.AbstractStates.{AbstractState}
use Rattle.graph_build.specs.Rules.{GrowthRules}
use Rattle.graph_build.specs.declared.grower.Grown.{Grown}
use Rattle.graph_build.specs.declared.grower.Grown.TheVariants.{End, Children}
use Rattle.graph_build.specs.declared.grower.GrowFault.{GrowFault}
use Rattle.graph_build.specs.declared.grower.GrowFault.TheVariants.{TooManyIds, Memory}

-- what a grower answers when it is asked to expand a state: that the run ends there, or the children, which are all good states, or that a
-- child has too many ids. Want of memory says nothing
abbrev pub GrowsOr : {P : Type 0} → GrowthRules → (AbstractState → Type 0) → AbstractState → Result (Grown P) GrowFault → Type 0
GrowsOr rules good state (Ok End) = rules.Ends state
GrowsOr rules good state (Ok (Children children)) = rules.HasChildren state children × AllByRecursion good children
GrowsOr rules good state (Err TooManyIds) = rules.HasLargeChild state
GrowsOr rules good state (Err Memory) = Unit {0}

-- what a grower answers when it is asked whether a state is an instance of another one: a map by which it is, or that there is none
abbrev pub MatchesOr : {E : Type 0} → GrowthRules → AbstractState → AbstractState → Result (Option (List (ℕ × ℕ))) E → Type 0
MatchesOr rules state other (Ok (Some entries)) = rules.IsInstance state other entries
MatchesOr rules state other (Ok None) = (entries : List (ℕ × ℕ)) → rules.IsInstance state other entries → ⊥
MatchesOr rules state other (Err fault) = Unit {0}

-- a widening of two states is a good state, of which the second one is an instance by some map
pub record IsGoodWidening (rules : GrowthRules) (good : AbstractState → Type 0) (above state wide : AbstractState) : Type 0 where
  pub widened : rules.HasWidening above state wide
  pub good_wide : good wide
  pub entries : List (ℕ × ℕ)
  pub instance : rules.IsInstance state wide entries

-- what a grower answers when it is asked to widen a state by a later one: a good widening, or that the widening has too many ids. Want of
-- memory says nothing
abbrev pub WidensOr : GrowthRules → (AbstractState → Type 0) → AbstractState → AbstractState → Result AbstractState GrowFault → Type 0
WidensOr rules good above state (Ok wide) = IsGoodWidening rules good above state wide
WidensOr rules good above state (Err TooManyIds) = rules.HasLargeWidening above state
WidensOr rules good above state (Err Memory) = Unit {0}
