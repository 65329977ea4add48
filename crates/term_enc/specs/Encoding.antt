-- A pattern as the code holds it, and what is answered of an id.
use Rattle.std.specs.Prelude.{ℕ, List, [], ◌∷◌, Option, Some, None}
use Rattle.abs_cells.specs.AbstractStates.{AbstractState}
use Rattle.abs_cells.specs.Patterns.{Pattern, Patterns, null, leaf, node, variable, none, more, IsPattern, IsSized}
use Rattle.term_enc.specs.declared.terms.PatternTerm.{PatternTerm}
use Rattle.term_enc.specs.declared.terms.PatternTerm.TheOpen.{PatternTerm-F}
use Rattle.term_enc.specs.declared.terms.PatternTerm.TheFolds.{fold-PatternTerm}

-- patterns one after another
abbrev pub patterns_from : List Pattern → Patterns
patterns_from [] = none
patterns_from (first ∷ rest) = more first (patterns_from rest)

-- one level of a pattern, the patterns below it being given
abbrev pub pattern_step : PatternTerm-F Pattern → Pattern
pattern_step PatternTerm-F.Null = null
pattern_step PatternTerm-F.Leaf = leaf
pattern_step (PatternTerm-F.Node class children) = node class (patterns_from children.items)
pattern_step (PatternTerm-F.Var id) = variable id

-- the pattern that a value of the code stands for
abbrev pub pattern_of : PatternTerm → Pattern
pattern_of = fold-PatternTerm Pattern pattern_step

-- what is answered of an id: its pattern where it is sized, and nothing where it is not
abbrev pub Encodes : AbstractState → ℕ → Option PatternTerm → Type 0
Encodes state id None = IsSized state id → ⊥
Encodes state id (Some term) = IsSized state id × IsPattern state id (pattern_of term)
