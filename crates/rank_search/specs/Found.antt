-- What the search says of a plain form that it found.
use Rattle.std.specs.Prelude.{List}
use Rattle.descent.specs.declared.rules.PathRule.{PathRule}
use Rattle.rank_search.specs.declared.searching.PlainForm.{PlainForm}
use Rattle.rank_search.specs.declared.searching.PlainForm.TheVariants.{Ints, Size}
use Rattle.rank_search.specs.Plain.{LowersInts, RanksSize}

-- the plain form ranks the rules
abbrev pub IsFound : List PathRule → PlainForm → Type 0
IsFound rules (Ints form) = LowersInts rules form
IsFound rules (Size place) = RanksSize rules place
