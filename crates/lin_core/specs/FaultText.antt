-- What a fault of a combination says.
use Rattle.std.specs.Prelude.{ℕ, List, ◌++◌, codes}
use Rattle.std.specs.Fmt.{decimal}
use Rattle.lin_core.specs.declared.faults.LinFault.{LinFault}
use Rattle.lin_core.specs.declared.faults.LinFault.TheVariants.{BadIndex, NegativeMultiplier, Limit}

-- the entry, and the rule that it breaks
abbrev pub text_of : LinFault → List ℕ
text_of (BadIndex n) = codes "entry " ++ decimal n ++ codes " names a row that is not there"
text_of (NegativeMultiplier n) = codes "entry " ++ decimal n ++ codes " has a negative multiplier for a row that is only at least 0"
text_of (Limit n) = codes "entry " ++ decimal n ++ codes " has a multiplier above 2^31 in size"
