-- Words of private calls: how the cuts of rules are listed in rising order.
use Rattle.std.specs.Prelude.{ℕ, List, [], ◌∷◌, Option, Some, None}
use Rattle.std.specs.Prelude.{if◌then◌else◌, nat_lt}
use Rattle.descent.specs.declared.rules.PathRule.{PathRule}

-- the lesser of a cut that may be there and another one, which counts from a number on
abbrev pub less_of : Option ℕ → ℕ → Option ℕ
less_of None cut = Some cut
less_of (Some best) cut = if nat_lt cut best then Some cut else Some best

abbrev pub lesser : Option ℕ → ℕ → ℕ → Option ℕ
lesser best cut low = if nat_lt cut low then best else less_of best cut

-- the least cut from a number on
abbrev pub next_from : ℕ → Option ℕ → List PathRule → Option ℕ
next_from low best [] = best
next_from low best (rule ∷ rest) = next_from low (lesser (lesser best rule.from low) rule.to low) rest
