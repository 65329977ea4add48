-- In a list of pairs that rises no number is a pair with itself.
use Rattle.std.proofs.Common.{◌≡◌, ℕ, ◌<◌, min, max, true, List, [], ◌∷◌, sym, subst, inl, inr, arith}
use Rattle.std.proofs.lemmas.Bool.{or_cases, false≢true}
use Rattle.abs_cells.proofs.AmongLaws.{is_low}
use Rattle.abs_cells.specs.PairLists.{IsRising, has}

pub never_itself : (x y : ℕ) (pairs : List (ℕ × ℕ)) → x ≡ y → IsRising pairs → has x y pairs ≡ true → ⊥
never_itself x y pairs e r h = let l = is_low (min x y, max x y) pairs r h in absurd (omega (arith, e, l))
