use Rattle.std.proofs.Common.{◌≡◌, ◌++◌, drop}
use Rattle.rank_forms.specs.Forms.{list_from}
use Rattle.rank_forms.proofs.listing.list_all.Given as goal

abbrev pub invariant-loop-n : goal.invariant-loop-n
invariant-loop-n l = l.list ++ list_from l.n (drop l.n l.all) ≡ list_from 0 l.all
