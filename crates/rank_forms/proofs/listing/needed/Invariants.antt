use Rattle.std.proofs.Common.{◌≡◌, drop, None}
use Rattle.rank_forms.specs.Forms.{needed}
use Rattle.rank_forms.proofs.listing.needed.Given as goal

abbrev pub invariant-loop-followed : goal.invariant-loop-followed
invariant-loop-followed l = needed l.best (drop l.followed-index l.all) ≡ needed None l.all
