use Rattle.std.proofs.Common.{◌≡◌, ◌+◌, ℕ, Option, Some, sym, subst}
use Rattle.abs_match.specs.inner.Matching.{IsLeastOf, FirstMeet, HasImage, local_at}
use Rattle.abs_match.proofs.Leasts.{next_asked, as_asked, places_past, no_local_past, local_is}
use Rattle.abs_match.proofs.places.least_local.Goals as goal

pub loop-n-preserved : goal.loop-n-preserved
loop-n-preserved c =
    let one = as_asked c.args.entries.now _ (local_at c.args.theirs.now c.loop-n.n) c.local_at.result
    (local_at c.args.ours.now c.loop-n.n) c.unmet.result (local_is c.args.theirs.now c.loop-n.n c.loop-n-test.true)
    c.local_at.ensures c.unmet.ensures in
    subst (λ (r : Option ℕ). IsLeastOf
    (FirstMeet (λ n id. local_at c.args.theirs.now n ≡ Some id → HasImage c.args.entries.now id (local_at c.args.ours.now n))
    (c.loop-n.n + 1)) r) (sym c.lower_of-least.ensures)
    (next_asked (λ n id. local_at c.args.theirs.now n ≡ Some id → HasImage c.args.entries.now id (local_at c.args.ours.now n))
    c.loop-n.n c.loop-n.least c.unmet.result c.loop-n.invariant one)

pub returns : goal.returns
returns c = places_past c.args.entries.now (local_at c.args.theirs.now) (local_at c.args.ours.now) c.loop-n.n c.loop-n.least
    (no_local_past c.args.theirs.now c.loop-n.n c.loop-n-test.false) c.loop-n.invariant
