use Rattle.std.proofs.Common.{◌≡◌, ◌+◌, ℕ, Option, Some, slice_get, sym, subst}
use Rattle.abs_match.specs.inner.Matching.{IsLeastOf, FirstMeet, HasImage}
use Rattle.abs_match.proofs.Leasts.{next_asked, as_asked, places_past, no_entry_past, entry_is}
use Rattle.abs_match.proofs.places.least_entry.Goals as goal

pub loop-n-preserved : goal.loop-n-preserved
loop-n-preserved c =
    let one = as_asked c.args.entries.now _ (slice_get c.args.theirs.now c.loop-n.n) c.entry_at.result
    (slice_get c.args.ours.now c.loop-n.n) c.unmet.result (entry_is c.args.theirs.now c.loop-n.n c.loop-n-test.true)
    c.entry_at.ensures c.unmet.ensures in
    subst (λ (r : Option ℕ). IsLeastOf
    (FirstMeet (λ n id. slice_get c.args.theirs.now n ≡ Some id
    → HasImage c.args.entries.now id (slice_get c.args.ours.now n)) (c.loop-n.n + 1)) r) (sym c.lower_of-least.ensures)
    (next_asked (λ n id. slice_get c.args.theirs.now n ≡ Some id → HasImage c.args.entries.now id (slice_get c.args.ours.now n))
    c.loop-n.n c.loop-n.least c.unmet.result c.loop-n.invariant one)

pub returns : goal.returns
returns c = places_past c.args.entries.now (slice_get c.args.theirs.now) (slice_get c.args.ours.now) c.loop-n.n c.loop-n.least
    (no_entry_past c.args.theirs.now c.loop-n.n c.loop-n-test.false) c.loop-n.invariant
