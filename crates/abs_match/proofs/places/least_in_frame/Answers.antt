use Rattle.std.proofs.Common.{List, ℕ, Option, slice_get, reverse, sym, subst}
use Rattle.abs_match.specs.inner.Matching.{IsLeastOf, PlacesMeet, FrameMeets, local_at}
use Rattle.abs_match.proofs.Leasts.{both}
use Rattle.abs_match.proofs.places.least_in_frame.Goals as goal

pub returns : goal.returns
returns c =
    let locals = subst (λ (theirs : List (Option ℕ)). IsLeastOf
    (PlacesMeet c.args.entries.now (local_at theirs) (local_at c.args.ours.now.locals)) c.least_local.result) c.locals.ensures
    (subst (λ (ours : List (Option ℕ)). IsLeastOf (PlacesMeet c.args.entries.now (local_at c.locals.result.now) (local_at ours))
    c.least_local.result) c.locals-2.ensures c.least_local.ensures) in
    let entries = subst (λ (theirs : List ℕ). IsLeastOf
    (PlacesMeet c.args.entries.now (slice_get theirs) (slice_get (reverse c.args.ours.now.stack))) c.least_entry.result)
    c.stack.ensures
    (subst (λ (ours : List ℕ). IsLeastOf (PlacesMeet c.args.entries.now (slice_get c.stack.result.now) (slice_get ours))
    c.least_entry.result) c.stack-2.ensures c.least_entry.ensures) in
    subst (λ (r : Option ℕ). IsLeastOf (FrameMeets c.args.entries.now c.args.theirs.now c.args.ours.now) r) (sym c.lower_of.ensures)
    (both (PlacesMeet c.args.entries.now (local_at c.args.theirs.now.locals) (local_at c.args.ours.now.locals))
    (PlacesMeet c.args.entries.now (slice_get (reverse c.args.theirs.now.stack)) (slice_get (reverse c.args.ours.now.stack)))
    c.least_local.result c.least_entry.result locals entries)
