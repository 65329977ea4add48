use Rattle.std.proofs.Common.{◌≡◌, ◌∙◌, ◌+◌, ℕ, true, Option, Some, sym, ap, subst, arith}
use Rattle.std.proofs.lemmas.Option.{slice_get_within}
use Rattle.abs_cells.specs.Cells.{cell_in, is_of_sort}
use Rattle.abs_reach.specs.Instances.{image_in}
use Rattle.abs_match.specs.inner.Matching.{IsLeastOf, FirstMeet, EntryMeets}
use Rattle.abs_match.proofs.Leasts.{all_asked, next_asked, entry_asked}
use Rattle.abs_match.proofs.Entries.{entry_of, image_is_there}
use Rattle.abs_match.proofs.maps.least_unmapped.Goals as goal

pub loop-id-preserved : goal.loop-id-preserved
loop-id-preserved c =
    let asks = EntryMeets c.args.cells.now c.args.entries.now in
    subst (λ (r : Option ℕ). IsLeastOf (FirstMeet asks (c.loop-id.id-index + 1)) r) (sym c.lower_of-least.ensures)
    (next_asked asks c.loop-id.id-index c.loop-id.least c.without_cell.result c.loop-id.invariant
    (entry_asked c.args.cells.now c.args.entries.now c.loop-id.id-index (0, 0) c.without_cell.result c.loop-id-test.true
    c.without_cell.ensures))

pub returns : goal.returns
returns c = all_asked (EntryMeets c.args.cells.now c.args.entries.now) (λ id. (image : ℕ)
    → image_in c.args.entries.now id ≡ Some image → is_of_sort (λ _. true) (cell_in c.args.cells.now image) ≡ true)
    c.loop-id.id-index c.loop-id.least
    (λ id all image e.
    let entry = entry_of c.args.entries.now id image e in
    let low = slice_get_within c.args.entries.now entry.0 entry.1.0 entry.1.1.0 in
    subst (λ (i : ℕ). is_of_sort (λ _. true) (cell_in c.args.cells.now i) ≡ true) entry.1.1.1.1
    (all entry.0 (omega (arith, low, c.loop-id-test.false)) entry.1.0 entry.1.1.0 entry.1.1.1.0))
    (λ id all n low entry e f. all entry.1 (ap (λ (key : ℕ). image_in c.args.entries.now key) (sym f)
    ∙ image_is_there c.args.entries.now n entry c.requires.keys e))
    c.loop-id.invariant
