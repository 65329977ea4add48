use Rattle.std.proofs.Common.{◌^◌, ap}
use Rattle.descent.specs.Rankings.{Ranking}
use Rattle.descent.proofs.Adding.{ints_fit, sizes_fit, two_lines}
use Rattle.descent.proofs.needs.Ranks.add_line.Goals as goal

pub add_entries-requires-clause-entries : goal.add_entries-requires-clause-entries
add_entries-requires-clause-entries c = rw c.ints.ensures (ints_fit c.args.self.now.forms c.args.cut c.requires.forms)

pub add_entries-requires-2-clause-entries : goal.add_entries-requires-2-clause-entries
add_entries-requires-2-clause-entries c = rw c.sizes.ensures
    (sizes_fit c.args.self.now.sizes c.args.self.now.forms c.args.cut c.requires.forms)

pub returns : goal.returns
returns c =
    let weights = ap (λ (r : Ranking). r.weights) c.self.view_is in
    let one = rw (c.ints.ensures, weights) at c.add_entries.ensures in
    let other = rw (c.sizes.ensures, weights) at c.add_entries-2.ensures in
    two_lines (2 ^ 110) (2 ^ 110) _ _ _ _ _ c.args.scratch.now c.add_entries.new.scratch c.add_entries-2.new.scratch one other
