use Rattle.std.proofs.Common.{ℕ, List, IsTrue, ◌↔◌, subst}
use Rattle.abs_cells.specs.PairLists.{AreAmong}
use Rattle.abs_cells.specs.PackedBits.{pairs_in}
use Rattle.abs_cells.proofs.packed.PackedPairsPairs.are_among.Goals as goal

pub returns : goal.returns
returns c =
    let others = pairs_in c.others.inside.packed.slots.items c.others.inside.packed.words.items in
    subst (λ (ys : List (ℕ × ℕ)). IsTrue c.all_among.result ↔ AreAmong c.args.self.now ys) c.others.view_is
    (subst (λ (xs : List (ℕ × ℕ)). IsTrue c.all_among.result ↔ AreAmong xs others) c.self.view_is c.all_among.ensures)
