use Rattle.std.proofs.Common.{sym, ◌∙◌}
use Rattle.abs_cells.specs.PairLists.{is_same}
use Rattle.abs_widen.proofs.Zips.{unplaced}
use Rattle.abs_widen.proofs.numbers.number_of.Goals as goal

pub returns-in-None : goal.returns-in-None
returns-in-None c = sym (unplaced (is_same c.args.pair) c.args.pairs.now (sym c.place_of.ensures ∙ c.in-None.is))
