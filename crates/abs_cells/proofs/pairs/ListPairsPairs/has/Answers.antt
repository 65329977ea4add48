use Rattle.std.proofs.Common.{◌∙◌, ap}
use Rattle.abs_cells.specs.PairLists.{has}
use Rattle.abs_cells.proofs.PairLaws.{looked}
use Rattle.abs_cells.proofs.pairs.ListPairsPairs.has.Goals as goal

pub returns : goal.returns
returns c = looked c.args.a c.args.b c.self.inside.pairs.items c.deref-2.result.now c.deref.result.now c.min.result c.max.result
    c.place_of.result c.stands_at.result (record {
      low_is = c.min.ensures;
      high_is = c.max.ensures;
      first_is = c.deref-2.ensures.value;
      second_is = c.deref.ensures.value;
      place_is = c.place_of.ensures;
      there_to = c.stands_at.ensures.0;
      there_from = c.stands_at.ensures.1;
    }) c.self.invariant ∙ ap (has c.args.a c.args.b) c.self.view_is
