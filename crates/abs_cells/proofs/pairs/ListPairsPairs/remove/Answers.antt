use Rattle.std.proofs.Common.{sym, ◌∙◌, ap}
use Rattle.abs_cells.specs.PairLists.{removed}
use Rattle.abs_cells.proofs.PairLaws.{after_remove, removed_rises, nothing_there}
use Rattle.abs_cells.proofs.pairs.ListPairsPairs.remove.Goals as goal

pub invariant_of-self : goal.invariant_of-self
invariant_of-self c = removed_rises c.args.a c.args.b c.self.inside.pairs.items c.deref.result.now c.deref-2.result.now c.min.result
    c.max.result c.place_of-place.result c.stands_at.result (record {
      low_is = c.min.ensures;
      high_is = c.max.ensures;
      first_is = c.deref.ensures.value;
      second_is = c.deref-2.ensures.value;
      place_is = c.place_of-place.ensures;
      there_to = c.stands_at.ensures.0;
      there_from = c.stands_at.ensures.1;
    }) c.remove.new.self.items c.if-stands_at.true c.self.invariant c.remove.ensures.items

pub returns-then-stands_at : goal.returns-then-stands_at
returns-then-stands_at c = after_remove c.args.a c.args.b c.self.inside.pairs.items c.deref.result.now c.deref-2.result.now
    c.min.result c.max.result c.place_of-place.result c.stands_at.result (record {
      low_is = c.min.ensures;
      high_is = c.max.ensures;
      first_is = c.deref.ensures.value;
      second_is = c.deref-2.ensures.value;
      place_is = c.place_of-place.ensures;
      there_to = c.stands_at.ensures.0;
      there_from = c.stands_at.ensures.1;
    }) c.remove.new.self.items c.if-stands_at.true c.remove.ensures.items ∙ ap (removed c.args.a c.args.b) c.self.view_is

pub returns-else-stands_at : goal.returns-else-stands_at
returns-else-stands_at c = sym c.self.view_is
    ∙ sym (nothing_there c.args.a c.args.b c.self.inside.pairs.items c.deref.result.now c.deref-2.result.now c.min.result
    c.max.result c.place_of-place.result c.stands_at.result (record {
      low_is = c.min.ensures;
      high_is = c.max.ensures;
      first_is = c.deref.ensures.value;
      second_is = c.deref-2.ensures.value;
      place_is = c.place_of-place.ensures;
      there_to = c.stands_at.ensures.0;
      there_from = c.stands_at.ensures.1;
    }) c.if-stands_at.false c.self.invariant) ∙ ap (removed c.args.a c.args.b) c.self.view_is
