use Rattle.std.proofs.Common.{sym, ◌∙◌, ap, arith}
use Rattle.abs_cells.specs.PairLists.{added}
use Rattle.abs_cells.proofs.PairLaws.{within, after_insert, inserted_rises, there_again}
use Rattle.abs_cells.proofs.pairs.ListPairsPairs.add.Goals as goal

pub insert-requires : goal.insert-requires
insert-requires c = let h = within c.args.a c.args.b c.self.inside.pairs.items c.deref.result.now c.deref-2.result.now c.min.result
    c.max.result c.place_of-place.result c.stands_at.result (record {
      low_is = c.min.ensures;
      high_is = c.max.ensures;
      first_is = c.deref.ensures.value;
      second_is = c.deref-2.ensures.value;
      place_is = c.place_of-place.ensures;
      there_to = c.stands_at.ensures.0;
      there_from = c.stands_at.ensures.1;
    }) in omega (arith, h, c.self.inside.pairs.ok.0)

pub invariant_of-self : goal.invariant_of-self
invariant_of-self c = inserted_rises c.args.a c.args.b c.self.inside.pairs.items c.deref.result.now c.deref-2.result.now
    c.min.result c.max.result c.place_of-place.result c.stands_at.result (record {
      low_is = c.min.ensures;
      high_is = c.max.ensures;
      first_is = c.deref.ensures.value;
      second_is = c.deref-2.ensures.value;
      place_is = c.place_of-place.ensures;
      there_to = c.stands_at.ensures.0;
      there_from = c.stands_at.ensures.1;
    }) c.insert.new.self.items c.if-not-stands_at.true c.requires.differ c.requires.low c.self.invariant c.in_ok-insert.ensures.items

pub returns-in_ok-insert-clause-ok : goal.returns-in_ok-insert-clause-ok
returns-in_ok-insert-clause-ok c = after_insert c.args.a c.args.b c.self.inside.pairs.items c.deref.result.now c.deref-2.result.now
    c.min.result c.max.result c.place_of-place.result c.stands_at.result (record {
      low_is = c.min.ensures;
      high_is = c.max.ensures;
      first_is = c.deref.ensures.value;
      second_is = c.deref-2.ensures.value;
      place_is = c.place_of-place.ensures;
      there_to = c.stands_at.ensures.0;
      there_from = c.stands_at.ensures.1;
    }) c.insert.new.self.items c.if-not-stands_at.true c.in_ok-insert.ensures.items ∙ ap (added c.args.a c.args.b) c.self.view_is

pub returns-else-not-stands_at-clause-ok : goal.returns-else-not-stands_at-clause-ok
returns-else-not-stands_at-clause-ok c = sym c.self.view_is
    ∙ sym (there_again c.args.a c.args.b c.self.inside.pairs.items c.deref.result.now c.deref-2.result.now c.min.result c.max.result
    c.place_of-place.result c.stands_at.result (record {
      low_is = c.min.ensures;
      high_is = c.max.ensures;
      first_is = c.deref.ensures.value;
      second_is = c.deref-2.ensures.value;
      place_is = c.place_of-place.ensures;
      there_to = c.stands_at.ensures.0;
      there_from = c.stands_at.ensures.1;
    }) c.if-not-stands_at.false) ∙ ap (added c.args.a c.args.b) c.self.view_is
