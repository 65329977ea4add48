use Rattle.std.proofs.Common.{not, ◌∙◌, ap, sym}
use Rattle.std.proofs.lemmas.Bool.{false≢true, not-true}
use Rattle.abs_cells.proofs.Checking.{AreSets, all_join, untouched, unjoined}
use Rattle.abs_cells.proofs.checks.join_well.Goals as goal

pub returns-then-not-touches : goal.returns-then-not-touches
returns-then-not-touches g c =
    let sets : AreSets c.args.cells.now c.ids_of_sort-references.result c.ids_of_sort-known.result c.new.result c.outside.result
    c.outside-2.result = record {
      references_are = c.ids_of_sort-references.ensures;
      known_are = c.ids_of_sort-known.ensures;
      none_is = c.new.ensures;
      others_are = c.outside.ensures;
      every_is = c.outside-2.ensures;
    } in (
      λ h. all_join c.args.cells.now c.ids_of_sort-references.result c.ids_of_sort-known.result c.new.result c.outside.result
          c.outside-2.result (g.P.Pairs.pairs c.args.pairs.now) sets c.touches.ensures.rising
          (sym c.touches.ensures.value ∙ c.if-not-touches.true) (sym c.touches-then-not-touches.ensures.value
          ∙ not-true c.touches-then-not-touches.result h),
      λ k. ap not (c.touches-then-not-touches.ensures.value ∙ unjoined c.args.cells.now c.ids_of_sort-references.result
          c.ids_of_sort-known.result c.new.result c.outside.result c.outside-2.result (g.P.Pairs.pairs c.args.pairs.now) sets
          c.touches.ensures.rising k),
    )

pub returns-else-not-touches : goal.returns-else-not-touches
returns-else-not-touches g c =
    let sets : AreSets c.args.cells.now c.ids_of_sort-references.result c.ids_of_sort-known.result c.new.result c.outside.result
    c.outside-2.result = record {
      references_are = c.ids_of_sort-references.ensures;
      known_are = c.ids_of_sort-known.ensures;
      none_is = c.new.ensures;
      others_are = c.outside.ensures;
      every_is = c.outside-2.ensures;
    } in (
      λ h. absurd (false≢true (sym (not-true c.touches.result h) ∙ c.if-not-touches.false)),
      λ k. ap not (c.touches.ensures.value ∙ untouched c.args.cells.now c.ids_of_sort-references.result c.ids_of_sort-known.result
          c.new.result c.outside.result c.outside-2.result (g.P.Pairs.pairs c.args.pairs.now) sets c.touches.ensures.rising k),
    )
