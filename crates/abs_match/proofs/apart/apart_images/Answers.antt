use Rattle.std.proofs.Common.{◌≡◌, ◌<◌, ℕ, length, get_or, refl, sym, subst}
use Rattle.std.proofs.lemmas.Option.{slice_get_read, slice_get-get_or}
use Rattle.abs_cells.specs.declared.cells.Cell.{Cell}
use Rattle.abs_cells.proofs.Checking.{id_is_low}
use Rattle.abs_match.proofs.Partners.{none_yet, one_more, all_apart, as_many}
use Rattle.abs_match.proofs.apart.apart_images.Goals as goal

pub loop-place-init : goal.loop-place-init
loop-place-init g c = none_yet c.args.cells.now c.args.entries.now (g.P.Pairs.pairs c.args.pairs.now) c.args.sort c.args.id
    c.new-images.result c.new-images.ensures

pub is_other-wanted-requires : goal.is_other-wanted-requires
is_other-wanted-requires g c = (
  c.requires.low,
  subst (λ (x : ℕ × Cell). x.0 < 2048) (sym c.index-cells-place.is)
      (id_is_low 0 c.args.cells.now c.loop-place.place c.index-cells-place.result c.requires.rising c.loop-place-test.true),
)

pub bounds-entries-place : goal.bounds-entries-place
bounds-entries-place g c = as_many c.args.entries.now c.args.cells.now c.loop-place.place c.requires.keys c.loop-place-test.true

pub put_if-requires : goal.put_if-requires
put_if-requires g c = c.requires.images c.loop-place.place
    (as_many c.args.entries.now c.args.cells.now c.loop-place.place c.requires.keys c.loop-place-test.true)

pub loop-place-preserved : goal.loop-place-preserved
loop-place-preserved g c =
    one_more c.args.cells.now c.args.entries.now (g.P.Pairs.pairs c.args.pairs.now) c.args.sort c.args.id c.is_other-wanted.result
    c.loop-place.images c.put_if.new.images c.loop-place.place c.index-cells-place.result
    (get_or c.args.entries.now c.loop-place.place (0, 0))
    (slice_get_read c.args.cells.now (length c.args.cells.now) c.loop-place.place c.index-cells-place.result refl
    c.loop-place-test.true c.index-cells-place.is)
    (slice_get-get_or c.args.entries.now c.loop-place.place (0, 0)
    (as_many c.args.entries.now c.args.cells.now c.loop-place.place c.requires.keys c.loop-place-test.true))
    c.is_other-wanted.ensures c.put_if.ensures c.loop-place.invariant

pub returns : goal.returns
returns g c = all_apart c.args.cells.now c.args.entries.now (g.P.Pairs.pairs c.args.pairs.now) c.args.sort c.args.id c.requires.keys
    c.requires.rising c.requires.entries_rise c.loop-place.images c.loop-place.place c.loop-place-test.false c.loop-place.invariant
