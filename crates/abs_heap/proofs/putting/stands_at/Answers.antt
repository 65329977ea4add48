use Rattle.std.proofs.Common.{◌<◌, length, get_or, arith}
use Rattle.std.proofs.lemmas.Bool.{false≢true}
use Rattle.std.proofs.lemmas.List.{get_or_default}
use Rattle.std.proofs.lemmas.Option.{slice_get_within}
use Rattle.abs_heap.proofs.Placing.{id_at}
use Rattle.abs_heap.proofs.putting.stands_at.Goals as goal

pub returns-then-place-cells : goal.returns-then-place-cells
returns-then-place-cells c = (
  λ t. absurd (false≢true t),
  λ h. absurd (let l = slice_get_within c.args.cells.now c.args.place _ h.1 in omega (arith, l, c.if-place-cells.true)),
)

pub returns : goal.returns
returns c =
    let low : c.args.place < length c.args.cells.now = omega (arith, c.if-place-cells.false) in
    id_at c.args.cells.now c.args.place c.args.id (get_or c.args.cells.now c.args.place c.index-cells-place.result) low
    (get_or_default c.args.cells.now c.args.place c.index-cells-place.result
    (get_or c.args.cells.now c.args.place c.index-cells-place.result) low)
