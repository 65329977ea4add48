use Rattle.std.proofs.Common.{◌∙◌, refl, sym}
use Rattle.abs_widen.specs.Rows.{widened_lo, widened_hi}
use Rattle.abs_widen.proofs.Bounds.{ends_of}
use Rattle.abs_widen.proofs.cells.int_cell.Goals as goal

pub returns : goal.returns
returns c =
    let ends = ends_of (widened_lo c.args.interval.lo c.in-Some.beside.lo) (widened_hi c.args.interval.hi c.in-Some.beside.hi)
    c.widened.result c.widened.ensures.value c.widened.ensures.order c.in-Some-widened.wide c.in-Some-widened.is in (
      c.in-Some.beside,
      (
        sym c.interval_in.ensures
            ∙ c.in-Some.is,
        record { interval = c.in-Some-widened.wide; lo = ends.0; hi = ends.1; is = refl },
      ),
    )
