use Rattle.std.proofs.Common.{ℤ, Ok, sym, ap, nat_abs}
use Rattle.json_view.specs.Located.{located}
use Rattle.bound_text.specs.Texts.{an_id, number_to}
use Rattle.bound_text.proofs.Ids.{id_fits, id_same}
use Rattle.bound_text.proofs.numbers.id.Goals as goal

pub overflow_cast-result : goal.overflow_cast-result
overflow_cast-result c = id_fits c.in_ok-number.number (located c.args.view.now) c.in_ok-number.ensures

pub returns : goal.returns
unfolding an_id number_to
returns c = rw (← c.in_ok-number.ensures)
    (ap (λ (z : ℤ). Ok (nat_abs z)) (sym (id_same c.in_ok-number.number (located c.args.view.now) c.in_ok-number.ensures)))
