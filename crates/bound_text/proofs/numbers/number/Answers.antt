use Rattle.std.proofs.Common.{ℤ, Ok, sym, ap, nat_abs}
use Rattle.json_view.specs.Located.{located}
use Rattle.input_text.proofs.Numbers.{number_fits, number_same}
use Rattle.bound_text.specs.Texts.{a_number, number_to}
use Rattle.bound_text.proofs.numbers.number.Goals as goal

pub overflow_cast-result : goal.overflow_cast-result
overflow_cast-result c = number_fits c.in_ok-number.number (located c.args.view.now) c.in_ok-number.ensures

pub returns : goal.returns
unfolding a_number number_to
returns c = rw (← c.in_ok-number.ensures)
    (ap (λ (z : ℤ). Ok (nat_abs z)) (sym (number_same c.in_ok-number.number (located c.args.view.now) c.in_ok-number.ensures)))
