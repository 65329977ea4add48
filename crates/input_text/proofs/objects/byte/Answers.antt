use Rattle.std.proofs.Common.{ℤ, Ok, sym, ap, nat_abs}
use Rattle.json_view.specs.Located.{located}
use Rattle.input_text.specs.Objects.{a_byte}
use Rattle.input_text.proofs.Numbers.{byte_fits, byte_same}
use Rattle.input_text.proofs.objects.byte.Goals as goal

pub overflow_cast-result : goal.overflow_cast-result
overflow_cast-result c = byte_fits c.in_ok-number.number (located c.args.view.now) c.in_ok-number.ensures

pub returns : goal.returns
unfolding a_byte
returns c = rw (← c.in_ok-number.ensures)
    (ap (λ (z : ℤ). Ok (nat_abs z)) (sym (byte_same c.in_ok-number.number (located c.args.view.now) c.in_ok-number.ensures)))
