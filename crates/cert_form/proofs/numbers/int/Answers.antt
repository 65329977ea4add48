use Rattle.std.proofs.Common.{ℤ, Ok, sym, ap, ◌∙◌}
use Rattle.json_view.specs.Located.{located}
use Rattle.cert_form.specs.Fields.{an_int}
use Rattle.cert_form.proofs.Whole.{int_fits, int_same}
use Rattle.cert_form.proofs.numbers.int.Goals as goal

pub overflow_cast-result : goal.overflow_cast-result
overflow_cast-result c = int_fits c.in_ok-number.number (located c.args.view.now) c.in_ok-number.ensures

pub returns : goal.returns
unfolding an_int
returns c = c.in_ok-number.ensures
    ∙ ap (λ (z : ℤ). Ok z) (sym (int_same c.in_ok-number.number (located c.args.view.now) c.in_ok-number.ensures))
