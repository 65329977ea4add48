use Rattle.std.proofs.Common.{ℤ, Ok, sym, ap, ◌∙◌}
use Rattle.json_view.specs.Located.{located}
use Rattle.input_text.specs.Fields.{an_int}
use Rattle.input_text.proofs.Numbers.{int_fits, int_same}
use Rattle.input_text.proofs.fields.int.Goals as goal

pub overflow_cast-result : goal.overflow_cast-result
overflow_cast-result c = int_fits c.in_ok-number.number (located c.args.view.now) c.in_ok-number.ensures

pub returns : goal.returns
unfolding an_int
returns c = sym c.in_ok-number.ensures
    ∙ ap (λ (z : ℤ). Ok z) (sym (int_same c.in_ok-number.number (located c.args.view.now) c.in_ok-number.ensures))
