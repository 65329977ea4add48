use Rattle.std.proofs.Common.{ℤ, Result, Ok, sym, ap, ◌∙◌, nat_abs, arith}
use Rattle.json_view.specs.Located.{located}
use Rattle.cert_form.specs.declared.fault.CertFault.{CertFault}
use Rattle.cert_form.specs.Fields.{◌>>=◌, number_to}
use Rattle.cert_form.proofs.Whole.{byte_fits, number_same}
use Rattle.cert_form.proofs.numbers.byte.Goals as goal

pub overflow_cast-result : goal.overflow_cast-result
overflow_cast-result c = byte_fits c.in_ok-number.number (located c.args.view.now) c.in_ok-number.ensures

pub returns : goal.returns
unfolding number_to
returns c =
    ap (λ (r : Result ℤ CertFault). r >>= λ n. Ok (nat_abs n)) c.in_ok-number.ensures
    ∙ ap (λ (z : ℤ). Ok (nat_abs z))
    (sym (number_same 255 c.in_ok-number.number (located c.args.view.now) (omega arith) c.in_ok-number.ensures))
