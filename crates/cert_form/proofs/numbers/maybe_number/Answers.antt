use Rattle.std.proofs.Common.{ℤ, Result, Ok, sym, ap, ◌∙◌, arith}
use Rattle.json_view.specs.Located.{located}
use Rattle.cert_form.specs.declared.fault.CertFault.{CertFault}
use Rattle.cert_form.specs.Fields.{◌>>=◌, unless_negative, maybe_number, maybe_to}
use Rattle.cert_form.proofs.Whole.{maybe_within, maybe_same}
use Rattle.cert_form.proofs.numbers.maybe_number.Goals as goal

pub unless_negative-requires : goal.unless_negative-requires
unless_negative-requires c = maybe_within 4294967295 c.in_ok-number.number (located c.args.view.now) (omega arith) c.in_ok-number.ensures

pub returns : goal.returns
unfolding maybe_number maybe_to
returns c =
    ap (λ (r : Result ℤ CertFault). r >>= λ n. Ok (unless_negative n)) c.in_ok-number.ensures
    ∙ ap (λ (z : ℤ). Ok (unless_negative z))
    (sym (maybe_same 4294967295 c.in_ok-number.number (located c.args.view.now) (omega arith) c.in_ok-number.ensures))
    ∙ ap (λ x. Ok x) (sym c.unless_negative.ensures)
