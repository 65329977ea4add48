use Rattle.cert_form.proofs.LimitKeeping.{read_keeps}
use Rattle.cert_form.proofs.cert_limits.laws.read_certificates_keep_limits.Goals as goal

pub returns : goal.returns
returns c = read_keeps
