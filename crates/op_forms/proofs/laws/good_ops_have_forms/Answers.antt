use Rattle.op_forms.proofs.Formed.{good_formed, all_formed}
use Rattle.op_forms.proofs.laws.good_ops_have_forms.Goals as goal

pub returns : goal.returns
returns c = record { one = good_formed; all = all_formed }
