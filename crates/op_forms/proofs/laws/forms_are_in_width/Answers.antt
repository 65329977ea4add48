use Rattle.op_forms.proofs.Widths.{forms_wide}
use Rattle.op_forms.proofs.laws.forms_are_in_width.Goals as goal

pub returns : goal.returns
returns c = forms_wide
