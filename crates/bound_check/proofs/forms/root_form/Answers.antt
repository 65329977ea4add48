use Rattle.bound_check.specs.inner.Forms.{is_sized}
use Rattle.bound_check.proofs.Joined.{no_root_form}
use Rattle.bound_check.proofs.forms.root_form.Goals as goal

pub returns-in-None : goal.returns-in-None
returns-in-None g c = no_root_form c.args.root.now (is_sized c.args.root.now) c.args.step.now c.args.entry.now c.no_form.result
    c.in-None.ensures c.no_form.ensures
