use Rattle.json_view.specs.Located.{root_of}
use Rattle.serde_json.specs.View.{view}
use Rattle.bound_text.proofs.Clean.{faulty}
use Rattle.bound_text.proofs.Within.{text_within}
use Rattle.bound_text.proofs.texts.BoundText.read.Goals as goal

pub returns-clause-text : goal.returns-clause-text
returns-clause-text c =
    let said = rw c.root.ensures at c.in-Err.ensures in
    faulty c.args.bytes.now (view c.in_ok-value.value) c.in-Err.fault c.in_ok-value.ensures said

pub returns-in-Ok-clause-within : goal.returns-in-Ok-clause-within
returns-in-Ok-clause-within c = text_within _ c.in-Ok.text c.in-Ok.ensures
