use Rattle.serde_json.specs.View.{view}
use Rattle.input_text.specs.States.{state_of}
use Rattle.input_text.proofs.Clean.{faulty, of_state}
use Rattle.input_text.proofs.texts.StateText.read.Goals as goal

pub returns : goal.returns
returns c =
    let said = rw c.root.ensures at c.in-Err.ensures in
    faulty state_of c.args.bytes.now (view c.in_ok-value.value) c.in-Err.fault c.from.result of_state c.in_ok-value.ensures said
    c.from.ensures
