use Rattle.serde_json.specs.View.{view}
use Rattle.input_text.specs.Descriptions.{description_of}
use Rattle.input_text.proofs.Clean.{faulty, of_description}
use Rattle.input_text.proofs.texts.DescText.read.Goals as goal

pub returns : goal.returns
returns c =
    let said = rw c.root.ensures at c.in-Err.ensures in
    faulty description_of c.args.bytes.now (view c.in_ok-value.value) c.in-Err.fault c.from.result of_description
    c.in_ok-value.ensures said c.from.ensures
