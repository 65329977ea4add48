use Rattle.std.proofs.Common.{sym, subst}
use Rattle.input_text.specs.Descriptions.{description_of}
use Rattle.input_steps.specs.declared.refused.Place.TheVariants.{Description}
use Rattle.input_steps.specs.Steps.{IsCaused}
use Rattle.input_steps.specs.Texts.{IsTextFault}
use Rattle.input_steps.proofs.Texts.{caused}
use Rattle.desc_steps.specs.Descriptions.{RefusesText}
use Rattle.desc_steps.proofs.description.read_desc.Goals as goal

pub returns-in-Err : goal.returns-in-Err
returns-in-Err c = record {
  text = tt;
  refused = subst (IsCaused (RefusesText c.args.bytes.now)) (sym c.refuse_desc.ensures)
      (caused Description (IsTextFault description_of c.args.bytes.now) c.in-Err.fault (λ other. (other, c.in-Err.ensures)));
}
