use Rattle.std.proofs.Common.{ℕ, List, sym, ap, ◌∙◌}
use Rattle.class_read.specs.Text.{attr_text, attribute_text}
use Rattle.class_read.proofs.WritingLaws.{written_as, code_texts}
use Rattle.class_read.proofs.writing.put_attr.Goals as goal

pub returns-in_ok-content-in-Code : goal.returns-in_ok-content-in-Code
returns-in_ok-content-in-Code c =
    let content = c.as_slice-in-Code.ensures ∙ c.in_ok-content-in-Code.ensures
    ∙ code_texts _ _ c.as_slice-code.ensures c.as_slice-table.ensures c.as_slice-attributes.ensures in
    written_as _ _ _ _ _ (ap (λ (x : List ℕ). attribute_text (c.in-Code.name, x)) content ∙ ap attr_text (sym c.in-Code.is))
    c.put_attribute-in-Code.ensures
