use Rattle.std.proofs.Common.{◌∙◌, sym, subst}
use Rattle.survey.specs.Claims.{AreTrue}
use Rattle.survey.proofs.Truths.{yes_lined}
use Rattle.survey.proofs.walking.yes_lines.Goals as goal

pub returns-in_ok-add_line : goal.returns-in_ok-add_line
returns-in_ok-add_line c = yes_lined c.args.method.now.class.now c.args.method.now.name.now c.args.method.now.desc.now
    c.as_slice.result.now c.add_line.new.text c.args.given c.args.touched (sym c.is_plain.ensures ∙ c.if-is_plain.true)
    (sym c.is_plain-then-is_plain.ensures ∙ c.if-is_plain-2.true) (sym c.is_plain-then-is_plain-2.ensures ∙ c.if-is_plain-3.true)
    (c.as_slice.ensures ∙ c.in_ok-line.ensures)
    (λ s line none. c.in_ok-add_line.ensures s line (subst (AreTrue s) (sym c.new-text.ensures) none))
