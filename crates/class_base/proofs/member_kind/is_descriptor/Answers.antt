use Rattle.std.proofs.Common.{◌∙◌, sym}
use Rattle.class_base.proofs.MethodLaws.{descriptor_found, descriptor_again}
use Rattle.class_base.proofs.member_kind.is_descriptor.Goals as goal

pub returns-clause-exact : goal.returns-clause-exact
returns-clause-exact c = (
  λ is. descriptor_found c.args.kind c.args.flags c.args.bytes.now (sym c.describes.ensures ∙ is),
  λ rule. c.describes.ensures ∙ descriptor_again c.args.kind c.args.flags c.args.bytes.now rule,
)
