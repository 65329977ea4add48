use Rattle.std.proofs.Common.{sym, ◌∙◌}
use Rattle.class_base.proofs.TypeLaws.{field_found, field_again}
use Rattle.class_base.proofs.types.field_type.Goals as goal

pub returns-clause-exact : goal.returns-clause-exact
returns-clause-exact c = λ t. (
  λ is. field_found t c.args.bytes.now (sym c.whole_type.ensures ∙ is),
  λ has. c.whole_type.ensures ∙ field_again t c.args.bytes.now has,
)
