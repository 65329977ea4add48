use Rattle.std.proofs.Common.{◌∙◌, sym}
use Rattle.class_base.proofs.MethodLaws.{words_found, words_again}
use Rattle.class_base.proofs.methods.method_words.Goals as goal

pub returns-clause-exact : goal.returns-clause-exact
returns-clause-exact c = λ words. (
  λ is. words_found words c.args.bytes.now (sym c.whole_words.ensures ∙ is),
  λ has. c.whole_words.ensures ∙ words_again words c.args.bytes.now has,
)
