use Rattle.std.proofs.Common.{arith}
use Rattle.std.proofs.lemmas.List.Elements.{All-from_recursion, recursion_from_All}
use Rattle.class_pool.specs.Entry.{HasText}
use Rattle.class_pool.proofs.Growth.{slots_bounds}
use Rattle.class_pool.proofs.rules.has_texts.Goals as goal

pub returns-then-entries-gt65535 : goal.returns-then-entries-gt65535
returns-then-entries-gt65535 c = (λ is. absurd (cc), λ texts. absurd (omega (arith, texts.count, slots_bounds c.args.entries.now)))

pub returns : goal.returns
returns c = (
  λ is. record {
    each = recursion_from_All HasText c.args.entries.now (c.each_has_text.ensures.0 is);
    count = omega (arith, c.count_of.ensures, c.if-count_of-gt65535.false);
  },
  λ texts. c.each_has_text.ensures.1 (All-from_recursion HasText c.args.entries.now texts.each),
)
