use Rattle.std.proofs.Common.{◌≡◌, ◌-◌, ◌*◌, ◌≤◌, length}
use Rattle.class_base.specs.MethodTypes.{types_at}
use Rattle.class_base.proofs.Turns.{gathered, with_words}
use Rattle.class_base.proofs.methods.words_at.Given as goal

abbrev pub invariant-turns : goal.invariant-turns
invariant-turns l = record {
  few : l.words ≤ 2 * l.counter;
  same : gathered with_words l.words (types_at (length l.bytes - l.counter) l.rest) ≡ gathered with_words 0
      (types_at (length l.bytes) l.bytes);
}
