use Rattle.std.proofs.Common.{◌∙◌, sym, ap, arith, ◌+◌}
use Rattle.class_base.proofs.Turns.{with_words, all_words, ends, goes, fails, empty, out, nothing}
use Rattle.class_base.proofs.methods.words_at.Goals as goal

pub returns-in_err-first : goal.returns-in_err-first
returns-in_err-first c = nothing _ _ _ c.from_residual.ensures
    (sym (all_words _) ∙ empty with_words _ _ _ _ c.in_err-first.ensures.cases c.turns.invariant.same)

pub returns-then-first-eq41 : goal.returns-then-first-eq41
returns-then-first-eq41 c = sym (all_words _) ∙ ends with_words _ _ _ _ _ _ _ c.turns-test.true c.in_ok-first.ensures.cases.0
    c.if-first-eq41.true c.turns.invariant.same

pub returns-in_err-found : goal.returns-in_err-found
returns-in_err-found c = nothing _ _ _ c.from_residual-in_err-found.ensures
    (sym (all_words _) ∙ fails with_words _ _ _ _ _ _ _ c.turns-test.true c.in_ok-first.ensures.cases.0 c.if-first-eq41.false
    c.in_err-found.ensures c.turns.invariant.same)

pub turns-preserved : goal.turns-preserved
turns-preserved c = record {
  few = omega (arith, c.type_words-words.ensures.few, c.turns.invariant.few);
  same = goes with_words _ _ _ _ _ _ _ _ _ _ c.turns-test.true c.in_ok-first.ensures.cases.0 c.if-first-eq41.false
      c.in_ok-found.ensures (ap (λ n. c.turns.words + n) c.type_words-words.ensures.words) c.turns.invariant.same;
}

pub returns : goal.returns
returns c = sym (all_words _) ∙ out with_words _ _ _ _ _ c.turns-test.false c.turns.invariant.same
