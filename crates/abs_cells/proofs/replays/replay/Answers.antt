use Rattle.std.proofs.Common.{◌∙◌, sym, subst, Bool, List}
use Rattle.abs_cells.specs.declared.replays.PairCall.TheVariants.{Add}
use Rattle.abs_cells.proofs.Replaying.{IsReplaying, none_made, silent, spoken, all_answered}
use Rattle.abs_cells.proofs.replays.replay.Goals as goal
use Rattle.abs_cells.proofs.replays.replay.Goals.{in-Some+in_ok-push, in_default}

pub loop-call-init : goal.loop-call-init
loop-call-init g c = subst (λ (bs : List Bool). IsReplaying c.args.calls.now (g.P.Pairs.pairs c.args.pairs.now)
    (g.P.Pairs.pairs c.args.pairs.now) 0 bs) (sym c.new-answers.ensures.items)
    (none_made c.args.calls.now (g.P.Pairs.pairs c.args.pairs.now))

pub loop-call-preserved : goal.loop-call-preserved
loop-call-preserved g c = elim c.match-branch-2.branch [
  | in-Some+in_ok-push w ↦
      rw w.answers-is (spoken c.args.calls.now (g.P.Pairs.pairs c.args.pairs.now) (g.P.Pairs.pairs c.loop-call.pairs)
      (g.P.Pairs.pairs c.make.new.pairs) c.loop-call.call-index c.loop-call.answers.items (Add 0 0) c.loop-call-test.true
      c.loop-call.invariant c.in_ok-answer.ensures.ok w.in-Some.answer _ (sym w.in-Some.is ∙ c.in_ok-answer.ensures.answer)
      w.in_ok-push.ensures.items)
  | in_default w ↦
      rw w.answers-is (silent c.args.calls.now (g.P.Pairs.pairs c.args.pairs.now) (g.P.Pairs.pairs c.loop-call.pairs)
      (g.P.Pairs.pairs c.make.new.pairs) c.loop-call.call-index c.loop-call.answers.items (Add 0 0) c.loop-call-test.true
      c.loop-call.invariant c.in_ok-answer.ensures.ok (sym w.in_default.is ∙ c.in_ok-answer.ensures.answer))
]

pub returns-clause-answers : goal.returns-clause-answers
returns-clause-answers g c = all_answered c.args.calls.now (g.P.Pairs.pairs c.args.pairs.now) (g.P.Pairs.pairs c.loop-call.pairs)
    c.loop-call.call-index c.loop-call.answers.items c.loop-call-test.false c.loop-call.invariant
