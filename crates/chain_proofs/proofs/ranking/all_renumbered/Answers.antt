use Rattle.std.proofs.Common.{rules}
use Rattle.chain_proofs.specs.inner.Sets.{IsRenumbered}
use Rattle.chain_proofs.proofs.Owning.{zip_pushed}
use Rattle.chain_proofs.proofs.ranking.all_renumbered.Goals as goal

pub loop-one-preserved : goal.loop-one-preserved
loop-one-preserved c = record {
  within = search rules;
  done = zip_pushed (IsRenumbered c.args.set.now) c.loop-one.yielded c.loop-one.rules _ c.in-Some.one c.renumbered.result
      c.in_ok-push.ensures.items c.loop-one.invariant.done c.renumbered.ensures;
}
