use Rattle.std.specs.List.{AllByRecursion, AllZip}
use Rattle.std.specs.Prelude.{◌<◌, length}
use Rattle.std.specs.Vec.Iter.{into_iter_items}
use Rattle.descent.specs.declared.proof.RankRule.{RankRule}
use Rattle.descent.specs.Steps.{rule_of}
use Rattle.chain_proofs.specs.inner.Sets.{IsRenumbered}
use Rattle.chain_proofs.proofs.ranking.all_renumbered.Given as goal

abbrev pub invariant-loop-one : goal.invariant-loop-one
invariant-loop-one l = record {
  within : AllByRecursion (λ (one : RankRule). rule_of one < length l.set) (into_iter_items l.one-iterator);
  done : AllZip (IsRenumbered l.set) l.yielded l.rules;
}
