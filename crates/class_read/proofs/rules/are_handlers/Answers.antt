use Rattle.std.proofs.Common.{rules, tests, arith}
use Rattle.std.proofs.lemmas.Iterator.{cases_from_all, YieldsList-from_slice}
use Rattle.std.proofs.lemmas.Iterator.Search.{true_from_All}
use Rattle.std.proofs.lemmas.Bool.{MatchBool-at_true}
use Rattle.class_read.specs.Rules.{IsHandler}
use Rattle.class_read.proofs.rules.are_handlers.Goals as goal

pub returns : goal.returns
returns c =
    let found = cases_from_all _ _ c.all.result (IsHandler c.args.pool.now) (λ h. IsHandler c.args.pool.now h → ⊥) c.all.ensures.ran
    (YieldsList-from_slice c.args.table.now cc) (λ x q k. search (rules, tests)) (λ x q k. search (rules, tests)) in (
      λ is. λ k d lt. MatchBool-at_true _ _ is found k d (omega arith) lt,
      λ all. true_from_All (IsHandler c.args.pool.now) (λ h. IsHandler c.args.pool.now h → ⊥) c.all.result c.args.table.now
          (λ x yes no. no yes) found all,
    )
