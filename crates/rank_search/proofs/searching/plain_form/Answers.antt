use Rattle.std.specs.Prelude.{IfSome}
use Rattle.descent.proofs.Classes.{if_ok_then}
use Rattle.rank_search.specs.Found.{IsFound}
use Rattle.rank_search.proofs.Lowered.{some_found}
use Rattle.rank_search.proofs.searching.plain_form.Goals as goal

pub returns : goal.returns
returns c = record {
  found = if_ok_then _ _ c.told_form.result _ (λ found. IfSome found (λ form. IsFound c.args.rules.now form))
      c.told_form.ensures.found (λ found h. some_found c.args.rules.now found h);
  none = c.told_form.ensures.none;
}
