use Rattle.std.proofs.Common.{rules, tests, not, string_bytes}
use Rattle.std.specs.Map.Iter.{TakesFirst, deref}
use Rattle.std.proofs.lemmas.Iterator.Search.{find_from_yields_List}
use Rattle.std.proofs.lemmas.Iterator.Consumers.{YieldsList-from_shown}
use Rattle.json_view.specs.Names.{is_listed}
use Rattle.json_view.proofs.Least.{least_unlisted-first}
use Rattle.json_view.proofs.names.least_unlisted.Goals as goal

pub returns : goal.returns
returns c =
    let found = find_from_yields_List (λ key. not (is_listed c.args.names.now (string_bytes key))) _ _ c.find.result
    c.find.ensures.ran (YieldsList-from_shown (TakesFirst deref) (λ x. x.now) (λ s. s) (λ s t h. search rules)
    (λ s x t h. search rules) c.keys.result) (λ x b q k. search (rules, tests)) in
    least_unlisted-first c.args.names.now c.args.members.now.entries c.keys.result c.find.result c.keys.ensures.rest
    c.keys.ensures.ordered found
