use Rattle.std.proofs.Common.{rules}
use Rattle.std.proofs.Common.{lit<}
use Rattle.std.specs.Prelude.{is_none}
use Rattle.json_view.specs.Names.{first_missing}
use Rattle.serde_json.specs.Find.{get_member}
use Rattle.serde_json.specs.View.{members_view}
use Rattle.std.proofs.lemmas.Iterator.Search.{find_from_yields_List}
use Rattle.std.proofs.lemmas.Iterator.Splits.{YieldsList-from_str_split}
use Rattle.std.proofs.Common.{tests}
use Rattle.json_view.proofs.names.first_missing.Goals as goal

pub returns : goal.returns
unfolding first_missing
returns c = find_from_yields_List (λ name. is_none (get_member name (members_view c.args.members.now.entries))) _ _ _
    c.find.ensures.ran (YieldsList-from_str_split 32 c.args.names.now (lit< tt) c.split.ensures.text c.split.ensures.has_more
    c.split.ensures.pattern) (λ x b q k. search (rules, tests))
