use Rattle.its_call.proofs.Asked.{counted}
use Rattle.its_call.proofs.its_search.system_forms.count_of.Goals as goal
use Rattle.std.proofs.Common.{length, refl}

pub slot_count-requires : goal.slot_count-requires
slot_count-requires c = (counted c.args.rules.now c.in-Some.field-0-1.now c.in-Some.rule.now (length c.in-Some.rule.now.first)
    c.in-Some.ensures.cases.0 refl c.requires).few

pub returns-in-Some : goal.returns-in-Some
returns-in-Some c = counted c.args.rules.now c.in-Some.field-0-1.now c.in-Some.rule.now c.slot_count.result
    c.in-Some.ensures.cases.0 c.slot_count.ensures c.requires
