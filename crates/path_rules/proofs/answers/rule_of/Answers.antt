use Rattle.path_rules.proofs.Ruling.{path_found, path_not_found, cut_there, way_rides, rule_for}
use Rattle.path_rules.proofs.answers.rule_of.Goals as goal

pub returns-in_default-clause-rule : goal.returns-in_default-clause-rule
returns-in_default-clause-rule g c = absurd (path_not_found _ c.args.cuts.now c.args.ways.now c.args.number c.requires.mapped
    c.requires.few c.requires.there c.in_default.ensures)

pub way_of-requires-clause-number : goal.way_of-requires-clause-number
way_of-requires-clause-number g c = (path_found _ c.args.cuts.now c.args.ways.now c.args.number c.in-Some._place c.in-Some.from
    c.in-Some.left c.requires.mapped c.requires.few c.requires.there c.in-Some.ensures).few

pub rule_along-requires-clause-there : goal.rule_along-requires-clause-there
rule_along-requires-clause-there g c = cut_there _ c.args.links.now.nodes c.args.cuts.now c.args.ways.now c.args.number
    c.in-Some.from c.in-Some.left c.requires.ready
    (path_found _ c.args.cuts.now c.args.ways.now c.args.number c.in-Some._place c.in-Some.from c.in-Some.left c.requires.mapped
    c.requires.few c.requires.there c.in-Some.ensures)

pub rule_along-requires-clause-goes : goal.rule_along-requires-clause-goes
rule_along-requires-clause-goes g c = way_rides _ c.args.links.now.nodes c.args.cuts.now c.args.ways.now c.args.number
    c.in-Some.from c.in-Some.left c.in_ok-way.way.places c.in_ok-way.way.to c.requires.ready c.requires.mapped c.requires.there
    (path_found _ c.args.cuts.now c.args.ways.now c.args.number c.in-Some._place c.in-Some.from c.in-Some.left c.requires.mapped
    c.requires.few c.requires.there c.in-Some.ensures) c.in_ok-way.ensures

pub returns-clause-rule : goal.returns-clause-rule
returns-clause-rule g c =
    let found = path_found _ c.args.cuts.now c.args.ways.now c.args.number c.in-Some._place c.in-Some.from c.in-Some.left
    c.requires.mapped c.requires.few c.requires.there c.in-Some.ensures in
    rule_for _ c.args.links.now.nodes c.args.cuts.now c.args.ways.now c.args.number c.in-Some.from c.in-Some.left
    c.in_ok-way.way.places c.in_ok-way.way.to c.in_ok-rule.rule c.requires.ready c.requires.mapped found c.in_ok-way.ensures
    (way_rides _ c.args.links.now.nodes c.args.cuts.now c.args.ways.now c.args.number c.in-Some.from c.in-Some.left
    c.in_ok-way.way.places c.in_ok-way.way.to c.requires.ready c.requires.mapped c.requires.there found c.in_ok-way.ensures)
    c.in_ok-rule.ensures.rule
