use Rattle.class_read.proofs.Numbers.{new_pair, joined}
use Rattle.class_read.proofs.seen.SeenMembers.add.Goals as goal

pub returns-clause-new : goal.returns-clause-new
returns-clause-new c =
    new_pair c.args.pool.now c.args.name c.args.desc c.number-first.result c.number-second.result c.self.inside.pairs.keys
    c.args.self.now c.in_ok-new.new c.requires.name c.requires.desc c.requires.numbers
    c.self.view_is c.number-first.ensures c.number-second.ensures c.in_ok-new.ensures.added

pub returns-clause-joins : goal.returns-clause-joins
returns-clause-joins c =
    joined c.args.pool.now c.args.name c.args.desc c.number-first.result c.number-second.result c.self.inside.pairs.keys
    c.args.self.now c.insert.new.self.keys c.requires.name c.requires.desc c.requires.numbers
    c.self.view_is c.number-first.ensures c.number-second.ensures c.in_ok-new.ensures.keys
