use Rattle.path_rules.proofs.Answering.{too_many_answer, rules_answer}
use Rattle.path_rules.proofs.answers.answered.Goals as goal

pub returns-then-count-ge-TOO_MANY-clause-answers : goal.returns-then-count-ge-TOO_MANY-clause-answers
returns-then-count-ge-TOO_MANY-clause-answers g c = too_many_answer _ _ _ _ c.total-count.result c.requires.ready c.requires.mapped
    c.total-count.ensures c.if-count-ge-TOO_MANY.true

pub returns-clause-answers : goal.returns-clause-answers
returns-clause-answers g c = rules_answer _ _ _ _ c.rules_of.result c.requires.mapped c.rules_of.ensures.rules
