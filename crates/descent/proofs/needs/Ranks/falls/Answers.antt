use Rattle.std.proofs.Common.{◌∙◌, ap, sym}
use Rattle.descent.specs.lemmas.RankingLaws.{under_fall}
use Rattle.descent.specs.Rankings.{Ranking, weigh_of, fall_of}
use Rattle.descent.proofs.Adding.{need_told, shown_done, missing_done}
use Rattle.descent.proofs.needs.Ranks.falls.Goals as goal

pub returns-then-leaves_fall-clause-fault : goal.returns-then-leaves_fall-clause-fault
returns-then-leaves_fall-clause-fault c =
    let weights = ap (λ (r : Ranking). r.weights) c.self.view_is in
    let sum = rw weights at c.in_ok-combined.ensures.sum in
    let none = rw weights at c.in_ok-combined.ensures.fault in
    let need = need_told c.leaves_fall.result c.args.missing (weigh_of c.args.self.now) c.args.rule.now _
    (fall_of c.args.self.now c.args.fall.now c.args.rule.now) c.args.multipliers.now c.combined.new.scratch c.requires.rule
    (under_fall c.args.self.now c.args.fall.now c.args.rule.now c.requires.rule) c.leaves_fall.ensures.shown sum none in
    shown_done _ _ _ _ (sym c.takes_both.ensures ∙ c.if-not-takes_both.false) need c.if-leaves_fall.true

pub returns-else-leaves_fall-clause-fault : goal.returns-else-leaves_fall-clause-fault
returns-else-leaves_fall-clause-fault c =
    let weights = ap (λ (r : Ranking). r.weights) c.self.view_is in
    let sum = rw weights at c.in_ok-combined.ensures.sum in
    let none = rw weights at c.in_ok-combined.ensures.fault in
    let need = need_told c.leaves_fall.result c.args.missing (weigh_of c.args.self.now) c.args.rule.now _
    (fall_of c.args.self.now c.args.fall.now c.args.rule.now) c.args.multipliers.now c.combined.new.scratch c.requires.rule
    (under_fall c.args.self.now c.args.fall.now c.args.rule.now c.requires.rule) c.leaves_fall.ensures.shown sum none in
    missing_done _ _ _ _ (sym c.takes_both.ensures ∙ c.if-not-takes_both.false) need c.if-leaves_fall.false
