use Rattle.std.proofs.Common.{◌∙◌, ap, sym}
use Rattle.descent.specs.lemmas.RankingLaws.{under_start}
use Rattle.descent.specs.Rankings.{Ranking, weigh_of, start_of}
use Rattle.descent.proofs.Adding.{need_told, shown_done, missing_done}
use Rattle.descent.proofs.needs.Ranks.starts.Goals as goal

pub returns-then-leaves_start-clause-fault : goal.returns-then-leaves_start-clause-fault
returns-then-leaves_start-clause-fault c =
    let weights = ap (λ (r : Ranking). r.weights) c.self.view_is in
    let sum = rw weights at c.in_ok-combined.ensures.sum in
    let none = rw weights at c.in_ok-combined.ensures.fault in
    let need = need_told c.leaves_start.result c.args.missing (weigh_of c.args.self.now) c.args.rule.now _
    (start_of c.args.self.now c.args.rule.now) c.args.multipliers.now c.combined.new.scratch c.requires.rule
    (under_start c.args.self.now c.args.rule.now c.requires.rule) c.leaves_start.ensures.shown sum none in
    shown_done _ _ _ _ (sym (rw c.as_slice.ensures at c.takes.ensures) ∙ c.if-not-takes.false) need c.if-leaves_start.true

pub returns-else-leaves_start-clause-fault : goal.returns-else-leaves_start-clause-fault
returns-else-leaves_start-clause-fault c =
    let weights = ap (λ (r : Ranking). r.weights) c.self.view_is in
    let sum = rw weights at c.in_ok-combined.ensures.sum in
    let none = rw weights at c.in_ok-combined.ensures.fault in
    let need = need_told c.leaves_start.result c.args.missing (weigh_of c.args.self.now) c.args.rule.now _
    (start_of c.args.self.now c.args.rule.now) c.args.multipliers.now c.combined.new.scratch c.requires.rule
    (under_start c.args.self.now c.args.rule.now c.requires.rule) c.leaves_start.ensures.shown sum none in
    missing_done _ _ _ _ (sym (rw c.as_slice.ensures at c.takes.ensures) ∙ c.if-not-takes.false) need c.if-leaves_start.false
