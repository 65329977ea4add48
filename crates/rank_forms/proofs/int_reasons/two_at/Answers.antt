use Rattle.std.proofs.Common.{◌∷◌, []}
use Rattle.descent.proofs.Classes.{if_ok_then}
use Rattle.rank_forms.specs.Reasons.{TellsForm}
use Rattle.rank_forms.proofs.int_reasons.two_at.Goals as goal

pub returns : goal.returns
returns c = if_ok_then _ _ c.both_of.result _
    (λ found. TellsForm c.args.rule.now c.args.ties.now (c.args.one.now ∷ c.args.other.now ∷ []) found) c.both_of.ensures
    (λ found e. (c.in_ok-a.a, c.in_ok-b.b, c.in_ok-a.ensures, c.in_ok-b.ensures, e))
