use Rattle.std.proofs.Common.{arith, sym, ◌∙◌}
use Rattle.std.proofs.lemmas.Bool.{false≢true}
use Rattle.jvm_values.proofs.Joining.{object_joins}
use Rattle.jvm_values.proofs.joins.join_apart.Goals as goal

pub returns-else-b-eq0 : goal.returns-else-b-eq0
returns-else-b-eq0 g c =
    object_joins _ _ _ _ _ (g.met.T.Types.laws c.args.types.now) c.args.a c.args.b c.requires.left c.requires.right c.requires.apart
    (omega (arith, c.if-a-eq0.false)) (omega (arith, c.if-b-eq0.false))
    (λ above. false≢true (sym c.if-is_erased_above.false ∙ c.is_erased_above.ensures.1 above))
    (λ above. false≢true (sym c.if-is_erased_above-2.false ∙ c.is_erased_above-else-is_erased_above.ensures.1 above))
