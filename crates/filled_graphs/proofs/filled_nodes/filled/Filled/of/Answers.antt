use Rattle.std.proofs.Common.{◌∙◌, length, sym, ap}
use Rattle.filled_graphs.proofs.Knowing.{none_held, all_known}
use Rattle.filled_graphs.proofs.filled_nodes.filled.Filled.of.Goals as goal

pub know_all-requires-clause-count : goal.know_all-requires-clause-count
know_all-requires-clause-count g c = c.count-count.ensures ∙ ap (λ s. length (g.S.PartSource.parts s)) (sym c.in_ok-ground.ensures.parts)

pub know_all-requires-clause-kept : goal.know_all-requires-clause-kept
know_all-requires-clause-kept g c = none_held _ _ _ c.in_ok-slots.slots c.count-count.result c.in_ok-slots.ensures
    (c.count-count.ensures ∙ ap (λ s. length (g.S.PartSource.parts s)) (sym c.in_ok-ground.ensures.parts))

pub returns : goal.returns
returns g c = all_known (λ e. g.E.Expands.rules e) (λ s. g.S.PartSource.parts s) c.know_all.new.ground.expander c.args.expander
    c.know_all.new.ground.parts.now c.args.parts.now c.know_all.new.ground.known c.know_all.new.ground.filling.0
    (c.in_ok-know_all.ensures.expander ∙ c.in_ok-ground.ensures.expander)
    (c.in_ok-know_all.ensures.parts ∙ c.in_ok-ground.ensures.parts)
    (c.in_ok-know_all.ensures.known ∙ c.count-count.ensures) c.know_all.new.ground.filling.1

pub invariant_of-result : goal.invariant_of-result
invariant_of-result g c = record {
  all = c.in_ok-know_all.ensures.known ∙ c.count-count.ensures
      ∙ ap (λ s. length (g.S.PartSource.parts s)) (sym (c.in_ok-know_all.ensures.parts ∙ c.in_ok-ground.ensures.parts));
  kept = c.in_ok-know_all.ensures.kept;
}
