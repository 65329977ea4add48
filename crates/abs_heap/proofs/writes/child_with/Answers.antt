use Rattle.std.proofs.Common.{◌∙◌, sym, subst}
use Rattle.abs_cells.specs.PairLists.{IsRising}
use Rattle.abs_heap.specs.inner.Renaming.{write_of}
use Rattle.abs_heap.proofs.WriteChildren.{child_written}
use Rattle.abs_heap.proofs.writes.child_with.Goals as goal
use Rattle.std.proofs.lemmas.Result.{IfOk-weaker}

pub returns : goal.returns
returns g c = IfOk-weaker c.whole.result _ _
    (λ child is.
    let was = c.as_slice-shared.ensures.value ∙ c.in_ok-listed.ensures.value ∙ c.share-pairs.ensures in
    child_written c.args.state.now (write_of c.args.write.now.object c.args.write.now.field c.args.write.now.value)
    c.as_slice-names.result.now c.args.effect.now.names c.args.effect.now.null c.args.effect.now.no_cycle _ _ _ _ _ _ _
    c.args.affected.now _ _ _ _ _ _ _ _ _ _ _
    c.requires.good c.requires.value c.requires.null c.requires.affected c.new-cells.ensures.items c.cells-old.ensures
    c.in_ok-put_written.ensures c.from_vec-cells.ensures c.as_slice-list.ensures c.eq.ensures was c.as_slice-names.ensures
    c.in_ok-eq.ensures c.in_ok-share.ensures
    c.ids-known.ensures c.known_from.ensures was c.ids_beside-beside.ensures c.cells-old.ensures c.names_among-ids.ensures
    c.cells-old.ensures c.names_among-met.ensures c.in_ok-put_met.ensures child is) c.whole.ensures

pub listed_pairs-requires-clause-pairs : goal.listed_pairs-requires-clause-pairs
listed_pairs-requires-clause-pairs g c =
    subst IsRising (sym (c.as_slice-shared.ensures.value ∙ c.in_ok-listed.ensures.value)) c.in_ok-listed.ensures.rising

pub ids_beside-beside-requires : goal.ids_beside-beside-requires
ids_beside-beside-requires g c = subst IsRising (sym (c.as_slice-shared.ensures.value ∙ c.in_ok-listed.ensures.value)) c.in_ok-listed.ensures.rising
