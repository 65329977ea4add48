use Rattle.std.proofs.Common.{◌∙◌, ◌<◌, ℕ, List, All, length, ap, sym, subst}
use Rattle.std.proofs.lemmas.Result.{IfOk-weaker}
use Rattle.abs_heap.specs.Given.{AreFresh}
use Rattle.abs_heap.proofs.Affected.{names_few, names_of, names_low}
use Rattle.abs_heap.proofs.renaming.names_for.Goals as goal

pub fresh_ids-requires-clause-room : goal.fresh_ids-requires-clause-room
fresh_ids-requires-clause-room g c = names_few c.args.state.now c.args.set.now _ c.in_ok-olds.olds _ c.cells.ensures
    c.in_ok-olds.ensures c.requires.few c.len.ensures

pub paired-requires : goal.paired-requires
paired-requires g c = ap (λ (xs : List ℕ). length xs) c.as_slice.ensures ∙ sym c.len.ensures ∙ sym c.in_ok-news.ensures.count
    ∙ ap (λ (xs : List ℕ). length xs) (sym c.as_slice-2.ensures)

pub returns-clause-names : goal.returns-clause-names
returns-clause-names g c = IfOk-weaker c.paired.result _ _
    (λ names is. names_of c.args.state.now c.args.set.now _ c.as_slice.result.now c.as_slice-2.result.now names c.cells.ensures
    c.requires.rising (c.as_slice.ensures ∙ c.in_ok-olds.ensures) (ap (λ (xs : List ℕ). length xs) c.as_slice-2.ensures
    ∙ c.in_ok-news.ensures.count ∙ c.len.ensures ∙ ap (λ (xs : List ℕ). length xs) (sym c.as_slice.ensures)) is c.requires.there
    (subst (AreFresh c.args.state.now) (sym c.as_slice-2.ensures) c.in_ok-news.ensures.fresh)) c.paired.ensures

pub returns-clause-low : goal.returns-clause-low
returns-clause-low g c = IfOk-weaker c.paired.result _ _
    (λ names is. names_low c.args.state.now c.args.set.now _ c.as_slice.result.now c.as_slice-2.result.now names c.cells.ensures
    c.requires.rising (c.as_slice.ensures ∙ c.in_ok-olds.ensures) (ap (λ (xs : List ℕ). length xs) c.as_slice-2.ensures
    ∙ c.in_ok-news.ensures.count ∙ c.len.ensures ∙ ap (λ (xs : List ℕ). length xs) (sym c.as_slice.ensures)) is
    (subst (λ (xs : List ℕ). All (λ id. id < 2048) xs) (sym c.as_slice-2.ensures) c.in_ok-news.ensures.low)) c.paired.ensures
