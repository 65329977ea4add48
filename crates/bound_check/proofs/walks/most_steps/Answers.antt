use Rattle.std.proofs.Common.{◌≡◌, ◌∙◌, ℕ, List, Bool, length, map, sym, ap, subst}
use Rattle.path_rules.specs.Successors.{AreMarks, inner_row}
use Rattle.path_rules.proofs.Answering.{cuts_there, inner_short}
use Rattle.bound_check.specs.inner.Walking.{ends_of, most_from}
use Rattle.bound_check.proofs.Longest.{ends_long, most_steps}
use Rattle.bound_check.proofs.walks.most_steps.Goals as goal

pub cut_marks-requires : goal.cut_marks-requires
cut_marks-requires g c = cuts_there (g.S.NodeSource.graph c.args.source.now) c.in_ok-lists.lists c.args.cuts.now c.len.result
    c.in_ok-lists.ensures.lists c.len.ensures c.requires.cuts

pub rank-requires : goal.rank-requires
rank-requires g c = inner_short (g.S.NodeSource.graph c.args.source.now) c.in_ok-lists.lists c.as_slice-3.result.now
    c.as_slice.result.now c.in_ok-lists.ensures.lists
    (c.as_slice-3.ensures ∙ (c.in_ok-inner.ensures ∙ ap (λ (l : List (List ℕ)). map (inner_row c.as_slice.result.now) l)
    c.as_slice-2.ensures)) c.requires.few

pub most-requires-clause-long : goal.most-requires-clause-long
most-requires-clause-long g c = ends_long (g.S.NodeSource.graph c.args.source.now) c.as_slice-in-Ranks.result.now
    c.as_slice-in-Ranks-3.result.now (c.as_slice-in-Ranks.ensures ∙ c.in_ok-lists.ensures.lists)
    (c.as_slice-in-Ranks-3.ensures ∙ (c.in_ok-ends.ensures.ends ∙ ap ends_of c.in_ok-lists.ensures.same))

pub returns-clause-most : goal.returns-clause-most
returns-clause-most g c = most_steps (g.S.NodeSource.graph c.args.source.now) c.args.links.now.nodes c.args.cuts.now
    c.as_slice-in-Ranks.result.now c.as_slice-in-Ranks-2.result.now c.as_slice-in-Ranks-3.result.now c.in_ok-most-in-Ranks.most
    c.most_from.result (c.as_slice-in-Ranks.ensures ∙ c.in_ok-lists.ensures.lists)
    (c.as_slice-in-Ranks-3.ensures ∙ (c.in_ok-ends.ensures.ends ∙ ap ends_of c.in_ok-lists.ensures.same))
    (subst (λ (m : List Bool). AreMarks c.args.cuts.now m) (sym c.as_slice-in-Ranks-2.ensures) c.in_ok-marks.ensures)
    c.in_ok-most-in-Ranks.ensures
    (c.most_from.ensures ∙ ap (λ (m : List ℕ). most_from m 0 c.args.cuts.now) c.as_slice-in-Ranks-5.ensures)
