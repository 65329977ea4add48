use Rattle.std.proofs.Common.{◌≡◌, ℕ, List, ℤ, ap, sym, subst, ◌∙◌, None, length, get_or, FitsSigned, to_z, of_z, to_z-of_z, w64}
use Rattle.rank_forms.specs.declared.rule_links.links.Tie.{Tie}
use Rattle.rank_forms.specs.rule_links.Counting.{multipliers_of}
use Rattle.rank_forms.specs.Following.{AreSteps, made}
use Rattle.rank_forms.specs.inner.Following.{bounded_by, step_entries}
use Rattle.rank_forms.specs.rule_links.Falls.{IsLongest}
use Rattle.rank_forms.specs.rule_links.Ties.{Known, trail_from}
use Rattle.rank_forms.proofs.Stepped.{no_steps, none_told, steps_made}
use Rattle.rank_forms.proofs.following.steps_between.Goals as goal

pub returns-then-is_none : goal.returns-then-is_none
returns-then-is_none c = no_steps c.args.negative c.args.rows.now c.args.start c.args.finish c.in_ok-ties.ties.items
    c.in_ok-known.known.items
    (record { rising = c.in_ok-ties.ensures.rising; complete = c.in_ok-ties.ensures.complete; in_rows = c.in_ok-ties.ensures.rows })
    (subst (λ (l : List Tie). IsLongest l c.args.start c.in_ok-known.known.items) c.as_slice.ensures.value c.in_ok-known.ensures)
    (ap (λ (l : Known). get_or l c.args.finish None) (sym c.as_slice-2.ensures.value) ∙ sym c.known_of-come.ensures
    ∙ none_told c.known_of-come.result c.is_none.result c.is_none.ensures c.if-is_none.true)

pub returns : goal.returns
returns c =
    let f : FitsSigned w64 c.by_of.result = record { sfits = c.by_of.type_inv } in
    let back : to_z w64 (of_z w64 c.by_of.result) ≡ c.by_of.result = to_z-of_z f in
    subst (AreSteps c.args.negative c.args.rows.now c.args.start c.args.finish) (sym c.made.ensures)
    (subst (λ (x : ℤ). AreSteps c.args.negative c.args.rows.now c.args.start c.args.finish
    (made x c.in_ok-fall.fall c.in_ok-bound.bound)) (sym back)
    (steps_made c.args.negative c.args.rows.now c.args.start c.args.finish c.in_ok-ties.ties.items c.in_ok-known.known.items
    c.known_of-come.result c.is_none.result c.by_of.result c.in_ok-fall.fall c.in_ok-bound.bound c.requires.rows
    c.requires.finish (record {
      rising = c.in_ok-ties.ensures.rising;
      complete = c.in_ok-ties.ensures.complete;
      in_rows =
          c.in_ok-ties.ensures.rows;
    })
    (subst (λ (l : List Tie). IsLongest l c.args.start c.in_ok-known.known.items) c.as_slice.ensures.value
    c.in_ok-known.ensures)
    (c.known_of-come.ensures ∙ ap (λ (l : Known). get_or l c.args.finish None) c.as_slice-2.ensures.value) c.is_none.ensures
    c.if-is_none.false c.by_of.ensures
    (c.in_ok-fall.ensures ∙ ap (λ (l : List (ℕ × ℤ)). multipliers_of (length c.args.rows.now) l)
    (c.as_slice-5.ensures ∙ c.in_ok-entries.ensures
    ∙ ap step_entries (c.as_slice-4.ensures ∙ c.in_ok-path.ensures
    ∙ ap (λ (l : Known). trail_from (length l) l c.args.finish) c.as_slice-3.ensures.value)))
    (c.in_ok-bound.ensures ∙ ap bounded_by c.bound_of.ensures)))
