use Rattle.std.proofs.Common.{List, subst, sym}
use Rattle.descent.proofs.Classes.{if_ok_then}
use Rattle.rank_forms.specs.declared.rule_links.links.Link.{Link}
use Rattle.rank_forms.specs.declared.rule_links.links.Tie.{Tie}
use Rattle.rank_forms.specs.rule_links.Links.{IsIntLink}
use Rattle.rank_forms.specs.rule_links.Ties.{InTies, Covers}
use Rattle.rank_forms.proofs.Tied.{sound_is, complete_is}
use Rattle.rank_forms.proofs.rule_links.ties.int_ties.Goals as goal

pub returns : goal.returns
returns c = record {
  sound = if_ok_then _ _ c.all_ties.result _ (λ ties. (link : Link) → InTies ties link → IsIntLink c.args.rows.now link)
      c.all_ties.ensures (λ ties e link h. sound_is c.args.rows.now link (subst (λ (l : List Tie). InTies l link) e h));
  complete = if_ok_then _ _ c.all_ties.result _ (λ ties. (link : Link) → IsIntLink c.args.rows.now link
      → Covers ties link.from link.to) c.all_ties.ensures
      (λ ties e link h. subst (λ (l : List Tie). Covers l link.from link.to) (sym e) (complete_is c.args.rows.now link h));
  is = c.all_ties.ensures;
}
