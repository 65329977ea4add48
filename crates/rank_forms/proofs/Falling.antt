-- What is told of the falls of sizes and ints.
use Rattle.std.proofs.Common.{◌≡◌, ℕ, suc, Bool, true, false, cond, List, [], ◌∷◌, get_or, ℤ, Option, Some, None, subst, ap, refl}
use Rattle.std.proofs.Common.{◌∙◌, sym}
use Rattle.std.specs.Prelude.{◌&&◌, ◌||◌, slice_get}
use Rattle.std.proofs.lemmas.Bool.{eq-eqb, and_parts, and_from}
use Rattle.std.proofs.lemmas.Bool.Decides.{Decides-int_eq}
use Rattle.std.proofs.lemmas.Map.Keys.{any_passes_from_place}
use Rattle.std.proofs.lemmas.Option.{same_Some, none-some}
use Rattle.list_views.proofs.Options.{cond_guarded}
use Rattle.list_views.proofs.Truths.{or_second}
use Rattle.lin_core.specs.declared.rows.WRow.{WRow}
use Rattle.descent.specs.declared.rules.PathRule.{PathRule}
use Rattle.descent.specs.declared.rules.Place.{Place}
use Rattle.rank_forms.specs.declared.rule_links.links.Come.{Come}
use Rattle.rank_forms.specs.declared.rule_links.links.Link.{Link}
use Rattle.rank_forms.specs.declared.rule_links.links.Tie.{Tie}
use Rattle.rank_forms.specs.rule_links.Links.{IsAmong, IsWay, total}
use Rattle.rank_forms.specs.rule_links.SizeLinks.{IsSizeLink}
use Rattle.rank_forms.specs.rule_links.Falls.{IsAtLeast, IsLongest, IsFall, TellAll, TellsSize, TellsSteps}
use Rattle.rank_forms.specs.rule_links.inner.Rising.{IsLongestTo, TellsWays}
use Rattle.rank_forms.specs.rule_links.inner.Rising.{bounded_fall, bounded_from}
use Rattle.rank_forms.specs.rule_links.Falls.{bounds, has_bound}
use Rattle.rank_forms.specs.rule_links.Ties.{InTies, IsReached, Known, is_alone, is_inequality, more_of, variable_at}
use Rattle.rank_forms.specs.rule_links.FallLinks.{IsBounded, IsFallLink, sign}
use Rattle.rank_forms.proofs.Changed.{stands_is, stands_at}
use Rattle.rank_forms.proofs.Tied.{alone_is, kind_is}

longest_cases : (ties : List Tie) (start finish : ℕ) (known : Known) (found : Option Come) → get_or known finish None ≡ found
    → IsLongest ties start known → IsLongestTo ties start finish (more_of found)
longest_cases ties start finish known None e long = record {
  told = λ links way. subst (λ (o : Option Come). IsAtLeast o (total links)) e (long.greatest links finish way);
  says = λ c m. absurd (none-some c m);
}
longest_cases ties start finish known (Some come) e long = record {
  told = λ links way. subst (λ (o : Option Come). IsAtLeast o (total links)) e (long.greatest links finish way);
  says = λ c m. subst (IsReached ties start finish) (same_Some come.by c m) (long.reached finish come e);
}

pub fall_is : (ties : List Tie) (start finish : ℕ) (known seen : Known) (come : Option Come) (more : Option ℤ)
    → IsLongest ties start known → seen ≡ known → come ≡ get_or seen finish None → more ≡ more_of come → IsLongestTo ties start finish more
fall_is ties start finish known seen come more long s c m = subst (IsLongestTo ties start finish)
    (sym (m ∙ ap more_of (c ∙ ap (λ (l : Known). get_or l finish None) s)))
    (longest_cases ties start finish known (get_or known finish None) refl long)

pub ways_told : (size : Bool) (ties : List Tie) (rule : PathRule) (place : Place) (start finish : ℕ) (fall : Option ℤ)
    → variable_at rule.first size place ≡ Some start → variable_at rule.last size place ≡ Some finish
    → IsLongestTo ties start finish fall → TellsWays size ties rule place fall
ways_told size ties rule place start finish fall s f long = record {
  told = λ begin end links ends way.
      let first : begin ≡ start = same_Some begin start (sym (stands_is rule.first size place begin ends.first) ∙ s) in
      let last : end ≡ finish = same_Some end finish (sym (stands_is rule.last size place end ends.last) ∙ f) in
      long.told links (subst (λ (x : ℕ). IsWay (InTies ties) start links x) last
      (subst (λ (x : ℕ). IsWay (InTies ties) x links end) first way));
  says = λ c e. (
    start,
    finish,
    record {
      first = stands_at rule.first size place start s;
      last = stands_at rule.last size place
          finish f;
    },
    long.says c e,
  );
}

-- links of the definitions are ties
way_map : (kind other : Link → Type 0) (u v : ℕ) (links : List Link) → ((link : Link) → kind link → other link)
    → IsWay kind u links v → IsWay other u links v
way_map kind other u v [] f way = way
way_map kind other u v (link ∷ rest) f way = (
  record { begins = way.0.begins; is = f link way.0.is },
  way_map kind other link.to v
      rest f way.1,
)

pub sizes_told : (rule : PathRule) (rows : List WRow) (ties seen : List Tie) (places : List Place) (falls : List (Option ℤ))
    → rows ≡ rule.rows → seen ≡ ties → ((link : Link) → InTies ties link → IsSizeLink rows link)
    → ((link : Link) → IsSizeLink rows link → InTies ties link) → TellAll (TellsWays true seen rule) places falls
    → TellAll (TellsSize rule) places falls
sizes_told rule rows ties seen places falls r s sound complete tells = (
  tells.0,
  λ k place is.
      let t = tells.1 k place is in
      let all = λ (link : Link) (h : IsSizeLink rule.rows link). complete link (subst (λ (l : List WRow). IsSizeLink l link) (sym r) h) in
      let says = λ (link : Link) (h : InTies ties link). subst (λ (l : List WRow). IsSizeLink l link) r (sound link h) in
      record {
        told = λ c f. subst (IsFall (get_or falls k None)) f.adds
            (t.told f.start f.finish f.links f.ends
            (subst (λ (l : List Tie). IsWay (InTies l) f.start f.links f.finish) (sym s)
            (way_map (IsSizeLink rule.rows) (InTies ties) f.start f.finish f.links all f.way)));
        says = λ c e.
            let w = t.says c e in
            let x = w.3 in
            record {
              start = w.0;
              finish = w.1;
              ends = w.2;
              links = x.0;
              way = way_map (InTies ties) (IsSizeLink rule.rows) w.0 w.1
                  x.0 says (subst (λ (l : List Tie). IsWay (InTies l) w.0 x.0 w.1) s x.1);
              adds = x.2;
            };
      },
)

pub steps_told : (negative : Bool) (rule : PathRule) (rows : List WRow) (ties seen : List Tie) (places : List Place)
    (falls : List (Option ℤ)) → rows ≡ rule.rows → seen ≡ ties → ((link : Link) → InTies ties link → IsFallLink negative rows link)
    → ((link : Link) → IsFallLink negative rows link → InTies ties link) → TellAll (TellsWays false seen rule) places falls
    → TellAll (TellsSteps false negative rule) places falls
steps_told negative rule rows ties seen places falls r s sound complete tells = (
  tells.0,
  λ k place is.
      let t = tells.1 k place is in
      let all = λ (link : Link) (h : IsFallLink negative rule.rows link). complete link
      (subst (λ (l : List WRow). IsFallLink negative l link) (sym r) h) in
      let says = λ (link : Link) (h : InTies ties link). subst (λ (l : List WRow). IsFallLink negative l link) r (sound link h) in
      record {
        told = λ c f asked. subst (IsFall (get_or falls k None)) f.adds
            (t.told f.start f.finish f.links f.ends
            (subst (λ (l : List Tie). IsWay (InTies l) f.start f.links f.finish) (sym s)
            (way_map (IsFallLink negative rule.rows) (InTies ties) f.start f.finish f.links all f.way)));
        says = λ c e.
            let w = t.says c e in
            let x = w.3 in (
              record {
                start = w.0;
                finish = w.1;
                ends = w.2;
                links = x.0;
                way = way_map (InTies ties)
                    (IsFallLink negative rule.rows) w.0 w.1 x.0 says (subst (λ (l : List Tie). IsWay (InTies l) w.0 x.0 w.1) s x.1);
                adds = x.2;
              },
              tt,
            );
      },
)

alone_same : (variable : ℕ) (times : ℤ) → is_alone variable times ((variable, times) ∷ []) ≡ true
alone_same variable times = and_from _ _ (eq-eqb variable variable refl) ((Decides-int_eq times times).1 refl)

pub bound_found : (negative : Bool) (rule : PathRule) (start : ℕ) → IsBounded negative rule start
    → has_bound negative start rule.rows ≡ true
bound_found negative rule start is = any_passes_from_place (bounds negative start) rule.rows is.among.0 is.row is.among.1
    (and_from (is_inequality is.row.kind) (is_alone start (sign negative) is.row.terms) (ap is_inequality is.inequality)
    (ap (is_alone start (sign negative)) is.alone ∙ alone_same start (sign negative)))

counted : (test : Bool) (fall : Option ℤ) → test ≡ true → cond test fall None ≡ fall
counted true fall e = refl
counted false fall e = absurd (cc)

bounds_cases : (here : Bool) (negative : Bool) (rule : PathRule) (start : ℕ) (row : WRow) (rest : List WRow)
    → bounds negative start row ≡ here → IsAmong rule.rows row → has_bound negative start (row ∷ rest) ≡ true
    → (has_bound negative start rest ≡ true → IsBounded negative rule start) → IsBounded negative rule start
bounds_cases true negative rule start row rest t among e more =
    let parts = and_parts (is_inequality row.kind) (is_alone start (sign negative) row.terms) t in
    record { row = row; among = among; inequality = kind_is row.kind parts.0; alone = alone_is start (sign negative) row.terms parts.1 }
bounds_cases false negative rule start row rest t among e more = more
    (or_second (bounds negative start row) (has_bound negative start rest) t e)

bounds_is : (negative : Bool) (rule : PathRule) (start : ℕ) (list : List WRow)
    → ((n : ℕ) (row : WRow) → slice_get list n ≡ Some row → IsAmong rule.rows row) → has_bound negative start list ≡ true
    → IsBounded negative rule start
bounds_is negative rule start [] part e = absurd (cc)
bounds_is negative rule start (row ∷ rest) part e = bounds_cases (bounds negative start row) negative rule start row rest refl
    (part 0 row refl) e (λ h. bounds_is negative rule start rest (λ n other is. part (suc n) other is) h)

bound_at : (negative : Bool) (rule : PathRule) (found : Option ℕ) (start : ℕ) → found ≡ Some start
    → bounded_from negative rule.rows found ≡ true → IsBounded negative rule start
bound_at negative rule None start e h = absurd (cc)
bound_at negative rule (Some other) start e h = subst (IsBounded negative rule) (same_Some other start e)
    (bounds_is negative rule other rule.rows (λ n row is. (n, is)) h)

pub bounded_told : (negative : Bool) (rule : PathRule) (places : List Place) (falls : List (Option ℤ)) (n : ℕ) (place : Place)
    (fall one : Option ℤ) → slice_get places n ≡ Some place → fall ≡ get_or falls n None
    → one ≡ bounded_fall negative rule place fall → TellAll (TellsSteps false negative rule) places falls
    → TellsSteps true negative rule place one
bounded_told negative rule places falls n place fall one is f o tells =
    let t = tells.1 n place is in
    record {
      told = λ c steps bounded.
          let found : bounded_from negative rule.rows (variable_at rule.first false place) ≡ true = ap
          (bounded_from negative rule.rows) (stands_is rule.first false place steps.start steps.ends.first)
          ∙ bound_found negative rule steps.start bounded in
          let same : one ≡ get_or falls n None = o ∙ counted (bounded_from negative rule.rows (variable_at rule.first false place))
          fall found ∙ f in
          subst (λ (x : Option ℤ). IsFall x c) (sym same) (t.told c steps tt);
      says = λ c e.
          let parts = cond_guarded (bounded_from negative rule.rows (variable_at rule.first false place)) fall c (sym o ∙ e) in
          let steps = (t.says c (sym f ∙ parts.1)).0 in (
            steps,
            bound_at negative rule (variable_at rule.first false place) steps.start
                (stands_is rule.first false place steps.start steps.ends.first) parts.0,
          );
    }
