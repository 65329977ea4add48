-- The rules of a graph's paths are plain.
use Rattle.std.proofs.Common.{◌≡◌, ◌∙◌, inl, inr, ℕ, zero, suc, ◌≤◌, List, [], ◌∷◌, length, take, Some, refl, sym, ap}
use Rattle.std.proofs.Common.{subst, arith}
use Rattle.std.specs.Prelude.{All, slice_get}
use Rattle.std.specs.List.{AllByRecursion, AllZip}
use Rattle.std.proofs.lemmas.List.Elements.{All-from_recursion, recursion_from_All}
use Rattle.std.proofs.lemmas.Option.{none-some}
use Rattle.list_views.proofs.Quantified.{all_at}
use Rattle.list_views.proofs.Options.{one_answer}
use Rattle.jvm_values.proofs.Options.{some_is}
use Rattle.descent.specs.Conditions.{IsRule}
use Rattle.descent.specs.declared.rules.PathRule.{PathRule}
use Rattle.descent.specs.declared.rules.SlotForm.{SlotForm}
use Rattle.term_graph.specs.Graphs.{GraphNode}
use Rattle.path_rules.specs.Paths.{Path}
use Rattle.path_rules.specs.Stops.{Stop, LinkedGraph, AreSized, stop_at}
use Rattle.path_rules.specs.Rules.{slots_of, rows_along, last_along, IsRuleOf}
use Rattle.path_rules.specs.Conditions.{AreBounded}
use Rattle.path_rules.specs.Conditions.{IsReady}
use Rattle.path_rules.proofs.Limited.{rules_fit}
use Rattle.path_rules.proofs.Walking.{good_first, last_good}
use Rattle.path_rules.proofs.Ready.{stop_is, good_along}
use Rattle.rank_forms.specs.Graphs.{IsPathRule, IsEndAt, heads, IsCloseInt, IsShort, IsOneKind, IsPlainRule}
use Rattle.prove_core.specs.ShortLinks.{AreShortLinks}
use Rattle.prove_core.specs.PlainRules.{PathRulesArePlain, SomeRulesArePlain}
use Rattle.prove_core.proofs.RuleRows.{rows_short}
use Rattle.prove_core.proofs.Counted.{variables_long}
use Rattle.prove_core.proofs.Ends.{slots_named, same_heads, end_stop}
use Rattle.prove_core.proofs.Close.{slots_close}
use Rattle.prove_core.proofs.SizeKinds.{along_kind, kinds_along, kind_at, knows_first, path_knows, slots_sized}

-- ---- lists side by side

pub zip_all : {A B : Type 0} (R : A → B → Type 0) (P Q : B → Type 0) (xs : List A) (ys : List B) → AllZip R xs ys → AllByRecursion P ys
    → ((x : A) (y : B) → R x y → P y → Q y) → AllByRecursion Q ys
zip_all R P Q [] [] zip all h = tt
zip_all R P Q [] (y ∷ ys) zip all h = absurd zip
zip_all R P Q (x ∷ xs) [] zip all h = tt
zip_all R P Q (x ∷ xs) (y ∷ ys) zip all h = (h x y zip.0 all.0, zip_all R P Q xs ys zip.1 all.1 h)

zip_of : {A B : Type 0} (R : A → B → Type 0) (xs : List A) (ys : List B) (n : ℕ) (y : B) → AllZip R xs ys → slice_get ys n ≡ Some y
    → (x : A) × R x y
zip_of R xs [] n y zip e = absurd (none-some y e)
zip_of R [] (z ∷ ys) n y zip e = absurd zip
zip_of R (x ∷ xs) (z ∷ ys) zero y zip e = (x, subst (R x) (some_is e) zip.0)
zip_of R (x ∷ xs) (z ∷ ys) (suc n) y zip e = zip_of R xs ys n y zip.1 e

-- ---- one rule

module _ (linked : LinkedGraph) (cuts : List ℕ) (ready : IsReady linked.graph linked.links cuts) (sized : AreSized linked) where
  abbrev IsOf : Path → PathRule → Type 0
  IsOf = IsRuleOf linked cuts

  path_rule : (path : Path) (rule : PathRule) → IsOf path rule → length rule.rows ≤ 65536 → IsPathRule rule
  path_rule path rule is few =
      let good = good_along linked cuts path.from path.places is.start is.rides ready sized is.starts is.goes in
      let last = last_along 0 is.start is.rides in
      let long = variables_long 0 is.start is.rides in
      let short : length (rows_along 0 is.start is.rides) ≤ 65536 = subst (λ (r : PathRule). length r.rows ≤ 65536) is.is few in
      subst IsPathRule (sym is.is) (record {
        rows = short;
        variables = omega (arith, long, short);
        first = slots_named 0 is.start (good_first is.start is.rides good);
        last = slots_named last.0 last.1 (last_good 0 is.start is.rides good);
      })

  -- the slots of an end are those of the stop at its cut
  record IsEnd (cut : ℕ) (slots : List SlotForm) : Type 0 where
    first : ℕ
    stop : Stop
    there : stop_at linked cut ≡ Some stop
    are : slots_of first stop ≡ slots

  first_end : (path : Path) (rule : PathRule) → IsOf path rule → IsEnd rule.from rule.first
  first_end path rule is = subst (λ (r : PathRule). IsEnd r.from r.first) (sym is.is)
      (record { first = 0; stop = is.start; there = is.starts; are = refl })

  last_end : (path : Path) (rule : PathRule) → IsOf path rule → IsEnd rule.to rule.last
  last_end path rule is =
      let last = last_along 0 is.start is.rides in
      subst (λ (r : PathRule). IsEnd r.to r.last) (sym is.is)
      (record {
        first = last.0;
        stop = last.1;
        there = end_stop linked cuts 0 path.from path.places is.start is.rides is.to
            is.ends is.goes;
        are = refl;
      })

  end_at : (paths : List Path) (rules : List PathRule) (cut : ℕ) (slots : List SlotForm) → AllZip IsOf paths rules
      → IsEndAt rules cut slots → IsEnd cut slots
  end_at paths rules cut slots zip end =
      let of = zip_of IsOf paths rules end.0 end.1 zip end.2 in
      elim end.3 as (λ o. IsEnd cut slots) [
        | inl a ↦ subst (λ (c : ℕ). IsEnd c slots) a.0 (subst (IsEnd end.1.from) a.1 (first_end of.0 end.1 of.1))
        | inr b ↦ subst (λ (c : ℕ). IsEnd c slots) b.0 (subst (IsEnd end.1.to) b.1 (last_end of.0 end.1 of.1))
      ]

  same_ends : (cut : ℕ) (one other : List SlotForm) → IsEnd cut one → IsEnd cut other → heads one ≡ heads other
  same_ends cut one other a b =
      let same = one_answer (stop_at linked cut) a.stop b.stop a.there b.there in
      ap heads (sym a.are) ∙ (ap (λ (s : Stop). heads (slots_of a.first s)) same ∙ (same_heads a.first b.first b.stop ∙ ap heads b.are))

  module _ (bounded : All (λ (n : GraphNode). AreBounded n.state) linked.graph) (short : AreShortLinks linked.links) where
    plain_rule : (path : Path) (rule : PathRule) → IsOf path rule → IsPlainRule rule
    plain_rule path rule is =
        let good = good_along linked cuts path.from path.places is.start is.rides ready sized is.starts is.goes in
        let of = good_first is.start is.rides good in
        let rows = rows_along 0 is.start is.rides in
        let here = stop_is linked path.from is.start is.starts in
        let close : AreBounded is.start.state = subst AreBounded here.state_is
        (all_at (λ (n : GraphNode). AreBounded n.state) linked.graph path.from here.there bounded here.is) in
        let knows = path_knows is.start is.rides in
        subst IsPlainRule (sym is.is) (record {
          ints = All-from_recursion (IsCloseInt rows) (slots_of 0 is.start) (slots_close 0 is.start is.rides close of);
          short = All-from_recursion IsShort rows (rows_short linked 0 path.from path.places is.start is.rides short good is.goes);
          sizes = record {
            sizes = kind_at (kinds_along is.start is.rides);
            slots = slots_sized 0 is.start is.rides of (kind_at (kinds_along is.start is.rides))
                (knows_first (kind_at (kinds_along is.start is.rides)) 0 is.start is.rides knows);
            kinds = All-from_recursion (IsOneKind (kind_at (kinds_along is.start is.rides))) rows
                (along_kind (kind_at (kinds_along is.start is.rides)) 0 is.start is.rides good knows);
          };
        })

-- ---- all rules

pub path_rules_are_plain : PathRulesArePlain
path_rules_are_plain graph links cuts rules ready bounded short answer =
    let has = answer.1 in
    let linked : LinkedGraph = record { graph = graph; links = links; sizes = has.are.sizes } in
    let paths = take (length rules) has.paths in
    let rows = recursion_from_All (λ (rule : PathRule). length rule.rows ≤ 65536) rules has.rows.each in
    let whole = has.whole in
    let few = has.few in
    record {
      paths = record {
        limits = rules_fit graph links cuts rules ready bounded has;
        few = omega (arith, whole, few);
        each = All-from_recursion IsPathRule rules
            (zip_all (IsRuleOf linked cuts) (λ (rule : PathRule). length rule.rows ≤ 65536) IsPathRule paths rules has.are.are rows
            (λ path rule is l. path_rule linked cuts ready has.are.are_sizes path rule is l));
        ends = λ cut one other a b. same_ends linked cuts ready has.are.are_sizes cut one other
            (end_at linked cuts ready has.are.are_sizes paths rules cut one has.are.are a)
            (end_at linked cuts ready has.are.are_sizes paths rules cut other has.are.are b);
      };
      plain = All-from_recursion IsPlainRule rules
          (zip_all (IsRuleOf linked cuts) (λ (rule : PathRule). length rule.rows ≤ 65536) IsPlainRule paths rules has.are.are rows
          (λ path rule is l. plain_rule linked cuts ready has.are.are_sizes bounded short path rule is));
    }

-- ---- some rules

abbrev AreAmong : List PathRule → List PathRule → Type 0
AreAmong rules some = (n : ℕ) (rule : PathRule) → slice_get some n ≡ Some rule → (m : ℕ) × (slice_get rules m ≡ Some rule)

kept_all : (P : PathRule → Type 0) (rules some : List PathRule) → All P rules → AreAmong rules some → AllByRecursion P some
kept_all P rules [] all among = tt
kept_all P rules (rule ∷ some) all among =
    let at = among 0 rule refl in
    (all_at P rules at.0 rule all at.1, kept_all P rules some all (λ n r e. among (suc n) r e))

kept_end : (rules some : List PathRule) (cut : ℕ) (slots : List SlotForm) → AreAmong rules some → IsEndAt some cut slots
    → IsEndAt rules cut slots
kept_end rules some cut slots among end = let at = among end.0 end.1 end.2 in (at.0, end.1, at.1, end.3)

pub some_rules_are_plain : SomeRulesArePlain
some_rules_are_plain rules some plain fewer among =
    let few = plain.paths.few in
    record {
      paths = record {
        limits = All-from_recursion IsRule some (kept_all IsRule rules some plain.paths.limits among);
        few = omega (arith, few, fewer);
        each = All-from_recursion IsPathRule some (kept_all IsPathRule rules some plain.paths.each among);
        ends = λ cut one other a b. plain.paths.ends cut one other (kept_end rules some cut one among a)
            (kept_end rules some cut other among b);
      };
      plain = All-from_recursion IsPlainRule some (kept_all IsPlainRule rules some plain.plain among);
    }
