-- A rank step for rules by their places in a set holds for the set once it names them by their numbers.
use Rattle.std.proofs.Common.{◌≡◌, ◌∙◌, ◌+◌, ◌<◌, ◌≤◌, ◌&&◌, cond, ℕ, zero, suc, ℤ, pos, Bool, true, false, List, [], ◌∷◌}
use Rattle.std.proofs.Common.{length, map, get_or, Option, Some, None, slice_get, nat_lt, refl, sym, ap, subst, arith}
use Rattle.std.specs.List.{All, AllZip, AllByRecursion}
use Rattle.std.proofs.lemmas.Bool.{false≢true, ltb-false, le-ltb}
use Rattle.std.proofs.lemmas.List.Elements.{All-from_recursion}
use Rattle.std.proofs.lemmas.Option.{none-some, same_Some, slice_get_within}
use Rattle.list_views.specs.Lists.{numbers_from}
use Rattle.list_views.proofs.Items.{get_within}
use Rattle.list_views.proofs.Quantified.{all_at, all_places}
use Rattle.lin_core.specs.declared.faults.LinFault.{LinFault}
use Rattle.lin_core.specs.Combination.{first_fault}
use Rattle.lin_core.specs.Rows.{Rise}
use Rattle.lin_core.specs.Weights.{AreWeights, rows_under}
use Rattle.descent.specs.declared.faults.DescentFault.{DescentFault}
use Rattle.descent.specs.declared.faults.DescentFault.TheVariants.{NotCovered, NotWeak, NotStrict, NotBounded}
use Rattle.descent.specs.declared.proof.CutForm.{CutForm}
use Rattle.descent.specs.declared.proof.RankRule.{RankRule}
use Rattle.descent.specs.declared.proof.RankRule.TheVariants.{Weak, Strict}
use Rattle.descent.specs.declared.proof.RankStep.{RankStep}
use Rattle.descent.specs.declared.rules.PathRule.{PathRule}
use Rattle.descent.specs.Conditions.{AreFew, AreForms, IsListed}
use Rattle.descent.specs.Orders.{Says}
use Rattle.descent.specs.Rankings.{Ranking, weak_fault, strict_fault, bounded_fault, need_fault, shows_target, weigh_of, fall_of, start_of}
use Rattle.descent.specs.Rankings.{takes_start, takes_end}
use Rattle.descent.specs.Splits.{edge_fault}
use Rattle.descent.specs.Steps.{rule_of, ranking_of, listed_fault, rank_fault, ranking_fault}
use Rattle.rank_forms.specs.RankSteps.{IsCutOf, IsRankStep, has_strict, FormsRise, HaveNoSizes, IsLinear}
use Rattle.chain_proofs.specs.Lean.{IsOwnCut}
use Rattle.chain_proofs.specs.Sets.{AreOwn}
use Rattle.chain_proofs.specs.inner.Sets.{IsRankOf, IsRenumbered, IsStepOver}
use Rattle.chain_proofs.proofs.Dividing.{own_at, as_long}

-- ---- faults that there are not

fault_parts : (b c : Bool) (x y : DescentFault) (rest : Option DescentFault) → cond b (Some x) (cond c (Some y) rest) ≡ None
    → (b ≡ false) × (c ≡ false) × (rest ≡ None)
fault_parts true c x y rest e = absurd (none-some x (sym e))
fault_parts false true x y rest e = absurd (none-some y (sym e))
fault_parts false false x y rest e = (refl, refl, e)

pub edge_none : (one other : Option DescentFault) → edge_fault one other ≡ None → (one ≡ None) × (other ≡ None)
edge_none None other e = (refl, e)
edge_none (Some fault) other e = absurd (none-some fault (sym e))

edge_both : (one other : Option DescentFault) → one ≡ None → other ≡ None → edge_fault one other ≡ None
edge_both one other e f = ap (λ (o : Option DescentFault). edge_fault o other) e ∙ f

equal : (a b : ℕ) → nat_lt a b ≡ false → nat_lt b a ≡ false → b ≡ a
equal a b e f = let low = ltb-false a b e in let high = ltb-false b a f in omega (arith, low, high)

pub one_listed : (weak strict bounded : Says) (rules : List PathRule) (n : ℕ) (rest : List ℕ) (one : RankRule) (listed : List RankRule)
    → rank_fault weak strict bounded rules (n ∷ rest) (one ∷ listed) ≡ None
    → (rule_of one ≡ n) × (listed_fault weak strict bounded one (slice_get rules n) ≡ None)
    × (rank_fault weak strict bounded rules rest listed ≡ None)
one_listed weak strict bounded rules n rest one listed e =
    let parts = fault_parts (nat_lt n (rule_of one)) (nat_lt (rule_of one) n) (NotCovered n) (NotCovered (rule_of one))
    (edge_fault (listed_fault weak strict bounded one (slice_get rules n)) (rank_fault weak strict bounded rules rest listed)) e in
    let both = edge_none (listed_fault weak strict bounded one (slice_get rules n)) (rank_fault weak strict bounded rules rest listed)
    parts.2 in
    (equal n (rule_of one) parts.0 parts.1, both.0, both.1)

-- the rules of the set are those that are listed
pub listed_are : (weak strict bounded : Says) (rules : List PathRule) (set : List ℕ) (listed : List RankRule)
    → rank_fault weak strict bounded rules set listed ≡ None → map rule_of listed ≡ set
listed_are weak strict bounded rules [] [] e = refl
listed_are weak strict bounded rules [] (one ∷ listed) e = absurd (none-some (NotCovered (rule_of one)) (sym e))
listed_are weak strict bounded rules (n ∷ rest) [] e = absurd (none-some (NotCovered n) (sym e))
listed_are weak strict bounded rules (n ∷ rest) (one ∷ listed) e =
    let parts = one_listed weak strict bounded rules n rest one listed e in
    ap (λ (k : ℕ). k ∷ map rule_of listed) parts.0
    ∙ ap (λ (ks : List ℕ). n ∷ ks) (listed_are weak strict bounded rules rest listed parts.2)

-- ---- places of a set

pub numbers_below : (end low count : ℕ) → low + count ≤ end → AllByRecursion (λ (n : ℕ). n < end) (numbers_from low count)
numbers_below end low zero l = tt
numbers_below end low (suc count) l = (omega (arith, l), numbers_below end (suc low) count (omega (arith, l)))

unmapped : (end : ℕ) (listed : List RankRule) → AllByRecursion (λ (n : ℕ). n < end) (map rule_of listed)
    → AllByRecursion (λ (one : RankRule). rule_of one < end) listed
unmapped end [] h = tt
unmapped end (one ∷ listed) h = (h.0, unmapped end listed h.1)

pub places_within : (rules : List PathRule) (set : List ℕ) (own : List PathRule) (step : RankStep) → AreOwn rules set own
    → IsRankStep own step → All (λ (one : RankRule). rule_of one < length set) step.rules
places_within rules set own step are is =
    let ranking = ranking_of step in
    let long = as_long rules set own are in
    All-from_recursion (λ (one : RankRule). rule_of one < length set) step.rules (unmapped (length set) step.rules
    (subst (AllByRecursion (λ (n : ℕ). n < length set))
    (sym (listed_are (weak_fault ranking) (strict_fault ranking) (bounded_fault ranking) own (numbers_from 0 (length own)) step.rules
    is.holds)) (numbers_below (length set) 0 (length own) (omega (arith, long)))))

-- ---- what is said of a rule doesn't depend on its number

abbrev IsSameFor : Says → Type 0
IsSameFor says = (n m : ℕ) (rule : PathRule) (xs : List (ℕ × ℤ)) → says n rule xs ≡ None → says m rule xs ≡ None

need_same : (shown : Bool) (lin : Option LinFault) (x y : DescentFault) → need_fault x shown lin ≡ None → need_fault y shown lin ≡ None
need_same shown (Some fault) x y e = absurd cc
need_same true None x y e = refl
need_same false None x y e = absurd (none-some x (sym e))

test_same : (test shown : Bool) (lin : Option LinFault) (x y : DescentFault) → cond test (need_fault x shown lin) (Some x) ≡ None
    → cond test (need_fault y shown lin) (Some y) ≡ None
test_same true shown lin x y e = need_same shown lin x y e
test_same false shown lin x y e = absurd (none-some x (sym e))

weak_same : (ranking : Ranking) → IsSameFor (weak_fault ranking)
weak_same ranking n m rule xs e = test_same (takes_start ranking rule && takes_end ranking rule)
    (shows_target rule.vars (rows_under (weigh_of ranking) rule.rows) (fall_of ranking (pos 0) rule) xs)
    (first_fault (rows_under (weigh_of ranking) rule.rows) xs) (NotWeak n) (NotWeak m) e

strict_same : (ranking : Ranking) → IsSameFor (strict_fault ranking)
strict_same ranking n m rule xs e = test_same (takes_start ranking rule && takes_end ranking rule)
    (shows_target rule.vars (rows_under (weigh_of ranking) rule.rows) (fall_of ranking (pos 1) rule) xs)
    (first_fault (rows_under (weigh_of ranking) rule.rows) xs) (NotStrict n) (NotStrict m) e

bounded_same : (ranking : Ranking) → IsSameFor (bounded_fault ranking)
bounded_same ranking n m rule xs e = test_same (takes_start ranking rule)
    (shows_target rule.vars (rows_under (weigh_of ranking) rule.rows) (start_of ranking rule) xs)
    (first_fault (rows_under (weigh_of ranking) rule.rows) xs) (NotBounded n) (NotBounded m) e

-- ---- the step by numbers

module _ (weak strict bounded : Says) (weak_so : IsSameFor weak) (strict_so : IsSameFor strict) (bounded_so : IsSameFor bounded)
    (rules : List PathRule) (set : List ℕ) (own : List PathRule) (are : AreOwn rules set own) where
  so_listed : (one over : RankRule) (found : Option PathRule) → IsRenumbered set one over
      → listed_fault weak strict bounded one found ≡ None → listed_fault weak strict bounded over found ≡ None
  so_listed (Weak place fall) over None z e = absurd (none-some (NotCovered place) (sym e))
  so_listed (Strict place fall bound) over None z e = absurd (none-some (NotCovered place) (sym e))
  so_listed (Weak place fall) (Weak n shown) (Some rule) z e = subst (λ (xs : List (ℕ × ℤ)). weak n rule xs ≡ None) (sym z.1)
      (weak_so place n rule fall e)
  so_listed (Weak place fall) (Strict n shown above) (Some rule) z e = absurd z
  so_listed (Strict place fall bound) (Weak n shown) (Some rule) z e = absurd z
  so_listed (Strict place fall bound) (Strict n shown above) (Some rule) z e =
      let both = edge_none (strict place rule fall) (bounded place rule bound) e in
      edge_both (strict n rule shown) (bounded n rule above)
      (subst (λ (xs : List (ℕ × ℤ)). strict n rule xs ≡ None) (sym z.1) (strict_so place n rule fall both.0))
      (subst (λ (xs : List (ℕ × ℤ)). bounded n rule xs ≡ None) (sym z.2) (bounded_so place n rule bound both.1))

  number_is : (one over : RankRule) → IsRenumbered set one over → slice_get set (rule_of one) ≡ Some (rule_of over)
  number_is (Weak place fall) (Weak n shown) z = z.0
  number_is (Weak place fall) (Strict n shown above) z = absurd z
  number_is (Strict place fall bound) (Weak n shown) z = absurd z
  number_is (Strict place fall bound) (Strict n shown above) z = z.0

  self_test : (n m : ℕ) → n ≡ m → (nat_lt m n ≡ false) × (nat_lt n m ≡ false)
  self_test n m e = (le-ltb m n (omega (arith, e)), le-ltb n m (omega (arith, e)))

  pub so_holds : (i : ℕ) (rest : List ℕ) (listed over : List RankRule)
      → ((k n : ℕ) → slice_get rest k ≡ Some n → slice_get set (i + k) ≡ Some n) → AllZip (IsRenumbered set) listed over
      → rank_fault weak strict bounded own (numbers_from i (length rest)) listed ≡ None
      → rank_fault weak strict bounded rules rest over ≡ None
  so_holds i [] [] [] at z e = refl
  so_holds i [] [] (o ∷ over) at z e = absurd z
  so_holds i [] (one ∷ listed) over at z e = absurd (none-some (NotCovered (rule_of one)) (sym e))
  so_holds i (n ∷ rest) [] over at z e = absurd (none-some (NotCovered i) (sym e))
  so_holds i (n ∷ rest) (one ∷ listed) [] at z e = absurd z
  so_holds i (n ∷ rest) (one ∷ listed) (o ∷ over) at z e =
      let parts = one_listed weak strict bounded own i (numbers_from (suc i) (length rest)) one listed e in
      let first : i + 0 ≡ i = omega arith in
      let here : slice_get set i ≡ Some n = subst (λ (k : ℕ). slice_get set k ≡ Some n) first (at 0 n refl) in
      let same : rule_of o ≡ n = same_Some (rule_of o) n
      (sym (number_is one o z.0) ∙ ap (slice_get set) parts.0 ∙ here) in
      let tests = self_test (rule_of o) n same in
      let own_fault : listed_fault weak strict bounded one (slice_get rules n) ≡ None =
      ap (λ (r : Option PathRule). listed_fault weak strict bounded one r) (sym (own_at rules set own i n are here)) ∙ parts.1 in
      let rest_fault = edge_fault (listed_fault weak strict bounded o (slice_get rules n))
      (rank_fault weak strict bounded rules rest over) in
      ap (λ (b : Bool). cond b (Some (NotCovered n)) (cond (nat_lt (rule_of o) n) (Some (NotCovered (rule_of o))) rest_fault)) tests.0
      ∙ ap (λ (b : Bool). cond b (Some (NotCovered (rule_of o))) rest_fault) tests.1
      ∙ edge_both (listed_fault weak strict bounded o (slice_get rules n)) (rank_fault weak strict bounded rules rest over)
      (so_listed one o (slice_get rules n) z.0 own_fault)
      (so_holds (suc i) rest listed over (λ k m f. let next : i + suc k ≡ suc i + k = omega arith in
      subst (λ (j : ℕ). slice_get set j ≡ Some m) next (at (suc k) m f)) z.1 parts.2)

abbrev ranking_by : List CutForm → List (ℕ × ℤ) → Bool → Ranking
ranking_by forms weights size = record { forms = forms; weights = cond size weights []; sizes = size }

same_ranking : (step over : RankStep) → over.forms ≡ step.forms → over.weights ≡ step.weights → over.size ≡ step.size
    → ranking_of over ≡ ranking_of step
same_ranking step over f w s = ap (λ (x : List CutForm). ranking_by x over.weights over.size) f
    ∙ ap (λ (x : List (ℕ × ℤ)). ranking_by step.forms x over.size) w
    ∙ ap (λ (x : Bool). ranking_by step.forms step.weights x) s

so_few : (set : List ℕ) (listed over : List RankRule) → AllZip (IsRenumbered set) listed over → AllByRecursion IsListed listed
    → AllByRecursion IsListed over
so_few set [] [] z h = tt
so_few set [] (o ∷ over) z h = absurd z
so_few set (one ∷ listed) [] z h = absurd z
so_few set (Weak place fall ∷ listed) (Weak n shown ∷ over) z h = (subst AreFew (sym z.0.1) h.0, so_few set listed over z.1 h.1)
so_few set (Weak place fall ∷ listed) (Strict n shown above ∷ over) z h = absurd z.0
so_few set (Strict place fall bound ∷ listed) (Weak n shown ∷ over) z h = absurd z.0
so_few set (Strict place fall bound ∷ listed) (Strict n shown above ∷ over) z h = (
  (subst AreFew (sym z.0.1) h.0.0, subst AreFew (sym z.0.2) h.0.1),
  so_few set listed over z.1 h.1,
)

so_strict : (set : List ℕ) (listed over : List RankRule) → AllZip (IsRenumbered set) listed over → has_strict listed ≡ true
    → has_strict over ≡ true
so_strict set [] over z h = absurd (false≢true h)
so_strict set (one ∷ listed) [] z h = absurd z
so_strict set (Weak place fall ∷ listed) (Weak n shown ∷ over) z h = so_strict set listed over z.1 h
so_strict set (Weak place fall ∷ listed) (Strict n shown above ∷ over) z h = refl
so_strict set (Strict place fall bound ∷ listed) (Weak n shown ∷ over) z h = absurd z.0
so_strict set (Strict place fall bound ∷ listed) (Strict n shown above ∷ over) z h = refl

listed_at : (listed : List RankRule) (k n : ℕ) → slice_get (map rule_of listed) k ≡ Some n → (one : RankRule)
    × (slice_get listed k ≡ Some one) × (rule_of one ≡ n)
listed_at [] k n e = absurd (none-some n e)
listed_at (one ∷ listed) zero n e = (one, refl, same_Some (rule_of one) n e)
listed_at (one ∷ listed) (suc k) n e = listed_at listed k n e

own_cut : (rules : List PathRule) (set : List ℕ) (own : List PathRule) (over : List RankRule) (cut : ℕ) → AreOwn rules set own
    → map rule_of over ≡ set → IsCutOf own cut → IsOwnCut rules over cut
own_cut rules set own over cut are same is =
    let k = is.n in
    let rule = is.rule in
    let at = is.is in
    let long = as_long rules set own are in
    let there = slice_get_within own k rule at in
    let number = get_within set k (omega (arith, long, there)) in
    let one = listed_at over k number.0 (ap (λ (ns : List ℕ). slice_get ns k) same ∙ number.1) in
    record {
      place = k;
      one = one.0;
      at = one.1;
      rule = rule;
      is = ap (slice_get rules) one.2 ∙ sym (own_at rules set own k number.0 are number.1) ∙ at;
      meets = is.ends;
    }

so_linear : (step over : RankStep) → over.forms ≡ step.forms → over.weights ≡ step.weights → over.size ≡ step.size → IsLinear step
    → IsLinear over
so_linear step over f w s linear e =
    let own = linear (sym s ∙ e) in
    (w ∙ own.0, subst HaveNoSizes (sym f) own.1)

pub ranks_over : (rules : List PathRule) (set : List ℕ) (own : List PathRule) (step over : RankStep) → AreOwn rules set own
    → IsRankStep own step → IsStepOver set step over → IsRankOf rules set over
ranks_over rules set own step over are is so =
    let ranking = ranking_of step in
    let long = as_long rules set own are in
    let first : rank_fault (weak_fault ranking) (strict_fault ranking) (bounded_fault ranking) own (numbers_from 0 (length set)) step.rules
    ≡ None = ap (λ (n : ℕ). ranking_fault ranking own (numbers_from 0 n) step.rules) long ∙ is.holds in
    let over_holds : ranking_fault ranking rules set over.rules ≡ None =
    so_holds (weak_fault ranking) (strict_fault ranking) (bounded_fault ranking) (weak_same ranking) (strict_same ranking)
    (bounded_same ranking) rules set own are 0 set step.rules over.rules (λ k n e. let same : 0 + k ≡ k = omega arith in
    subst (λ (j : ℕ). slice_get set j ≡ Some n) (sym same) e) so.listed first in
    let numbers = listed_are (weak_fault ranking) (strict_fault ranking) (bounded_fault ranking) rules set over.rules over_holds in
    record {
      limits = record {
        forms = subst AreForms (sym so.forms) is.limits.forms;
        weights = subst AreWeights (sym so.weights) is.limits.weights;
        rules = All-from_recursion IsListed over.rules (so_few set step.rules over.rules so.listed
            (all_places IsListed step.rules (λ k x e. all_at IsListed step.rules k x is.limits.rules e)));
      };
      ranks = ap (λ (r : Ranking). ranking_fault r rules set over.rules) (same_ranking step over so.forms so.weights so.size) ∙ over_holds;
      lean = record {
        strict = so_strict set step.rules over.rules so.listed is.strict;
        own = subst (All (λ (form : CutForm). IsOwnCut rules over.rules form.cut)) (sym so.forms)
            (λ k d w. own_cut rules set own over.rules (get_or step.forms k d).cut are numbers (is.own k d w));
        rise = subst (FormsRise 0) (sym so.forms) is.rise;
        classes = subst (Rise 4294967296) (sym so.weights) is.classes;
        linear = so_linear step over so.forms so.weights so.size is.linear;
      };
    }
