-- The paths of a graph have one list of rules, or one thing is first in their way.
use Rattle.std.proofs.Common.{◌≡◌, ◌<◌, ◌≤◌, ◌∙◌, ℕ, zero, suc, Bool, cond, List, [], ◌∷◌, length, take, Option, Some, None, Ok}
use Rattle.std.proofs.Common.{Err, inl, inr, refl, sym, ap, subst, arith}
use Rattle.std.specs.List.{AllZip}
use Rattle.std.proofs.lemmas.Bool.{cases_eq, eq-eqb, ne_eqb}
use Rattle.std.proofs.lemmas.List.Elements.{All-take}
use Rattle.std.proofs.lemmas.List.Sums.{sum_by-take-le}
use Rattle.std.proofs.lemmas.Option.{none-some}
use Rattle.list_views.proofs.Items.{take_length}
use Rattle.list_views.proofs.Orders.{neither_below}
use Rattle.jvm_values.proofs.Options.{some_is}
use Rattle.abs_cells.specs.AbstractStates.{AbstractState}
use Rattle.abs_cells.specs.Patterns.{Pattern}
use Rattle.abs_cells.proofs.PatternLaws.{one_pattern}
use Rattle.descent.specs.declared.rules.PathRule.{PathRule}
use Rattle.term_graph.specs.declared.links.Link.{Link}
use Rattle.term_graph.specs.Graphs.{GraphNode}
use Rattle.cert_check.specs.PathRulesAnswers.{AreRulesOf, HaveFewRows, HasRules, IsFirstTooLong, Answers as HasRulesOr}
use Rattle.cert_check.specs.PathRulesPaths.{Path, IsLeastUncut}
use Rattle.cert_check.specs.PathRulesRules.{IsRuleOf, rule_over}
use Rattle.cert_check.specs.AbsReachKeys.{AreKeysRising}
use Rattle.cert_check.specs.PathRulesStops.{pattern_in, AreSizes, LinkedGraph}
use Rattle.cert_check.specs.PathRulesPathFault.{PathFault}
use Rattle.cert_check.specs.PathRulesPathFault.TheVariants.{Uncut, TooManyPaths, TooManyRows, Memory}
use Rattle.cert_verdict.proofs.Paths.{paths_one, few_or_many}

-- ---- lists of patterns

here : (c : ℕ × Pattern) (cs : List (ℕ × Pattern)) → pattern_in (c ∷ cs) c.0 ≡ Some c.1
here c cs = ap (λ (b : Bool). cond b (Some c.1) (pattern_in cs c.0)) (eq-eqb c.0 c.0 refl)

past : (c : ℕ × Pattern) (cs : List (ℕ × Pattern)) (id : ℕ) → (c.0 ≡ id → ⊥) → pattern_in (c ∷ cs) id ≡ pattern_in cs id
past c cs id other = ap (λ (b : Bool). cond b (Some c.1) (pattern_in cs id)) (ne_eqb c.0 id other)

none_low : (low id : ℕ) (cs : List (ℕ × Pattern)) → AreKeysRising low cs → id < low → pattern_in cs id ≡ None
none_low low id [] rise l = refl
none_low low id (c ∷ cs) rise l =
    let k = rise.0 in
    past c cs id (λ e. omega (arith, e, l, k)) ∙ none_low (suc c.0) id cs rise.1 (omega (arith, l, k))

not_lower : (x y : ℕ × Pattern) (xs ys : List (ℕ × Pattern)) (low : ℕ) → AreKeysRising low (y ∷ ys)
    → ((id : ℕ) → pattern_in (x ∷ xs) id ≡ pattern_in (y ∷ ys) id) → x.0 < y.0 → ⊥
not_lower x y xs ys low rise same l = none-some x.1 (sym (none_low y.0 x.0 (y ∷ ys) (omega arith, rise.1) l)
    ∙ (sym (same x.0) ∙ here x xs))

rising_one : (low : ℕ) (a b : List (ℕ × Pattern)) → AreKeysRising low a → AreKeysRising low b → ((id : ℕ) → pattern_in a id ≡ pattern_in b id) → a ≡ b
rising_one low [] [] r s same = refl
rising_one low [] (y ∷ ys) r s same = absurd (none-some y.1 (same y.0 ∙ here y ys))
rising_one low (x ∷ xs) [] r s same = absurd (none-some x.1 (sym (same x.0) ∙ here x xs))
rising_one low (x ∷ xs) (y ∷ ys) r s same =
    let e : x.0 ≡ y.0 = neither_below x.0 y.0 (not_lower x y xs ys low s same) (not_lower y x ys xs low r (λ id. sym (same id))) in
    let pattern : x.1 ≡ y.1 = some_is (sym (here x xs) ∙ (same x.0 ∙ (ap (pattern_in (y ∷ ys)) e ∙ here y ys))) in
    let first : x ≡ y = λ i. (e i, pattern i) in
    let rest = rising_one (suc x.0) xs ys r.1 (subst (λ (n : ℕ). AreKeysRising (suc n) ys) (sym e) s.1) (λ id. elim (cases_eq x.0 id) [
      | inl is ↦ none_low (suc x.0) id xs r.1 (omega (arith, is)) ∙ sym (none_low (suc y.0) id ys s.1 (omega (arith, is, e)))
      | inr other ↦ sym (past x xs id other) ∙ (same id ∙ past y ys id (λ f. other (e ∙ f)))
    ]) in
    λ i. first i ∷ rest i

module _ (state : AbstractState) (a b : List (ℕ × Pattern)) (g : AreSizes state a) (h : AreSizes state b) where
  same_at : (id : ℕ) (o q : Option Pattern) → pattern_in a id ≡ o → pattern_in b id ≡ q → o ≡ q
  same_at id None None e f = refl
  same_at id (Some p) None e f = let is = g.each id p e in absurd (h.all id is.0 is.1.0 f)
  same_at id None (Some q) e f = let is = h.each id q f in absurd (g.all id is.0 is.1.0 e)
  same_at id (Some p) (Some q) e f = ap Some (one_pattern state id p q (g.each id p e).1.1 (h.each id q f).1.1)

  sizes_one : a ≡ b
  sizes_one = rising_one 0 a b g.rise h.rise (λ id. same_at id (pattern_in a id) (pattern_in b id) refl refl)

all_sizes_one : (graph : List GraphNode) (a b : List (List (ℕ × Pattern)))
    → AllZip (λ (n : GraphNode) (s : List (ℕ × Pattern)). AreSizes n.state s) graph a
    → AllZip (λ (n : GraphNode) (s : List (ℕ × Pattern)). AreSizes n.state s) graph b → a ≡ b
all_sizes_one [] [] [] g h = refl
all_sizes_one [] [] (y ∷ b) g h = absurd h
all_sizes_one [] (x ∷ a) b g h = absurd g
all_sizes_one (n ∷ graph) [] b g h = absurd g
all_sizes_one (n ∷ graph) (x ∷ a) [] g h = absurd h
all_sizes_one (n ∷ graph) (x ∷ a) (y ∷ b) g h =
    let first = sizes_one n.state x y g.0 h.0 in
    let rest = all_sizes_one graph a b g.1 h.1 in
    λ i. first i ∷ rest i

-- ---- rules

rule_one : (linked : LinkedGraph) (cuts : List ℕ) (path : Path) (r s : PathRule) → IsRuleOf linked cuts path r
    → IsRuleOf linked cuts path s → r ≡ s
rule_one linked cuts path r s g h =
    let to : g.to ≡ h.to = some_is (sym g.ends ∙ h.ends) in
    let start : g.start ≡ h.start = some_is (sym g.starts ∙ h.starts) in
    let rides : g.rides ≡ h.rides = some_is (sym g.goes ∙ h.goes) in
    let over : rule_over path.from g.to g.start g.rides ≡ rule_over path.from h.to h.start h.rides = λ i. rule_over path.from (to i)
    (start i) (rides i) in
    g.is ∙ (over ∙ sym h.is)

-- the shorter of two lists of rules of the first paths is the front of the other
along : (linked : LinkedGraph) (cuts : List ℕ) (paths : List Path) (a b : List PathRule)
    → AllZip (IsRuleOf linked cuts) (take (length a) paths) a → AllZip (IsRuleOf linked cuts) (take (length b) paths) b
    → length a ≤ length b → a ≡ take (length a) b
along linked cuts paths [] b g h l = refl
along linked cuts paths (x ∷ a) [] g h l = absurd (omega (arith, l))
along linked cuts [] (x ∷ a) (y ∷ b) g h l = absurd g
along linked cuts (path ∷ paths) (x ∷ a) (y ∷ b) g h l =
    let first = rule_one linked cuts path x y g.0 h.0 in
    let rest = along linked cuts paths a b g.1 h.1 (omega (arith, l)) in
    λ i. first i ∷ rest i

no_more : (linked : LinkedGraph) (cuts : List ℕ) (paths : List Path) (rules : List PathRule)
    → AllZip (IsRuleOf linked cuts) (take (length rules) paths) rules → length rules ≤ length paths
no_more linked cuts paths [] g = omega arith
no_more linked cuts [] (x ∷ rules) g = absurd g
no_more linked cuts (path ∷ paths) (x ∷ rules) g = let l = no_more linked cuts paths rules g.1 in omega (arith, l)

take_less : (n m : ℕ) (rules : List PathRule) → n ≤ m → take n (take m rules) ≡ take n rules
take_less zero m rules l = refl
take_less (suc n) zero rules l = absurd (omega (arith, l))
take_less (suc n) (suc m) [] l = refl
take_less (suc n) (suc m) (x ∷ rules) l = ap (λ (rest : List PathRule). x ∷ rest) (take_less n m rules (omega (arith, l)))

few_first : (n : ℕ) (rules : List PathRule) → HaveFewRows rules → HaveFewRows (take n rules)
few_first n rules few =
    let less = sum_by-take-le (λ (rule : PathRule). length rule.rows) rules n in
    let fits = few.all in
    record {
      each = All-take (λ (rule : PathRule). length rule.rows ≤ 65536) n rules few.each;
      all = omega (arith, less, fits);
    }

module _ (graph : List GraphNode) (links : List (List Link)) (cuts : List ℕ) where
  front : (paths others : List Path) (a b : List PathRule) → paths ≡ others → AreRulesOf graph links cuts paths a
      → AreRulesOf graph links cuts others b → length a ≤ length b → a ≡ take (length a) b
  front paths others a b e g h l =
      let sizes = all_sizes_one graph g.sizes h.sizes g.are_sizes h.are_sizes in
      let first = subst (λ (ps : List Path). AllZip (IsRuleOf (record { graph = graph; links = links; sizes = g.sizes }) cuts)
      (take (length a) ps) a) e g.are in
      let are = subst (λ (s : List (List (ℕ × Pattern))). AllZip
      (IsRuleOf (record { graph = graph; links = links; sizes = s }) cuts) (take (length a) others) a) sizes first in
      along (record { graph = graph; links = links; sizes = h.sizes }) cuts others a b are h.are l

  rules_one : (a b : List PathRule) → HasRules graph links cuts a → HasRules graph links cuts b → a ≡ b
  rules_one a b g h =
      let paths = paths_one graph cuts g.paths h.paths g.all h.all in
      let same : length a ≡ length b = g.whole ∙ (ap (λ (ps : List Path). length ps) paths ∙ sym h.whole) in
      front g.paths h.paths a b paths g.are h.are (omega (arith, same)) ∙ (ap (λ (n : ℕ). take n b) same ∙ take_length b)

  long_later : (p q : ℕ) → IsFirstTooLong graph links cuts p → IsFirstTooLong graph links cuts q → p < q → ⊥
  long_later p q f g low =
      let paths = paths_one graph cuts f.paths g.paths f.all g.all in
      let n = f.last in
      let m = g.last in
      let is = front f.paths g.paths f.rules g.rules paths f.are g.are (omega (arith, n, m, low)) in
      let few = few_first (length f.rules) (take q g.rules) g.before in
      f.passed (subst HaveFewRows (take_less (length f.rules) q g.rules (omega (arith, n, low)) ∙ sym is) few)

  long_one : (p q : ℕ) → IsFirstTooLong graph links cuts p → IsFirstTooLong graph links cuts q → p ≡ q
  long_one p q f g = neither_below p q (long_later p q f g) (long_later q p g f)

  rules_or_long : (a : List PathRule) (p : ℕ) → HasRules graph links cuts a → IsFirstTooLong graph links cuts p → ⊥
  rules_or_long a p g f =
      let paths = paths_one graph cuts f.paths g.paths f.all g.all in
      let few = no_more (record { graph = graph; links = links; sizes = f.are.sizes }) cuts f.paths f.rules f.are.are in
      let count = ap (λ (ps : List Path). length ps) paths in
      let whole = g.whole in
      let is = front f.paths g.paths f.rules a paths f.are g.are (omega (arith, few, count, whole)) in
      f.passed (subst HaveFewRows (sym is) (few_first (length f.rules) a g.rows))

  -- ---- answers

  pub path_rules_one : (a b : List PathRule) → HasRulesOr graph links cuts (Ok a) → HasRulesOr graph links cuts (Ok b) → a ≡ b
  path_rules_one a b g h = rules_one a b g.1 h.1

  pub path_rules_or_fault : (a : List PathRule) (fault : PathFault) → (fault ≡ Memory → ⊥) → HasRulesOr graph links cuts (Ok a)
      → HasRulesOr graph links cuts (Err fault) → ⊥
  path_rules_or_fault a (Uncut node) known g f = g.0 node f.uncut
  path_rules_or_fault a TooManyPaths known g f = few_or_many graph cuts g.1.paths g.1.all g.1.few f.1
  path_rules_or_fault a (TooManyRows path) known g f = rules_or_long a path g.1 f.1
  path_rules_or_fault a Memory known g f = known refl

  uncut_one : (n m : ℕ) → IsLeastUncut graph cuts n → IsLeastUncut graph cuts m → n ≡ m
  uncut_one n m f g = neither_below n m (λ low. g.least n low f.uncut) (λ low. f.least m low g.uncut)

  pub path_fault_one : (f g : PathFault) → (f ≡ Memory → ⊥) → (g ≡ Memory → ⊥) → HasRulesOr graph links cuts (Err f)
      → HasRulesOr graph links cuts (Err g) → f ≡ g
  path_fault_one (Uncut n) (Uncut m) known other h k = ap Uncut (uncut_one n m h k)
  path_fault_one (Uncut n) TooManyPaths known other h k = absurd (k.0 n h.uncut)
  path_fault_one (Uncut n) (TooManyRows path) known other h k = absurd (k.0 n h.uncut)
  path_fault_one TooManyPaths (Uncut m) known other h k = absurd (h.0 m k.uncut)
  path_fault_one TooManyPaths TooManyPaths known other h k = refl
  path_fault_one TooManyPaths (TooManyRows path) known other h k = absurd (few_or_many graph cuts k.1.paths k.1.all k.1.few h.1)
  path_fault_one (TooManyRows path) (Uncut m) known other h k = absurd (h.0 m k.uncut)
  path_fault_one (TooManyRows path) TooManyPaths known other h k = absurd (few_or_many graph cuts h.1.paths h.1.all h.1.few k.1)
  path_fault_one (TooManyRows path) (TooManyRows next) known other h k = ap TooManyRows (long_one path next h.1 k.1)
  path_fault_one Memory g known other h k = absurd (known refl)
  path_fault_one f Memory known other h k = absurd (other refl)
