-- Each class that a row names weighs 1.
use Rattle.std.proofs.Common.{◌≡◌, inl, inr, ℕ, zero, suc, ◌+◌, ◌<◌, ◌≤◌, Bool, true, false, cond, eqb, List, [], ◌∷◌, ◌++◌, length}
use Rattle.std.proofs.Common.{get_or, drop, ℤ, pos, ◌+ℤ◌, ◌*ℤ◌, Option, Some, None, Result, Ok, Err, subst, ap, arith, refl, ◌∙◌}
use Rattle.std.proofs.Common.{sym, IsPermutation}
use Rattle.std.specs.Prelude.{slice_get, nat_lt, IfOk}
use Rattle.std.specs.List.{All}
use Rattle.std.specs.List.Sorted.{IsNonDecreasingBy}
use Rattle.std.proofs.lemmas.Bool.{cases_lt, eq-eqb, ltb-true}
use Rattle.std.proofs.lemmas.Bool.Decides.{nat_tests}
use Rattle.std.proofs.lemmas.Int.{ints}
use Rattle.std.proofs.lemmas.List.{at_drop_more}
use Rattle.std.proofs.lemmas.List.Sorted.{All-permutation, IsPermutation-sym}
use Rattle.std.proofs.lemmas.Option.{slice_get-get_or, same_Some, none-some}
use Rattle.list_views.proofs.Quantified.{all_at}
use Rattle.list_views.proofs.Orders.{nat_lt_false}
use Rattle.lin_core.specs.Rows.{Rise, RiseFrom, value_of_terms}
use Rattle.lin_core.specs.Weights.{AreWeights, weight_in}
use Rattle.lin_core.specs.declared.rows.WRow.{WRow}
use Rattle.descent.specs.declared.rules.PathRule.{PathRule}
use Rattle.rank_forms.specs.rule_links.SizeLinks.{weighed_once}
use Rattle.rank_forms.specs.Forms.{IsIn}
use Rattle.rank_forms.specs.Weighing.{AreOnes, all_classes, classes_of, row_classes}
use Rattle.rank_forms.specs.inner.Weighing.{next_low, one_at, ones_from}
use Rattle.rank_forms.proofs.SizeShifts.{IsWeighed}

-- ---- each class once

-- a list that rises below a number, and one more
pub rise_push : (first low class : ℕ) (weights : List (ℕ × ℤ)) → RiseFrom first low weights → first ≤ class → low ≤ class
    → RiseFrom first (suc class) (weights ++ (class, pos 1) ∷ [])
rise_push first low class [] h f l = (f, omega arith, tt)
rise_push first low class (weight ∷ rest) h f l =
    (h.0, (let b = h.1 in omega (arith, b, l)), rise_push (suc weight.0) low class rest h.2 (let b = h.1 in omega (arith, b, l)) l)

rise_cases : (test : Bool) (class low : ℕ) (old : List (ℕ × ℤ)) → nat_lt class low ≡ test → RiseFrom 0 low old
    → RiseFrom 0 (cond test low (suc class)) (old ++ cond test [] ((class, pos 1) ∷ []))
rise_cases true class low old t h = subst (RiseFrom 0 low) (sym (append_nil old)) h
  where
    append_nil : (l : List (ℕ × ℤ)) → l ++ [] ≡ l
    append_nil [] = refl
    append_nil (x ∷ rest) = ap (λ (l : List (ℕ × ℤ)). x ∷ l) (append_nil rest)
rise_cases false class low old t h = rise_push 0 low class old h (omega arith) (nat_lt_false class low t)

pub rise_more : (class low next : ℕ) (old new : List (ℕ × ℤ)) → next ≡ next_low class low → new ≡ old ++ one_at class low
    → RiseFrom 0 low old → RiseFrom 0 next new
rise_more class low next old new e f h = subst (λ (n : ℕ). RiseFrom 0 n new) (sym e)
    (subst (RiseFrom 0 (next_low class low)) (sym f) (rise_cases (nat_lt class low) class low old refl h))

both_append : (a b c : List (ℕ × ℤ)) → (a ++ b) ++ c ≡ a ++ (b ++ c)
both_append [] b c = refl
both_append (x ∷ rest) b c = ap (λ (l : List (ℕ × ℤ)). x ∷ l) (both_append rest b c)

pub ones_more : (classes : List ℕ) (n class default low next : ℕ) (old new whole : List (ℕ × ℤ)) → n < length classes
    → class ≡ get_or classes n default → next ≡ next_low class low → new ≡ old ++ one_at class low
    → old ++ ones_from low (drop n classes) ≡ whole → new ++ ones_from next (drop (n + 1) classes) ≡ whole
ones_more classes n class default low next old new whole less is e f h =
    let rest = ones_from (next_low class low) (drop (n + 1) classes) in
    let s : ones_from low (drop n classes) ≡ one_at class low ++ rest = at_drop_more (ones_from low) classes n default less
    ∙ ap (λ (c : ℕ). one_at c low ++ ones_from (next_low c low) (drop (n + 1) classes)) (sym is) in
    ap (λ (k : ℕ). new ++ ones_from k (drop (n + 1) classes)) e ∙ ap (λ (l : List (ℕ × ℤ)). l ++ rest) f
    ∙ both_append old (one_at class low) rest ∙ ap (λ (l : List (ℕ × ℤ)). old ++ l) (sym s) ∙ h

-- ---- in the order of classes each has the weight 1
abbrev IsOrdered : List ℕ → Type 0
IsOrdered [] = Unit {0}
IsOrdered (class ∷ rest) = All (λ (other : ℕ). class ≤ other) rest × IsOrdered rest

ordered_from : (classes : List ℕ) → IsNonDecreasingBy (λ (class : ℕ). class) classes → IsOrdered classes
ordered_from [] h = tt
ordered_from (class ∷ rest) h = (
  (λ i d low. h 0 (suc i) d (omega arith) (omega (arith, low))),
  ordered_from rest
      (λ i j d less low. h (suc i) (suc j) d (omega (arith, less)) (omega (arith, low))),
)

one_cases : (test here : Bool) (low class x : ℕ) (rest : List ℕ) → nat_lt class low ≡ test → eqb class x ≡ here → low ≤ x
    → (class < low → weight_in (ones_from low rest) x ≡ pos 1) → (here ≡ false → weight_in (ones_from (suc class) rest) x ≡ pos 1)
    → weight_in (cond test [] ((class, pos 1) ∷ []) ++ ones_from (cond test low (suc class)) rest) x ≡ pos 1
one_cases true here low class x rest t h l before after = before (ltb-true class low t)
one_cases false true low class x rest t h l before after = ap (λ (b : Bool). cond b (pos 1) (weight_in (ones_from (suc class) rest) x)) h
one_cases false false low class x rest t h l before after = ap
    (λ (b : Bool). cond b (pos 1) (weight_in (ones_from (suc class) rest) x)) h ∙ after refl

not_same : (a b : ℕ) → eqb a b ≡ false → a ≤ b → suc a ≤ b
not_same a b e h = elim (cases_lt a b) as (λ o. suc a ≤ b) [
  | inl less ↦ omega (arith, less)
  | inr past ↦ absurd (clash (eqb a b) e (eq-eqb a b (omega (arith, past, h))))
]
  where
    clash : (b : Bool) → b ≡ false → b ≡ true → ⊥
    clash true e f = absurd (cc)
    clash false e f = absurd (cc)

weight_one : (low : ℕ) (classes : List ℕ) (k x : ℕ) → IsOrdered classes → slice_get classes k ≡ Some x → low ≤ x
    → weight_in (ones_from low classes) x ≡ pos 1
weight_one low [] k x h is less = absurd (none-some x is)
weight_one low (class ∷ rest) zero x h is less =
    let same = same_Some class x is in
    one_cases (nat_lt class low) (eqb class x) low class x rest refl refl less (λ b. absurd (omega (arith, b, same, less)))
    (λ n. absurd (clash (eqb class x) n (eq-eqb class x same)))
  where
    clash : (b : Bool) → b ≡ false → b ≡ true → ⊥
    clash true e f = absurd (cc)
    clash false e f = absurd (cc)
weight_one low (class ∷ rest) (suc k) x h is less =
    let least = all_at (λ (other : ℕ). class ≤ other) rest k x h.0 is in
    one_cases (nat_lt class low) (eqb class x) low class x rest refl refl less (λ b. weight_one low rest k x h.1 is less)
    (λ n. weight_one (suc class) rest k x h.1 is (not_same class x n least))

all_one : (whole classes : List ℕ) → IsOrdered classes → whole ≡ classes
    → All (λ (class : ℕ). weight_in (ones_from 0 classes) class ≡ pos 1) classes
all_one whole classes h e i d low = weight_one 0 classes i (get_or classes i d) h (slice_get-get_or classes i d low) (omega arith)

-- ---- weights of 1
ones_limits_cases : (test : Bool) (low class : ℕ) (rest : List ℕ) → AreWeights (ones_from low rest)
    → AreWeights (ones_from (suc class) rest)
    → AreWeights (cond test [] ((class, pos 1) ∷ []) ++ ones_from (cond test low (suc class)) rest)
ones_limits_cases true low class rest h k i d less = h i d less
ones_limits_cases false low class rest h k zero d less = (omega (arith, ints), omega (arith, ints))
ones_limits_cases false low class rest h k (suc i) d less = k i d (omega (arith, less))

ones_limits : (low : ℕ) (classes : List ℕ) → AreWeights (ones_from low classes)
ones_limits low [] i d less = absurd (omega (arith, less))
ones_limits low (class ∷ rest) i d less = ones_limits_cases (nat_lt class low) low class rest (ones_limits low rest)
    (ones_limits (suc class) rest) i d less

-- ---- and of these classes alone
abbrev OneOf : (ℕ → Type 0) → ℕ × ℤ → Type 0
OneOf P weight = (weight.1 ≡ pos 1) × P weight.0

only_cases : (P : ℕ → Type 0) (test : Bool) (low class : ℕ) (rest : List ℕ) → P class → All (OneOf P) (ones_from low rest)
    → All (OneOf P) (ones_from (suc class) rest)
    → All (OneOf P) (cond test [] ((class, pos 1) ∷ []) ++ ones_from (cond test low (suc class)) rest)
only_cases P true low class rest p h k i d less = h i d less
only_cases P false low class rest p h k zero d less = (refl, p)
only_cases P false low class rest p h k (suc i) d less = k i d (omega (arith, less))

ones_only : (P : ℕ → Type 0) (low : ℕ) (classes : List ℕ) → All P classes → All (OneOf P) (ones_from low classes)
ones_only P low [] h i d less = absurd (omega (arith, less))
ones_only P low (class ∷ rest) h i d less =
    let more : All P rest = λ j e l. h (suc j) e (omega (arith, l)) in
    only_cases P (nat_lt class low) low class rest (h 0 class (omega arith)) (ones_only P low rest more)
    (ones_only P (suc class) rest more) i d less

all_in : (classes : List ℕ) → All (IsIn classes) classes
all_in classes i d low = (i, slice_get-get_or classes i d low)

pub are_ones : (rules : List PathRule) (classes sorted : List ℕ) (weights : List (ℕ × ℤ)) → classes ≡ all_classes rules
    → IsPermutation classes sorted → IsNonDecreasingBy (λ (class : ℕ). class) sorted → weights ≡ ones_from 0 sorted
    → Rise 4294967296 weights → AreOnes rules weights
are_ones rules classes sorted weights c moves order w rise = record {
  rise = rise;
  limits = subst AreWeights (sym w) (ones_limits 0 sorted);
  named = subst (λ (l : List (ℕ × ℤ)). All (λ (class : ℕ). weight_in l class ≡ pos 1) (all_classes rules)) (sym w)
      (subst (All (λ (class : ℕ). weight_in (ones_from 0 sorted) class ≡ pos 1)) c
      (All-permutation (λ (class : ℕ). weight_in (ones_from 0 sorted) class ≡ pos 1) sorted classes
      (IsPermutation-sym classes sorted moves) (all_one sorted sorted (ordered_from sorted order) refl)));
  only = subst (All (OneOf (IsIn (all_classes rules)))) (sym w)
      (ones_only (IsIn (all_classes rules)) 0 sorted
      (subst (λ (l : List ℕ). All (IsIn l) sorted) c (All-permutation (IsIn classes) classes sorted moves (all_in classes))));
}

-- ---- so a row weighs what its multiples add up to
abbrev Each : (ℕ → Type 0) → List ℕ → Type 0
Each P [] = Unit {0}
Each P (class ∷ rest) = P class × Each P rest

each_from : (P : ℕ → Type 0) (classes : List ℕ) → All P classes → Each P classes
each_from P [] h = tt
each_from P (class ∷ rest) h = (h 0 class (omega arith), each_from P rest (λ i d low. h (suc i) d (omega (arith, low))))

each_left : (P : ℕ → Type 0) (a b : List ℕ) → Each P (a ++ b) → Each P a
each_left P [] b h = tt
each_left P (class ∷ rest) b h = (h.0, each_left P rest b h.1)

each_right : (P : ℕ → Type 0) (a b : List ℕ) → Each P (a ++ b) → Each P b
each_right P [] b h = h
each_right P (class ∷ rest) b h = each_right P rest b h.1

weighed_row : (weigh : ℕ → ℤ) (weights : List (ℕ × ℤ)) → Each (λ class. weigh class ≡ pos 1) (classes_of weights)
    → value_of_terms weigh weights ≡ weighed_once weights
weighed_row weigh [] h = refl
weighed_row weigh (weight ∷ rest) h = ap (λ (z : ℤ). weight.1 *ℤ z +ℤ value_of_terms weigh rest) h.0
    ∙ once weight.1 (value_of_terms weigh rest) (weighed_once rest) (weighed_row weigh rest h.1)
  where
    once : (a b c : ℤ) → b ≡ c → a *ℤ pos 1 +ℤ b ≡ a +ℤ c
    once a b c e = omega (arith, ints, e)

rows_weighed : (weigh : ℕ → ℤ) (rows : List WRow) → Each (λ class. weigh class ≡ pos 1) (row_classes rows) → All (IsWeighed weigh) rows
rows_weighed weigh [] h i d low = absurd (omega (arith, low))
rows_weighed weigh (row ∷ rest) h zero d low = weighed_row weigh row.weights
    (each_left (λ class. weigh class ≡ pos 1) (classes_of row.weights) (row_classes rest) h)
rows_weighed weigh (row ∷ rest) h (suc i) d low = rows_weighed weigh rest
    (each_right (λ class. weigh class ≡ pos 1) (classes_of row.weights) (row_classes rest) h) i d (omega (arith, low))

rule_classes : (P : ℕ → Type 0) (rules : List PathRule) (n : ℕ) (rule : PathRule) → slice_get rules n ≡ Some rule
    → Each P (all_classes rules) → Each P (row_classes rule.rows)
rule_classes P [] n rule is h = absurd (none-some rule is)
rule_classes P (first ∷ rest) zero rule is h = subst (λ (r : PathRule). Each P (row_classes r.rows)) (same_Some first rule is)
    (each_left P (row_classes first.rows) (all_classes rest) h)
rule_classes P (first ∷ rest) (suc n) rule is h = rule_classes P rest n rule is
    (each_right P (row_classes first.rows) (all_classes rest) h)

pub rule_weighed : (rules : List PathRule) (weights : List (ℕ × ℤ)) (n : ℕ) (rule : PathRule) → AreOnes rules weights
    → slice_get rules n ≡ Some rule → All (IsWeighed (weight_in weights)) rule.rows
rule_weighed rules weights n rule ones is = rows_weighed (weight_in weights) rule.rows
    (rule_classes (λ class. weight_in weights class ≡ pos 1) rules n rule is
    (each_from (λ class. weight_in weights class ≡ pos 1) (all_classes rules) ones.named))

pub if_ok_both : (A E : Type 0) (r : Result A E) (P Q R : A → Type 0) → IfOk r P → IfOk r Q → ((x : A) → P x → Q x → R x) → IfOk r R
if_ok_both A E (Ok x) P Q R h k f = f x h k
if_ok_both A E (Err e) P Q R h k f = tt
