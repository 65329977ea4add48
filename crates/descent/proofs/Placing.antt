-- A split's rules beside their places; the least rule of lists that are joined.
use Rattle.std.proofs.Common.{◌≡◌, ℕ, ◌+◌, ◌<◌, ◌≤◌, Bool, true, false, cond, List, [], ◌∷◌, ◌++◌, length, get_or, drop, Option}
use Rattle.std.proofs.Common.{Some, None, ap, arith, refl, ◌∙◌, sym}
use Rattle.std.specs.Prelude.{◌&&◌, nat_lt, filter, find}
use Rattle.std.specs.List.{concat}
use Rattle.std.proofs.lemmas.Bool.Decides.{nat_tests}
use Rattle.std.proofs.lemmas.List.{at_drop_more, at_drop_all}
use Rattle.std.proofs.lemmas.List.Elements.{filter-append}
use Rattle.descent.specs.declared.rules.PathRule.{PathRule}
use Rattle.descent.specs.inner.Placed.{lesser, placed_of, lower_among, back_among, loop_among}
use Rattle.descent.specs.Splits.{place_in, is_followed, is_below, lower_one, back_fault, back_edge, loops_at, first_loop, least}
use Rattle.descent.specs.Splits.{least_of_two, uncovered, edge_fault, loop_fault, cover_fault, split_fault}
use Rattle.descent.specs.declared.faults.DescentFault.{DescentFault}

lower_is : (rules : List PathRule) (parts : List (List ℕ)) (rule : ℕ) (place : Option ℕ) (list : List ℕ)
    → lower_among rules rule place (placed_of parts list) ≡ find
    (λ (next : ℕ). is_followed rules rule next && is_below (place_in parts next) place) list
lower_is rules parts rule place [] = refl
lower_is rules parts rule place (x ∷ rest) = ap
    (λ (o : Option ℕ). cond (is_followed rules rule x && is_below (place_in parts x) place) (Some x) o)
    (lower_is rules parts rule place rest)

pub back_is : (rules : List PathRule) (parts : List (List ℕ)) (set list : List ℕ)
    → back_among rules (placed_of parts set) (placed_of parts list) ≡ back_edge rules set parts list
back_is rules parts set [] = refl
back_is rules parts set (x ∷ rest) = ap
    (λ (o : Option ℕ). back_fault x o (back_among rules (placed_of parts set) (placed_of parts rest)))
    (lower_is rules parts x (place_in parts x) set) ∙ ap (back_fault x (lower_one rules set parts x)) (back_is rules parts set rest)

pub loop_is : (rules : List PathRule) (parts : List (List ℕ)) (steps : List (Option ℕ)) (list : List ℕ)
    → loop_among rules parts steps (placed_of parts list) ≡ first_loop rules list parts steps
loop_is rules parts steps [] = refl
loop_is rules parts steps (x ∷ rest) = ap (λ (o : Option ℕ). cond (loops_at rules parts steps x (place_in parts x)) (Some x) o)
    (loop_is rules parts steps rest)

three : (a b c : Bool) (n m k : ℕ) → nat_lt m n ≡ a → nat_lt k m ≡ b → nat_lt k n ≡ c
    → cond (nat_lt k (cond a m n)) k (cond a m n) ≡ cond (nat_lt (cond b k m) n) (cond b k m) n
three true true c n m k e f g = grind (arith, nat_tests)
three true false c n m k e f g = grind (arith, nat_tests)
three false true true n m k e f g = grind (arith, nat_tests)
three false true false n m k e f g = grind (arith, nat_tests)
three false false true n m k e f g = grind (arith, nat_tests)
three false false false n m k e f g = grind (arith, nat_tests)

pub lesser_assoc : (a b c : Option ℕ) → lesser (lesser a b) c ≡ lesser a (lesser b c)
lesser_assoc None b c = refl
lesser_assoc (Some n) None c = refl
lesser_assoc (Some n) (Some m) None = refl
lesser_assoc (Some n) (Some m) (Some k) = ap Some (three (nat_lt m n) (nat_lt k m) (nat_lt k n) n m k refl refl refl)

least_both : (a b : List ℕ) → least (a ++ b) ≡ lesser (least a) (least b)
least_both [] b = refl
least_both (x ∷ rest) b = ap (λ (o : Option ℕ). Some (least_of_two x o)) (least_both rest b)
    ∙ sym (lesser_assoc (Some x) (least rest) (least b))

pub least_filter : (test : ℕ → Bool) (a b : List ℕ) → least (filter test (a ++ b)) ≡ lesser (least (filter test a)) (least (filter test b))
least_filter test a b = ap least (filter-append test a b) ∙ least_both (filter test a) (filter test b)

-- one more rule of a list
more_cases : (test : ℕ → Bool) (passes : Bool) (found now all : Option ℕ) (x : ℕ) (rest : List ℕ) → test x ≡ passes
    → lesser found (least (cond passes (x ∷ filter test rest) (filter test rest))) ≡ all
    → now ≡ cond passes (lesser found (Some x)) found → lesser now (least (filter test rest)) ≡ all
more_cases test true found now all x rest t e n = ap (λ (o : Option ℕ). lesser o (least (filter test rest))) n
    ∙ lesser_assoc found (Some x) (least (filter test rest)) ∙ e
more_cases test false found now all x rest t e n = ap (λ (o : Option ℕ). lesser o (least (filter test rest))) n ∙ e

pub least_more : (test : ℕ → Bool) (found now all : Option ℕ) (rules : List ℕ) (i : ℕ) → i < length rules
    → lesser found (least (filter test (drop i rules))) ≡ all
    → now ≡ cond (test (get_or rules i 0)) (lesser found (Some (get_or rules i 0))) found
    → lesser now (least (filter test (drop (i + 1) rules))) ≡ all
least_more test found now all rules i low e n =
    let split = at_drop_more (λ (xs : List ℕ). lesser found (least (filter test xs))) rules i 0 low in
    more_cases test (test (get_or rules i 0)) found now all (get_or rules i 0) (drop (i + 1) rules) refl (sym split ∙ e) n

-- the rules of one more part
pub part_more : (test : ℕ → Bool) (found now all : Option ℕ) (parts : List (List ℕ)) (part : List ℕ) (i : ℕ) → i < length parts
    → part ≡ get_or parts i part → lesser found (least (filter test (concat (drop i parts)))) ≡ all
    → now ≡ lesser found (least (filter test part)) → lesser now (least (filter test (concat (drop (i + 1) parts)))) ≡ all
part_more test found now all parts part i low is e n =
    let split = at_drop_more (λ (xs : List (List ℕ)). lesser found (least (filter test (concat xs)))) parts i part low in
    let here = ap (λ (x : List ℕ). lesser found (least (filter test (x ++ concat (drop (i + 1) parts))))) is in
    let both = least_filter test part (concat (drop (i + 1) parts)) in
    ap (λ (o : Option ℕ). lesser o (least (filter test (concat (drop (i + 1) parts))))) n
    ∙ lesser_assoc found (least (filter test part)) (least (filter test (concat (drop (i + 1) parts))))
    ∙ ap (lesser found) (sym both) ∙ here ∙ sym split ∙ e

-- a split without a misplaced rule
pub split_told : (rules : List PathRule) (set : List ℕ) (parts : List (List ℕ)) (steps : List (Option ℕ))
    (told : Option DescentFault) (all : List (ℕ × Option ℕ)) → None ≡ uncovered set parts → all ≡ placed_of parts set
    → told ≡ edge_fault (back_among rules all all) (loop_fault (loop_among rules parts steps all))
    → told ≡ split_fault rules set parts steps
split_told rules set parts steps told all none is e =
    let placed = placed_of parts set in
    let here : told ≡ edge_fault (back_among rules placed placed) (loop_fault (loop_among rules parts steps placed)) = e
    ∙ ap (λ (l : List (ℕ × Option ℕ)). edge_fault (back_among rules l l) (loop_fault (loop_among rules parts steps l))) is in
    here ∙ ap (λ (o : Option DescentFault). edge_fault o (loop_fault (loop_among rules parts steps placed)))
    (back_is rules parts set set) ∙ ap (λ (o : Option ℕ). edge_fault (back_edge rules set parts set) (loop_fault o))
    (loop_is rules parts steps set)
    ∙ ap (λ (o : Option ℕ). cover_fault o
    (edge_fault (back_edge rules set parts set) (loop_fault (first_loop rules set parts steps)))) none
