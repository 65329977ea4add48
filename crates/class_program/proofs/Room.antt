-- A list of methods of a world, each once, is no longer than the world has methods.
use Rattle.std.proofs.Common.{◌≡◌, ◌++◌, ◌||◌, ◌&&◌, ℕ, zero, suc, ◌+◌, ◌≤◌, Bool, true, false, not, cond, eqb, List, [], ◌∷◌}
use Rattle.std.proofs.Common.{length, Option, Some, None, sym, refl, ap, ◌∙◌, subst, arith, length-append}
use Rattle.std.specs.Prelude.{flat_map, slice_get, option_and_then}
use Rattle.std.specs.List.{list_all}
use Rattle.std.specs.Option.{option_map_or}
use Rattle.std.proofs.lemmas.Bool.{false≢true, eqb-true, eq-eqb, and_from, and_parts, or_left, or_right}
use Rattle.std.proofs.lemmas.List.Folds.{list_any-append, list_all-append}
use Rattle.class_world.specs.class_read.Content.{ClassContent, MethodContent}
use Rattle.class_world.specs.declared.world.MethodRef.{MethodRef}
use Rattle.class_world.specs.World.{World, is_abstract}
use Rattle.class_world.specs.Resolve.{method_at, has_body}
use Rattle.class_program.specs.Reached.{same_method, has_method, with_one, with_new, method_count}

pub same_is : (a b : MethodRef) → same_method a b ≡ true → a ≡ b
same_is a b e =
    let r = and_parts (eqb a.class b.class) (eqb a.index b.index) e in
    parts a.class b.class a.index b.index (eqb-true a.class b.class r.0) (eqb-true a.index b.index r.1)
  where
    parts : (c d i j : ℕ) → c ≡ d → i ≡ j → ◌≡◌ {A = MethodRef} (record { class = c; index = i }) (record { class = d; index = j })
    parts c d i j p q = cc

pub same_self : (a : MethodRef) → same_method a a ≡ true
same_self a = and_from (eqb a.class a.class) (eqb a.index a.index) (eq-eqb a.class a.class refl) (eq-eqb a.index a.index refl)

-- ---- counting

abbrev missing_in : List MethodRef → MethodRef → ℕ
missing_in refs x = cond (has_method refs x) 0 1

-- how many of the methods of a list do not stand in another
abbrev pub open_in : List MethodRef → List MethodRef → ℕ
open_in refs [] = 0
open_in refs (x ∷ xs) = missing_in refs x + open_in refs xs

has_more : (refs : List MethodRef) (r x : MethodRef) → has_method refs x ≡ true → has_method (refs ++ r ∷ []) x ≡ true
has_more refs r x e = list_any-append (same_method x) refs (r ∷ []) ∙ or_left _ _ e

missing_less : (refs : List MethodRef) (r x : MethodRef) → missing_in (refs ++ r ∷ []) x ≤ missing_in refs x
missing_less refs r x = by (has_method refs x) (has_method (refs ++ r ∷ []) x) (has_more refs r x)
  where
    by : (a b : Bool) → (a ≡ true → b ≡ true) → cond b 0 1 ≤ cond a 0 1
    by true b h = subst (λ c. cond c 0 1 ≤ 0) (sym (h refl)) (omega arith)
    by false true h = omega arith
    by false false h = omega arith

open_less : (refs : List MethodRef) (r : MethodRef) (xs : List MethodRef) → open_in (refs ++ r ∷ []) xs ≤ open_in refs xs
open_less refs r [] = omega arith
open_less refs r (x ∷ xs) = let a = missing_less refs r x in let b = open_less refs r xs in omega (arith, a, b)

-- a method that comes to the list is one less that is missing
missing_here : (refs : List MethodRef) (r x : MethodRef) → has_method refs r ≡ false → same_method r x ≡ true
    → missing_in (refs ++ r ∷ []) x + 1 ≤ missing_in refs x
missing_here refs r x o s =
    let here : r ≡ x = same_is r x s in
    let after : has_method (refs ++ r ∷ []) x ≡ true = list_any-append (same_method x) refs (r ∷ [])
    ∙ or_right (has_method refs x) _ (or_left (same_method x r) false (subst (λ y. same_method y r ≡ true) here (same_self r))) in
    let before : has_method refs x ≡ false = subst (λ y. has_method refs y ≡ false) here o in
    subst (λ b. cond (has_method (refs ++ r ∷ []) x) 0 1 + 1 ≤ cond b 0 1) (sym before)
    (subst (λ b. cond b 0 1 + 1 ≤ 1) (sym after) (omega arith))

pub open_one : (refs : List MethodRef) (r : MethodRef) (xs : List MethodRef) → has_method refs r ≡ false → has_method xs r ≡ true
    → open_in (refs ++ r ∷ []) xs + 1 ≤ open_in refs xs
open_one refs r [] o h = absurd (false≢true h)
open_one refs r (x ∷ xs) o h = by (same_method r x) refl h (λ k. open_one refs r xs o k)
  where
    by : (b : Bool) → same_method r x ≡ b → (b || has_method xs r) ≡ true
        → (has_method xs r ≡ true → open_in (refs ++ r ∷ []) xs + 1 ≤ open_in refs xs)
        → open_in (refs ++ r ∷ []) (x ∷ xs) + 1 ≤ open_in refs (x ∷ xs)
    by true s k more = let a = missing_here refs r x o s in let c = open_less refs r xs in omega (arith, a, c)
    by false s k more = let a = missing_less refs r x in let c = more k in omega (arith, a, c)

-- the list and what is missing of the others are together no more than before
pub room_one : (all refs : List MethodRef) (r : MethodRef) (n : ℕ) → has_method all r ≡ true → length refs + open_in refs all ≤ n
    → length (with_one refs r) + open_in (with_one refs r) all ≤ n
room_one all refs r n h l = by (has_method refs r) refl
  where
    by : (b : Bool) → has_method refs r ≡ b → length (cond b refs (refs ++ r ∷ [])) + open_in (cond b refs (refs ++ r ∷ [])) all ≤ n
    by true s = l
    by false s = let a = open_one refs r all s h in let k = length-append refs (r ∷ []) in omega (arith, a, k, l)

pub room_new : (all refs more : List MethodRef) (n : ℕ) → list_all (has_method all) more ≡ true → length refs + open_in refs all ≤ n
    → length (with_new refs more) + open_in (with_new refs more) all ≤ n
room_new all refs [] n h l = l
room_new all refs (r ∷ rs) n h l =
    let p = and_parts (has_method all r) (list_all (has_method all) rs) h in
    room_new all (with_one refs r) rs n p.1 (room_one all refs r n p.0 l)

pub all_new : (p : MethodRef → Bool) (refs more : List MethodRef) → list_all p refs ≡ true → list_all p more ≡ true
    → list_all p (with_new refs more) ≡ true
all_new p refs [] h k = h
all_new p refs (r ∷ rs) h k =
    let q = and_parts (p r) (list_all p rs) k in
    all_new p (with_one refs r) rs (by (has_method refs r) q.0) q.1
  where
    by : (b : Bool) → p r ≡ true → list_all p (cond b refs (refs ++ r ∷ [])) ≡ true
    by true s = h
    by false s = list_all-append p refs (r ∷ []) ∙ and_from (list_all p refs) (p r && true) h (and_from (p r) true s refl)

open_none : (xs : List MethodRef) → open_in [] xs ≡ length xs
open_none [] = refl
open_none (x ∷ xs) = let h = open_none xs in omega (arith, h)

pub room_start : (all : List MethodRef) (r : MethodRef) → has_method all r ≡ true → length (r ∷ []) + open_in (r ∷ []) all ≤ length all
room_start all r h = room_one all [] r (length all) h (subst (λ k. 0 + k ≤ length all) (sym (open_none all)) (omega arith))

-- ---- all methods of a world

-- the methods of a class, from a place on
abbrev methods_from : ℕ → ℕ → List MethodContent → List MethodRef
methods_from class i [] = []
methods_from class i (m ∷ ms) = record { class = class; index = i } ∷ methods_from class (suc i) ms

-- the methods of the classes, which are numbered from a number on
abbrev all_from : ℕ → List ClassContent → List MethodRef
all_from n [] = []
all_from n (c ∷ cs) = methods_from n 0 c.methods ++ all_from (suc n) cs

abbrev pub all_methods : World → List MethodRef
all_methods world = all_from 0 world

methods_from_length : (class i : ℕ) (ms : List MethodContent) → length (methods_from class i ms) ≡ length ms
methods_from_length class i [] = refl
methods_from_length class i (m ∷ ms) = ap suc (methods_from_length class (suc i) ms)

all_from_length : (n : ℕ) (cs : List ClassContent) → length (all_from n cs) ≡ length (flat_map (λ c. c.methods) cs)
all_from_length n [] = refl
all_from_length n (c ∷ cs) =
    let a = length-append (methods_from n 0 c.methods) (all_from (suc n) cs) in
    let b = methods_from_length n 0 c.methods in
    let d = all_from_length (suc n) cs in
    let g = length-append c.methods (flat_map (λ x. x.methods) cs) in
    omega (arith, a, b, d, g)

pub all_length : (world : World) → length (all_methods world) ≡ method_count world
all_length world = all_from_length 0 world

in_methods : (class i k : ℕ) (ms : List MethodContent) (m : MethodContent) → slice_get ms k ≡ Some m
    → has_method (methods_from class i ms) (record { class = class; index = i + k }) ≡ true
in_methods class i k [] m e = cc
in_methods class i zero (x ∷ xs) m e =
    let z : i + zero ≡ i = omega arith in
    or_left _ _ (and_from (eqb class class) (eqb (i + zero) i) (eq-eqb class class refl) (eq-eqb (i + zero) i z))
in_methods class i (suc k) (x ∷ xs) m e =
    let z : suc i + k ≡ i + suc k = omega arith in
    or_right _ _ (subst (λ j. has_method (methods_from class (suc i) xs) (record { class = class; index = j }) ≡ true) z
    (in_methods class (suc i) k xs m e))

in_all : (n k : ℕ) (cs : List ClassContent) (c : ClassContent) (j : ℕ) (m : MethodContent) → slice_get cs k ≡ Some c
    → slice_get c.methods j ≡ Some m → has_method (all_from n cs) (record { class = n + k; index = j }) ≡ true
in_all n k [] c j m e s = cc
in_all n zero (x ∷ xs) c j m e s =
    let same : c ≡ x = cc in
    let z : n ≡ n + zero = omega arith in
    let r : MethodRef = record { class = n + zero; index = j } in
    let first : 0 + j ≡ j = omega arith in
    let here = subst (λ i. has_method (methods_from n 0 x.methods) (record { class = n; index = i }) ≡ true) first
    (in_methods n 0 j x.methods m (subst (λ y. slice_get y.methods j ≡ Some m) same s)) in
    list_any-append (same_method r) (methods_from n 0 x.methods) (all_from (suc n) xs)
    ∙ or_left _ _ (subst (λ y. has_method (methods_from n 0 x.methods) (record { class = y; index = j }) ≡ true) z here)
in_all n (suc k) (x ∷ xs) c j m e s =
    let z : suc n + k ≡ n + suc k = omega arith in
    let r : MethodRef = record { class = n + suc k; index = j } in
    list_any-append (same_method r) (methods_from n 0 x.methods) (all_from (suc n) xs)
    ∙ or_right _ _ (subst (λ y. has_method (all_from (suc n) xs) (record { class = y; index = j }) ≡ true) z
    (in_all (suc n) k xs c j m e s))

-- a method that the world has is one of its methods
pub at_in_all : (world : World) (ref : MethodRef) (m : MethodContent) → method_at world ref ≡ Some m
    → has_method (all_methods world) ref ≡ true
unfolding method_at
at_in_all world ref m e = by (slice_get world ref.class) refl e
  where
    by : (o : Option ClassContent) → slice_get world ref.class ≡ o → option_and_then (λ c. slice_get c.methods ref.index) o ≡ Some m
        → has_method (all_methods world) ref ≡ true
    by None s h = cc
    by (Some c) s h =
        let z : 0 + ref.class ≡ ref.class = omega arith in
        subst (λ n. has_method (all_from 0 world) (record { class = n; index = ref.index }) ≡ true) z
        (in_all 0 ref.class world c ref.index m s h)

-- a method with a body is there
pub body_at : (world : World) (ref : MethodRef) → has_body world ref ≡ true → (m : MethodContent) × (method_at world ref ≡ Some m)
body_at world ref h = by (method_at world ref) refl h
  where
    by : (o : Option MethodContent) → method_at world ref ≡ o → not (option_map_or (λ m. is_abstract m.flags) o true) ≡ true
        → (m : MethodContent) × (method_at world ref ≡ Some m)
    by None s k = absurd (false≢true k)
    by (Some m) s k = (m, s)

pub bodies_in_all : (world : World) (refs : List MethodRef) → list_all (has_body world) refs ≡ true
    → list_all (has_method (all_methods world)) refs ≡ true
bodies_in_all world [] h = refl
bodies_in_all world (r ∷ rs) h =
    let p = and_parts (has_body world r) (list_all (has_body world) rs) h in
    let m = body_at world r p.0 in
    and_from (has_method (all_methods world) r) (list_all (has_method (all_methods world)) rs) (at_in_all world r m.0 m.1)
    (bodies_in_all world rs p.1)
