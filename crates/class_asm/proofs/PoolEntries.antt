-- The entries of a pool under their numbers. What an entry names is in the pool.
use Rattle.std.proofs.Common.{◌≡◌, ℕ, zero, suc, ◌+◌, ◌<◌, ◌≤◌, ◌^◌, Bool, true, false, cond, ◌&&◌, ◌||◌, List, [], ◌∷◌, ◌++◌}
use Rattle.std.proofs.Common.{length, map, get_or, min, Option, Some, None, is_some, refl, sym, ap, subst, ◌∙◌, append_assoc, arith}
use Rattle.std.specs.Prelude.{position}
use Rattle.std.specs.List.{flat_map, list_any, fold, position_from, AllByRecursion}
use Rattle.std.specs.Option.{option_map_or}
use Rattle.std.specs.Str.{bytes_eq}
use Rattle.std.proofs.Math.Seq.{get_or-append_seam}
use Rattle.std.proofs.lemmas.Bool.{eqb-true, eq-eqb, or_right, or_left}
use Rattle.std.proofs.lemmas.Bool.Decides.{Decides-int_eq, nat_tests}
use Rattle.std.proofs.lemmas.Iterator.Adapters.{position_from-zero}
use Rattle.std.proofs.lemmas.List.{get_or-append-add, map-append}
use Rattle.std.proofs.lemmas.List.Folds.{list_any-append}
use Rattle.std.proofs.lemmas.Slice.Eq.{bytes_eq-Decides}
use Rattle.list_views.proofs.Quantified.{all_joined, all_front, all_back}
use Rattle.list_views.proofs.SameBytes.{bytes_eq_true, bytes_eq_self}
use Rattle.class_pool.specs.declared.entry.PoolEntry.{PoolEntry}
use Rattle.class_pool.specs.Text.{slots_of, entry_at}
use Rattle.class_asm.specs.asm_pool.Entries.{Entry, Utf8, Integer, Float, Long, Double, Class, Str, Member, NameAndType, same, with_named}
use Rattle.class_asm.specs.asm_pool.Entries.{has_text, width}
use Rattle.class_asm.specs.asm_pool.Pools.{Need, needed, brought, with_first, numbers_from, Numbered, numbered, number_of, pool_entry, firsts_in}
use Rattle.asm_lines.proofs.Faultless.{both_true, first_of_both, second_of_both}
use Rattle.class_asm.proofs.PoolBounds.{room, slots}

-- ---- entries that say the same are one

pub same_is : (a b : Entry) → same a b ≡ true → a ≡ b
same_is (Utf8 a) (Utf8 b) h = ap (λ x. Utf8 x) (bytes_eq_true a b h)
same_is (Integer a) (Integer b) h = ap (λ x. Integer x) ((Decides-int_eq a b).0 h)
same_is (Float a) (Float b) h = ap (λ x. Float x) (eqb-true a b h)
same_is (Long a) (Long b) h = ap (λ x. Long x) (eqb-true a b h)
same_is (Double a) (Double b) h = ap (λ x. Double x) (eqb-true a b h)
same_is (Class a) (Class b) h = ap (λ x. Class x) (bytes_eq_true a b h)
same_is (Str a) (Str b) h = ap (λ x. Str x) (bytes_eq_true a b h)
same_is (Member t c n d) (Member u e m f) h =
    let tag = eqb-true t u (first_of_both _ (bytes_eq c e && (bytes_eq n m && bytes_eq d f)) h) in
    let more = second_of_both _ (bytes_eq c e && (bytes_eq n m && bytes_eq d f)) h in
    let class = bytes_eq_true c e (first_of_both (bytes_eq c e) (bytes_eq n m && bytes_eq d f) more) in
    let last = second_of_both (bytes_eq c e) (bytes_eq n m && bytes_eq d f) more in
    let name = bytes_eq_true n m (first_of_both (bytes_eq n m) (bytes_eq d f) last) in
    let desc = bytes_eq_true d f (second_of_both (bytes_eq n m) (bytes_eq d f) last) in
    ap (λ x. Member x c n d) tag ∙ ap (λ x. Member u x n d) class ∙ ap (λ x. Member u e x d) name ∙ ap (λ x. Member u e m x) desc
same_is (NameAndType a b) (NameAndType c d) h =
    ap (λ x. NameAndType x b) (bytes_eq_true a c (first_of_both (bytes_eq a c) (bytes_eq b d) h))
    ∙ ap (λ x. NameAndType c x) (bytes_eq_true b d (second_of_both (bytes_eq a c) (bytes_eq b d) h))
same_is _ _ h = absurd cc

pub same_itself : (e : Entry) → same e e ≡ true
same_itself (Utf8 a) = bytes_eq_self a
same_itself (Integer a) = (Decides-int_eq a a).1 refl
same_itself (Float a) = eq-eqb a a refl
same_itself (Long a) = eq-eqb a a refl
same_itself (Double a) = eq-eqb a a refl
same_itself (Class a) = bytes_eq_self a
same_itself (Str a) = bytes_eq_self a
same_itself (Member t c n d) =
    both_true _ (bytes_eq c c && (bytes_eq n n && bytes_eq d d)) (eq-eqb t t refl)
    (both_true (bytes_eq c c) (bytes_eq n n && bytes_eq d d) (bytes_eq_self c)
    (both_true (bytes_eq n n) (bytes_eq d d) (bytes_eq_self n) (bytes_eq_self d)))
same_itself (NameAndType a b) = both_true (bytes_eq a a) (bytes_eq b b) (bytes_eq_self a) (bytes_eq_self b)

-- ---- an entry under its number

abbrev pub IsIn : List Entry → Entry → Type 0
IsIn es e = list_any (same e) es ≡ true

-- how many places stand before the entry
abbrev offset : Entry → List Entry → ℕ
offset e [] = 0
offset e (x ∷ es) = cond (same e x) 0 (width x + offset e es)

widths : (e : Entry) → 1 ≤ width e
widths (Utf8 text) = omega arith
widths (Integer value) = omega arith
widths (Float bits) = omega arith
widths (Long bits) = omega arith
widths (Double bits) = omega arith
widths (Class name) = omega arith
widths (Str text) = omega arith
widths (Member tag class name desc) = omega arith
widths (NameAndType name desc) = omega arith

inside_by : (e x : Entry) (es : List Entry) (b : Bool) → (b || list_any (same e) es) ≡ true → (IsIn es e → offset e es < room es)
    → cond b 0 (width x + offset e es) < width x + room es
inside_by e x es true h more = omega (arith, widths x)
inside_by e x es false h more = omega (arith, more h)

inside : (es : List Entry) (e : Entry) → IsIn es e → offset e es < room es
inside [] e h = absurd cc
inside (x ∷ es) e h = inside_by e x es (same e x) h (inside es e)

least : (n : ℕ) → n < 2 ^ 16 → min n 65535 ≡ n
least n h = grind (arith, nat_tests)

abbrev NumberIs : List ℕ → ℕ → ℕ → List Entry → Entry → Type 0
NumberIs before i next es e = option_map_or (λ place. get_or (before ++ numbers_from next es) place 0)
    (position_from (same e) i es) 0 ≡ next + offset e es

number_by : (before : List ℕ) (i next : ℕ) (x : Entry) (es : List Entry) (e : Entry) (b : Bool) → length before ≡ i
    → (b || list_any (same e) es) ≡ true → next + (width x + room es) < 2 ^ 16
    → (IsIn es e → NumberIs (before ++ min next 65535 ∷ []) (i + 1) (next + width x) es e)
    → option_map_or (λ place. get_or (before ++ min next 65535 ∷ numbers_from (next + width x) es) place 0)
    (cond b (Some i) (position_from (same e) (i + 1) es)) 0 ≡ next + cond b 0 (width x + offset e es)
number_by before i next x es e true at h small more =
    let seam = get_or-append_seam before (min next 65535) (numbers_from (next + width x) es) 0 in
    let here = subst (λ (k : ℕ). get_or (before ++ min next 65535 ∷ numbers_from (next + width x) es) k 0 ≡ min next 65535) at seam in
    let w = widths x in
    here ∙ least next (omega (arith, small, w)) ∙ omega arith
number_by before i next x es e false at h small more =
    ap (λ (ns : List ℕ). option_map_or (λ place. get_or ns place 0) (position_from (same e) (i + 1) es) 0)
    (sym (append_assoc before (min next 65535 ∷ []) (numbers_from (next + width x) es)))
    ∙ more h ∙ omega arith

one_longer : (before : List ℕ) (n i : ℕ) → length before ≡ i → length (before ++ n ∷ []) ≡ i + 1
one_longer [] n i h = omega (arith, h)
one_longer (m ∷ before) n zero h = absurd cc
one_longer (m ∷ before) n (suc i) h = omega (arith, one_longer before n i cc)

number_from : (before : List ℕ) (i next : ℕ) (es : List Entry) (e : Entry) → length before ≡ i → IsIn es e → next + room es < 2 ^ 16
    → NumberIs before i next es e
number_from before i next [] e at h small = absurd cc
number_from before i next (x ∷ es) e at h small =
    number_by before i next x es e (same e x) at h small
    (λ k. number_from (before ++ min next 65535 ∷ []) (i + 1) (next + width x) es e (one_longer before (min next 65535) i at) k
    (omega (arith, small)))

pub number_is : (es : List Entry) (e : Entry) → IsIn es e → 1 + room es < 2 ^ 16 → number_of (numbered es) e ≡ 1 + offset e es
number_is es e h small =
    ap (λ (o : Option ℕ). option_map_or (λ place. get_or (numbers_from 1 es) place 0) o 0) (position_from-zero (same e) es)
    ∙ number_from [] 0 1 es e refl h small

pub number_small : (es : List Entry) (e : Entry) → IsIn es e → 1 + room es < 2 ^ 16 → number_of (numbered es) e < 2 ^ 16
number_small es e h small = let n = number_is es e h small in let i = inside es e h in omega (arith, n, i, small)

entry_by : (pool : Numbered) (e x : Entry) (es : List Entry) (b : Bool) → same e x ≡ b → (b || list_any (same e) es) ≡ true
    → (IsIn es e → get_or (flat_map slots_of (map (pool_entry pool) es)) (offset e es) None ≡ Some (pool_entry pool e))
    → get_or (slots_of (pool_entry pool x) ++ flat_map slots_of (map (pool_entry pool) es)) (cond b 0 (width x + offset e es)) None
    ≡ Some (pool_entry pool e)
entry_by pool e x es true k h more = ap (λ (y : Entry). Some (pool_entry pool y)) (sym (same_is e x k))
entry_by pool e x es false k h more =
    let rest = flat_map slots_of (map (pool_entry pool) es) in
    ap (λ (n : ℕ). get_or (slots_of (pool_entry pool x) ++ rest) (n + offset e es) None) (sym (slots pool x))
    ∙ get_or-append-add (slots_of (pool_entry pool x)) rest (offset e es) None ∙ more h

entry_from : (pool : Numbered) (es : List Entry) (e : Entry) → IsIn es e
    → get_or (flat_map slots_of (map (pool_entry pool) es)) (offset e es) None ≡ Some (pool_entry pool e)
entry_from pool [] e h = absurd cc
entry_from pool (x ∷ es) e h = entry_by pool e x es (same e x) refl h (entry_from pool es e)

abbrev pub in_file : List Entry → List PoolEntry
in_file es = map (pool_entry (numbered es)) es

behind_none : (slots : List (Option PoolEntry)) (n m : ℕ) → n ≡ 1 + m → get_or (None ∷ slots) n None ≡ get_or slots m None
behind_none slots zero m h = absurd (omega (arith, h))
behind_none slots (suc n) m h = ap (λ (k : ℕ). get_or slots k None) (omega (arith, h))

pub entry_is : (es : List Entry) (e : Entry) → IsIn es e → 1 + room es < 2 ^ 16
    → entry_at (in_file es) (number_of (numbered es) e) ≡ Some (pool_entry (numbered es) e)
entry_is es e h small =
    behind_none (flat_map slots_of (in_file es)) (number_of (numbered es) e) (offset e es) (number_is es e h small)
    ∙ entry_from (numbered es) es e h

-- ---- what is needed is in the pool

abbrev entries_of : List Need → List Entry
entries_of needs = map (λ need. need.0) needs

some_from : {A : Type 0} (p : A → Bool) (i : ℕ) (xs : List A) → is_some (position_from p i xs) ≡ list_any p xs
some_from p i [] = refl
some_from p i (x ∷ xs) = some_by (p x) (some_from p (i + 1) xs)
  where
    some_by : (b : Bool) → is_some (position_from p (i + 1) xs) ≡ list_any p xs
        → is_some (cond b (Some i) (position_from p (i + 1) xs)) ≡ (b || list_any p xs)
    some_by true h = refl
    some_by false h = h

some_position : {A : Type 0} (p : A → Bool) (xs : List A) → is_some (position p xs) ≡ list_any p xs
some_position p xs = ap is_some (position_from-zero p xs) ∙ some_from p 0 xs

in_longer : (found : List Need) (n : Need) (x : Entry)
    → list_any (same x) (entries_of (found ++ n ∷ [])) ≡ (list_any (same x) (entries_of found) || (same x n.0 || false))
in_longer found n x = ap (list_any (same x)) (map-append (λ (need : Need). need.0) found (n ∷ []))
    ∙ list_any-append (same x) (entries_of found) (n.0 ∷ [])

in_with : (found : List Need) (n : Need) (b : Bool) (x : Entry) → IsIn (entries_of found) x
    → IsIn (entries_of (cond b found (found ++ n ∷ []))) x
in_with found n true x h = h
in_with found n false x h = in_longer found n x ∙ or_left _ (same x n.0 || false) h

in_fold : (found needs : List Need) (x : Entry) → IsIn (entries_of found) x → IsIn (entries_of (fold with_first found needs)) x
in_fold found [] x h = h
in_fold found (n ∷ needs) x h = in_fold (with_first found n) needs x (in_with found n (is_some (position (λ m. same n.0 m.0) found)) x h)

any_mapped : (p : Entry → Bool) (needs : List Need) → list_any p (entries_of needs) ≡ list_any (λ m. p m.0) needs
any_mapped p [] = refl
any_mapped p (n ∷ needs) = ap (λ b. p n.0 || b) (any_mapped p needs)

new_in : (found : List Need) (n : Need) (b : Bool) → is_some (position (λ m. same n.0 m.0) found) ≡ b
    → IsIn (entries_of (cond b found (found ++ n ∷ []))) n.0
new_in found n true h = any_mapped (same n.0) found ∙ sym (some_position (λ (m : Need). same n.0 m.0) found) ∙ h
new_in found n false h = in_longer found n n.0 ∙ or_right (list_any (same n.0) (entries_of found)) (same n.0 n.0 || false)
    (or_left (same n.0 n.0) false (same_itself n.0))

all_in : (found needs : List Need) → AllByRecursion (λ n. IsIn (entries_of (fold with_first found needs)) n.0) needs
all_in found [] = tt
all_in found (n ∷ needs) = (
  in_fold (with_first found n) needs n.0 (new_in found n (is_some (position (λ m. same n.0 m.0) found)) refl),
  all_in
      (with_first found n) needs,
)

one_kept : (P : Need → Type 0) (found : List Need) (n : Need) (b : Bool) → AllByRecursion P found → P n
    → AllByRecursion P (cond b found (found ++ n ∷ []))
one_kept P found n true p q = p
one_kept P found n false p q = all_joined P found (n ∷ []) p (q, tt)

pub firsts_keep : (P : Need → Type 0) (found needs : List Need) → AllByRecursion P found → AllByRecursion P needs
    → AllByRecursion P (fold with_first found needs)
firsts_keep P found [] p q = p
firsts_keep P found (n ∷ needs) p q = firsts_keep P (with_first found n) needs
    (one_kept P found n (is_some (position (λ m. same n.0 m.0) found)) p q.0) q.1

abbrev pub entries_in : List Need → List Entry
entries_in needs = entries_of (firsts_in needs)

abbrev pub AllIn : List Entry → Entry → Type 0
AllIn es e = AllByRecursion (IsIn es) (with_named e)

pub of_needed : (P : Entry → Type 0) (line : ℕ) (es : List Entry) → AllByRecursion (λ n. P n.0) (needed line es) → AllByRecursion P es
of_needed P line [] h = tt
of_needed P line (e ∷ es) h = (h.0, of_needed P line es h.1)

pub to_needed : (P : Entry → Type 0) (line : ℕ) (es : List Entry) → AllByRecursion P es → AllByRecursion (λ n. P n.0) (needed line es)
to_needed P line [] h = tt
to_needed P line (e ∷ es) h = (h.0, to_needed P line es h.1)

brought_in : (es : List Entry) (n : Need) (b : Bool) → AllByRecursion (λ m. IsIn es m.0) (cond b (needed n.1 (with_named n.0)) [])
    → b ≡ true → AllIn es n.0
brought_in es n true h e = of_needed (IsIn es) n.1 (with_named n.0) h
brought_in es n false h e = absurd cc

each_in : (es : List Entry) (needs : List Need) → AllByRecursion (λ m. IsIn es m.0) (flat_map brought needs)
    → AllByRecursion (λ n. has_text n.0 ≡ true → AllIn es n.0) needs
each_in es [] h = tt
each_in es (n ∷ needs) h = (
  brought_in es n (has_text n.0) (all_front (λ m. IsIn es m.0) (brought n) (flat_map brought needs) h),
  each_in es needs
      (all_back (λ m. IsIn es m.0) (brought n) (flat_map brought needs) h),
)

pub needs_in : (needs : List Need) → AllByRecursion (λ n. has_text n.0 ≡ true → AllIn (entries_in needs) n.0) needs
needs_in needs = each_in (entries_in needs) needs (all_in [] (flat_map brought needs))
