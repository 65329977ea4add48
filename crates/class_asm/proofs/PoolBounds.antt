-- The entries of a faultless listing have texts, and a pool can count them.
use Rattle.std.proofs.Common.{◌≡◌, ℕ, ◌+◌, ◌<◌, ◌^◌, Bool, true, false, cond, List, [], ◌∷◌, ◌++◌, length, map, ◌&&◌, refl, sym, ap}
use Rattle.std.proofs.Common.{subst, ◌∙◌, arith}
use Rattle.std.proofs.lemmas.List.{length-append}
use Rattle.std.specs.Prelude.{position, nat_lt, nat_le, is_some}
use Rattle.std.specs.List.{flat_map, fold, AllByRecursion}
use Rattle.list_views.proofs.Quantified.{all_joined}
use Rattle.list_views.proofs.Orders.{nat_lt_true}
use Rattle.class_pool.specs.Text.{slots_of, places_of}
use Rattle.class_asm.specs.declared.asm_pool.entry.Entry.{Entry as Kept}
use Rattle.class_asm.specs.asm_pool.Entries.{Entry, Utf8, Integer, Float, Long, Double, Class, Str, Member, NameAndType, same, with_named}
use Rattle.class_asm.specs.asm_pool.Entries.{has_text, width, seen}
use Rattle.asm_lines.specs.Firsts.{unless}
use Rattle.class_asm.specs.asm_pool.Pools.{Need, needed, brought, with_first, count_faults, Numbered, pool_entry, firsts_in}
use Rattle.asm_lines.proofs.Faultless.{left, right, is_good, first_of_both, second_of_both, both_true}

-- ---- the count

abbrev pub room : List Entry → ℕ
room [] = 0
room (e ∷ es) = width e + room es

pub counted : (next : ℕ) (needs : List Need) → next < 2 ^ 16 → count_faults next needs ≡ [] → next + room (map (λ n. n.0) needs) < 2 ^ 16
counted next [] b h = omega (arith, b)
counted next (n ∷ needs) b h =
    let rest = count_faults (next + width n.0) needs in
    let own = nat_lt_true (next + width n.0) (2 ^ 16) (is_good _ n.1 (left (unless (nat_lt (next + width n.0) (2 ^ 16)) n.1) rest h)) in
    let more = counted (next + width n.0) needs own (right (unless (nat_lt (next + width n.0) (2 ^ 16)) n.1) rest h) in
    omega (arith, more)

pub slots : (pool : Numbered) (e : Entry) → length (slots_of (pool_entry pool e)) ≡ width e
slots pool (Utf8 text) = refl
slots pool (Integer value) = refl
slots pool (Float bits) = refl
slots pool (Long bits) = refl
slots pool (Double bits) = refl
slots pool (Class name) = refl
slots pool (Str text) = refl
slots pool (Member tag class name desc) = refl
slots pool (NameAndType name desc) = refl

all_slots : (pool : Numbered) (es : List Entry) → length (flat_map slots_of (map (pool_entry pool) es)) ≡ room es
all_slots pool [] = refl
all_slots pool (e ∷ es) =
    length-append (slots_of (pool_entry pool e)) (flat_map slots_of (map (pool_entry pool) es))
    ∙ ap (λ n. n + length (flat_map slots_of (map (pool_entry pool) es))) (slots pool e)
    ∙ ap (λ n. width e + n) (all_slots pool es)

pub places_counted : (pool : Numbered) (needs : List Need) → count_faults 1 needs ≡ []
    → length (places_of (map (pool_entry pool) (map (λ n. n.0) needs))) < 2 ^ 16
places_counted pool needs h = omega (arith, counted 1 needs (omega arith) h, all_slots pool (map (λ n. n.0) needs))

-- ---- the texts

abbrev pub HasTextOf : Need → Type 0
HasTextOf n = has_text n.0 ≡ true

three : (a b c : Bool) → a && (b && c) ≡ true → (a ≡ true) × (b ≡ true) × (c ≡ true)
three a b c h = (
  first_of_both a (b && c) h,
  first_of_both b c (second_of_both a (b && c) h),
  second_of_both b c
      (second_of_both a (b && c) h),
)

named : (e : Entry) (line : ℕ) → has_text e ≡ true → AllByRecursion HasTextOf (needed line (with_named e))
named (Utf8 text) line h = (h, tt)
named (Integer value) line h = (h, tt)
named (Float bits) line h = (h, tt)
named (Long bits) line h = (h, tt)
named (Double bits) line h = (h, tt)
named (Class name) line h = (h, (h, tt))
named (Str text) line h = (h, (h, tt))
named (Member tag class name desc) line h =
    let s = three (has_text (Utf8 class)) (has_text (Utf8 name)) (has_text (Utf8 desc))
    (second_of_both (nat_le 9 tag && nat_le tag 11) (has_text (Utf8 class) && (has_text (Utf8 name) && has_text (Utf8 desc))) h) in
    (s.0, (s.0, (s.1, (s.2, (both_true (has_text (Utf8 name)) (has_text (Utf8 desc)) s.1 s.2, (h, tt))))))
named (NameAndType name desc) line h = (
  first_of_both (has_text (Utf8 name)) (has_text (Utf8 desc)) h,
  (second_of_both (has_text (Utf8 name)) (has_text (Utf8 desc)) h, (h, tt)),
)

brought_text : (n : Need) (b : Bool) → has_text n.0 ≡ b → AllByRecursion HasTextOf (cond b (needed n.1 (with_named n.0)) [])
brought_text n true h = named n.0 n.1 h
brought_text n false h = tt

all_brought : (needs : List Need) → AllByRecursion HasTextOf (flat_map brought needs)
all_brought [] = tt
all_brought (n ∷ needs) = all_joined HasTextOf (brought n) (flat_map brought needs) (brought_text n (has_text n.0) refl)
    (all_brought needs)

one_more : (found : List Need) (n : Need) (b : Bool) → AllByRecursion HasTextOf found → HasTextOf n
    → AllByRecursion HasTextOf (cond b found (found ++ n ∷ []))
one_more found n true p q = p
one_more found n false p q = all_joined HasTextOf found (n ∷ []) p (q, tt)

kept : (found needs : List Need) → AllByRecursion HasTextOf found → AllByRecursion HasTextOf needs
    → AllByRecursion HasTextOf (fold with_first found needs)
kept found [] p q = p
kept found (n ∷ needs) p q = kept (with_first found n) needs (one_more found n (is_some (position (λ m. same n.0 m.0) found)) p q.0) q.1

pub all_have_text : (needs : List Need) → AllByRecursion HasTextOf (firsts_in needs)
all_have_text needs = kept [] (flat_map brought needs) tt (all_brought needs)

-- of the entries of a pool
pub kept_texts : (es : List (Kept × ℕ)) → AllByRecursion (λ e. has_text e ≡ true) (map (λ (e : Kept × ℕ). seen e.0) es)
    → AllByRecursion (λ (e : Kept × ℕ). has_text (seen e.0) ≡ true) es
kept_texts [] h = tt
kept_texts (e ∷ es) h = (h.0, kept_texts es h.1)

pub pool_texts : (needs : List Need) → AllByRecursion (λ e. has_text e ≡ true) (map (λ (n : Need). n.0) (firsts_in needs))
pool_texts needs = by (firsts_in needs) (all_have_text needs)
  where
    by : (ns : List Need) → AllByRecursion HasTextOf ns → AllByRecursion (λ e. has_text e ≡ true) (map (λ (n : Need). n.0) ns)
    by [] h = tt
    by (n ∷ ns) h = (h.0, by ns h.1)
