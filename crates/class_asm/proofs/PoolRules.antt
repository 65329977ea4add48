-- The pool of a listing without faults keeps the rules on pools.
use Rattle.std.proofs.Common.{◌≡◌, ℕ, ◌+◌, ◌<◌, ◌^◌, Bool, true, false, cond, ◌&&◌, List, [], ◌∷◌, ◌++◌, length, map, Option, Some}
use Rattle.std.proofs.Common.{None, refl, ap, ◌∙◌, arith}
use Rattle.std.specs.Prelude.{position, nat_le, FitsSigned}
use Rattle.std.specs.Int.{w32}
use Rattle.std.specs.List.{flat_map, position_from, AllByRecursion}
use Rattle.std.specs.Option.{option_map_or, option_and_then}
use Rattle.std.proofs.lemmas.Bool.{leb-true}
use Rattle.std.proofs.lemmas.Bool.Decides.{nat_tests}
use Rattle.std.proofs.lemmas.Iterator.Adapters.{position_from-zero}
use Rattle.list_views.proofs.Quantified.{all_joined}
use Rattle.list_views.proofs.Orders.{nat_lt_true}
use Rattle.class_pool.specs.declared.entry.PoolEntry.{PoolEntry}
use Rattle.class_pool.specs.Entry.{is_wide, is_barred, Fits}
use Rattle.class_pool.specs.Text.{slots_of, places_of, stands, names_badly, text_of, utf8_at, class_of, class_name_at, IsPool}
use Rattle.class_asm.specs.asm_pool.Entries.{Entry, Utf8, Integer, Float, Long, Double, Class, Str, Member, NameAndType, with_named, has_text}
use Rattle.class_asm.specs.asm_pool.Entries.{is_short}
use Rattle.asm_lines.specs.LinesAndWords.{is_plain_byte, is_plain}
use Rattle.class_asm.specs.asm_pool.Pools.{Need, needed, brought, count_faults, numbered, number_of, pool_entry, firsts_in}
use Rattle.asm_lines.proofs.Faultless.{first_of_both, second_of_both}
use Rattle.asm_lines.proofs.PlainWords.{IsPlain}
use Rattle.class_asm.proofs.PoolBounds.{room, counted, places_counted, all_have_text}
use Rattle.class_asm.proofs.PoolEntries.{IsIn, AllIn, in_file, entry_is, number_small, firsts_keep, entries_in, needs_in, to_needed}

-- ---- entries whose texts are plain and whose numbers fit

abbrev pub GoodEntry : Entry → Type 0
GoodEntry (Utf8 text) = IsPlain text
GoodEntry (Integer value) = FitsSigned w32 value
GoodEntry (Float bits) = bits < 2 ^ 32
GoodEntry (Long bits) = bits < 2 ^ 64
GoodEntry (Double bits) = bits < 2 ^ 64
GoodEntry (Class name) = IsPlain name
GoodEntry (Str text) = IsPlain text
GoodEntry (Member tag class name desc) = IsPlain class × IsPlain name × IsPlain desc
GoodEntry (NameAndType name desc) = IsPlain name × IsPlain desc

good_named : (e : Entry) → GoodEntry e → AllByRecursion GoodEntry (with_named e)
good_named (Utf8 text) h = (h, tt)
good_named (Integer value) h = (h, tt)
good_named (Float bits) h = (h, tt)
good_named (Long bits) h = (h, tt)
good_named (Double bits) h = (h, tt)
good_named (Class name) h = (h, (h, tt))
good_named (Str text) h = (h, (h, tt))
good_named (Member tag class name desc) h = (h.0, (h.0, (h.1, (h.2, ((h.1, h.2), (h, tt))))))
good_named (NameAndType name desc) h = (h.0, (h.1, (h, tt)))

brought_good : (n : Need) (b : Bool) → GoodEntry n.0 → AllByRecursion (λ m. GoodEntry m.0) (cond b (needed n.1 (with_named n.0)) [])
brought_good n true h = to_needed GoodEntry n.1 (with_named n.0) (good_named n.0 h)
brought_good n false h = tt

all_good : (needs : List Need) → AllByRecursion (λ m. GoodEntry m.0) needs → AllByRecursion (λ m. GoodEntry m.0) (flat_map brought needs)
all_good [] h = tt
all_good (n ∷ needs) h = all_joined (λ m. GoodEntry m.0) (brought n) (flat_map brought needs) (brought_good n (has_text n.0) h.0)
    (all_good needs h.1)

-- ---- what an entry names

abbrev named : Entry → List Entry
named (Class name) = Utf8 name ∷ []
named (Str text) = Utf8 text ∷ []
named (Member tag class name desc) = Class class ∷ NameAndType name desc ∷ []
named (NameAndType name desc) = Utf8 name ∷ Utf8 desc ∷ []
named e = []

abbrev IsClosed : List Entry → Entry → Type 0
IsClosed es e = AllByRecursion (IsIn es) (named e)

closed_named : (es : List Entry) (e : Entry) → AllIn es e → AllByRecursion (IsClosed es) (with_named e)
closed_named es (Utf8 text) h = (tt, tt)
closed_named es (Integer value) h = (tt, tt)
closed_named es (Float bits) h = (tt, tt)
closed_named es (Long bits) h = (tt, tt)
closed_named es (Double bits) h = (tt, tt)
closed_named es (Class name) h = (tt, ((h.0, tt), tt))
closed_named es (Str text) h = (tt, ((h.0, tt), tt))
closed_named es (Member tag class name desc) h =
    (tt, ((h.0, tt), (tt, (tt, ((h.1.1.0, (h.1.1.1.0, tt)), ((h.1.0, (h.1.1.1.1.0, tt)), tt))))))
closed_named es (NameAndType name desc) h = (tt, (tt, ((h.0, (h.1.0, tt)), tt)))

brought_closed : (es : List Entry) (n : Need) (b : Bool) → has_text n.0 ≡ b → (has_text n.0 ≡ true → AllIn es n.0)
    → AllByRecursion (λ m. IsClosed es m.0) (cond b (needed n.1 (with_named n.0)) [])
brought_closed es n true h k = to_needed (IsClosed es) n.1 (with_named n.0) (closed_named es n.0 (k h))
brought_closed es n false h k = tt

all_closed : (es : List Entry) (needs : List Need) → AllByRecursion (λ n. has_text n.0 ≡ true → AllIn es n.0) needs
    → AllByRecursion (λ m. IsClosed es m.0) (flat_map brought needs)
all_closed es [] h = tt
all_closed es (n ∷ needs) h = all_joined (λ m. IsClosed es m.0) (brought n) (flat_map brought needs)
    (brought_closed es n (has_text n.0) refl h.0) (all_closed es needs h.1)

-- ---- each entry fits

plain_allowed : (b : ℕ) → is_plain_byte b ≡ true → is_barred b ≡ false
plain_allowed b h = grind (arith, nat_tests)

none_from : {A : Type 0} (p : A → Bool) (i : ℕ) (xs : List A) → AllByRecursion (λ x. p x ≡ false) xs → position_from p i xs ≡ None
none_from p i [] h = refl
none_from p i (x ∷ xs) h = ap (λ b. cond b (Some i) (position_from p (i + 1) xs)) h.0 ∙ none_from p (i + 1) xs h.1

none_at : {A : Type 0} (p : A → Bool) (xs : List A) → AllByRecursion (λ x. p x ≡ false) xs → position p xs ≡ None
none_at p xs h = position_from-zero p xs ∙ none_from p 0 xs h

each_allowed : (text : List ℕ) → IsPlain text → AllByRecursion (λ b. is_barred b ≡ false) text
each_allowed [] h = tt
each_allowed (b ∷ text) h = (
  plain_allowed b (first_of_both (is_plain_byte b) (is_plain text) h),
  each_allowed text
      (second_of_both (is_plain_byte b) (is_plain text) h),
)

fits : (es : List Entry) (e : Entry) → 1 + room es < 2 ^ 16 → has_text e ≡ true → GoodEntry e → IsClosed es e
    → Fits (pool_entry (numbered es) e)
fits es (Utf8 text) small h g c = (nat_lt_true (length text) (2 ^ 16) h, none_at is_barred text (each_allowed text g))
fits es (Integer value) small h g c = (g, tt)
fits es (Float bits) small h g c = (g, tt)
fits es (Long bits) small h g c = (g, tt)
fits es (Double bits) small h g c = (g, tt)
fits es (Class name) small h g c = (number_small es (Utf8 name) c.0 small, tt)
fits es (Str text) small h g c = (number_small es (Utf8 text) c.0 small, tt)
fits es (Member tag class name desc) small h g c =
    let t = first_of_both (nat_le 9 tag && nat_le tag 11) (is_short class && (is_short name && is_short desc)) h in (
      (
        leb-true 9 tag (first_of_both (nat_le 9 tag) (nat_le tag 11) t),
        leb-true tag 11 (second_of_both (nat_le 9 tag) (nat_le tag 11) t),
        number_small es (Class class) c.0 small,
        number_small es (NameAndType name desc) c.1.0 small,
      ),
      tt,
    )
fits es (NameAndType name desc) small h g c = ((number_small es (Utf8 name) c.0 small, number_small es (Utf8 desc) c.1.0 small), tt)

-- ---- what an entry names stands

found : (es : List Entry) (e : Entry) (p : PoolEntry → Bool) → IsIn es e → 1 + room es < 2 ^ 16
    → p (pool_entry (numbered es) e) ≡ true → stands (in_file es) (number_of (numbered es) e, p) ≡ true
found es e p h small k = ap (λ (o : Option PoolEntry). option_map_or p o false) (entry_is es e h small) ∙ k

named_badly : (es : List Entry) (e : Entry) → 1 + room es < 2 ^ 16 → IsClosed es e
    → names_badly (in_file es) (Some (pool_entry (numbered es) e)) ≡ false
named_badly es (Utf8 text) small c = refl
named_badly es (Integer value) small c = refl
named_badly es (Float bits) small c = refl
named_badly es (Long bits) small c = refl
named_badly es (Double bits) small c = refl
named_badly es (Class name) small c = rw (found es (Utf8 name) _ c.0 small refl) refl
named_badly es (Str text) small c = rw (found es (Utf8 text) _ c.0 small refl) refl
named_badly es (Member tag class name desc) small c = rw
    (found es (Class class) _ c.0 small refl, found es (NameAndType name desc) _ c.1.0 small refl) refl
named_badly es (NameAndType name desc) small c = rw (found es (Utf8 name) _ c.0 small refl, found es (Utf8 desc) _ c.1.0 small refl) refl

abbrev Stands : List PoolEntry → Option PoolEntry → Type 0
Stands entries place = names_badly entries place ≡ false

slots_stand : (entries : List PoolEntry) (e : PoolEntry) (b : Bool) (rest : List (Option PoolEntry)) → Stands entries (Some e)
    → AllByRecursion (Stands entries) rest
    → AllByRecursion (Stands entries) ((Some e ∷ cond b (None ∷ []) []) ++ rest)
slots_stand entries e true rest h k = (h, (refl, k))
slots_stand entries e false rest h k = (h, k)

all_stand : (es xs : List Entry) → 1 + room es < 2 ^ 16 → AllByRecursion (IsClosed es) xs
    → AllByRecursion (Stands (in_file es)) (flat_map slots_of (map (pool_entry (numbered es)) xs))
all_stand es [] small h = tt
all_stand es (x ∷ xs) small h =
    let e = pool_entry (numbered es) x in
    slots_stand (in_file es) e (is_wide e) (flat_map slots_of (map (pool_entry (numbered es)) xs)) (named_badly es x small h.0)
    (all_stand es xs small h.1)

-- ---- the pool

of_needs : (P : Entry → Type 0) (needs : List Need) → AllByRecursion (λ n. P n.0) needs → AllByRecursion P (map (λ n. n.0) needs)
of_needs P [] h = tt
of_needs P (n ∷ needs) h = (h.0, of_needs P needs h.1)

all_fit : (es xs : List Entry) → 1 + room es < 2 ^ 16 → AllByRecursion (λ e. has_text e ≡ true) xs → AllByRecursion GoodEntry xs
    → AllByRecursion (IsClosed es) xs
    → AllByRecursion Fits (map (pool_entry (numbered es)) xs)
all_fit es [] small h g c = tt
all_fit es (x ∷ xs) small h g c = (fits es x small h.0 g.0 c.0, all_fit es xs small h.1 g.1 c.1)

pub pool_room : (needs : List Need) → count_faults 1 (firsts_in needs) ≡ [] → 1 + room (entries_in needs) < 2 ^ 16
pool_room needs h = counted 1 (firsts_in needs) (omega arith) h

pub pool_rules : (needs : List Need) → AllByRecursion (λ m. GoodEntry m.0) needs → count_faults 1 (firsts_in needs) ≡ []
    → IsPool (in_file (entries_in needs))
pool_rules needs good h =
    let es = entries_in needs in
    let small = pool_room needs h in
    let closed = of_needs (IsClosed es) (firsts_in needs)
    (firsts_keep (λ m. IsClosed es m.0) [] (flat_map brought needs) tt (all_closed es needs (needs_in needs))) in
    let goods = of_needs GoodEntry (firsts_in needs)
    (firsts_keep (λ m. GoodEntry m.0) [] (flat_map brought needs) tt (all_good needs good)) in
    record {
      fit = all_fit es es small (of_needs (λ e. has_text e ≡ true) (firsts_in needs) (all_have_text needs)) goods closed;
      count = places_counted (numbered es) (firsts_in needs) h;
      names = none_at (names_badly (in_file es)) (places_of (in_file es)) (refl, all_stand es es small closed);
    }

-- ---- texts and classes

pub text_there : (es : List Entry) (text : List ℕ) → IsIn es (Utf8 text) → 1 + room es < 2 ^ 16
    → utf8_at (in_file es) (number_of (numbered es) (Utf8 text)) ≡ Some text
text_there es text h small = ap (option_and_then text_of) (entry_is es (Utf8 text) h small)

pub class_there : (es : List Entry) (name : List ℕ) → AllIn es (Class name) → 1 + room es < 2 ^ 16
    → class_name_at (in_file es) (number_of (numbered es) (Class name)) ≡ Some name
class_there es name h small = ap (option_and_then (class_of (in_file es))) (entry_is es (Class name) h.1.0 small)
    ∙ text_there es name h.0 small
