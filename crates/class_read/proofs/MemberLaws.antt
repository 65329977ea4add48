-- The readings of fields and methods are exact for their texts.
use Rattle.std.proofs.Common.{◌≡◌, ℕ, ◌^◌, ◌<◌, true, false, ◌||◌, Option, List, [], ◌∷◌, ◌++◌, length, map, refl, sym, ap, subst, ◌∙◌}
use Rattle.std.specs.List.{AllByRecursion, IsDistinct, list_any}
use Rattle.std.proofs.lemmas.Bool.{not-true, not_from_false, or_parts, or_from}
use Rattle.std.proofs.lemmas.List.{map-append}
use Rattle.std.proofs.lemmas.List.Folds.{list_any-append}
use Rattle.class_pool.specs.declared.entry.PoolEntry.{PoolEntry}
use Rattle.class_read.specs.declared.fault.ClassFault.TheVariants.{BadDescriptor, DuplicateMember}
use Rattle.class_read.specs.declared.text.AttrText.{AttrText}
use Rattle.class_read.specs.declared.text.MemberText.{MemberText}
use Rattle.class_base.specs.declared.member_kind.MemberKind.{MemberKind}
use Rattle.class_base.specs.declared.member_kind.MemberKind.TheVariants.{Field, Method}
use Rattle.class_read.specs.Content.{FieldContent, CodeContent, MethodContent}
use Rattle.class_base.specs.MemberKinds.{is_descriptor}
use Rattle.class_read.specs.Text.{u2, counted, member_text}
use Rattle.class_read.specs.Rules.{text_of, IsText, has_code, IsField, IsMethod, key_of, same_key, AreDistinct, field_of, method_of}
use Rattle.class_read.specs.FirstFault.{Key, is_new, head_at, field_at, method_at, field_keys, method_keys, more_fields_at}
use Rattle.class_read.specs.FirstFault.{more_methods_at, fields_at, methods_at}
use Rattle.class_read.proofs.Exact.{Exact, then_exact, made_exact, told_exact, passing_exact, u2_exact, FitAll, counted_exact, adds}
use Rattle.class_read.proofs.Exact.{collected_exact, added_all}
use Rattle.class_base.proofs.Keys.{same_swapped}
use Rattle.class_base.proofs.MethodLaws.{descriptor_found, descriptor_again}
use Rattle.class_read.proofs.AttributeLaws.{text_exact, others_exact, method_attributes_exact}

-- ---- a member up to its attributes

abbrev Head : Type 0
Head = ℕ × (ℕ × ℕ)

abbrev head_text : Head → List ℕ
head_text h = u2 h.0 ++ (u2 h.1.0 ++ u2 h.1.1)

abbrev IsHead : List PoolEntry → MemberKind → List Key → Head → Type 0
IsHead pool kind earlier h =
    (h.0 < 2 ^ 16) × (IsText pool h.1.0
    × ((IsText pool h.1.1 × (is_descriptor kind h.0 (text_of pool h.1.1) ≡ true))
    × (is_new earlier (text_of pool h.1.0, text_of pool h.1.1) ≡ true)))

abbrev head_view : List PoolEntry → Head → FieldContent
head_view pool h = record { flags = h.0; name = text_of pool h.1.0; desc = text_of pool h.1.1 }

head_exact : (total : ℕ) (pool : List PoolEntry) (kind : MemberKind) (earlier : List Key)
    → Exact (head_at total pool kind earlier) head_text (IsHead pool kind earlier) (head_view pool)
unfolding head_at
head_exact total pool kind earlier =
    then_exact (u2_exact total) (λ flags. then_exact (text_exact total pool) (λ name.
    made_exact {B = FieldContent} (λ (desc : List ℕ). record { flags = flags; name = name; desc = desc })
    (passing_exact (λ desc. is_new earlier (name, desc)) (λ _. DuplicateMember) total
    (passing_exact (is_descriptor kind flags) (λ _. BadDescriptor) total (text_exact total pool)))))

-- ---- one field, one method

abbrev pub NewField : List PoolEntry → List Key → MemberText → Type 0
NewField pool earlier m = IsField pool m × (is_new earlier (key_of pool m) ≡ true)

abbrev pub NewMethod : List PoolEntry → List Key → MemberText → Type 0
NewMethod pool earlier m = IsMethod pool m × (is_new earlier (key_of pool m) ≡ true)

abbrev Nested : Type 0
Nested = Head × List AttrText

abbrev nested : MemberText → Nested
nested m = ((m.flags, (m.name, m.desc)), m.attributes)

abbrev member : Nested → MemberText
member p = record { flags = p.0.0; name = p.0.1.0; desc = p.0.1.1; attributes = p.1 }

field_exact : (total : ℕ) (pool : List PoolEntry) (earlier : List Key)
    → Exact (field_at total pool earlier) member_text (NewField pool earlier) (field_of pool)
unfolding field_at
field_exact total pool earlier =
    told_exact (then_exact (head_exact total pool Field earlier)
    (λ field. made_exact {B = FieldContent} (λ (u : Unit {0}). field) (others_exact total pool)))
    nested member (λ p h. refl)
    (λ p h. (
      record {
        member = record {
          flags_fit = h.0.0;
          name = h.0.1.0;
          desc = h.0.1.1.0.0;
          descriptor = descriptor_found Field p.0.0
              (text_of pool p.0.1.1) h.0.1.1.0.1;
          attributes_fit = h.1.0;
        };
        attributes = h.1.1;
      },
      h.0.1.1.1,
    ))
    (λ m h. (
      (
        h.0.member.flags_fit,
        (
          h.0.member.name,
          (
            (h.0.member.desc, descriptor_again Field m.flags (text_of pool m.desc) h.0.member.descriptor),
            h.1,
          ),
        ),
      ),
      (h.0.member.attributes_fit, h.0.attributes),
    ))
    (λ m h. refl) (λ m h. refl)

method_exact : (total : ℕ) (pool : List PoolEntry) (earlier : List Key)
    → Exact (method_at total pool earlier) member_text (NewMethod pool earlier) (method_of pool)
unfolding method_at
method_exact total pool earlier =
    told_exact (then_exact (head_exact total pool Method earlier) (λ head. made_exact {B = MethodContent}
    (λ (code : Option CodeContent). record { flags = head.flags; name = head.name; desc = head.desc; code = code })
    (method_attributes_exact total pool (has_code head.flags))))
    nested member (λ p h. refl)
    (λ p h. (
      record {
        member = record {
          flags_fit = h.0.0;
          name = h.0.1.0;
          desc = h.0.1.1.0.0;
          descriptor = descriptor_found Method p.0.0
              (text_of pool p.0.1.1) h.0.1.1.0.1;
          attributes_fit = h.1.0;
        };
        attributes = h.1.1;
        codes = h.1.2;
      },
      h.0.1.1.1,
    ))
    (λ m h. (
      (
        h.0.member.flags_fit,
        (
          h.0.member.name,
          (
            (h.0.member.desc, descriptor_again Method m.flags (text_of pool m.desc) h.0.member.descriptor),
            h.1,
          ),
        ),
      ),
      (h.0.member.attributes_fit, h.0.attributes, h.0.codes),
    ))
    (λ m h. refl) (λ m h. refl)

-- ---- members after one another

-- a member whose key no earlier one has
abbrev Stands : {X : Type 0} → (X → Key) → (MemberText → Key) → (MemberText → Type 0) → List X → MemberText → Type 0
Stands key of Rule made m = Rule m × (is_new (map key made) (of m) ≡ true)

abbrev Fresh : List Key → Key → Type 0
Fresh earlier k = list_any (same_key k) earlier ≡ false

fresh_split : (earlier : List Key) (k : Key) (ks : List Key) → AllByRecursion (Fresh (earlier ++ k ∷ [])) ks
    → AllByRecursion (Fresh earlier) ks × AllByRecursion (λ j. same_key k j ≡ false) ks
fresh_split earlier k [] h = (tt, tt)
fresh_split earlier k (j ∷ ks) h =
    let p = or_parts (list_any (same_key j) earlier) (same_key j k || false) (sym (list_any-append (same_key j) earlier (k ∷ [])) ∙ h.0) in
    let q = or_parts (same_key j k) false p.1 in
    let r = fresh_split earlier k ks h.1 in
    ((p.0, r.0), (same_swapped k j ∙ q.0, r.1))

fresh_join : (earlier : List Key) (k : Key) (ks : List Key) → AllByRecursion (Fresh earlier) ks
    → AllByRecursion (λ j. same_key k j ≡ false) ks → AllByRecursion (Fresh (earlier ++ k ∷ [])) ks
fresh_join earlier k [] h g = tt
fresh_join earlier k (j ∷ ks) h g = (
  list_any-append (same_key j) earlier (k ∷ []) ∙ or_from (list_any (same_key j) earlier) (same_key j k || false) h.0
      (or_from (same_key j k) false (same_swapped j k ∙ g.0) refl),
  fresh_join earlier k ks h.1 g.1,
)

members_to : {X : Type 0} (item : MemberText → X) (key : X → Key) (of : MemberText → Key) (Rule : MemberText → Type 0)
    → ((m : MemberText) → key (item m) ≡ of m)
    → (made : List X) (ms : List MemberText) → FitAll (Stands key of Rule) (adds item) made ms
    → AllByRecursion Rule ms × AllByRecursion (Fresh (map key made)) (map of ms) × IsDistinct same_key (map of ms)
unfolding IsDistinct
members_to item key of Rule same made [] h = (tt, tt, tt)
members_to item key of Rule same made (m ∷ ms) h =
    let r = members_to item key of Rule same (adds item made m) ms h.1 in
    let more : map key (made ++ item m ∷ []) ≡ map key made ++ of m ∷ [] = map-append key made (item m ∷ [])
    ∙ ap (λ (k : Key). map key made ++ k ∷ []) (same m) in
    let s = fresh_split (map key made) (of m) (map of ms) (subst (λ (ks : List Key). AllByRecursion (Fresh ks) (map of ms)) more r.1) in
    let new : Fresh (map key made) (of m) = not-true (list_any (same_key (of m)) (map key made)) h.0.1 in
    ((h.0.0, r.0), (new, s.0), (s.1, r.2))

members_from : {X : Type 0} (item : MemberText → X) (key : X → Key) (of : MemberText → Key) (Rule : MemberText → Type 0)
    → ((m : MemberText) → key (item m) ≡ of m)
    → (made : List X) (ms : List MemberText) → AllByRecursion Rule ms → AllByRecursion (Fresh (map key made)) (map of ms)
    → IsDistinct same_key (map of ms)
    → FitAll (Stands key of Rule) (adds item) made ms
unfolding IsDistinct
members_from item key of Rule same made [] rules fresh distinct = tt
members_from item key of Rule same made (m ∷ ms) rules fresh distinct =
    let more : map key (made ++ item m ∷ []) ≡ map key made ++ of m ∷ [] = map-append key made (item m ∷ [])
    ∙ ap (λ (k : Key). map key made ++ k ∷ []) (same m) in
    let joined = fresh_join (map key made) (of m) (map of ms) fresh.1 distinct.0 in (
      (rules.0, not_from_false (list_any (same_key (of m)) (map key made)) fresh.0),
      members_from item key of Rule same (adds item made m) ms rules.1
          (subst (λ (ks : List Key). AllByRecursion (Fresh ks) (map of ms)) (sym more) joined) distinct.1,
    )

all_fresh : (ks : List Key) → AllByRecursion (Fresh []) ks
all_fresh [] = tt
all_fresh (k ∷ ks) = (refl, all_fresh ks)

abbrev pub AreFields : List PoolEntry → List MemberText → Type 0
AreFields pool ms = (length ms < 2 ^ 16) × AllByRecursion (IsField pool) ms × AreDistinct pool ms

abbrev pub AreMethods : List PoolEntry → List MemberText → Type 0
AreMethods pool ms = (length ms < 2 ^ 16) × AllByRecursion (IsMethod pool) ms × AreDistinct pool ms

abbrev field_key : FieldContent → Key
field_key f = (f.name, f.desc)

abbrev method_key : MethodContent → Key
method_key m = (m.name, m.desc)

more_fields_exact : (total : ℕ) (pool : List PoolEntry) (made : List FieldContent)
    → Exact (more_fields_at total pool made) member_text (Stands field_key (key_of pool) (IsField pool) made) (adds (field_of pool) made)
unfolding more_fields_at
more_fields_exact total pool made = collected_exact (field_exact total pool (field_keys made)) made

more_methods_exact : (total : ℕ) (pool : List PoolEntry) (made : List MethodContent)
    → Exact (more_methods_at total pool made) member_text (Stands method_key (key_of pool) (IsMethod pool) made)
    (adds (method_of pool) made)
unfolding more_methods_at
more_methods_exact total pool made = collected_exact (method_exact total pool (method_keys made)) made

pub fields_exact : (total : ℕ) (pool : List PoolEntry)
    → Exact (fields_at total pool) (counted member_text) (AreFields pool) (map (field_of pool))
unfolding fields_at
fields_exact total pool =
    told_exact (counted_exact total (more_fields_exact total pool) []) (λ ms. ms) (λ ms. ms) (λ ms h. refl)
    (λ ms h.
    let r = members_to (field_of pool) field_key (key_of pool) (IsField pool) (λ m. refl) [] ms h.1 in
    (h.0, r.0, r.2))
    (λ ms h. (
      h.0,
      members_from (field_of pool) field_key (key_of pool) (IsField pool) (λ m. refl) [] ms h.1
          (all_fresh (map (key_of pool) ms)) h.2,
    ))
    (λ ms h. refl)
    (λ ms h. added_all (field_of pool) [] ms)

pub methods_exact : (total : ℕ) (pool : List PoolEntry)
    → Exact (methods_at total pool) (counted member_text) (AreMethods pool) (map (method_of pool))
unfolding methods_at
methods_exact total pool =
    told_exact (counted_exact total (more_methods_exact total pool) []) (λ ms. ms) (λ ms. ms) (λ ms h. refl)
    (λ ms h.
    let r = members_to (method_of pool) method_key (key_of pool) (IsMethod pool) (λ m. refl) [] ms h.1 in
    (h.0, r.0, r.2))
    (λ ms h. (
      h.0,
      members_from (method_of pool) method_key (key_of pool) (IsMethod pool) (λ m. refl) [] ms h.1
          (all_fresh (map (key_of pool) ms)) h.2,
    ))
    (λ ms h. refl)
    (λ ms h. added_all (method_of pool) [] ms)
