-- What the tests of a text's rules answer, as the rules themselves.
use Rattle.std.proofs.Common.{◌≡◌, ℕ, suc, ◌+◌, ◌*◌, ◌<◌, ◌^◌, Bool, true, false, cond, List, [], ◌∷◌, ◌++◌, length, get_or, take}
use Rattle.std.proofs.Common.{drop, map, Result, Ok, Err, refl, sym, ap, ap₂, subst, ◌∙◌, arith}
use Rattle.std.specs.Prelude.{IfOk}
use Rattle.std.specs.List.{flat_map, list_any, AllByRecursion, IsDistinct}
use Rattle.std.proofs.lemmas.Bool.{or_parts, or_from, false≢true}
use Rattle.std.proofs.lemmas.List.{append-nil, length-append, map-append, take_more, take-append-drop}
use Rattle.std.proofs.Math.Seq.{drop-cons}
use Rattle.class_pool.specs.declared.entry.PoolEntry.{PoolEntry}
use Rattle.class_pool.specs.Text.{HasTexts, IsPool, pool_bytes, Unread, unread, Spells}
use Rattle.class_pool.proofs.PoolLaws.{same_pool}
use Rattle.class_read.specs.declared.text.MemberText.{MemberText}
use Rattle.class_read.specs.declared.text.ClassText.{ClassText}
use Rattle.class_read.specs.Content.{Handler}
use Rattle.class_read.specs.Text.{counted, attribute_text, handler_text, code_text}
use Rattle.class_read.specs.Rules.{text_of, IsClass, IsOtherAttribute, IsField, IsMethod, key_of, same_key, AreDistinct, WellFormed}
use Rattle.class_read.specs.FirstFault.{Key}
use Rattle.class_base.proofs.Keys.{same_swapped}

-- ---- the length of a Code's content

pub handlers_length : (table : List Handler) → length (flat_map handler_text table) ≡ 8 * length table
handlers_length [] = refl
handlers_length (h ∷ table) = omega (arith, handlers_length table)

pub content_length : (max_stack max_locals : ℕ) (code : List ℕ) (table : List Handler) (attributes : List (ℕ × List ℕ))
    → length (code_text max_stack max_locals code table attributes) ≡ 12 + length code + 8 * length table + length
    (flat_map attribute_text attributes)
content_length max_stack max_locals code table attributes =
    omega (
      arith,
      length-append code (counted handler_text table ++ counted attribute_text attributes),
      length-append (flat_map handler_text table) (counted attribute_text attributes),
      handlers_length table,
    )

-- ---- members with distinct names and descriptors

all_more : (P : Key → Type 0) (ks : List Key) (k : Key) → AllByRecursion P ks → P k → AllByRecursion P (ks ++ k ∷ [])
all_more P [] k all last = (last, tt)
all_more P (j ∷ ks) k all last = (all.0, all_more P ks k all.1 last)

all_within : (P : Key → Type 0) (ks : List Key) (k : Key) (more : List Key) → AllByRecursion P (ks ++ k ∷ more) → P k
all_within P [] k more all = all.0
all_within P (j ∷ ks) k more all = all_within P ks k more all.1

distinct_more : (ks : List Key) (k : Key) → IsDistinct same_key ks → list_any (same_key k) ks ≡ false → IsDistinct same_key (ks ++ k ∷ [])
unfolding IsDistinct
distinct_more [] k distinct new = (tt, tt)
distinct_more (j ∷ ks) k distinct new =
    let p = or_parts (same_key k j) (list_any (same_key k) ks) new in
    (all_more (λ y. same_key j y ≡ false) ks k distinct.0 (same_swapped j k ∙ p.0), distinct_more ks k distinct.1 p.1)

distinct_new : (ks : List Key) (k : Key) (more : List Key) → IsDistinct same_key (ks ++ k ∷ more) → list_any (same_key k) ks ≡ false
unfolding IsDistinct
distinct_new [] k more distinct = refl
distinct_new (j ∷ ks) k more distinct =
    or_from (same_key k j) (list_any (same_key k) ks)
    (same_swapped k j ∙ all_within (λ y. same_key j y ≡ false) ks k more distinct.0) (distinct_new ks k more distinct.1)

abbrev pair : List ℕ → List ℕ → Key
pair name desc = (name, desc)

-- one more member, and what comes after it
split_at : (members : List MemberText) (i : ℕ) (m : MemberText) → i < length members → get_or members i m ≡ m
    → members ≡ take i members ++ m ∷ drop (suc i) members
split_at members i m lt is =
    sym (take-append-drop i members) ∙ ap (λ (r : List MemberText). take i members ++ r)
    (drop-cons members i m lt ∙ ap (λ (x : MemberText). x ∷ drop (suc i) members) is)

keys_more : (pool : List PoolEntry) (members : List MemberText) (i : ℕ) (m : MemberText) → i < length members → get_or members i m ≡ m
    → map (key_of pool) (take (i + 1) members) ≡ map (key_of pool) (take i members) ++ key_of pool m ∷ []
keys_more pool members i m lt is =
    ap (map (key_of pool)) (take_more members i m lt ∙ ap (λ (x : MemberText). take i members ++ x ∷ []) is)
    ∙ map-append (key_of pool) (take i members) (m ∷ [])

key_of_texts : (pool : List PoolEntry) (m : MemberText) (name desc : List ℕ) → name ≡ text_of pool m.name
    → desc ≡ text_of pool m.desc → pair name desc ≡ key_of pool m
key_of_texts pool m name desc n d = ap (λ (x : List ℕ). pair x desc) n ∙ ap (pair (text_of pool m.name)) d

-- a member that is looked up by its texts among those before it
looked_up : (pool : List PoolEntry) (members : List MemberText) (i : ℕ) (m : MemberText) (name desc : List ℕ) (seen : List Key)
    → name ≡ text_of pool m.name → desc ≡ text_of pool m.desc
    → seen ≡ map (key_of pool) (take i members)
    → list_any (same_key (key_of pool m)) (map (key_of pool) (take i members)) ≡ list_any (same_key (name, desc)) seen
looked_up pool members i m name desc seen n d same = sym
    (ap₂ (λ (k : Key) (ks : List Key). list_any (same_key k) ks) (key_of_texts pool m name desc n d) same)

-- one more member whose name and descriptor no earlier one has
pub still_distinct : (pool : List PoolEntry) (members : List MemberText) (i : ℕ) (m : MemberText) (name desc : List ℕ)
    (seen more : List Key) (added : Bool) → i < length members → get_or members i m ≡ m
    → name ≡ text_of pool m.name → desc ≡ text_of pool m.desc → seen ≡ map (key_of pool) (take i members)
    → IsDistinct same_key (map (key_of pool) (take i members))
    → more ≡ cond added (seen ++ (name, desc) ∷ []) seen → list_any (same_key (name, desc)) seen ≡ cond added false true → added ≡ true
    → (more ≡ map (key_of pool) (take (i + 1) members)) × IsDistinct same_key (map (key_of pool) (take (i + 1) members))
still_distinct pool members i m name desc seen more added lt is n d same distinct now there new =
    let before : List Key = map (key_of pool) (take i members) in
    let longer : map (key_of pool) (take (i + 1) members) ≡ before ++ key_of pool m ∷ [] = keys_more pool members i m lt is in
    let fresh : list_any (same_key (key_of pool m)) before ≡ false = looked_up pool members i m name desc seen n d same ∙ there
    ∙ ap (λ (b : Bool). cond b false true) new in (
      now ∙ ap (λ (b : Bool). cond b (seen ++ (name, desc) ∷ []) seen) new ∙ ap₂ (λ (ks : List Key) (k : Key). ks ++ k ∷ []) same
          (key_of_texts pool m name desc n d) ∙ sym longer,
      subst (IsDistinct same_key) (sym longer) (distinct_more before (key_of pool m) distinct fresh),
    )

-- a member that an earlier one is equal to
pub not_distinct : (pool : List PoolEntry) (members : List MemberText) (i : ℕ) (m : MemberText) (name desc : List ℕ)
    (seen : List Key) (added : Bool) → i < length members → get_or members i m ≡ m
    → name ≡ text_of pool m.name → desc ≡ text_of pool m.desc → seen ≡ map (key_of pool) (take i members)
    → list_any (same_key (name, desc)) seen ≡ cond added false true → added ≡ false → AreDistinct pool members → ⊥
not_distinct pool members i m name desc seen added lt is n d same there old distinct =
    let before : List Key = map (key_of pool) (take i members) in
    let after : List Key = map (key_of pool) (drop (suc i) members) in
    let parts : map (key_of pool) members ≡ before ++ key_of pool m ∷ after = ap (map (key_of pool)) (split_at members i m lt is)
    ∙ map-append (key_of pool) (take i members) (m ∷ drop (suc i) members) in
    let new : list_any (same_key (key_of pool m)) before ≡ false = distinct_new before (key_of pool m) after
    (subst (IsDistinct same_key) parts distinct) in
    let found : list_any (same_key (key_of pool m)) before ≡ true = looked_up pool members i m name desc seen n d same ∙ there
    ∙ ap (λ (b : Bool). cond b false true) old in
    false≢true (sym new ∙ found)

-- ---- the pool

pub pool_is : (text : List ℕ) (entries others : List PoolEntry) (v : Unread) → text ≡ pool_bytes entries → HasTexts entries
    → Spells (unread text 0) others v → entries ≡ others
pool_is text entries others v same texts s =
    let whole : pool_bytes entries ++ [] ≡ text = append-nil (pool_bytes entries) ∙ sym same in
    sym (same_pool 0 entries others [] v texts
    (subst (λ (bytes : List ℕ). Spells (record { at = 0; bytes = bytes }) others v) (sym whole) s))

-- ---- the class

-- the rules on a class whose entries are these
pub record Holds (pool : List PoolEntry) (c : ClassText) : Type 0 where
  pub minor : c.minor < 2 ^ 16
  pub major : c.major < 2 ^ 16
  pub is_pool : IsPool pool
  pub flags : c.flags < 2 ^ 16
  pub names : IsClass pool c.this_index × IsClass pool c.super_index
  pub interfaces : (length c.interfaces < 2 ^ 16) × AllByRecursion (IsClass pool) c.interfaces
  pub fields : (length c.fields < 2 ^ 16) × AllByRecursion (IsField pool) c.fields × AreDistinct pool c.fields
  pub methods : (length c.methods < 2 ^ 16) × AllByRecursion (IsMethod pool) c.methods × AreDistinct pool c.methods
  pub attributes : (length c.attributes < 2 ^ 16) × AllByRecursion (IsOtherAttribute pool) c.attributes

pub formed : (pool : List PoolEntry) (c : ClassText) → c.pool ≡ pool → Holds pool c → WellFormed c
formed pool c same holds =
    let h = subst (λ (p : List PoolEntry). Holds p c) (sym same) holds in
    record {
      minor_fits = h.minor;
      major_fits = h.major;
      pool = h.is_pool;
      flags_fit = h.flags;
      this_class = h.names.0;
      super_class = h.names.1;
      interfaces_fit = h.interfaces.0;
      interfaces = h.interfaces.1;
      fields_fit = h.fields.0;
      fields = h.fields.1;
      fields_differ = h.fields.2;
      methods_fit = h.methods.0;
      methods = h.methods.1;
      methods_differ = h.methods.2;
      attributes_fit = h.attributes.0;
      attributes = h.attributes.1;
    }

pub methods_of : (pool : List PoolEntry) (c : ClassText) → c.pool ≡ pool → WellFormed c
    → (length c.methods < 2 ^ 16) × AllByRecursion (IsMethod pool) c.methods × AreDistinct pool c.methods
methods_of pool c same w =
    subst (λ (p : List PoolEntry). (length c.methods < 2 ^ 16) × AllByRecursion (IsMethod p) c.methods × AreDistinct p c.methods)
    same (w.methods_fit, w.methods, w.methods_differ)
