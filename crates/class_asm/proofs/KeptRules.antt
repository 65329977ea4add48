-- The class of a listing without faults keeps every rule of class files.
use Rattle.std.proofs.Common.{◌≡◌, ℕ, ◌+◌, ◌<◌, ◌^◌, Bool, true, false, cond, ◌&&◌, ◌||◌, List, [], ◌∷◌, ◌++◌, length, map, Option}
use Rattle.std.proofs.Common.{Some, None, is_some, refl, sym, ap, subst, ◌∙◌, arith, inl, inr}
use Rattle.std.specs.Prelude.{codes, nat_lt, bit_or, IsSome, ◌⊎◌}
use Rattle.std.specs.List.{flat_map, list_all, list_any, cons_option, AllByRecursion, IsDistinct}
use Rattle.std.specs.Option.{option_map_or, option_and_then, option_to_list, unwrap_or}
use Rattle.std.proofs.lemmas.Bool.{ltb-true}
use Rattle.list_views.proofs.Quantified.{all_front, all_back}
use Rattle.list_views.proofs.Orders.{nat_lt_true}
use Rattle.list_views.proofs.Items.{length_mapped}
use Rattle.class_base.specs.declared.member_kind.MemberKind.TheVariants.{Field, Method}
use Rattle.class_read.specs.declared.text.AttrText.{AttrText}
use Rattle.class_read.specs.Content.{Handler}
use Rattle.class_base.specs.ClassNames.{is_class_name}
use Rattle.class_base.specs.MemberKinds.{is_descriptor, IsDescriptor}
use Rattle.class_read.specs.Rules.{text_of, IsText, IsClass, IsAttribute, IsHandler, IsMethodAttribute, IsOtherAttribute, codes_in}
use Rattle.class_read.specs.Rules.{IsField, IsMethod, key_of, same_key, WellFormed}
use Rattle.class_base.proofs.Keys.{same_swapped}
use Rattle.class_base.proofs.MethodLaws.{descriptor_found}
use Rattle.asm_lines.specs.declared.fault.AsmFault.{AsmFault}
use Rattle.asm_lines.specs.declared.fault.AsmFault.TheVariants.{OutOfRange}
use Rattle.asm_lines.specs.declared.number.Number.{Number}
use Rattle.asm_lines.specs.declared.item.Item.{Item}
use Rattle.asm_lines.specs.declared.item.Item.TheVariants as items
use Rattle.asm_lines.specs.declared.listing.CodeLine.{CodeLine}
use Rattle.asm_lines.specs.declared.listing.MethodLines.{MethodLines}
use Rattle.asm_lines.specs.declared.listing.Listing.{Listing}
use Rattle.class_asm.specs.declared.asm_codes.code.MethodCode.{MethodCode}
use Rattle.class_asm.specs.declared.asm_codes.pooled.PoolOperand.{PoolOperand}
use Rattle.class_asm.specs.asm_codes.Pooled.{Pooled}
use Rattle.asm_lines.specs.declared.statement.AttributeLine.{AttributeLine}
use Rattle.asm_lines.specs.declared.statement.ClassLine.{ClassLine}
use Rattle.asm_lines.specs.declared.statement.FieldLine.{FieldLine}
use Rattle.class_asm.specs.asm_pool.Entries.{Entry, Utf8, Class, has_text}
use Rattle.class_asm.specs.asm_codes.Instructions.{Places}
use Rattle.class_asm.specs.asm_codes.LineFaults.{first_fault}
use Rattle.class_asm.specs.asm_codes.MethodCodes as codes_of
use Rattle.class_asm.specs.asm_codes.MethodCodes.{answered, code_at, method_code}
use Rattle.class_asm.specs.asm_pool.Needs.{insn_entries, catch_entries, attribute_entries, line_needs, catch_entry, code_name, code_needs}
use Rattle.class_asm.specs.asm_pool.Needs.{field_needs, method_needs, attribute_needs, constant_needs, super_of, class_needs, listing_needs}
use Rattle.asm_lines.specs.Numbers.{unsigned_of, pair_of}
use Rattle.class_asm.specs.asm_codes.Places.{places_of, IsNear, item_entry, table_of}
use Rattle.asm_lines.specs.Firsts.{unless}
use Rattle.class_asm.specs.asm_pool.Pools.{Need, Numbered, needed, need_faults, count_faults, numbered, number_of, firsts_in, pool_in, pool_faults}
use Rattle.class_asm.specs.Rules.{Key, past_count, seconds, field_key, method_key, field_flags, method_flags, field_faults}
use Rattle.class_asm.specs.Rules.{method_faults, sizes_fit, attribute_lines, fields_faults, methods_faults, attribute_faults}
use Rattle.class_asm.specs.Rules.{attributes_faults, constant_faults, content_fits, major_of, class_is_good, rule_faults}
use Rattle.class_asm.specs.Classes as classes
use Rattle.class_asm.specs.Classes.{make_need, no_need, entry_need, item_need, pooled, code_said, code_in, said_faults}
use Rattle.class_asm.specs.Classes.{item_attributes, code_attributes, code_size, code_fits, code_faults, field_text, size_of}
use Rattle.class_asm.specs.Classes.{method_text, class_text, all_faults}
use Rattle.class_asm.proofs.MethodFlags.{has_sizes, flags_small}
use Rattle.class_asm.proofs.ClassBounds.{within_count, content_size, attributes_count, each_short}
use Rattle.class_asm.proofs.CodeSizes.{sized}
use Rattle.asm_lines.proofs.Faultless.{left, right, each, is_good, first_of_both, second_of_both, all_both}
use Rattle.asm_lines.proofs.GoodListings.{has_end, GoodMethod, GoodListing}
use Rattle.class_asm.proofs.GoodNeeds.{needs_good}
use Rattle.asm_lines.proofs.PlainWords.{PlainClass}
use Rattle.class_asm.proofs.PoolBounds.{room}
use Rattle.class_asm.proofs.PoolEntries.{IsIn, AllIn, in_file, number_small, of_needed, entries_in, needs_in}
use Rattle.class_asm.proofs.PoolRules.{pool_room, pool_rules, text_there, class_there}
use Rattle.class_asm.proofs.Written.{near}

-- ---- what indexes name

-- Every entry that a need needs is in the pool.
abbrev pub Found : List Entry → Need → Type 0
Found es need = AllIn es need.0

some_is : {A : Type 0} (o : Option A) (x : A) → o ≡ Some x → IsSome o
some_is o x h = ap is_some h

text_is : (es : List Entry) (text : List ℕ) → IsIn es (Utf8 text) → 1 + room es < 2 ^ 16
    → IsText (in_file es) (number_of (numbered es) (Utf8 text))
text_is es text h small = record { fits = number_small es (Utf8 text) h small; there = some_is _ text (text_there es text h small) }

pub says : (es : List Entry) (text : List ℕ) → IsIn es (Utf8 text) → 1 + room es < 2 ^ 16
    → text_of (in_file es) (number_of (numbered es) (Utf8 text)) ≡ text
says es text h small = ap (λ (o : Option (List ℕ)). unwrap_or o []) (text_there es text h small)

class_is : (es : List Entry) (name : List ℕ) → AllIn es (Class name) → 1 + room es < 2 ^ 16 → is_class_name name ≡ true
    → IsClass (in_file es) (number_of (numbered es) (Class name))
class_is es name h small good = record {
  fits = number_small es (Class name) h.1.0 small;
  there = some_is _ name (class_there es name h small);
  good = ap (λ (o : Option (List ℕ)). is_class_name (unwrap_or o [])) (class_there es name h small) ∙ good;
}

-- ---- distinct members

abbrev keys : List (Key × ℕ) → List Key
keys members = map (λ member. member.0) members

abbrev Differs : Key → Key → Type 0
Differs j k = same_key j k ≡ false

none_same : (k : Key) (earlier : List Key) → list_any (same_key k) earlier ≡ false → AllByRecursion (λ j. Differs j k) earlier
none_same k [] h = tt
none_same k (j ∷ earlier) h = (
  same_swapped j k ∙ first_no (same_key k j) (list_any (same_key k) earlier) h,
  none_same k earlier
      (second_no (same_key k j) (list_any (same_key k) earlier) h),
)
  where
    first_no : (a b : Bool) → (a || b) ≡ false → a ≡ false
    first_no true b e = absurd cc
    first_no false b e = refl

    second_no : (a b : Bool) → (a || b) ≡ false → b ≡ false
    second_no true b e = absurd cc
    second_no false b e = e

last_of : (P : Key → Type 0) (earlier : List Key) (k : Key) → AllByRecursion P (earlier ++ k ∷ []) → P k
last_of P [] k h = h.0
last_of P (j ∷ earlier) k h = last_of P earlier k h.1

front_of : (P : Key → Type 0) (earlier : List Key) (k : Key) → AllByRecursion P (earlier ++ k ∷ []) → AllByRecursion P earlier
front_of P [] k h = tt
front_of P (j ∷ earlier) k h = (h.0, front_of P earlier k h.1)

abbrev AllNew : List Key → List Key → Type 0
AllNew earlier ks = AllByRecursion (λ k. AllByRecursion (λ j. Differs j k) earlier) ks

new_front : (earlier : List Key) (k : Key) (ks : List Key) → AllNew (earlier ++ k ∷ []) ks → AllNew earlier ks
new_front earlier k [] h = tt
new_front earlier k (x ∷ ks) h = (front_of (λ j. Differs j x) earlier k h.0, new_front earlier k ks h.1)

new_last : (earlier : List Key) (k : Key) (ks : List Key) → AllNew (earlier ++ k ∷ []) ks → AllByRecursion (Differs k) ks
new_last earlier k [] h = tt
new_last earlier k (x ∷ ks) h = (last_of (λ j. Differs j x) earlier k h.0, new_last earlier k ks h.1)

not_second : (b : Bool) (line : ℕ) (xs ys : List AsmFault) → cond b (OutOfRange line ∷ xs) ys ≡ [] → (b ≡ false) × (ys ≡ [])
not_second true line xs ys h = absurd cc
not_second false line xs ys h = (refl, h)

distinct_from : (earlier : List Key) (members : List (Key × ℕ)) → seconds earlier members ≡ [] → AllNew earlier (keys members)
    × IsDistinct same_key (keys members)
unfolding IsDistinct
distinct_from earlier [] h = (tt, tt)
distinct_from earlier (member ∷ members) h =
    let s = not_second (list_any (same_key member.0) earlier) member.1 (seconds earlier members)
    (seconds (earlier ++ member.0 ∷ []) members) h in
    let rest = distinct_from (earlier ++ member.0 ∷ []) members s.1 in (
      (none_same member.0 earlier s.0, new_front earlier member.0 (keys members) rest.0),
      (new_last earlier member.0 (keys members) rest.0, rest.1),
    )

-- ---- numbers

pair_by : (o : Option ℕ) → unwrap_or (option_and_then (λ m. cond (nat_lt m (2 ^ 16)) (Some m) None) o) 0 < 2 ^ 16
pair_by None = omega arith
pair_by (Some m) = within (nat_lt m (2 ^ 16)) refl
  where
    within : (b : Bool) → nat_lt m (2 ^ 16) ≡ b → unwrap_or (cond b (Some m) None) 0 < 2 ^ 16
    within true h = ltb-true m (2 ^ 16) h
    within false h = omega arith

size_small : (n : Number) → size_of n < 2 ^ 16
size_small n = pair_by (unsigned_of n)

major_by : (o : Option Number) → unwrap_or (option_map_or pair_of o (Some 50)) 0 < 2 ^ 16
major_by None = omega arith
major_by (Some n) = size_small n

flags_by : (a b : Bool) → bit_or (cond a 0x0601 0x0021) (cond b 0x0400 0) < 2 ^ 16
flags_by true true = omega arith
flags_by true false = omega arith
flags_by false true = omega arith
flags_by false false = omega arith

static_by : (b : Bool) → cond b 0x0009 0x0001 < 2 ^ 16
static_by true = omega arith
static_by false = omega arith

-- ---- fields

field_is : (es : List Entry) (f : ℕ × FieldLine) → 1 + room es < 2 ^ 16 → AllByRecursion (Found es) (field_needs f)
    → field_faults f ≡ [] → IsField (in_file es) (field_text (numbered es) f)
field_is es f small h good = record {
  member = record {
    flags_fit = static_by f.1.is_static;
    name = text_is es f.1.name h.0.0 small;
    desc = text_is es f.1.desc h.1.0.0 small;
    descriptor = subst (λ (d : List ℕ). IsDescriptor Field (field_flags f.1) d) (sym (says es f.1.desc h.1.0.0 small))
        (descriptor_found Field (field_flags f.1) f.1.desc (is_good _ f.0 good));
    attributes_fit = omega arith;
  };
  attributes = tt;
}

fields_are : (es : List Entry) (fields : List (ℕ × FieldLine)) → 1 + room es < 2 ^ 16
    → AllByRecursion (Found es) (flat_map field_needs fields) → AllByRecursion (λ f. field_faults f ≡ []) fields
    → AllByRecursion (IsField (in_file es)) (map (field_text (numbered es)) fields)
fields_are es [] small h good = tt
fields_are es (f ∷ fields) small h good = (
  field_is es f small (all_front (Found es) (field_needs f) (flat_map field_needs fields) h) good.0,
  fields_are es fields small
      (all_back (Found es) (field_needs f) (flat_map field_needs fields) h) good.1,
)

abbrev the_key : List ℕ → List ℕ → Key
the_key name desc = (name, desc)

one_key : (a b c d : List ℕ) → a ≡ c → b ≡ d → the_key a b ≡ the_key c d
one_key a b c d p q = ap (λ (x : List ℕ). the_key x b) p ∙ ap (λ (x : List ℕ). the_key c x) q

field_keys : (es : List Entry) (fields : List (ℕ × FieldLine)) → 1 + room es < 2 ^ 16
    → AllByRecursion (Found es) (flat_map field_needs fields)
    → map (key_of (in_file es)) (map (field_text (numbered es)) fields) ≡ keys (map field_key fields)
field_keys es [] small h = refl
field_keys es (f ∷ fields) small h =
    let own = all_front (Found es) (field_needs f) (flat_map field_needs fields) h in
    let key = one_key _ _ f.1.name f.1.desc (says es f.1.name own.0.0 small) (says es f.1.desc own.1.0.0 small) in
    ap (λ (k : Key). k ∷ map (key_of (in_file es)) (map (field_text (numbered es)) fields)) key
    ∙ ap (λ (ks : List Key). the_key f.1.name f.1.desc ∷ ks)
    (field_keys es fields small (all_back (Found es) (field_needs f) (flat_map field_needs fields) h))

-- ---- codes

ends_same : (pool : Numbered) (lines : List CodeLine) → codes_of.has_end (map (pooled pool) lines) ≡ has_end lines
ends_same pool [] = refl
ends_same pool (code ∷ lines) = ap (λ b. code.ends || b) (ends_same pool lines)

catch_by : (es : List Entry) (name : List ℕ) (b c : Bool) (need : PoolOperand) → is_class_name name ≡ b → 1 + room es < 2 ^ 16
    → AllByRecursion (AllIn es) (option_to_list (cond (b && c) (Some (Class name)) None))
    → entry_need (numbered es) 0 (cond (b && c) (Some (Class name)) None) ≡ Some need → IsClass (in_file es) need.entry
catch_by es name true true need good small h e = subst (λ (n : PoolOperand). IsClass (in_file es) n.entry)
    (some_same (make_need (number_of (numbered es) (Class name)) 0) need e) (class_is es name h.0 small good)
  where
    some_same : (x y : PoolOperand) → Some x ≡ Some y → x ≡ y
    some_same x y k = cc
catch_by es name true false need good small h e = absurd cc
catch_by es name false c need good small h e = absurd cc

caught_by : (es : List Entry) (class : Option (List ℕ)) (need : PoolOperand) → 1 + room es < 2 ^ 16
    → AllByRecursion (AllIn es) (option_to_list (catch_entry class))
    → cond (is_some class) (entry_need (numbered es) 0 (catch_entry class)) (Some no_need) ≡ Some need
    → (need.entry ≡ 0) ⊎ IsClass (in_file es) need.entry
caught_by es None need small h e = inl (ap (λ (n : PoolOperand). n.entry) (sym (none_needed need e)))
  where
    none_needed : (y : PoolOperand) → Some no_need ≡ Some y → no_need ≡ y
    none_needed y k = cc
caught_by es (Some name) need small h e = inr (catch_by es name (is_class_name name) (has_text (Class name)) need refl small h e)

abbrev GoodHandler : List Entry → Handler → Type 0
GoodHandler es h = IsHandler (in_file es) h

handler_by : (es : List Entry) (ps : Places) (item : Item) (o : Option PoolOperand) (rest : List Handler) → IsNear ps
    → 1 + room es < 2 ^ 16 → item_need (numbered es) item ≡ o
    → AllByRecursion (AllIn es) (catch_entries item) → AllByRecursion (GoodHandler es) rest
    → AllByRecursion (GoodHandler es) (cons_option (item_entry ps o item) rest)
handler_by es ps (items.Catch c) (Some need) rest is_near small e h more =
    (record { start = is_near c.from; end = is_near c.to; handler = is_near c.handler; catch = caught_by es c.class need small h e }, more)
handler_by es ps (items.Catch c) None rest is_near small e h more = more
handler_by es ps (items.Insn operation) (Some need) rest is_near small e h more = more
handler_by es ps (items.Insn operation) None rest is_near small e h more = more
handler_by es ps items.Nothing (Some need) rest is_near small e h more = more
handler_by es ps items.Nothing None rest is_near small e h more = more
handler_by es ps (items.Attribute a) (Some need) rest is_near small e h more = more
handler_by es ps (items.Attribute a) None rest is_near small e h more = more
handler_by es ps items.End (Some need) rest is_near small e h more = more
handler_by es ps items.End None rest is_near small e h more = more

handlers_are : (es : List Entry) (ps : Places) (lines : List CodeLine) → IsNear ps → 1 + room es < 2 ^ 16
    → AllByRecursion (Found es) (flat_map (line_needs catch_entries) lines)
    → AllByRecursion (GoodHandler es) (table_of ps (map (pooled (numbered es)) lines))
handlers_are es ps [] is_near small h = tt
handlers_are es ps (code ∷ lines) is_near small h =
    let own = of_needed (AllIn es) code.line (catch_entries code.item)
    (all_front (Found es) (line_needs catch_entries code) (flat_map (line_needs catch_entries) lines) h) in
    handler_by es ps code.item (item_need (numbered es) code.item) (table_of ps (map (pooled (numbered es)) lines)) is_near small refl own
    (handlers_are es ps lines is_near small
    (all_back (Found es) (line_needs catch_entries code) (flat_map (line_needs catch_entries) lines) h))

named_by : (es : List Entry) (item : Item) (rest : List (ℕ × List ℕ)) → 1 + room es < 2 ^ 16
    → AllByRecursion (AllIn es) (attribute_entries item) → AllByRecursion (λ a. IsText (in_file es) a.0) rest
    → AllByRecursion (λ a. IsText (in_file es) a.0) (item_attributes (numbered es) item ++ rest)
named_by es (items.Attribute x) rest small h more = (text_is es x.name h.0.0 small, more)
named_by es (items.Insn operation) rest small h more = more
named_by es (items.Catch c) rest small h more = more
named_by es items.Nothing rest small h more = more
named_by es items.End rest small h more = more

attributes_named : (es : List Entry) (lines : List CodeLine) → 1 + room es < 2 ^ 16
    → AllByRecursion (Found es) (flat_map (line_needs attribute_entries) lines)
    → AllByRecursion (λ a. IsText (in_file es) a.0) (code_attributes (numbered es) lines)
attributes_named es [] small h = tt
attributes_named es (code ∷ lines) small h =
    let own = of_needed (AllIn es) code.line (attribute_entries code.item)
    (all_front (Found es) (line_needs attribute_entries code) (flat_map (line_needs attribute_entries) lines) h) in
    named_by es code.item (code_attributes (numbered es) lines) small own
    (attributes_named es lines small
    (all_back (Found es) (line_needs attribute_entries code) (flat_map (line_needs attribute_entries) lines) h))

none_by : (o : Option AsmFault) (code : MethodCode) → said_faults (answered o code) ≡ [] → o ≡ None
none_by None code h = refl
none_by (Some fault) code h = absurd cc

pub no_fault : (lines : List Pooled) → said_faults (method_code lines) ≡ [] → first_fault (places_of lines) lines ≡ None
unfolding method_code
no_fault lines h = none_by (first_fault (places_of lines) lines) (code_at (places_of lines) lines) h

pub the_code : (lines : List Pooled) → first_fault (places_of lines) lines ≡ None
    → code_in (method_code lines) ≡ code_at (places_of lines) lines
unfolding method_code
the_code lines h = ap (λ (o : Option AsmFault). code_in (answered o (code_at (places_of lines) lines))) h

code_is : (es : List Entry) (m : MethodLines) (sizes : Number × Number) → 1 + room es < 2 ^ 16 → has_end m.lines ≡ true
    → AllByRecursion (Found es) (code_needs m)
    → said_faults (code_said (numbered es) m) ++ unless
    (code_fits (code_in (code_said (numbered es) m)) (code_attributes (numbered es) m.lines)) m.line ≡ []
    → length (code_attributes (numbered es) m.lines) < 2 ^ 16
    → IsMethodAttribute (in_file es) (classes.code_text (numbered es) m (code_in (code_said (numbered es) m)) sizes)
code_is es m sizes small ends h k count =
    let pool = numbered es in
    let lines = map (pooled pool) m.lines in
    let code = code_in (code_said pool m) in
    let attributes = code_attributes pool m.lines in
    let insns = flat_map (line_needs insn_entries) m.lines in
    let catches = flat_map (line_needs catch_entries) m.lines in
    let others = flat_map (line_needs attribute_entries) m.lines in
    let name = needed m.line (code_name ∷ []) in
    let no_others = all_front (Found es) (name ++ insns ++ catches) others h in
    let own = all_front (Found es) name insns (all_front (Found es) (name ++ insns) catches no_others) in
    let none = no_fault lines (left (said_faults (code_said pool m)) (unless (code_fits code attributes) m.line) k) in
    let is_code = the_code lines none in
    let bound = sized lines code none is_code in
    let fits = nat_lt_true (code_size code attributes) (2 ^ 32)
    (is_good _ m.line (right (said_faults (code_said pool m)) (unless (code_fits code attributes) m.line) k)) in
    let short = each_short attributes (2 ^ 32) (omega (arith, fits)) in
    let table : AllByRecursion (GoodHandler es) code.table =
    subst (λ (c : MethodCode). AllByRecursion (GoodHandler es) c.table) (sym is_code)
    (handlers_are es (places_of lines) m.lines (near lines none) small (all_back (Found es) (name ++ insns) catches no_others)) in
    record {
      name_is = text_is es (codes "Code") own.0.0 small;
      named = says es (codes "Code") own.0.0 small;
      stack_fits = size_small sizes.0;
      locals_fit = size_small sizes.1;
      some = bound.some (ends_same pool m.lines ∙ ends);
      most = bound.few;
      table_fits = bound.table;
      handlers = table;
      attributes_fit = count;
      skipped = all_both (λ a. IsText (in_file es) a.0) (λ a. length a.1 < 2 ^ 32) (IsAttribute (in_file es))
          (λ a t l. record { name = t; fits = l }) attributes
          (attributes_named es m.lines small (all_back (Found es) (name ++ insns ++ catches) others h)) short;
      content_fits = omega (arith, fits, content_size (size_of sizes.0) (size_of sizes.1) code attributes);
    }

-- ---- methods

abbrev attributes_by : Numbered → MethodLines → Option (Number × Number) → List AttrText
attributes_by pool m sizes = option_map_or (λ s. classes.code_text pool m (code_in (code_said pool m)) s ∷ []) sizes []

record GoodAttributes (es : List Entry) (m : MethodLines) (sizes : Option (Number × Number)) : Type 0 where
  each : AllByRecursion (IsMethodAttribute (in_file es)) (attributes_by (numbered es) m sizes)
  codes : length (codes_in (attributes_by (numbered es) m sizes)) ≡ cond (is_some sizes) 1 0
  few : length (attributes_by (numbered es) m sizes) < 2 ^ 16

attributes_are : (es : List Entry) (m : MethodLines) (sizes : Option (Number × Number)) → 1 + room es < 2 ^ 16
    → (is_some sizes ≡ true → has_end m.lines ≡ true)
    → AllByRecursion (Found es) (cond (is_some sizes) (code_needs m) [])
    → cond (is_some sizes)
    (said_faults (code_said (numbered es) m) ++ unless
    (code_fits (code_in (code_said (numbered es) m)) (code_attributes (numbered es) m.lines)) m.line) [] ≡ []
    → length (code_attributes (numbered es) m.lines) < 2 ^ 16 → GoodAttributes es m sizes
attributes_are es m None small ends h k count = record { each = tt; codes = refl; few = omega arith }
attributes_are es m (Some sizes) small ends h k count = record
    { each = (code_is es m sizes small (ends refl) h k count, tt); codes = refl; few = omega arith }

method_is : (es : List Entry) (m : MethodLines) → 1 + room es < 2 ^ 16 → GoodMethod m → AllByRecursion (Found es) (method_needs m)
    → method_faults m ≡ [] → code_faults (numbered es) m ≡ []
    → IsMethod (in_file es) (method_text (numbered es) m)
method_is es m small good h faults code =
    let own = needed m.line (Utf8 m.head.name ∷ Utf8 m.head.desc ∷ []) in
    let more = cond (is_some m.head.sizes) (code_needs m) [] in
    let texts = all_front (Found es) own more h in
    let lines = attribute_lines m.lines in
    let rule = unless (is_descriptor Method (method_flags m.head) m.head.desc && sizes_fit m.head.sizes) m.line in
    let both = is_good (is_descriptor Method (method_flags m.head) m.head.desc && sizes_fit m.head.sizes) m.line
    (left rule (past_count (λ line. line) lines) faults) in
    let few = within_count (λ line. line) lines (right rule (past_count (λ line. line) lines) faults) in
    let count : length (code_attributes (numbered es) m.lines) < 2 ^ 16 =
    omega (
      arith,
      few,
      length_mapped (λ (need : Need). need.1) (flat_map (line_needs attribute_entries) m.lines),
      attributes_count
          (numbered es) m.lines,
    ) in
    let attributes = attributes_are es m m.head.sizes small good.ended (all_back (Found es) own more h) code count in
    record {
      member = record {
        flags_fit = flags_small m.head good.open_method.head;
        name = text_is es m.head.name texts.0.0 small;
        desc = text_is es m.head.desc texts.1.0.0 small;
        descriptor = subst (λ (d : List ℕ). IsDescriptor Method (method_flags m.head) d) (sym (says es m.head.desc texts.1.0.0 small))
            (descriptor_found Method (method_flags m.head) m.head.desc
            (first_of_both (is_descriptor Method (method_flags m.head) m.head.desc) (sizes_fit m.head.sizes) both));
        attributes_fit = attributes.few;
      };
      attributes = attributes.each;
      codes = attributes.codes ∙ ap (λ (b : Bool). cond b 1 0) (sym (has_sizes m.head good.open_method.head));
    }

methods_are : (es : List Entry) (methods : List MethodLines) → 1 + room es < 2 ^ 16 → AllByRecursion GoodMethod methods
    → AllByRecursion (Found es) (flat_map method_needs methods)
    → AllByRecursion (λ m. method_faults m ≡ []) methods → AllByRecursion (λ m. code_faults (numbered es) m ≡ []) methods
    → AllByRecursion (IsMethod (in_file es)) (map (method_text (numbered es)) methods)
methods_are es [] small good h faults code = tt
methods_are es (m ∷ methods) small good h faults code = (
  method_is es m small good.0 (all_front (Found es) (method_needs m) (flat_map method_needs methods) h) faults.0 code.0,
  methods_are es methods small good.1 (all_back (Found es) (method_needs m) (flat_map method_needs methods) h) faults.1 code.1,
)

method_keys : (es : List Entry) (methods : List MethodLines) → 1 + room es < 2 ^ 16
    → AllByRecursion (Found es) (flat_map method_needs methods)
    → map (key_of (in_file es)) (map (method_text (numbered es)) methods) ≡ keys (map method_key methods)
method_keys es [] small h = refl
method_keys es (m ∷ methods) small h =
    let own = needed m.line (Utf8 m.head.name ∷ Utf8 m.head.desc ∷ []) in
    let texts = all_front (Found es) own (cond (is_some m.head.sizes) (code_needs m) [])
    (all_front (Found es) (method_needs m) (flat_map method_needs methods) h) in
    let key = one_key _ _ m.head.name m.head.desc (says es m.head.name texts.0.0 small) (says es m.head.desc texts.1.0.0 small) in
    ap (λ (k : Key). k ∷ map (key_of (in_file es)) (map (method_text (numbered es)) methods)) key
    ∙ ap (λ (ks : List Key). the_key m.head.name m.head.desc ∷ ks)
    (method_keys es methods small (all_back (Found es) (method_needs m) (flat_map method_needs methods) h))

-- ---- the class

class_attributes : (es : List Entry) (attributes : List (ℕ × AttributeLine)) → 1 + room es < 2 ^ 16
    → AllByRecursion (Found es) (flat_map attribute_needs attributes) → AllByRecursion (λ a. attribute_faults a ≡ []) attributes
    → AllByRecursion (IsOtherAttribute (in_file es)) (map (classes.attribute_text (numbered es)) attributes)
class_attributes es [] small h good = tt
class_attributes es (a ∷ attributes) small h good = (
  record {
    name = text_is es a.1.name h.0.0 small;
    fits = nat_lt_true (length a.1.content) (2 ^ 32)
        (is_good (content_fits a.1.content) a.0 good.0);
  },
  class_attributes es attributes small h.1 good.1,
)

interfaces_are : (es : List Entry) (names : List (List ℕ)) → 1 + room es < 2 ^ 16
    → AllByRecursion (AllIn es) (map (λ name. Class name) names) → list_all is_class_name names ≡ true
    → AllByRecursion (IsClass (in_file es)) (map (λ name. number_of (numbered es) (Class name)) names)
interfaces_are es [] small h good = tt
interfaces_are es (name ∷ names) small h good = (
  class_is es name h.0 small (first_of_both (is_class_name name) (list_all is_class_name names) good),
  interfaces_are es names
      small h.1 (second_of_both (is_class_name name) (list_all is_class_name names) good),
)

-- ---- a listing without faults

-- what its parts need is in the pool
pub record InPool (line : ℕ) (class : ClassLine) (listing : Listing) (es : List Entry) : Type 0 where
  pub small : 1 + room es < 2 ^ 16
  pub own : AllByRecursion (AllIn es) (Class class.name ∷ Class (super_of class) ∷ map (λ name. Class name) class.interfaces)
  pub fields : AllByRecursion (Found es) (flat_map field_needs listing.fields)
  pub methods : AllByRecursion (Found es) (flat_map method_needs listing.methods)
  pub attributes : AllByRecursion (Found es) (flat_map attribute_needs listing.attributes)
  pub constants : AllByRecursion (Found es) (flat_map constant_needs listing.constants)

-- none of its parts has a fault
pub record Faultless (class : ClassLine) (listing : Listing) (pool : Numbered) : Type 0 where
  pub own : class_is_good class ≡ true
  pub fields : fields_faults listing.fields ≡ []
  pub methods : methods_faults listing.methods ≡ []
  pub attributes : attributes_faults listing.attributes ≡ []
  pub codes : AllByRecursion (λ m. code_faults pool m ≡ []) listing.methods

pub in_pool : (line : ℕ) (class : ClassLine) (listing : Listing) → pool_faults (listing_needs line class listing) ≡ []
    → InPool line class listing (entries_in (listing_needs line class listing))
in_pool line class listing none =
    let needs = listing_needs line class listing in
    let es = entries_in needs in
    let have_text = each need_faults needs (left (flat_map need_faults needs) (count_faults 1 (firsts_in needs)) none) in
    let all = all_both (λ n. need_faults n ≡ []) (λ n. has_text n.0 ≡ true → AllIn es n.0) (Found es)
    (λ n e f. f (is_good (has_text n.0) n.1 e)) needs have_text (needs_in needs) in
    let own = class_needs line class in
    let of_fields = flat_map field_needs listing.fields in
    let of_methods = flat_map method_needs listing.methods in
    let of_attributes = flat_map attribute_needs listing.attributes in
    let of_constants = flat_map constant_needs listing.constants in
    let to_attributes = all_front (Found es) (own ++ of_fields ++ of_methods ++ of_attributes) of_constants all in
    let to_methods = all_front (Found es) (own ++ of_fields ++ of_methods) of_attributes to_attributes in
    let to_fields = all_front (Found es) (own ++ of_fields) of_methods to_methods in
    record {
      small = pool_room needs (right (flat_map need_faults needs) (count_faults 1 (firsts_in needs)) none);
      own = of_needed (AllIn es) line (Class class.name ∷ Class (super_of class) ∷ map (λ name. Class name) class.interfaces)
          (all_front (Found es) own of_fields to_fields);
      fields = all_back (Found es) own of_fields to_fields;
      methods = all_back (Found es) (own ++ of_fields) of_methods to_methods;
      attributes = all_back (Found es) (own ++ of_fields ++ of_methods) of_attributes to_attributes;
      constants = all_back (Found es) (own ++ of_fields ++ of_methods ++ of_attributes) of_constants all;
    }

pub no_pool_faults : (line : ℕ) (class : ClassLine) (listing : Listing) → all_faults line class listing ≡ []
    → pool_faults (listing_needs line class listing) ≡ []
no_pool_faults line class listing none =
    let needs = listing_needs line class listing in
    right (rule_faults line class listing) (pool_faults needs)
    (left (rule_faults line class listing ++ pool_faults needs) (flat_map (code_faults (pool_in needs)) listing.methods) none)

pub faultless : (line : ℕ) (class : ClassLine) (listing : Listing) → all_faults line class listing ≡ []
    → Faultless class listing (pool_in (listing_needs line class listing))
faultless line class listing none =
    let needs = listing_needs line class listing in
    let pool = pool_in needs in
    let of_codes = flat_map (code_faults pool) listing.methods in
    let no_rules = left (rule_faults line class listing) (pool_faults needs)
    (left (rule_faults line class listing ++ pool_faults needs) of_codes none) in
    let own = unless (class_is_good class) line in
    let fields = fields_faults listing.fields in
    let methods = methods_faults listing.methods in
    let attributes = attributes_faults listing.attributes in
    let no_rest = left (own ++ fields ++ methods ++ attributes) (flat_map constant_faults listing.constants) no_rules in
    let no_members = left (own ++ fields ++ methods) attributes no_rest in
    let no_first = left (own ++ fields) methods no_members in
    record {
      own = is_good (class_is_good class) line (left own fields no_first);
      fields = right own fields no_first;
      methods = right (own ++ fields) methods no_members;
      attributes = right (own ++ fields ++ methods) attributes no_rest;
      codes = each (code_faults pool) listing.methods (right (rule_faults line class listing ++ pool_faults needs) of_codes none);
    }

-- what `class_is_good` asks
record GoodClass (class : ClassLine) : Type 0 where
  name : is_class_name class.name ≡ true
  super_name : is_class_name (super_of class) ≡ true
  interfaces : list_all is_class_name class.interfaces ≡ true
  few : length class.interfaces < 2 ^ 16

good_class : (class : ClassLine) → class_is_good class ≡ true → GoodClass class
good_class class h =
    let four = first_of_both _ (is_some (major_of class)) h in
    let three = first_of_both _ (nat_lt (length class.interfaces) (2 ^ 16)) four in
    let two = first_of_both (is_class_name class.name && is_class_name (super_of class)) (list_all is_class_name class.interfaces) three in
    record {
      name = first_of_both (is_class_name class.name) (is_class_name (super_of class)) two;
      super_name = second_of_both (is_class_name class.name) (is_class_name (super_of class)) two;
      interfaces = second_of_both (is_class_name class.name && is_class_name (super_of class))
          (list_all is_class_name class.interfaces) three;
      few = nat_lt_true (length class.interfaces) (2 ^ 16) (second_of_both _ (nat_lt (length class.interfaces) (2 ^ 16)) four);
    }

-- what the faults of members and of attributes ask
pub record GoodMembers {A : Type 0} (faults_of : A → List AsmFault) (key : A → Key × ℕ) (members : List A) : Type 0 where
  pub each : AllByRecursion (λ m. faults_of m ≡ []) members
  pub once : seconds [] (map key members) ≡ []
  pub few : length members < 2 ^ 16

good_members : {A : Type 0} (faults_of : A → List AsmFault) (key : A → Key × ℕ) (line_of : A → ℕ) (members : List A)
    → flat_map faults_of members ++ seconds [] (map key members) ++ past_count line_of members ≡ [] → GoodMembers faults_of key members
good_members faults_of key line_of members none =
    let every = flat_map faults_of members in
    let second = seconds [] (map key members) in
    let once = left (every ++ second) (past_count line_of members) none in
    record {
      each = each faults_of members (left every second once);
      once = right every second once;
      few = within_count line_of
          members (right (every ++ second) (past_count line_of members) none);
    }

pub good_methods : (methods : List MethodLines) → methods_faults methods ≡ [] → GoodMembers method_faults method_key methods
good_methods methods none = good_members method_faults method_key (λ m. m.line) methods none

pub well_formed : (line : ℕ) (class : ClassLine) (listing : Listing) → PlainClass class → GoodListing listing
    → all_faults line class listing ≡ []
    → WellFormed (class_text (pool_in (listing_needs line class listing)) class listing)
well_formed line class listing plain good none =
    let needs = listing_needs line class listing in
    let es = entries_in needs in
    let pool = numbered es in
    let no_pool = no_pool_faults line class listing none in
    let there = in_pool line class listing no_pool in
    let small = there.small in
    let faults = faultless line class listing none in
    let c = good_class class faults.own in
    let fields = good_members field_faults field_key (λ (f : ℕ × FieldLine). f.0) listing.fields faults.fields in
    let methods = good_methods listing.methods faults.methods in
    let each_attribute = flat_map attribute_faults listing.attributes in
    let past_attribute = past_count (λ (a : ℕ × AttributeLine). a.0) listing.attributes in
    let few_attributes = within_count (λ (a : ℕ × AttributeLine). a.0) listing.attributes
    (right each_attribute past_attribute faults.attributes) in
    record {
      minor_fits = omega arith;
      major_fits = major_by class.major;
      pool = pool_rules needs (needs_good line class listing plain good)
          (right (flat_map need_faults needs) (count_faults 1 (firsts_in needs)) no_pool);
      flags_fit = flags_by class.is_interface class.is_abstract;
      this_class = class_is es class.name there.own.0 small c.name;
      super_class = class_is es (super_of class) there.own.1.0 small c.super_name;
      interfaces_fit = omega (arith, c.few, length_mapped (λ (name : List ℕ). number_of pool (Class name)) class.interfaces);
      interfaces = interfaces_are es class.interfaces small there.own.1.1 c.interfaces;
      fields_fit = omega (arith, fields.few, length_mapped (field_text pool) listing.fields);
      fields = fields_are es listing.fields small there.fields fields.each;
      fields_differ = subst (IsDistinct same_key) (sym (field_keys es listing.fields small there.fields))
          (distinct_from [] (map field_key listing.fields) fields.once).1;
      methods_fit = omega (arith, methods.few, length_mapped (method_text pool) listing.methods);
      methods = methods_are es listing.methods small good.methods there.methods methods.each faults.codes;
      methods_differ = subst (IsDistinct same_key) (sym (method_keys es listing.methods small there.methods))
          (distinct_from [] (map method_key listing.methods) methods.once).1;
      attributes_fit = omega (arith, few_attributes, length_mapped (classes.attribute_text pool) listing.attributes);
      attributes = class_attributes es listing.attributes small there.attributes
          (each attribute_faults listing.attributes (left each_attribute past_attribute faults.attributes));
    }
