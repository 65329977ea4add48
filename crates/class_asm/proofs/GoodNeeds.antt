-- The entries that a listing needs have plain texts and numbers that fit.
use Rattle.std.proofs.Common.{◌≡◌, ℕ, ◌<◌, ◌≤◌, ◌^◌, ℤ, pos, Bool, true, false, cond, not, ◌&&◌, eqb, List, [], ◌∷◌, ◌++◌, map}
use Rattle.std.proofs.Common.{Option, Some, None, is_some, refl, arith, ◌-ℤ◌}
use Rattle.std.specs.Prelude.{codes, nat_lt}
use Rattle.std.specs.Int.{w64, cast_unsigned}
use Rattle.std.specs.List.{flat_map, AllByRecursion}
use Rattle.std.specs.Option.{option_map, option_and_then, option_to_list, unwrap_or}
use Rattle.std.proofs.lemmas.Int.{ints}
use Rattle.std.proofs.lemmas.Bool.{ltb-true}
use Rattle.std.proofs.lemmas.Bool.Decides.{nat_tests}
use Rattle.list_views.proofs.Quantified.{all_joined}
use Rattle.asm_lines.specs.declared.number.Number.{Number}
use Rattle.asm_lines.specs.declared.operation.Operation.{Operation}
use Rattle.asm_lines.specs.declared.operation.Operation.TheVariants as operations
use Rattle.asm_lines.specs.declared.item.Item.{Item}
use Rattle.asm_lines.specs.declared.item.Item.TheVariants as items
use Rattle.asm_lines.specs.declared.listing.CodeLine.{CodeLine}
use Rattle.asm_lines.specs.declared.listing.MethodLines.{MethodLines}
use Rattle.asm_lines.specs.declared.listing.Listing.{Listing}
use Rattle.asm_lines.specs.declared.statement.ClassLine.{ClassLine}
use Rattle.asm_lines.specs.declared.statement.Constant.{Constant}
use Rattle.asm_lines.specs.declared.statement.Constant.TheVariants as constants
use Rattle.asm_lines.specs.Numbers.{unsigned_of, signed_of, int_of}
use Rattle.class_asm.specs.asm_pool.Entries.{Entry, Utf8, Integer, Float, Long, Double, Class, Str, Member, has_text}
use Rattle.class_asm.specs.asm_pool.Pools.{Need, needed}
use Rattle.class_asm.specs.asm_pool.Needs.{member_tag, operation_entry, catch_entry, insn_entries, catch_entries, attribute_entries}
use Rattle.class_asm.specs.asm_pool.Needs.{line_needs, code_needs, field_needs, method_needs, attribute_needs, constant_entry, constant_needs}
use Rattle.class_asm.specs.asm_pool.Needs.{super_of, class_needs, listing_needs}
use Rattle.asm_lines.proofs.GoodListings.{OpenMethod, GoodMethod, GoodListing}
use Rattle.asm_lines.proofs.NumberFits.{int_fits}
use Rattle.asm_lines.proofs.PlainWords.{IsPlain, ArePlain, PlainOption, IsCapped, PlainField, PlainAttribute, PlainConstant}
use Rattle.asm_lines.proofs.PlainWords.{PlainClass, PlainOperation, PlainItem}
use Rattle.class_asm.proofs.PoolEntries.{to_needed}
use Rattle.class_asm.proofs.PoolRules.{GoodEntry}

abbrev pub GoodNeed : Need → Type 0
GoodNeed need = GoodEntry need.0

abbrev GoodSome : Option Entry → Type 0
GoodSome o = AllByRecursion GoodEntry (option_to_list o)

allowed_by : (b : Bool) (e : Entry) → GoodEntry e → GoodSome (cond b (Some e) None)
allowed_by true e h = (h, tt)
allowed_by false e h = tt

-- ---- numbers

integer_by : (n : Number) (o : Option ℤ) → int_of n ≡ o → GoodSome (option_map (λ value. Integer value) o)
integer_by n None h = tt
integer_by n (Some value) h = (int_fits n value h, tt)

abbrev FitsLong : Option ℤ → Type 0
FitsLong None = Unit {0}
FitsLong (Some v) = cast_unsigned w64 v < 2 ^ 64

negative_fits : (size : ℕ) (b : Bool) → nat_lt (2 ^ 63) size ≡ b → FitsLong (cond b None (Some (pos 0 -ℤ pos size)))
negative_fits size true h = tt
negative_fits size false h = let s : size ≤ 2 ^ 63 = grind (arith, nat_tests) in omega (arith, ints, s)

positive_fits : (size : ℕ) (b : Bool) → nat_lt size (2 ^ 63) ≡ b → FitsLong (cond b (Some (pos size)) None)
positive_fits size true h = let s = ltb-true size (2 ^ 63) h in omega (arith, ints, s)
positive_fits size false h = tt

signed_by : (negative : Bool) (size : ℕ)
    → FitsLong (cond negative (cond (nat_lt (2 ^ 63) size) None (Some (pos 0 -ℤ pos size)))
    (cond (nat_lt size (2 ^ 63)) (Some (pos size)) None))
signed_by true size = negative_fits size (nat_lt (2 ^ 63) size) refl
signed_by false size = positive_fits size (nat_lt size (2 ^ 63)) refl

long_by : (o : Option ℤ) → FitsLong o → GoodSome (option_map (λ value. Long (cast_unsigned w64 value)) o)
long_by None h = tt
long_by (Some v) h = (h, tt)

abbrev long_of : Bool → Option ℕ → Option ℤ
long_of negative o = option_and_then (λ size. cond negative (cond (nat_lt (2 ^ 63) size) None (Some (pos 0 -ℤ pos size)))
    (cond (nat_lt size (2 ^ 63)) (Some (pos size)) None)) o

long_fits : (negative : Bool) (o : Option ℕ) → FitsLong (long_of negative o)
long_fits negative None = tt
long_fits negative (Some size) = signed_by negative size

float_by : (o : Option ℕ) → GoodSome (option_and_then (λ bits. cond (nat_lt bits (2 ^ 32)) (Some (Float bits)) None) o)
float_by None = tt
float_by (Some bits) = bits_by (nat_lt bits (2 ^ 32)) refl
  where
    bits_by : (b : Bool) → nat_lt bits (2 ^ 32) ≡ b → GoodSome (cond b (Some (Float bits)) None)
    bits_by true h = (ltb-true bits (2 ^ 32) h, tt)
    bits_by false h = tt

unsigned_by : (negative : Bool) (o : Option ℕ) → IsCapped o
    → IsCapped (option_and_then (λ size. cond (negative && not (eqb size 0)) None (Some size)) o)
unsigned_by negative None h = tt
unsigned_by negative (Some size) h = size_by (negative && not (eqb size 0))
  where
    size_by : (b : Bool) → IsCapped (cond b None (Some size))
    size_by true = tt
    size_by false = h

double_by : (o : Option ℕ) → IsCapped o → GoodSome (option_map (λ bits. Double bits) o)
double_by None h = tt
double_by (Some bits) h = (h, tt)

-- ---- lines

operation_good : (operation : Operation) → PlainOperation operation → GoodSome (operation_entry operation)
operation_good (operations.LoadInt op n) h = integer_by n (int_of n) refl
operation_good (operations.LoadString op text) h = allowed_by (has_text (Str text)) (Str text) h
operation_good (operations.Member op class name desc) h = allowed_by _ (Member (member_tag op) class name desc) h
operation_good (operations.Class op name) h = allowed_by _ (Class name) h
operation_good (operations.Plain op) h = tt
operation_good (operations.Local op n) h = tt
operation_good (operations.Bipush n) h = tt
operation_good (operations.Sipush n) h = tt
operation_good (operations.Newarray code) h = tt
operation_good (operations.Iinc n m) h = tt
operation_good (operations.Jump op label) h = tt
operation_good (operations.GotoW label) h = tt
operation_good (operations.Tableswitch low default labels) h = tt
operation_good (operations.Lookupswitch default cases) h = tt

catch_good : (class : Option (List ℕ)) → PlainOption class → GoodSome (catch_entry class)
catch_good None h = tt
catch_good (Some name) h = allowed_by _ (Class name) h

insns_good : (item : Item) → PlainItem item → AllByRecursion GoodEntry (insn_entries item)
insns_good (items.Insn operation) h = operation_good operation h
insns_good items.Nothing h = tt
insns_good (items.Catch c) h = tt
insns_good (items.Attribute a) h = tt
insns_good items.End h = tt

catches_good : (item : Item) → PlainItem item → AllByRecursion GoodEntry (catch_entries item)
catches_good (items.Catch c) h = catch_good c.class h
catches_good (items.Insn operation) h = tt
catches_good items.Nothing h = tt
catches_good (items.Attribute a) h = tt
catches_good items.End h = tt

attributes_good : (item : Item) → PlainItem item → AllByRecursion GoodEntry (attribute_entries item)
attributes_good (items.Attribute a) h = (h, tt)
attributes_good (items.Insn operation) h = tt
attributes_good (items.Catch c) h = tt
attributes_good items.Nothing h = tt
attributes_good items.End h = tt

lines_good : (entries : Item → List Entry) → ((item : Item) → PlainItem item → AllByRecursion GoodEntry (entries item))
    → (lines : List CodeLine) → AllByRecursion (λ code. PlainItem code.item) lines
    → AllByRecursion GoodNeed (flat_map (line_needs entries) lines)
lines_good entries each [] h = tt
lines_good entries each (code ∷ lines) h =
    all_joined GoodNeed (line_needs entries code) (flat_map (line_needs entries) lines)
    (to_needed GoodEntry code.line (entries code.item) (each code.item h.0)) (lines_good entries each lines h.1)

code_good : (m : MethodLines) → OpenMethod m → AllByRecursion GoodNeed (code_needs m)
code_good m h =
    let insns = flat_map (line_needs insn_entries) m.lines in
    let catches = flat_map (line_needs catch_entries) m.lines in
    let attributes = flat_map (line_needs attribute_entries) m.lines in
    let name = needed m.line (Utf8 (codes "Code") ∷ []) in
    all_joined GoodNeed (name ++ insns ++ catches) attributes
    (all_joined GoodNeed (name ++ insns) catches
    (all_joined GoodNeed name insns (refl, tt) (lines_good insn_entries insns_good m.lines h.items))
    (lines_good catch_entries catches_good m.lines h.items))
    (lines_good attribute_entries attributes_good m.lines h.items)

codes_by : (m : MethodLines) (b : Bool) → OpenMethod m → AllByRecursion GoodNeed (cond b (code_needs m) [])
codes_by m true h = code_good m h
codes_by m false h = tt

method_good : (m : MethodLines) → GoodMethod m → AllByRecursion GoodNeed (method_needs m)
method_good m h =
    all_joined GoodNeed (needed m.line (Utf8 m.head.name ∷ Utf8 m.head.desc ∷ [])) (cond (is_some m.head.sizes) (code_needs m) [])
    (h.open_method.head.name, (h.open_method.head.desc, tt)) (codes_by m (is_some m.head.sizes) h.open_method)

constant_good : (c : Constant) → PlainConstant c → GoodSome (constant_entry c)
constant_good (constants.Long n) h = long_by (signed_of n) (long_fits n.negative n.size)
constant_good (constants.Float n) h = float_by (unsigned_of n)
constant_good (constants.Double n) h = double_by (unsigned_of n) (unsigned_by n.negative n.size h)
constant_good (constants.Str text) h = (h, tt)

-- ---- the listing

each_good : {A : Type 0} (P : A → Type 0) (f : A → List Need) → ((x : A) → P x → AllByRecursion GoodNeed (f x)) → (xs : List A)
    → AllByRecursion P xs → AllByRecursion GoodNeed (flat_map f xs)
each_good P f each [] h = tt
each_good P f each (x ∷ xs) h = all_joined GoodNeed (f x) (flat_map f xs) (each x h.0) (each_good P f each xs h.1)

supers : (o : Option (List ℕ)) → PlainOption o → IsPlain (unwrap_or o (codes "java/lang/Object"))
supers None h = refl
supers (Some name) h = h

interfaces_good : (names : List (List ℕ)) → ArePlain names → AllByRecursion GoodEntry (map (λ name. Class name) names)
interfaces_good [] h = tt
interfaces_good (name ∷ names) h = (h.0, interfaces_good names h.1)

pub needs_good : (line : ℕ) (class : ClassLine) (listing : Listing) → PlainClass class → GoodListing listing
    → AllByRecursion GoodNeed (listing_needs line class listing)
needs_good line class listing c l =
    let own = class_needs line class in
    let fields = flat_map field_needs listing.fields in
    let methods = flat_map method_needs listing.methods in
    let attributes = flat_map attribute_needs listing.attributes in
    let rest = flat_map constant_needs listing.constants in
    all_joined GoodNeed (own ++ fields ++ methods ++ attributes) rest
    (all_joined GoodNeed (own ++ fields ++ methods) attributes
    (all_joined GoodNeed (own ++ fields) methods
    (all_joined GoodNeed own fields
    (to_needed GoodEntry line (Class class.name ∷ Class (super_of class) ∷ map (λ name. Class name) class.interfaces)
    (c.0, (supers class.super_name c.1, interfaces_good class.interfaces c.2)))
    (each_good (λ f. PlainField f.1) field_needs (λ f h. (h.0, (h.1, tt))) listing.fields l.fields))
    (each_good GoodMethod method_needs method_good listing.methods l.methods))
    (each_good (λ a. PlainAttribute a.1) attribute_needs (λ a h. (h, tt)) listing.attributes l.attributes))
    (each_good (λ k. PlainConstant k.1) constant_needs
    (λ k h. to_needed GoodEntry k.0 (option_to_list (constant_entry k.1)) (constant_good k.1 h)) listing.constants l.constants)
