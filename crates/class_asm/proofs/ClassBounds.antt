-- A listing without faults says a class that has a text.
use Rattle.std.proofs.Common.{◌≡◌, ℕ, zero, suc, ◌+◌, ◌*◌, ◌<◌, ◌≤◌, ◌^◌, cond, List, [], ◌∷◌, ◌++◌, length, map, slice_get, Option}
use Rattle.std.proofs.Common.{Some, None, is_some, refl, arith}
use Rattle.std.specs.List.{flat_map, AllByRecursion}
use Rattle.std.specs.Option.{option_map_or}
use Rattle.std.proofs.lemmas.List.{length-append}
use Rattle.class_read.proofs.RuleLaws.{handlers_length}
use Rattle.list_views.proofs.Orders.{nat_lt_true}
use Rattle.list_views.proofs.Quantified.{all_weaker, all_mapped}
use Rattle.list_views.proofs.Items.{length_mapped, get_past}
use Rattle.class_pool.specs.Entry.{HasText}
use Rattle.class_read.specs.Text.{u2, u4, handler_text, attribute_text, code_text}
use Rattle.class_read.specs.Writing.{HasAttrText, HasMemberText, HasClassText}
use Rattle.class_read.specs.declared.text.AttrText.{AttrText}
use Rattle.asm_lines.specs.declared.number.Number.{Number}
use Rattle.asm_lines.specs.declared.item.Item.{Item}
use Rattle.asm_lines.specs.declared.item.Item.TheVariants as items
use Rattle.asm_lines.specs.declared.listing.CodeLine.{CodeLine}
use Rattle.asm_lines.specs.declared.listing.MethodLines.{MethodLines}
use Rattle.asm_lines.specs.declared.listing.Listing.{Listing}
use Rattle.asm_lines.specs.declared.statement.AttributeLine.{AttributeLine}
use Rattle.asm_lines.specs.declared.statement.ClassLine.{ClassLine}
use Rattle.asm_lines.specs.declared.statement.FieldLine.{FieldLine}
use Rattle.class_asm.specs.declared.asm_codes.code.MethodCode.{MethodCode}
use Rattle.asm_lines.specs.declared.fault.AsmFault.TheVariants.{OutOfRange}
use Rattle.asm_lines.specs.Firsts.{with_faults, unless}
use Rattle.class_asm.specs.asm_pool.Needs.{line_needs, attribute_entries, listing_needs}
use Rattle.class_asm.specs.asm_pool.Pools.{Need, Numbered, need_faults, count_faults, pool_entry, number_of, firsts_in, pool_in, pool_faults}
use Rattle.class_asm.specs.asm_pool.Entries.{Entry, Class}
use Rattle.class_asm.specs.Rules.{past_count, seconds, field_key, method_key, fields_faults, methods_faults, attributes_faults}
use Rattle.class_asm.specs.Rules.{field_faults, method_faults, attribute_lines, attribute_faults, constant_faults, content_fits}
use Rattle.class_asm.specs.Rules.{class_is_good, rule_faults}
use Rattle.class_asm.specs.Classes as classes
use Rattle.class_asm.specs.Classes.{code_said, code_in, said_faults, item_attributes, code_attributes, attributes_size, code_size}
use Rattle.class_asm.specs.Classes.{code_fits, code_faults, field_text, method_text, class_text, all_faults}
use Rattle.class_asm.proofs.CodeBounds.{few}
use Rattle.asm_lines.proofs.Faultless.{no_faults, left, right, each, is_good, first_of_both, second_of_both, all_both}
use Rattle.class_asm.proofs.PoolBounds.{places_counted}

-- ---- counts

none_past : {A : Type 0} (line_of : A → ℕ) (o : Option A) → option_map_or (λ item. OutOfRange (line_of item) ∷ []) o [] ≡ [] → o ≡ None
none_past line_of None h = refl
none_past line_of (Some x) h = absurd cc

pub within_count : {A : Type 0} (line_of : A → ℕ) (xs : List A) → past_count line_of xs ≡ [] → length xs < 2 ^ 16
within_count line_of xs h = omega (arith, get_past xs 65535 (none_past line_of (slice_get xs 65535) h))

-- ---- members

abbrev at_line : ℕ → Entry → Need
at_line line entry = (entry, line)

-- ---- the size of a code

attribute_size : (a : ℕ × List ℕ) → length (attribute_text a) ≡ 6 + length a.1
attribute_size a = omega (arith, length-append (u2 a.0) (u4 (length a.1) ++ a.1), length-append (u4 (length a.1)) a.1)

all_size : (attributes : List (ℕ × List ℕ)) → length (flat_map attribute_text attributes) ≡ attributes_size attributes
all_size [] = refl
all_size (a ∷ attributes) = omega (
  arith,
  length-append (attribute_text a) (flat_map attribute_text attributes),
  attribute_size a,
  all_size attributes,
)

pub content_size : (max_stack max_locals : ℕ) (code : MethodCode) (attributes : List (ℕ × List ℕ))
    → length (code_text max_stack max_locals code.bytes code.table attributes) ≡ code_size code attributes
content_size max_stack max_locals code attributes =
    let table = code.table in
    let tables : List ℕ = flat_map handler_text table in
    let rest : List ℕ = flat_map attribute_text attributes in
    let last = u2 (length attributes) ++ rest in
    let third = (u2 (length table) ++ tables) ++ last in
    let second = code.bytes ++ third in
    let first = u4 (length code.bytes) ++ second in
    omega (
      arith,
      length-append (u2 max_stack) (u2 max_locals ++ first),
      length-append (u2 max_locals) first,
      length-append (u4 (length code.bytes)) second,
      length-append code.bytes third,
      length-append (u2 (length table) ++ tables) last,
      length-append (u2 (length table)) tables,
      length-append (u2 (length attributes)) rest,
      handlers_length table,
      all_size attributes,
    )

pub each_short : (attributes : List (ℕ × List ℕ)) (most : ℕ) → attributes_size attributes < most
    → AllByRecursion (λ a. length a.1 < most) attributes
each_short [] most h = tt
each_short (a ∷ attributes) most h = (omega (arith, h), each_short attributes most (omega (arith, h)))

-- ---- members

item_count : (pool : Numbered) (line : ℕ) (item : Item) → length (item_attributes pool item) ≡ length (attribute_entries item)
item_count pool line items.Nothing = refl
item_count pool line (items.Insn operation) = refl
item_count pool line (items.Catch x) = refl
item_count pool line (items.Attribute x) = refl
item_count pool line items.End = refl

pub attributes_count : (pool : Numbered) (lines : List CodeLine)
    → length (code_attributes pool lines) ≡ length (flat_map (line_needs attribute_entries) lines)
attributes_count pool [] = refl
attributes_count pool (code ∷ lines) =
    omega (
      arith,
      length-append (item_attributes pool code.item) (code_attributes pool lines),
      length-append (line_needs attribute_entries code) (flat_map (line_needs attribute_entries) lines),
      item_count pool code.line code.item,
      length_mapped (at_line code.line) (attribute_entries code.item),
      attributes_count pool lines,
    )

abbrev attributes_of : Numbered → MethodLines → Option (Number × Number) → List AttrText
attributes_of pool m sizes = option_map_or (λ s. classes.code_text pool m (code_in (code_said pool m)) s ∷ []) sizes []

with_sizes : (pool : Numbered) (m : MethodLines) (sizes : Option (Number × Number)) → length (code_attributes pool m.lines) < 2 ^ 16
    → cond (is_some sizes)
    (said_faults (code_said pool m) ++ unless (code_fits (code_in (code_said pool m)) (code_attributes pool m.lines)) m.line) [] ≡ []
    → (length (attributes_of pool m sizes) < 2 ^ 16) × AllByRecursion HasAttrText (attributes_of pool m sizes)
with_sizes pool m None count h = (omega arith, tt)
with_sizes pool m (Some sizes) count h =
    let code = code_in (code_said pool m) in
    let attributes = code_attributes pool m.lines in
    let bound = few pool m in
    let fits = nat_lt_true (code_size code attributes) (2 ^ 32)
    (is_good _ m.line (right (said_faults (code_said pool m)) (unless (code_fits code attributes) m.line) h)) in (
      omega arith,
      (
        (
          omega (arith, bound.bytes),
          bound.table,
          count,
          each_short attributes (2 ^ 32) (omega (arith, fits)),
          omega (arith, fits, content_size (classes.size_of sizes.0) (classes.size_of sizes.1) code attributes),
        ),
        tt,
      ),
    )

method_bounds : (pool : Numbered) (m : MethodLines) → method_faults m ≡ [] → code_faults pool m ≡ [] → HasMemberText (method_text pool m)
method_bounds pool m h k =
    let lines = within_count (λ line. line) (attribute_lines m.lines)
    (right (unless _ m.line) (past_count (λ line. line) (attribute_lines m.lines)) h) in
    let count : length (code_attributes pool m.lines) < 2 ^ 16 =
    omega (
      arith,
      lines,
      length_mapped (λ need. need.1) (flat_map (line_needs attribute_entries) m.lines),
      attributes_count pool
          m.lines,
    ) in
    let made = with_sizes pool m m.head.sizes count k in
    record { count = made.0; each = made.1 }

field_bounds : (pool : Numbered) (fields : List (ℕ × FieldLine)) → AllByRecursion HasMemberText (map (field_text pool) fields)
field_bounds pool [] = tt
field_bounds pool (f ∷ fields) = (record { count = omega arith; each = tt }, field_bounds pool fields)

attribute_bound : (pool : Numbered) (a : ℕ × AttributeLine) → attribute_faults a ≡ [] → HasAttrText (classes.attribute_text pool a)
attribute_bound pool a h = nat_lt_true (length a.1.content) (2 ^ 32) (is_good (content_fits a.1.content) a.0 h)

-- ---- the class

pub has_text : (line : ℕ) (class : ClassLine) (listing : Listing) → with_faults listing.first.fault (all_faults line class listing) ≡ None
    → let pool = pool_in (listing_needs line class listing) in
    AllByRecursion HasText (map (pool_entry pool) pool.0) → HasClassText (class_text pool class listing)
has_text line class listing h texts =
    let needs = listing_needs line class listing in
    let pool = pool_in needs in
    let none = no_faults listing.first.fault (all_faults line class listing) h in
    let codes = flat_map (code_faults pool) listing.methods in
    let both = left (rule_faults line class listing ++ pool_faults needs) codes none in
    let no_codes = right (rule_faults line class listing ++ pool_faults needs) codes none in
    let no_rules = left (rule_faults line class listing) (pool_faults needs) both in
    let no_count = right (flat_map need_faults needs) (count_faults 1 (firsts_in needs))
    (right (rule_faults line class listing) (pool_faults needs) both) in
    let own = unless (class_is_good class) line in
    let fields = fields_faults listing.fields in
    let methods = methods_faults listing.methods in
    let attributes = attributes_faults listing.attributes in
    let constants = flat_map constant_faults listing.constants in
    let no_rest = left (own ++ fields ++ methods ++ attributes) constants no_rules in
    let no_attributes = right (own ++ fields ++ methods) attributes no_rest in
    let no_members = left (own ++ fields ++ methods) attributes no_rest in
    let no_methods = right (own ++ fields) methods no_members in
    let no_fields = right own fields (left (own ++ fields) methods no_members) in
    let good = is_good (class_is_good class) line (left own fields (left (own ++ fields) methods no_members)) in
    let counted_fields = within_count (λ f. f.0) listing.fields
    (right (flat_map field_faults listing.fields ++ seconds [] (map field_key listing.fields))
    (past_count (λ f. f.0) listing.fields) no_fields) in
    let of_methods = flat_map method_faults listing.methods in
    let second_methods = seconds [] (map method_key listing.methods) in
    let past_methods = past_count (λ m. m.line) listing.methods in
    let counted_methods = within_count (λ m. m.line) listing.methods (right (of_methods ++ second_methods) past_methods no_methods) in
    let each_method = each method_faults listing.methods
    (left of_methods second_methods (left (of_methods ++ second_methods) past_methods no_methods)) in
    let of_attributes = flat_map attribute_faults listing.attributes in
    let past_attributes = past_count (λ a. a.0) listing.attributes in
    let counted_attributes = within_count (λ a. a.0) listing.attributes (right of_attributes past_attributes no_attributes) in
    let interfaces = nat_lt_true (length class.interfaces) (2 ^ 16) (second_of_both _ _ (first_of_both _ _ good)) in
    record {
      pool = record { each = texts; count = places_counted pool (firsts_in needs) no_count };
      interfaces = omega (arith, interfaces, length_mapped (λ name. number_of pool (Class name)) class.interfaces);
      fields = omega (arith, counted_fields, length_mapped (field_text pool) listing.fields);
      each_field = field_bounds pool listing.fields;
      methods = omega (arith, counted_methods, length_mapped (method_text pool) listing.methods);
      each_method = all_mapped HasMemberText (method_text pool) listing.methods
          (all_both (λ m. method_faults m ≡ []) (λ m. code_faults pool m ≡ []) (λ m. HasMemberText (method_text pool m))
          (method_bounds pool) listing.methods each_method
          (each (code_faults pool) listing.methods no_codes));
      attributes = omega (arith, counted_attributes, length_mapped (classes.attribute_text pool) listing.attributes);
      each_attribute = all_mapped HasAttrText (classes.attribute_text pool) listing.attributes
          (all_weaker (λ a. attribute_faults a ≡ []) (λ a. HasAttrText (classes.attribute_text pool a)) (attribute_bound pool)
          listing.attributes
          (each attribute_faults listing.attributes (left of_attributes past_attributes no_attributes)));
    }
