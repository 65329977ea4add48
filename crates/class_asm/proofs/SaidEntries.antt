-- What the lines of a listing without faults name in its pool.
use Rattle.std.proofs.Common.{◌≡◌, ℕ, ℤ, ◌+◌, ◌<◌, ◌^◌, Bool, true, false, cond, ◌&&◌, eqb, List, [], ◌∷◌, ◌++◌, map, Option, Some}
use Rattle.std.proofs.Common.{None, is_some, refl, sym, ap, subst, ◌∙◌}
use Rattle.std.specs.Prelude.{option_map, nat_lt, nat_le}
use Rattle.std.specs.List.{flat_map, AllByRecursion}
use Rattle.std.specs.Option.{option_map_or, option_and_then, option_to_list}
use Rattle.list_views.proofs.Quantified.{all_front, all_back}
use Rattle.class_pool.specs.Text.{value_of, pair_of, member_of, name_and_type_at, member_at}
use Rattle.class_base.specs.ClassNames.{is_class_name}
use Rattle.class_base.specs.MethodTypes.{method_words}
use Rattle.asm_lines.specs.declared.item.CatchLine.{CatchLine}
use Rattle.asm_lines.specs.declared.item.Item.{Item}
use Rattle.asm_lines.specs.declared.item.Item.TheVariants as items
use Rattle.asm_lines.specs.declared.listing.CodeLine.{CodeLine}
use Rattle.asm_lines.specs.declared.number.Number.{Number}
use Rattle.asm_lines.specs.declared.operation.Operation.{Operation}
use Rattle.asm_lines.specs.declared.operation.Operation.TheVariants as operations
use Rattle.asm_lines.specs.declared.statement.AttributeLine.{AttributeLine}
use Rattle.asm_lines.specs.Numbers.{int_of}
use Rattle.class_asm.specs.declared.asm_codes.pooled.PoolOperand.{PoolOperand}
use Rattle.class_asm.specs.asm_codes.Said.{NamedBy, IsNamed}
use Rattle.class_asm.specs.asm_pool.Entries.{Entry, Utf8, Integer, Class, Str, Member, NameAndType, has_text}
use Rattle.class_asm.specs.asm_pool.Needs.{member_tag, is_member_descriptor, is_class_or_array, insn_entries, catch_entries, line_needs, catch_entry}
use Rattle.class_asm.specs.asm_pool.Pools.{numbered, number_of}
use Rattle.class_asm.proofs.PoolBounds.{room}
use Rattle.class_asm.proofs.PoolEntries.{AllIn, IsIn, in_file, entry_is, of_needed}
use Rattle.class_asm.proofs.PoolRules.{text_there, class_there}
use Rattle.asm_lines.proofs.Faultless.{first_of_both, second_of_both}
use Rattle.class_asm.specs.Classes.{call_words, entry_need, item_need, pooled, no_need}
use Rattle.class_asm.specs.Rules.{content_fits}
use Rattle.class_asm.specs.Said.{string_of, string_at, NamesEntry, NamesCaught}
use Rattle.class_asm.proofs.KeptRules.{Found}

-- ---- entries by what they say

string_there : (es : List Entry) (text : List ℕ) → AllIn es (Str text) → 1 + room es < 2 ^ 16
    → string_at (in_file es) (number_of (numbered es) (Str text)) ≡ Some text
string_there es text h small = ap (option_and_then (string_of (in_file es))) (entry_is es (Str text) h.1.0 small)
    ∙ text_there es text h.0 small

pair_there : (es : List Entry) (name desc : List ℕ) → IsIn es (Utf8 name) → IsIn es (Utf8 desc) → IsIn es (NameAndType name desc)
    → 1 + room es < 2 ^ 16
    → name_and_type_at (in_file es) (number_of (numbered es) (NameAndType name desc)) ≡ Some (name, desc)
pair_there es name desc n d h small = ap (option_and_then (pair_of (in_file es))) (entry_is es (NameAndType name desc) h small)
    ∙ rw (text_there es name n small, text_there es desc d small) refl

member_there : (es : List Entry) (tag : ℕ) (class name desc : List ℕ) → AllIn es (Member tag class name desc) → 1 + room es < 2 ^ 16
    → member_at (in_file es) (number_of (numbered es) (Member tag class name desc)) ≡ Some (tag, class, name, desc)
member_there es tag class name desc h small =
    ap (option_and_then (member_of (in_file es))) (entry_is es (Member tag class name desc) h.1.1.1.1.1.0 small)
    ∙ rw (class_there es class (h.0, (h.1.0, tt)) small, pair_there es name desc h.1.1.0 h.1.1.1.0 h.1.1.1.1.0 small) refl

-- ---- instructions

abbrev IsNamedIn : List Entry → Item → Type 0
IsNamedIn es item = NamedBy (NamesEntry (in_file es)) (NamesCaught (in_file es)) item (item_need (numbered es) item)

abbrev With : List Entry → Operation → Option Entry → Type 0
With es operation entry = NamedBy (NamesEntry (in_file es)) (NamesCaught (in_file es)) (items.Insn operation)
    (entry_need (numbered es) (call_words operation) entry)

int_named : (es : List Entry) (op : ℕ) (n : Number) (o : Option ℤ) → int_of n ≡ o → 1 + room es < 2 ^ 16
    → AllByRecursion (AllIn es) (option_to_list (option_map (λ value. Integer value) o))
    → With es (operations.LoadInt op n) (option_map (λ value. Integer value) o)
int_named es op n None e small h = tt
int_named es op n (Some value) e small h = (value, e, ap (option_and_then value_of) (entry_is es (Integer value) h.0.0 small))

string_named : (es : List Entry) (op : ℕ) (text : List ℕ) (b : Bool) → 1 + room es < 2 ^ 16
    → AllByRecursion (AllIn es) (option_to_list (cond b (Some (Str text)) None))
    → With es (operations.LoadString op text) (cond b (Some (Str text)) None)
string_named es op text true small h = string_there es text h.0 small
string_named es op text false small h = tt

class_named : (es : List Entry) (op : ℕ) (name : List ℕ) (b : Bool) → 1 + room es < 2 ^ 16
    → AllByRecursion (AllIn es) (option_to_list (cond b (Some (Class name)) None))
    → With es (operations.Class op name) (cond b (Some (Class name)) None)
class_named es op name true small h = class_there es name h.0 small
class_named es op name false small h = tt

counted_by : (words : ℕ) (b : Bool) → nat_lt 0 (cond b (words + 1) 0) ≡ true → Some (words + 1) ≡ Some (cond b (words + 1) 0)
counted_by words true h = refl
counted_by words false h = absurd cc

counted : (o : Option ℕ) → nat_lt 0 (option_map_or (λ words. cond (nat_le words 254) (words + 1) 0) o 0) ≡ true
    → option_map (λ words. words + 1) o ≡ Some (option_map_or (λ words. cond (nat_le words 254) (words + 1) 0) o 0)
counted None h = absurd cc
counted (Some words) h = counted_by words (nat_le words 254) h

counts : (op : ℕ) (class name desc : List ℕ) → is_member_descriptor op desc ≡ true → op ≡ 185
    → option_map (λ words. words + 1) (method_words desc) ≡ Some (call_words (operations.Member op class name desc))
counts op class name desc h e =
    subst (λ (k : ℕ). is_member_descriptor k desc ≡ true
    → option_map (λ words. words + 1) (method_words desc) ≡ Some (call_words (operations.Member k class name desc))) (sym e)
    (λ d. counted (method_words desc) d) h

member_named : (es : List Entry) (op : ℕ) (class name desc : List ℕ) (b : Bool) → (b ≡ true → is_member_descriptor op desc ≡ true)
    → 1 + room es < 2 ^ 16
    → AllByRecursion (AllIn es) (option_to_list (cond b (Some (Member (member_tag op) class name desc)) None))
    → With es (operations.Member op class name desc) (cond b (Some (Member (member_tag op) class name desc)) None)
member_named es op class name desc true good small h =
    (member_there es (member_tag op) class name desc h.0 small, counts op class name desc (good refl))
member_named es op class name desc false good small h = tt

insn_named : (es : List Entry) (operation : Operation) → 1 + room es < 2 ^ 16
    → AllByRecursion (AllIn es) (insn_entries (items.Insn operation)) → IsNamedIn es (items.Insn operation)
insn_named es (operations.LoadInt op n) small h = int_named es op n (int_of n) refl small h
insn_named es (operations.LoadString op text) small h = string_named es op text (true && has_text (Str text)) small h
insn_named es (operations.Member op class name desc) small h =
    let good = is_class_name class && is_member_descriptor op desc in
    let entry = Member (member_tag op) class name desc in
    member_named es op class name desc (good && has_text entry)
    (λ e. second_of_both (is_class_name class) (is_member_descriptor op desc) (first_of_both good (has_text entry) e)) small h
insn_named es (operations.Class op name) small h = class_named es op name (is_class_or_array name && has_text (Class name)) small h
insn_named es (operations.Plain op) small h = tt
insn_named es (operations.Local op n) small h = tt
insn_named es (operations.Bipush n) small h = tt
insn_named es (operations.Sipush n) small h = tt
insn_named es (operations.Newarray code) small h = tt
insn_named es (operations.Iinc n m) small h = tt
insn_named es (operations.Jump op label) small h = tt
insn_named es (operations.GotoW label) small h = tt
insn_named es (operations.Tableswitch low default labels) small h = tt
insn_named es (operations.Lookupswitch default cases) small h = tt

-- ---- the exception table

abbrev CaughtBy : List Entry → CatchLine → Option PoolOperand → Type 0
CaughtBy es c need = NamedBy (NamesEntry (in_file es)) (NamesCaught (in_file es)) (items.Catch c) need

class_caught : (es : List Entry) (c : CatchLine) (name : List ℕ) (b : Bool) → c.class ≡ Some name → 1 + room es < 2 ^ 16
    → AllByRecursion (AllIn es) (option_to_list (cond b (Some (Class name)) None))
    → CaughtBy es c (entry_need (numbered es) 0 (cond b (Some (Class name)) None))
class_caught es c name true same small h =
    subst (λ (class : Option (List ℕ)). NamesCaught (in_file es) class (number_of (numbered es) (Class name))) (sym same)
    (class_there es name h.0 small)
class_caught es c name false same small h = tt

catch_named : (es : List Entry) (c : CatchLine) (class : Option (List ℕ)) → c.class ≡ class → 1 + room es < 2 ^ 16
    → AllByRecursion (AllIn es) (option_to_list (catch_entry class))
    → CaughtBy es c (cond (is_some class) (entry_need (numbered es) 0 (catch_entry class)) (Some no_need))
catch_named es c None same small h = subst (λ (class : Option (List ℕ)). NamesCaught (in_file es) class 0) (sym same) refl
catch_named es c (Some name) same small h = class_caught es c name (is_class_name name && has_text (Class name)) same small h

-- ---- lines

content_named : (es : List Entry) (a : AttributeLine) (b : Bool)
    → NamedBy (NamesEntry (in_file es)) (NamesCaught (in_file es)) (items.Attribute a) (cond b (Some no_need) None)
content_named es a true = tt
content_named es a false = tt

item_named : (es : List Entry) (item : Item) → 1 + room es < 2 ^ 16 → AllByRecursion (AllIn es) (insn_entries item)
    → AllByRecursion (AllIn es) (catch_entries item) → IsNamedIn es item
item_named es (items.Insn operation) small h k = insn_named es operation small h
item_named es (items.Catch c) small h k = catch_named es c c.class refl small k
item_named es (items.Attribute a) small h k = content_named es a (content_fits a.content)
item_named es items.Nothing small h k = tt
item_named es items.End small h k = tt

pub lines_named : (es : List Entry) (lines : List CodeLine) → 1 + room es < 2 ^ 16
    → AllByRecursion (Found es) (flat_map (line_needs insn_entries) lines)
    → AllByRecursion (Found es) (flat_map (line_needs catch_entries) lines)
    → AllByRecursion (IsNamed (NamesEntry (in_file es)) (NamesCaught (in_file es))) (map (pooled (numbered es)) lines)
lines_named es [] small h k = tt
lines_named es (code ∷ lines) small h k =
    let insns = of_needed (AllIn es) code.line (insn_entries code.item)
    (all_front (Found es) (line_needs insn_entries code) (flat_map (line_needs insn_entries) lines) h) in
    let catches = of_needed (AllIn es) code.line (catch_entries code.item)
    (all_front (Found es) (line_needs catch_entries code) (flat_map (line_needs catch_entries) lines) k) in (
      item_named es code.item small insns catches,
      lines_named es lines small (all_back (Found es) (line_needs insn_entries code) (flat_map (line_needs insn_entries) lines) h)
          (all_back (Found es) (line_needs catch_entries code) (flat_map (line_needs catch_entries) lines) k),
    )
