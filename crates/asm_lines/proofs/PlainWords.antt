-- What the lines of a listing say is made of their words, which are printable ASCII.
use Rattle.std.proofs.Common.{◌≡◌, ℕ, ◌<◌, ◌^◌, Bool, true, false, cond, not, ◌&&◌, eqb, List, [], ◌∷◌, ◌++◌, Option, Some, None}
use Rattle.std.proofs.Common.{is_some, Ok, Err, refl, arith}
use Rattle.std.specs.Prelude.{filter, codes, bit_and, bit_or, nat_lt}
use Rattle.std.specs.List.{AllByRecursion}
use Rattle.std.specs.Option.{option_map_or}
use Rattle.std.specs.Str.{bytes_eq}
use Rattle.std.proofs.lemmas.Bool.{ltb-true, and_parts}
use Rattle.std.proofs.lemmas.Nat.{or_lt}
use Rattle.code_forms.specs.Spellings as spellings
use Rattle.code_forms.specs.Spellings.{Spelling, spelling}
use Rattle.asm_lines.specs.declared.fault.AsmFault.TheVariants.{Syntax}
use Rattle.asm_lines.specs.declared.number.Number.{Number}
use Rattle.asm_lines.specs.declared.operation.Operation.{Operation}
use Rattle.asm_lines.specs.declared.operation.Operation.TheVariants as operations
use Rattle.asm_lines.specs.declared.item.CatchLine.{CatchLine}
use Rattle.asm_lines.specs.declared.item.Item.{Item}
use Rattle.asm_lines.specs.declared.item.Item.TheVariants as items
use Rattle.asm_lines.specs.declared.class_line.Expected.{Expected}
use Rattle.asm_lines.specs.declared.class_line.Expected.TheVariants.{Any, SuperName, InterfaceName, Major}
use Rattle.asm_lines.specs.declared.statement.AttributeLine.{AttributeLine}
use Rattle.asm_lines.specs.declared.statement.ClassLine.{ClassLine}
use Rattle.asm_lines.specs.declared.statement.Constant.{Constant}
use Rattle.asm_lines.specs.declared.statement.Constant.TheVariants as constants
use Rattle.asm_lines.specs.declared.statement.FieldLine.{FieldLine}
use Rattle.asm_lines.specs.declared.statement.MethodLine.{MethodLine}
use Rattle.asm_lines.specs.ClassLines.{plain_class, any_word, class_word, ends_class, class_words, class_line}
use Rattle.asm_lines.specs.Items.{caught, make_catch, catch_line, Names, operation_of, plain_item, item_of}
use Rattle.asm_lines.specs.Numbers.{is_digits, decimal, capped, number_of_digits, number_of}
use Rattle.asm_lines.specs.Operations.{one_number, load_value, load_operation, member_operation, increment_operation, some_labels}
use Rattle.asm_lines.specs.Operations.{table_operation, cases_of, lookup_operation, array_operation, operands, template, opcode_in}
use Rattle.asm_lines.specs.Operations.{kind_code}
use Rattle.asm_lines.specs.LinesAndWords.{onto, parts, is_word, words_of, is_plain_byte, is_plain}
use Rattle.list_views.specs.Results.{◌>>=◌}
use Rattle.asm_lines.specs.Statements.{Said, Words, next_word, no_more, is_new, number_word, one_word, constant_of, constant_line}
use Rattle.asm_lines.specs.Statements.{static_word, make_field, field_line, flag_of, flag_words, size_words, sizes_of, make_method}
use Rattle.asm_lines.specs.Statements.{method_line, hex_word, make_attribute, attribute_line}

-- ---- plain texts

abbrev pub IsPlain : List ℕ → Type 0
IsPlain text = is_plain text ≡ true

abbrev pub ArePlain : Words → Type 0
ArePlain words = AllByRecursion IsPlain words

abbrev pub PlainOption : Option (List ℕ) → Type 0
PlainOption None = Unit {0}
PlainOption (Some text) = IsPlain text

onto_plain : (b : ℕ) (ps : Words) → is_plain_byte b ≡ true → ArePlain ps → ArePlain (onto b ps)
onto_plain b [] h k = (rw h refl, tt)
onto_plain b (p ∷ ps) h k = (rw h k.0, k.1)

parted : (b : ℕ) (c : Bool) (ps : Words) → is_plain_byte b ≡ true → ArePlain ps → ArePlain (cond c ([] ∷ ps) (onto b ps))
parted b true ps h k = (refl, k)
parted b false ps h k = onto_plain b ps h k

parts_plain : (at : ℕ) (bytes : List ℕ) → IsPlain bytes → ArePlain (parts at bytes)
parts_plain at [] h = tt
parts_plain at (b ∷ bytes) h =
    let p = and_parts (is_plain_byte b) (is_plain bytes) h in
    parted b (eqb b at) (parts at bytes) p.0 (parts_plain at bytes p.1)

kept : (c : Bool) (w : List ℕ) (ws : Words) → IsPlain w → ArePlain ws → ArePlain (cond c (w ∷ ws) ws)
kept true w ws h k = (h, k)
kept false w ws h k = k

words_kept : (ws : Words) → ArePlain ws → ArePlain (filter is_word ws)
words_kept [] h = tt
words_kept (w ∷ ws) h = kept (is_word w) w (filter is_word ws) h.0 (words_kept ws h.1)

pub words_plain : (text : List ℕ) → IsPlain text → ArePlain (words_of text)
words_plain text h = words_kept (parts 32 text) (parts_plain 32 text h)

-- ---- what is said

-- what is said, unless it is a fault
abbrev pub Holds : {A : Type 0} → (A → Type 0) → Said A → Type 0
Holds P (Ok x) = P x
Holds P (Err fault) = Unit {0}

pub onward : {A B : Type 0} (P : A → Type 0) (Q : B → Type 0) (r : Said A) (next : A → Said B) → Holds P r
    → ((x : A) → P x → Holds Q (next x)) → Holds Q (r >>= next)
onward P Q (Ok x) next h k = k x h
onward P Q (Err fault) next h k = tt

pub after : {A B : Type 0} (Q : B → Type 0) (r : Said A) (next : A → Said B) → ((x : A) → Holds Q (next x)) → Holds Q (r >>= next)
after Q (Ok x) next k = k x
after Q (Err fault) next k = tt

pub either : {B : Type 0} (Q : B → Type 0) (b : Bool) (x y : Said B) → Holds Q x → Holds Q y → Holds Q (cond b x y)
either Q true x y h k = h
either Q false x y h k = k

pub perhaps : {A B : Type 0} (Q : B → Type 0) (f : A → Said B) (o : Option A) (e : Said B) → ((x : A) → Holds Q (f x)) → Holds Q e
    → Holds Q (option_map_or f o e)
perhaps Q f (Some x) e h k = h x
perhaps Q f None e h k = k

abbrev pub PlainNext : List ℕ × Words → Type 0
PlainNext x = IsPlain x.0 × ArePlain x.1

pub next_plain : (line : ℕ) (words : Words) → ArePlain words → Holds PlainNext (next_word line words)
next_plain line [] h = tt
next_plain line (word ∷ words) h = h

one_plain : (line : ℕ) (words : Words) → ArePlain words → Holds IsPlain (one_word line words)
unfolding one_word
one_plain line words h = onward PlainNext IsPlain _ _ (next_plain line words h)
    (λ word w. after IsPlain (no_more line word.1) (λ x0. Ok word.0) (λ _. w.0))

-- ---- fields and attributes

abbrev pub PlainField : FieldLine → Type 0
PlainField f = IsPlain f.name × IsPlain f.desc

pub field_plain : (line : ℕ) (words : Words) → ArePlain words → Holds PlainField (field_line line words)
unfolding field_line
field_plain line words h =
    onward PlainNext PlainField (next_word line words)
    (λ name. next_word line name.1 >>= λ desc. static_word line desc.1 >>= λ is_static. Ok (make_field name.0 desc.0 is_static))
    (next_plain line words h) (λ name n.
    onward PlainNext PlainField (next_word line name.1)
    (λ desc. static_word line desc.1 >>= λ is_static. Ok (make_field name.0 desc.0 is_static)) (next_plain line name.1 n.1) (λ desc d.
    after PlainField (static_word line desc.1) (λ is_static. Ok (make_field name.0 desc.0 is_static)) (λ is_static. (n.0, d.0))))

abbrev pub PlainAttribute : AttributeLine → Type 0
PlainAttribute a = IsPlain a.name

pub attribute_plain : (line : ℕ) (words : Words) → ArePlain words → Holds PlainAttribute (attribute_line line words)
unfolding attribute_line
attribute_plain line words h =
    onward PlainNext PlainAttribute _ _ (next_plain line words h) (λ name n.
    after PlainAttribute (next_word line name.1)
    (λ x0. ◌>>=◌ {B = AttributeLine} (no_more line x0.1)
    (λ y. ◌>>=◌ {B = AttributeLine} (hex_word line x0.0) (λ z. Ok (make_attribute name.0 z))))
    (λ hex. after PlainAttribute (no_more line hex.1)
    (λ x0. ◌>>=◌ {B = AttributeLine} (hex_word line hex.0) (λ y. Ok (make_attribute name.0 y)))
    (λ _. after PlainAttribute (hex_word line hex.0) (λ y. Ok (make_attribute name.0 y)) (λ content. n.0))))

-- ---- constants

abbrev pub IsCapped : Option ℕ → Type 0
IsCapped None = Unit {0}
IsCapped (Some n) = n < 2 ^ 64

-- a number below 2^64, or one past it
abbrev pub IsSmall : Number → Type 0
IsSmall n = IsCapped n.size

abbrev SmallOption : Option Number → Type 0
SmallOption None = Unit {0}
SmallOption (Some n) = IsSmall n

capped_by : (n : ℕ) (b : Bool) → nat_lt n (2 ^ 64) ≡ b → IsCapped (cond b (Some n) None)
capped_by n true h = ltb-true n (2 ^ 64) h
capped_by n false h = tt

pub capped_small : (n : ℕ) → IsCapped (capped n)
capped_small n = capped_by n (nat_lt n (2 ^ 64)) refl

digits_by : (negative : Bool) (digits : List ℕ) (b : Bool)
    → SmallOption (cond b (Some (record { negative = negative; size = capped (decimal digits) })) None)
digits_by negative digits true = capped_small (decimal digits)
digits_by negative digits false = tt

number_by : (b : Bool) (x y : Option Number) → SmallOption x → SmallOption y → SmallOption (cond b x y)
number_by true x y h k = h
number_by false x y h k = k

number_small : (word : List ℕ) → SmallOption (number_of word)
number_small [] = tt
number_small (b ∷ bytes) =
    number_by (eqb b 45) (number_of_digits true bytes) (number_of_digits false (b ∷ bytes)) (digits_by true bytes (is_digits bytes))
    (digits_by false (b ∷ bytes) (is_digits (b ∷ bytes)))

said_number : (line : ℕ) (o : Option Number) → SmallOption o → Holds IsSmall (option_map_or (λ n. Ok n) o (Err (Syntax line)))
said_number line (Some n) h = h
said_number line None h = tt

word_small : (line : ℕ) (word : List ℕ) → Holds IsSmall (number_word line word)
word_small line word = said_number line (number_of word) (number_small word)

abbrev pub PlainConstant : Constant → Type 0
PlainConstant (constants.Long n) = Unit {0}
PlainConstant (constants.Float n) = Unit {0}
PlainConstant (constants.Double n) = IsSmall n
PlainConstant (constants.Str text) = IsPlain text

constant_said : (line : ℕ) (kind value : List ℕ) → IsPlain value → Holds PlainConstant (constant_of line kind value)
unfolding constant_of
constant_said line kind value h =
    either PlainConstant (bytes_eq kind (codes "long")) _ _
    (after PlainConstant (number_word line value) (λ x0. Ok (constants.Long x0)) (λ n. tt))
    (either PlainConstant (bytes_eq kind (codes "float")) _ _
    (after PlainConstant (number_word line value) (λ x0. Ok (constants.Float x0)) (λ n. tt))
    (either PlainConstant (bytes_eq kind (codes "double")) _ _ (onward IsSmall PlainConstant _ _ (word_small line value) (λ n s. s))
    (either PlainConstant (bytes_eq kind (codes "string")) _ _ h tt)))

pub constant_plain : (line : ℕ) (words : Words) → ArePlain words → Holds PlainConstant (constant_line line words)
unfolding constant_line
constant_plain line words h =
    onward PlainNext PlainConstant _ _ (next_plain line words h) (λ kind k.
    onward PlainNext PlainConstant _ _ (next_plain line kind.1 k.1) (λ value v.
    after PlainConstant _ _ (λ _. constant_said line kind.0 value.0 v.0)))

-- ---- the class

abbrev pub PlainClass : ClassLine → Type 0
PlainClass c = IsPlain c.name × PlainOption c.super_name × ArePlain c.interfaces

abbrev PlainStep : Expected × ClassLine → Type 0
PlainStep x = PlainClass x.1

one_more : (ws : Words) (w : List ℕ) → ArePlain ws → IsPlain w → ArePlain (ws ++ w ∷ [])
one_more [] w h k = (k, tt)
one_more (x ∷ ws) w h k = (h.0, one_more ws w h.1 k)

any_plain : (line : ℕ) (class : ClassLine) (word : List ℕ) → PlainClass class → Holds PlainStep (any_word line class word)
unfolding any_word
any_plain line class word h =
    either PlainStep (bytes_eq word (codes "extends")) _ _
    (after PlainStep (is_new line (is_some class.super_name)) (λ x0. Ok (SuperName, class)) (λ _. h))
    (either PlainStep (bytes_eq word (codes "implements")) _ _ h
    (either PlainStep (bytes_eq word (codes "interface")) _ _
    (after PlainStep (is_new line class.is_interface)
    (λ x0. Ok (
      Any,
      record {
        name = class.name;
        super_name = class.super_name;
        interfaces = class.interfaces;
        is_interface =
            true;
        is_abstract = class.is_abstract;
        major = class.major;
      },
    )) (λ _. h))
    (either PlainStep (bytes_eq word (codes "abstract")) _ _
    (after PlainStep (is_new line class.is_abstract)
    (λ x0. Ok (
      Any,
      record {
        name = class.name;
        super_name = class.super_name;
        interfaces = class.interfaces;
        is_interface =
            class.is_interface;
        is_abstract = true;
        major = class.major;
      },
    )) (λ _. h))
    (either PlainStep (bytes_eq word (codes "major")) _ _
    (after PlainStep (is_new line (is_some class.major)) (λ x0. Ok (Major, class)) (λ _. h)) tt))))

word_plain : (line : ℕ) (expected : Expected) (class : ClassLine) (word : List ℕ) → PlainClass class → IsPlain word
    → Holds PlainStep (class_word line expected class word)
unfolding class_word
word_plain line Any class word h w = any_plain line class word h
word_plain line SuperName class word h w = (h.0, w, h.2)
word_plain line InterfaceName class word h w = (h.0, h.1, one_more class.interfaces word h.2 w)
word_plain line Major class word h w = after PlainStep (number_word line word)
    (λ x0. Ok (
      Any,
      record {
        name = class.name;
        super_name = class.super_name;
        interfaces = class.interfaces;
        is_interface =
            class.is_interface;
        is_abstract = class.is_abstract;
        major = Some x0;
      },
    )) (λ n. h)

ends_plain : (line : ℕ) (expected : Expected) (class : ClassLine) → PlainClass class → Holds PlainClass (ends_class line expected class)
ends_plain line Any class h = h
ends_plain line SuperName class h = tt
ends_plain line InterfaceName class h = tt
ends_plain line Major class h = tt

class_words_plain : (line : ℕ) (expected : Expected) (class : ClassLine) (words : Words) → PlainClass class → ArePlain words
    → Holds PlainClass (class_words line expected class words)
class_words_plain line expected class [] h k = ends_plain line expected class h
class_words_plain line expected class (word ∷ words) h k =
    onward PlainStep PlainClass _ _ (word_plain line expected class word h k.0) (λ x p. class_words_plain line x.0 x.1 words p k.1)

pub class_plain : (line : ℕ) (words : Words) → ArePlain words → Holds PlainClass (class_line line words)
unfolding class_line
class_plain line words h =
    onward PlainNext PlainClass _ _ (next_plain line words h)
    (λ name n. class_words_plain line Any (plain_class name.0) name.1 (n.0, tt, tt) n.1)

-- ---- the line that begins a method

-- Its flags say whether it has code, and so do its sizes.
pub record GoodHead (head : MethodLine) : Type 0 where
  pub name : IsPlain head.name
  pub desc : IsPlain head.desc
  pub sizes : eqb (bit_and head.flags 0x0500) 0 ≡ is_some head.sizes
  pub flags : head.flags < 2 ^ 11

abbrev SmallFlag : Option ℕ → Type 0
SmallFlag None = Unit {0}
SmallFlag (Some flag) = flag < 2 ^ 11

flag_by : (b : Bool) (x y : Option ℕ) → SmallFlag x → SmallFlag y → SmallFlag (cond b x y)
flag_by true x y h k = h
flag_by false x y h k = k

flag_small : (word : List ℕ) → SmallFlag (flag_of word)
flag_small word =
    flag_by (bytes_eq word (codes "static")) _ _ (omega arith)
    (flag_by (bytes_eq word (codes "private")) _ _ (omega arith)
    (flag_by (bytes_eq word (codes "abstract")) _ _ (omega arith)
    (flag_by (bytes_eq word (codes "native")) _ _ (omega arith)
    (flag_by (bytes_eq word (codes "synchronized")) _ _ (omega arith) tt))))

abbrev PlainFlags : ℕ × Words → Type 0
PlainFlags x = (x.0 < 2 ^ 11) × ArePlain x.1

flags_on : (line flags : ℕ) (o : Option ℕ) (word : List ℕ) (words : Words) → SmallFlag o → flags < 2 ^ 11 → ArePlain (word ∷ words)
    → ((f : ℕ) → f < 2 ^ 11 → Holds PlainFlags (flag_words line f words))
    → Holds PlainFlags (option_map_or (λ flag. cond (eqb (bit_and flags flag) 0) (flag_words line (bit_or flags flag) words)
    (Err (Syntax line))) o (Ok (flags, word ∷ words)))
flags_on line flags None word words s small h more = (small, h)
flags_on line flags (Some flag) word words s small h more = either PlainFlags (eqb (bit_and flags flag) 0) _ _
    (more (bit_or flags flag) (or_lt 11 flags flag small s)) tt

flags_plain : (line flags : ℕ) (words : Words) → flags < 2 ^ 11 → ArePlain words → Holds PlainFlags (flag_words line flags words)
flags_plain line flags [] small h = (small, tt)
flags_plain line flags (word ∷ words) small h =
    flags_on line flags (flag_of word) word words (flag_small word) small h (λ f s. flags_plain line f words s h.1)

abbrev IsSized : Bool → Option (Number × Number) → Type 0
IsSized b s = b ≡ is_some s

abbrev some_sizes : Number × Number → Said (Option (Number × Number))
some_sizes sizes = Ok (Some sizes)

abbrev no_sizes : Unit {0} → Said (Option (Number × Number))
no_sizes _ = Ok None

sizes_by : (line : ℕ) (words : Words) (b : Bool)
    → Holds (IsSized b) (cond b (size_words line words >>= some_sizes) (no_more line words >>= no_sizes))
sizes_by line words true = after (IsSized true) (size_words line words) some_sizes (λ sizes. refl)
sizes_by line words false = after (IsSized false) (no_more line words) no_sizes (λ _. refl)

sizes_plain : (line flags : ℕ) (words : Words) → Holds (IsSized (eqb (bit_and flags 0x0500) 0)) (sizes_of line flags words)
unfolding sizes_of
sizes_plain line flags words = sizes_by line words (eqb (bit_and flags 0x0500) 0)

made_head : (name desc : List ℕ) (flags : ℕ) (sizes : Option (Number × Number)) → IsPlain name → IsPlain desc → flags < 2 ^ 11
    → IsSized (eqb (bit_and flags 0x0500) 0) sizes
    → GoodHead (make_method name desc flags sizes)
made_head name desc flags sizes n d f s = record {
  name = n;
  desc = d;
  sizes = s;
  flags = f;
}

pub head_plain : (line : ℕ) (words : Words) → ArePlain words → Holds GoodHead (method_line line words)
unfolding method_line
head_plain line words h =
    onward PlainNext GoodHead _ _ (next_plain line words h) (λ name n.
    onward PlainNext GoodHead _ _ (next_plain line name.1 n.1) (λ desc d.
    onward PlainFlags GoodHead _ _ (flags_plain line 0 desc.1 (omega arith) d.1) (λ flags f.
    onward (IsSized (eqb (bit_and flags.0 0x0500) 0)) GoodHead _ _ (sizes_plain line flags.0 flags.1) (λ sizes s.
    made_head name.0 desc.0 flags.0 sizes n.0 d.0 f.0 s))))

-- ---- the lines of a method

abbrev pub PlainOperation : Operation → Type 0
PlainOperation (operations.LoadString op text) = IsPlain text
PlainOperation (operations.Member op class name desc) = IsPlain class × IsPlain name × IsPlain desc
PlainOperation (operations.Class op name) = IsPlain name
PlainOperation _ = Unit {0}

load_said : (line op : ℕ) (kind value : List ℕ) → IsPlain value → Holds PlainOperation (load_value line op kind value)
unfolding load_value
load_said line op kind value h =
    either PlainOperation (bytes_eq kind (codes "int")) _ _
    (after PlainOperation (number_word line value) (λ x0. Ok (operations.LoadInt op x0)) (λ n. tt))
    (either PlainOperation (bytes_eq kind (codes "string")) _ _ h tt)

load_plain : (line op : ℕ) (words : Words) → ArePlain words → Holds PlainOperation (load_operation line op words)
unfolding load_operation
load_plain line op words h =
    onward PlainNext PlainOperation _ _ (next_plain line words h) (λ kind k.
    onward PlainNext PlainOperation _ _ (next_plain line kind.1 k.1) (λ value v.
    after PlainOperation _ _ (λ _. load_said line op kind.0 value.0 v.0)))

member_plain : (line op : ℕ) (words : Words) → ArePlain words → Holds PlainOperation (member_operation line op words)
unfolding member_operation
member_plain line op words h =
    onward PlainNext PlainOperation _ _ (next_plain line words h) (λ class c.
    onward PlainNext PlainOperation _ _ (next_plain line class.1 c.1) (λ name n.
    onward PlainNext PlainOperation _ _ (next_plain line name.1 n.1) (λ desc d.
    after PlainOperation (no_more line desc.1) (λ _. Ok (operations.Member op class.0 name.0 desc.0)) (λ _. (c.0, n.0, d.0)))))

increment_plain : (line : ℕ) (words : Words) → Holds PlainOperation (increment_operation line words)
unfolding increment_operation
increment_plain line words =
    after PlainOperation (next_word line words)
    (λ local. next_word line local.1 >>= λ value. no_more line value.1 >>= λ _. number_word line local.0 >>= λ n. number_word
    line value.0 >>= λ m. Ok (operations.Iinc n m)) (λ local.
    after PlainOperation (next_word line local.1)
    (λ value. no_more line value.1 >>= λ _. number_word line local.0 >>= λ n. number_word line value.0 >>= λ m. Ok
    (operations.Iinc n m)) (λ value.
    after PlainOperation (no_more line value.1)
    (λ _. number_word line local.0 >>= λ n. number_word line value.0 >>= λ m. Ok (operations.Iinc n m)) (λ _.
    after PlainOperation (number_word line local.0) (λ n. number_word line value.0 >>= λ m. Ok (operations.Iinc n m)) (λ n.
    after PlainOperation (number_word line value.0) (λ m. Ok (operations.Iinc n m)) (λ m. tt)))))

table_plain : (line : ℕ) (words : Words) → Holds PlainOperation (table_operation line words)
unfolding table_operation
table_plain line words =
    after PlainOperation (next_word line words)
    (λ x0. ◌>>=◌ {B = Operation} (next_word line x0.1)
    (λ y. ◌>>=◌ {B = Operation} (some_labels line y.1)
    (λ z. ◌>>=◌ {B = Operation} (number_word line x0.0) (λ w0. Ok (operations.Tableswitch w0 y.0 z)))))
    (λ low. after PlainOperation (next_word line low.1)
    (λ x0. ◌>>=◌ {B = Operation} (some_labels line x0.1)
    (λ y. ◌>>=◌ {B = Operation} (number_word line low.0) (λ z. Ok (operations.Tableswitch z x0.0 y))))
    (λ default. after PlainOperation (some_labels line default.1)
    (λ x0. ◌>>=◌ {B = Operation} (number_word line low.0) (λ y. Ok (operations.Tableswitch y default.0 x0)))
    (λ labels. after PlainOperation (number_word line low.0) (λ x0. Ok (operations.Tableswitch x0 default.0 labels)) (λ n. tt))))

lookup_plain : (line : ℕ) (words : Words) → Holds PlainOperation (lookup_operation line words)
unfolding lookup_operation
lookup_plain line words = after PlainOperation (next_word line words)
    (λ x0. ◌>>=◌ {B = Operation} (cases_of line x0.1) (λ y. Ok (operations.Lookupswitch x0.0 y)))
    (λ default. after PlainOperation (cases_of line default.1) (λ x0. Ok (operations.Lookupswitch default.0 x0)) (λ cases. tt))

array_plain : (line : ℕ) (words : Words) → Holds PlainOperation (array_operation line words)
unfolding array_operation
array_plain line words = after PlainOperation (one_word line words) _
    (λ kind. perhaps PlainOperation (λ x0. Ok (operations.Newarray x0)) (kind_code kind) (Err (Syntax line)) (λ code. tt) tt)

operands_plain : (line : ℕ) (s : Spelling) (words : Words) → ArePlain words → Holds PlainOperation (operands line s words)
unfolding operands
operands_plain line (spellings.Plain op) words h = after PlainOperation (no_more line words) (λ x0. Ok (operations.Plain op)) (λ _. tt)
operands_plain line (spellings.Byte op n) words h = either PlainOperation (eqb op 18) _ _ (load_plain line op words h)
    (after PlainOperation (one_number line words) (λ x0. Ok (operations.Local op x0)) (λ local. tt))
operands_plain line (spellings.Pair op n) words h =
    either PlainOperation (eqb op 19) _ _ (load_plain line op words h)
    (either PlainOperation _ _ _ (member_plain line op words h)
    (onward IsPlain PlainOperation _ _ (one_plain line words h) (λ class c. c)))
operands_plain line (spellings.SignedByte op v) words h = after PlainOperation (one_number line words)
    (λ x0. Ok (operations.Bipush x0)) (λ n. tt)
operands_plain line (spellings.SignedPair op v) words h = after PlainOperation (one_number line words)
    (λ x0. Ok (operations.Sipush x0)) (λ n. tt)
operands_plain line (spellings.Jump op target) words h = after PlainOperation (one_word line words)
    (λ x0. Ok (operations.Jump op x0)) (λ label. tt)
operands_plain line (spellings.FarJump op target) words h = after PlainOperation (one_word line words)
    (λ x0. Ok (operations.GotoW x0)) (λ label. tt)
operands_plain line (spellings.Increment op n v) words h = increment_plain line words
operands_plain line (spellings.Table op default low targets) words h = table_plain line words
operands_plain line (spellings.Lookup op default cases) words h = lookup_plain line words
operands_plain line (spellings.Interface op n count) words h = member_plain line op words h
operands_plain line (spellings.Array op code) words h = array_plain line words
operands_plain line (spellings.WideLocal op n) words h = tt
operands_plain line (spellings.WideIncrement op n v) words h = tt

operation_plain : (names : Names) (line : ℕ) (word : List ℕ) (words : Words) → ArePlain words
    → Holds PlainOperation (operation_of names line word words)
unfolding operation_of
operation_plain names line word words h =
    perhaps PlainOperation _ (opcode_in names word) _
    (λ op. perhaps PlainOperation _ (template op) _ (λ insn. operands_plain line (spelling insn) words h) tt) tt

abbrev pub PlainItem : Item → Type 0
PlainItem (items.Insn operation) = PlainOperation operation
PlainItem (items.Catch c) = PlainOption c.class
PlainItem (items.Attribute a) = PlainAttribute a
PlainItem _ = Unit {0}

abbrev PlainCatch : CatchLine → Type 0
PlainCatch c = PlainOption c.class

caught_by : (b : Bool) (class : List ℕ) → IsPlain class → PlainOption (cond b None (Some class))
caught_by true class h = tt
caught_by false class h = h

catch_plain : (line : ℕ) (words : Words) → ArePlain words → Holds PlainCatch (catch_line line words)
unfolding catch_line
catch_plain line words h =
    onward PlainNext PlainCatch _ _ (next_plain line words h) (λ class c.
    after PlainCatch (next_word line class.1)
    (λ x0. ◌>>=◌ {B = CatchLine} (next_word line x0.1)
    (λ y. ◌>>=◌ {B = CatchLine} (next_word line y.1)
    (λ z. ◌>>=◌ {B = CatchLine} (no_more line z.1) (λ w0. Ok (make_catch (caught class.0) x0.0 y.0 z.0)))))
    (λ from. after PlainCatch (next_word line from.1)
    (λ x0. ◌>>=◌ {B = CatchLine} (next_word line x0.1)
    (λ y. ◌>>=◌ {B = CatchLine} (no_more line y.1) (λ z. Ok (make_catch (caught class.0) from.0 x0.0 y.0))))
    (λ to. after PlainCatch (next_word line to.1)
    (λ x0. ◌>>=◌ {B = CatchLine} (no_more line x0.1) (λ y. Ok (make_catch (caught class.0) from.0 to.0 x0.0)))
    (λ handler. after PlainCatch (no_more line handler.1) (λ x0. Ok (make_catch (caught class.0) from.0 to.0 handler.0)) (λ _.
    caught_by (bytes_eq class.0 (codes "any")) class.0 c.0)))))

insn_plain : (names : Names) (line : ℕ) (labelled : Bool) (word : List ℕ) (words : Words) → ArePlain words
    → Holds PlainItem (plain_item names line labelled word words)
unfolding plain_item
insn_plain names line labelled word words h =
    either PlainItem (not labelled && bytes_eq word (codes "class")) _ _ tt
    (onward PlainOperation PlainItem _ _ (operation_plain names line word words h) (λ operation o. o))

pub item_plain : (names : Names) (line : ℕ) (labelled : Bool) (words : Words) → ArePlain words
    → Holds PlainItem (item_of names line labelled words)
unfolding item_of
item_plain names line labelled [] h = tt
item_plain names line labelled (word ∷ words) h =
    either PlainItem (bytes_eq word (codes "end")) _ _
    (after PlainItem (is_new line labelled) (λ x0. ◌>>=◌ {B = Item} (no_more line words) (λ y. Ok items.End))
    (λ _. after PlainItem (no_more line words) (λ y. Ok items.End) (λ _. tt)))
    (either PlainItem (bytes_eq word (codes "catch")) _ _
    (after PlainItem _ _ (λ _. onward PlainCatch PlainItem _ _ (catch_plain line words h.1) (λ entry e. e)))
    (either PlainItem (bytes_eq word (codes "attribute")) _ _
    (after PlainItem _ _ (λ _. onward PlainAttribute PlainItem _ _ (attribute_plain line words h.1) (λ attribute a. a)))
    (insn_plain names line labelled word words h.1)))
