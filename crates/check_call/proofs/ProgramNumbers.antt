-- The numbers of a program whose files are bytes are of their fields' widths, and its methods have few parameters.
use Rattle.std.proofs.Common.{◌≡◌, ◌≤◌, ◌<◌, ◌^◌, ◌+◌, ◌++◌, ◌==◌, ◌||◌, ℕ, zero, suc, ℤ, Bool, true, false, cond, List, [], ◌∷◌}
use Rattle.std.proofs.Common.{length, map, slice_get, Option, Some, None, Ok, Err, FitsSigned, w32, refl, sym, ap, subst, arith}
use Rattle.std.specs.Prelude.{IfSome, slice_index_or}
use Rattle.std.specs.List.{AllByRecursion, flat_map, filter_map, cons_option}
use Rattle.std.specs.Option.{option_map, option_map_or}
use Rattle.std.proofs.lemmas.Option.{none-some}
use Rattle.list_views.specs.ByteLists.{IsBytes}
use Rattle.list_views.proofs.Options.{then_some}
use Rattle.list_views.proofs.Quantified.{all_mapped}
use Rattle.list_views.proofs.Steps.{bind_ok, ok_is}
use Rattle.jvm_values.specs.declared.types.Slot.{Slot}
use Rattle.jvm_values.proofs.Options.{some_is}
use Rattle.class_base.specs.declared.types.FieldType.{FieldType}
use Rattle.class_base.specs.declared.methods.MethodType.{MethodType}
use Rattle.class_base.specs.MethodTypes.{words_of, method_type}
use Rattle.class_base.specs.declared.types.Element.{Element}
use Rattle.class_base.specs.declared.types.Element.TheVariants.{Primitive, Object}
use Rattle.class_base.specs.Types.{element_words, type_words}
use Rattle.class_pool.specs.declared.entry.PoolEntry.{PoolEntry}
use Rattle.class_pool.specs.declared.entry.PoolEntry.TheVariants as entries
use Rattle.class_pool.specs.Entry.{is_wide, HasText}
use Rattle.class_pool.specs.Text.{slots_of as places_taken, places_of, entry_at, integer_at, value_of, tag_at}
use Rattle.class_read.specs.Content.{ClassContent, MethodContent, CodeContent}
use Rattle.code_forms.specs.declared.insn.Insn.{Insn}
use Rattle.code_decode.specs.Codes.{Spells}
use Rattle.code_decode.specs.Texts.{text, Fits}
use Rattle.code_decode.proofs.Laws.{reads}
use Rattle.class_world.specs.World.{World, is_static, is_native}
use Rattle.class_world.specs.Descriptors.{class_slot, meaning_of, known_slot}
use Rattle.class_world.specs.Resolve.{method_at}
use Rattle.class_world.specs.declared.fault.MethodName.{MethodName}
use Rattle.class_world.specs.declared.fault.LinkFault.TheVariants.{Native}
use Rattle.class_world.specs.declared.world.MethodRef.{MethodRef}
use Rattle.class_program.specs.declared.op.Op.{Op}
use Rattle.class_program.specs.declared.op.Op.TheVariants as ops
use Rattle.class_program.specs.declared.program.Method.{Method}
use Rattle.class_program.specs.declared.program.StaticField.{StaticField}
use Rattle.class_program.specs.Refusals.{wanted}
use Rattle.class_program.specs.Said.{each}
use Rattle.class_program.specs.Signatures.{types_of, all_there, all_supported, signature, declared_signature}
use Rattle.class_program.specs.Ops.{constant_of, is_other_constant, pool_of, op_of}
use Rattle.class_program.specs.Methods.{method_name, code_of, op_said, ops_of, with_receiver, method_of}
use Rattle.class_program.specs.Statics.{statics_named}
use Rattle.class_program.specs.Reached.{reached, contents_of, methods_of, insns_numbered, method_numbered, close_of}
use Rattle.class_program.specs.Programs.{ref_of}
use Rattle.class_program.specs.Widths.{IsInWidth, AreInWidth}
use Rattle.class_program.proofs.Got.{got_wanted, all_at, each_good}
use Rattle.class_program.proofs.GoodPrograms.{IsMadeOf, typed_of}
use Rattle.class_program.proofs.GoodCalls.{IsTyped}
use Rattle.class_program.proofs.InWidth.{op_wide, numbered_wide}
use Rattle.class_program.proofs.Made.{method_made}
use Rattle.class_program.proofs.Rising.{insns_read}
use Rattle.check_call.proofs.FileBytes.{IsOfBytes, HasByteCode}

-- ---- instructions

all_fit : (pc : ℕ) (xs : List (ℕ × Insn)) (bytes : List ℕ) → Spells pc xs bytes → AllByRecursion (λ (x : ℕ × Insn). Fits x.0 x.1) xs
all_fit pc [] bytes s = tt
all_fit pc (x ∷ xs) bytes s = (subst (λ (k : ℕ). Fits k x.1) (sym s.2) s.4, all_fit (pc + length (text pc s.0 x.1)) xs s.1 s.6)

-- ---- constants

place_text : (places : List (Option PoolEntry)) (i : ℕ) (e : PoolEntry)
    → AllByRecursion (λ (o : Option PoolEntry). IfSome o HasText) places → slice_index_or places i None ≡ Some e → HasText e
place_text [] i e all is = absurd (none-some e is)
place_text (o ∷ places) zero e all is = subst (λ (p : Option PoolEntry). IfSome p HasText) is all.0
place_text (o ∷ places) (suc i) e all is = place_text places i e all.1 is

all_places : (pool : List PoolEntry) → AllByRecursion HasText pool → AllByRecursion (λ (o : Option PoolEntry). IfSome o HasText)
    (flat_map places_taken pool)
all_places [] all = tt
all_places (e ∷ pool) all = go (is_wide e) (all_places pool all.1)
  where
    go : (b : Bool) → AllByRecursion (λ (o : Option PoolEntry). IfSome o HasText) (flat_map places_taken pool)
        → AllByRecursion (λ (o : Option PoolEntry). IfSome o HasText) ((Some e ∷ cond b (None ∷ []) []) ++ flat_map places_taken pool)
    go true rest = (all.0, (tt, rest))
    go false rest = (all.0, rest)

entry_fits : (e : PoolEntry) (v : ℤ) → HasText e → value_of e ≡ Some v → FitsSigned w32 v
entry_fits (entries.Integer n) v h is = subst (λ (m : ℤ). FitsSigned w32 m) (some_is is) h
entry_fits (entries.Utf8 text) v h is = absurd (none-some v is)
entry_fits (entries.Float bits) v h is = absurd (none-some v is)
entry_fits (entries.Long bits) v h is = absurd (none-some v is)
entry_fits (entries.Double bits) v h is = absurd (none-some v is)
entry_fits (entries.Class name) v h is = absurd (none-some v is)
entry_fits (entries.Str text) v h is = absurd (none-some v is)
entry_fits (entries.Member tag class name) v h is = absurd (none-some v is)
entry_fits (entries.NameAndType name descriptor) v h is = absurd (none-some v is)
entry_fits (entries.MethodHandle kind member) v h is = absurd (none-some v is)
entry_fits (entries.MethodType descriptor) v h is = absurd (none-some v is)
entry_fits (entries.InvokeDynamic bootstrap name) v h is = absurd (none-some v is)

constant_fits : (pool : List PoolEntry) (entry pc : ℕ) (op : Op) → AllByRecursion HasText pool → constant_of pool entry ≡ Ok op
    → IsInWidth pc op
unfolding constant_of
constant_fits pool entry pc op all e = go _ _ (integer_at pool entry) refl (is_other_constant (tag_at pool entry)) e
  where
    go : {E : Type 0} (first second : E) (o : Option ℤ) → integer_at pool entry ≡ o → (b : Bool)
        → option_map_or (λ (value : ℤ). Ok (ops.Constant value)) o (cond b (Err first) (Err second)) ≡ Ok op → IsInWidth pc op
    go first second (Some v) q b f =
        let same : ops.Constant v ≡ op = cc in
        let at = then_some value_of (entry_at pool entry) v q in
        subst (IsInWidth pc) same (entry_fits at.0 v (place_text (places_of pool) entry at.0 (tt, all_places pool all) at.1.0) at.1.1)
    go first second None q true f = absurd (cc)
    go first second None q false f = absurd (cc)

-- ---- instructions with their names resolved

ops_fit : (world : World) (class : ℕ) (name : MethodName) (xs : List (ℕ × Insn)) (ys : List (ℕ × Op))
    → AllByRecursion HasText (pool_of world class) → AllByRecursion (λ (x : ℕ × Insn). Fits x.0 x.1) xs
    → ops_of world class name xs ≡ Ok ys → AreInWidth ys
unfolding ops_of op_said
ops_fit world class name xs ys pool all o =
    each_good (λ (x : ℕ × Insn). Fits x.0 x.1) (λ (y : ℕ × Op). IsInWidth y.0 y.1) (op_said world class name) xs ys
    (λ x y h e.
    let op = bind_ok (op_of world class name x.0 x.1) _ y e in
    let same : (x.0, op.0) ≡ y = cc in
    subst (λ (v : ℕ × Op). IsInWidth v.0 v.1) same
    (op_wide world class name x.0 x.1 op.0 op.1 h (λ entry c. constant_fits (pool_of world class) entry x.0 op.0 pool c)))
    all o

-- ---- methods

-- a method's numbers are of their fields' widths, and it has few parameters
pub record IsSmallMethod (m : Method) : Type 0 where
  pub insns : AreInWidth m.insns
  pub params : length m.params ≤ 256

code_there : (name : MethodName) (m : MethodContent) (code : CodeContent) → code_of name m ≡ Ok code → m.code ≡ Some code
unfolding code_of
code_there name m code e = go (is_native m.flags) m.code e
  where
    go : (b : Bool) (o : Option CodeContent) → cond b (Err (Native name)) (option_map_or Ok o (Err (Native name))) ≡ Ok code
        → o ≡ Some code
    go true o f = absurd (cc)
    go false None f = absurd (cc)
    go false (Some c) f = cc

filtered_few : {A B : Type 0} (f : A → Option B) (xs : List A) → length (filter_map f xs) ≤ length xs
filtered_few f [] = omega arith
filtered_few {B = B} f (x ∷ xs) = go (f x) (filtered_few f xs)
  where
    go : (o : Option B) → length (filter_map f xs) ≤ length xs → length (cons_option o (filter_map f xs)) ≤ suc (length xs)
    go None l = omega (arith, l)
    go (Some y) l = omega (arith, l)

word_some : (t : FieldType) → 1 ≤ type_words t
word_some t = go (t.dims == 0) t.element
  where
    go : (b : Bool) (e : Element) → 1 ≤ cond b (element_words e) 1
    go false e = omega arith
    go true (Object name) = omega arith
    go true (Primitive b) = by ((b == 68) || (b == 74))
      where
        by : (two : Bool) → 1 ≤ cond two 2 1
        by true = omega arith
        by false = omega arith

words_count : (ts : List FieldType) → length ts ≤ words_of ts
words_count [] = omega arith
words_count (t ∷ ts) = let here = word_some t in let rest = words_count ts in omega (arith, here, rest)

-- what holds of the slots of one of two equal things holds of those of the other
few_by : {S : Type 0} (s t : S) → s ≡ t → (params : S → List Slot) → length (params s) ≤ 255 → length (params t) ≤ 255
few_by s t e params l = subst (λ x. length (params x) ≤ 255) e l

params_few : (world : World) (m : Method) (typed : IsTyped world m)
    → ((t : MethodType) → method_type typed.content.desc ≡ Some t → words_of t.params ≤ 255) → length typed.types.params ≤ 255
unfolding declared_signature
params_few world m typed few =
    let t = bind_ok (wanted (method_type typed.content.desc)) _ typed.types typed.types_are in
    let supported = bind_ok (all_supported world (types_of t.0)) _ typed.types t.2 in
    let there = bind_ok (all_there world (types_of t.0)) _ typed.types supported.2 in
    let words = few t.0 (got_wanted (method_type typed.content.desc) t.0 t.1) in
    let slots = filtered_few (λ (f : FieldType). known_slot (meaning_of world f)) t.0.params in
    let counted = words_count t.0.params in
    few_by (signature world t.0) typed.types (ok_is (signature world t.0) typed.types there.2) (λ s. s.params)
    (omega (arith, words, slots, counted))

received_few : (class flags : ℕ) (params : List Slot) → length params ≤ 255 → length (with_receiver class flags params) ≤ 256
received_few class flags params l = go (is_static flags)
  where
    go : (b : Bool) → length (cond b params (class_slot 0 class ∷ params)) ≤ 256
    go true = omega (arith, l)
    go false = omega (arith, l)

-- the class that declares a method
declared : (world : World) (ref : MethodRef) (content : MethodContent) → method_at world ref ≡ Some content → (c : ClassContent)
    × ((slice_get world ref.class ≡ Some c) × (slice_get c.methods ref.index ≡ Some content))
unfolding method_at
declared world ref content e = then_some (λ (c : ClassContent). slice_get c.methods ref.index) (slice_get world ref.class) content e

method_small : (world : World) (refs : List MethodRef) (placed : List StaticField) (m : Method) → AllByRecursion IsOfBytes world
    → IsMadeOf world refs placed m → IsSmallMethod m
method_small world refs placed m good h =
    let c = declared world h.ref h.content h.there in
    let class = all_at IsOfBytes world h.ref.class c.0 good c.1.0 in
    let content = all_at HasByteCode c.0.methods h.ref.index h.content class.methods c.1.1 in
    let pool : AllByRecursion HasText (pool_of world h.ref.class) = subst (AllByRecursion HasText)
    (sym (ap (λ (o : Option ClassContent). option_map_or (λ (x : ClassContent). x.pool) o []) c.1.0)) class.pool in
    let name = method_name world h.ref.class h.content in
    let code = subst (λ (o : Option CodeContent). IfSome o (λ (c : CodeContent). IsBytes c.code × (length c.code < 2 ^ 16)))
    (code_there name h.content h.made.code h.made.code_is) content.code in
    let read = reads h.made.code.code h.made.insns code.0 code.1 (insns_read name h.made.code h.made.insns h.made.insns_are).0 in
    let said = ops_fit world h.ref.class name h.made.insns h.made.ops pool (all_fit 0 h.made.insns h.made.code.code read.spelled)
    h.made.ops_are in
    let put = numbered_wide refs placed h.made.ops said in
    let typed = typed_of world refs placed m h in
    let own = declared world (ref_of m) typed.content typed.there in
    let owner = all_at IsOfBytes world m.class own.0 good own.1.0 in
    let described = all_at HasByteCode own.0.methods m.index typed.content owner.methods own.1.1 in
    let few = received_few m.class typed.content.flags typed.types.params (params_few world m typed described.desc) in
    record {
      insns = subst (λ (r : Method). AreInWidth r.insns) h.same
          (subst (λ (os : List (ℕ × Op)). AreInWidth (insns_numbered refs placed os)) (ap (λ (r : Method). r.insns) h.made.whole) put);
      params = subst (λ (ps : List Slot). length ps ≤ 256) (sym typed.params) few;
    }

-- ---- programs

abbrev AreThere : World → List (MethodRef × MethodContent) → Type 0
AreThere world xs = AllByRecursion (λ (x : MethodRef × MethodContent). method_at world x.0 ≡ Some x.1) xs

contents_there : (world : World) (refs : List MethodRef) → AreThere world (contents_of world refs)
unfolding contents_of
contents_there world [] = tt
contents_there world (r ∷ rs) = go (method_at world r) refl (contents_there world rs)
  where
    go : (o : Option MethodContent) → method_at world r ≡ o
        → AreThere world (filter_map (λ ref. option_map (λ m. (ref, m)) (method_at world ref)) rs)
        → AreThere world (cons_option (option_map (λ m. (r, m)) o)
        (filter_map (λ ref. option_map (λ m. (ref, m)) (method_at world ref)) rs))
    go None q rest = rest
    go (Some m) q rest = (q, rest)

-- the methods of a closed program
pub methods_small : (world : World) (entry : MethodRef) (methods : List Method) → AllByRecursion IsOfBytes world
    → close_of world entry ≡ Ok methods → AllByRecursion IsSmallMethod methods
unfolding close_of methods_of
methods_small world entry methods good e =
    let refs = reached world entry in
    let ms = bind_ok (each (λ x. method_of world x.0 x.1) (contents_of world refs)) _ methods e in
    let found = bind_ok (statics_named world ms.0) _ methods ms.2 in
    let same : map (method_numbered refs found.0) ms.0 ≡ methods = cc in
    let plain = each_good (λ (x : MethodRef × MethodContent). method_at world x.0 ≡ Some x.1)
    (λ r. IsSmallMethod (method_numbered refs found.0 r)) (λ x. method_of world x.0 x.1) (contents_of world refs) ms.0
    (λ x r at made. method_small world refs found.0 (method_numbered refs found.0 r) good
    (record { ref = x.0; content = x.1; there = at; plain = r; made = method_made world x.0 x.1 r made; same = refl }))
    (contents_there world refs) ms.1 in
    subst (λ (xs : List Method). AllByRecursion IsSmallMethod xs) same (all_mapped IsSmallMethod (method_numbered refs found.0) ms.0 plain)
