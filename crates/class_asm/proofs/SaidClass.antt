-- The class of a listing without faults says what its lines say.
use Rattle.std.proofs.Common.{◌≡◌, ℕ, ◌+◌, ◌<◌, ◌^◌, Bool, true, false, cond, ◌&&◌, List, [], ◌∷◌, ◌++◌, map, Option, Some, None}
use Rattle.std.proofs.Common.{Ok, is_some, refl, sym, ap, subst, ◌∙◌}
use Rattle.std.specs.List.{flat_map, list_all, AllByRecursion}
use Rattle.std.specs.Option.{option_map_or, unwrap_or}
use Rattle.list_views.proofs.Quantified.{all_front, all_back}
use Rattle.class_read.specs.Content.{FieldContent}
use Rattle.class_base.specs.MemberKinds.{is_descriptor}
use Rattle.class_read.specs.Rules.{name_of, field_of, method_of, codes_in, first_of, content_of}
use Rattle.class_base.specs.declared.member_kind.MemberKind.TheVariants.{Method}
use Rattle.class_read.specs.declared.text.AttrText.{AttrText}
use Rattle.asm_lines.specs.declared.listing.CodeLine.{CodeLine}
use Rattle.asm_lines.specs.declared.listing.Listing.{Listing}
use Rattle.asm_lines.specs.declared.listing.MethodLines.{MethodLines}
use Rattle.asm_lines.specs.declared.number.Number.{Number}
use Rattle.asm_lines.specs.declared.statement.ClassLine.{ClassLine}
use Rattle.asm_lines.specs.declared.statement.FieldLine.{FieldLine}
use Rattle.asm_lines.specs.Firsts.{unless}
use Rattle.asm_lines.specs.Numbers.{pair_of}
use Rattle.asm_lines.proofs.Faultless.{left, is_good, first_of_both, second_of_both}
use Rattle.class_asm.specs.declared.asm_codes.code.MethodCode.{MethodCode}
use Rattle.class_asm.specs.asm_codes.Pooled.{Pooled}
use Rattle.class_asm.specs.asm_codes.MethodCodes.{code_at}
use Rattle.class_asm.specs.asm_codes.Places.{places_of}
use Rattle.class_asm.specs.asm_codes.Said.{InTurn, SaysCode}
use Rattle.class_asm.proofs.SaidCode.{code_said}
use Rattle.class_asm.specs.asm_pool.Entries.{Entry, Utf8, Class}
use Rattle.class_asm.specs.asm_pool.Needs.{insn_entries, catch_entries, attribute_entries, line_needs, code_name, code_needs, field_needs}
use Rattle.class_asm.specs.asm_pool.Needs.{method_needs, super_of, listing_needs}
use Rattle.class_asm.specs.asm_pool.Pools.{Numbered, needed, numbered, number_of, pool_in}
use Rattle.class_asm.proofs.PoolBounds.{room}
use Rattle.class_asm.proofs.PoolEntries.{AllIn, in_file, entries_in}
use Rattle.class_asm.proofs.PoolRules.{class_there}
use Rattle.class_asm.specs.Classes as classes
use Rattle.class_asm.specs.Classes.{pooled, code_in, said_faults, code_attributes, code_fits, code_faults, field_text, size_of}
use Rattle.class_asm.specs.Classes.{method_text, class_text, all_faults}
use Rattle.class_asm.specs.Rules.{past_count, method_flags, method_faults, sizes_fit, attribute_lines, major_of}
use Rattle.class_asm.specs.Said.{NamesEntry, NamesCaught, SaysBody, SaysSizes, SaysMethod, field_said, SaysClass}
use Rattle.class_asm.proofs.KeptRules.{Found, says, in_pool, no_pool_faults, faultless, good_methods, no_fault, the_code}
use Rattle.class_asm.proofs.SaidEntries.{lines_named}

-- ---- numbers that fit

fitting : (o : Option ℕ) → is_some o ≡ true → o ≡ Some (unwrap_or o 0)
fitting None h = absurd cc
fitting (Some n) h = refl

-- ---- methods

same_lines : (pool : Numbered) (lines : List CodeLine) → map (λ (x : Pooled). x.code) (map (pooled pool) lines) ≡ lines
same_lines pool [] = refl
same_lines pool (code ∷ lines) = ap (λ (cs : List CodeLine). code ∷ cs) (same_lines pool lines)

body_said : (es : List Entry) (m : MethodLines) (sizes : Number × Number) → 1 + room es < 2 ^ 16 → sizes_fit (Some sizes) ≡ true
    → AllByRecursion (Found es) (code_needs m)
    → said_faults (classes.code_said (numbered es) m) ++ unless
    (code_fits (code_in (classes.code_said (numbered es) m)) (code_attributes (numbered es) m.lines)) m.line ≡ []
    → SaysBody (in_file es) m sizes
    (record {
      max_stack = size_of sizes.0;
      max_locals = size_of sizes.1;
      code =
          (code_in (classes.code_said (numbered es) m)).bytes;
      table = (code_in (classes.code_said (numbered es) m)).table;
    })
body_said es m sizes small fit h k =
    let pool = numbered es in
    let lines = map (pooled pool) m.lines in
    let code = code_in (classes.code_said pool m) in
    let name = needed m.line (code_name ∷ []) in
    let insns = flat_map (line_needs insn_entries) m.lines in
    let catches = flat_map (line_needs catch_entries) m.lines in
    let others = flat_map (line_needs attribute_entries) m.lines in
    let no_others = all_front (Found es) (name ++ insns ++ catches) others h in
    let in_insns = all_back (Found es) name insns (all_front (Found es) (name ++ insns) catches no_others) in
    let none = no_fault lines
    (left (said_faults (classes.code_said pool m)) (unless (code_fits code (code_attributes pool m.lines)) m.line) k) in
    let is_code = the_code lines none in
    let said = code_said (NamesEntry (in_file es)) (NamesCaught (in_file es)) lines none
    (lines_named es m.lines small in_insns (all_back (Found es) (name ++ insns) catches no_others)) in
    record {
      max_stack = fitting (pair_of sizes.0) (first_of_both (is_some (pair_of sizes.0)) (is_some (pair_of sizes.1)) fit);
      max_locals = fitting (pair_of sizes.1) (second_of_both (is_some (pair_of sizes.0)) (is_some (pair_of sizes.1)) fit);
      lines =
          subst (λ (c : MethodCode). SaysCode (NamesEntry (in_file es)) (NamesCaught (in_file es)) m.lines c.bytes c.table) (sym is_code)
          (subst (λ (ls : List CodeLine). SaysCode (NamesEntry (in_file es)) (NamesCaught (in_file es)) ls
          (code_at (places_of lines) lines).bytes (code_at (places_of lines) lines).table) (same_lines pool m.lines) said);
    }

abbrev attributes_by : Numbered → MethodLines → Option (Number × Number) → List AttrText
attributes_by pool m sizes = option_map_or (λ s. classes.code_text pool m (code_in (classes.code_said pool m)) s ∷ []) sizes []

sizes_said : (es : List Entry) (m : MethodLines) (sizes : Option (Number × Number)) → 1 + room es < 2 ^ 16 → sizes_fit sizes ≡ true
    → AllByRecursion (Found es) (cond (is_some sizes) (code_needs m) [])
    → cond (is_some sizes)
    (said_faults (classes.code_said (numbered es) m) ++ unless
    (code_fits (code_in (classes.code_said (numbered es) m)) (code_attributes (numbered es) m.lines)) m.line) [] ≡ []
    → SaysSizes (in_file es) m sizes (first_of (codes_in (attributes_by (numbered es) m sizes)))
sizes_said es m None small fit h k = tt
sizes_said es m (Some sizes) small fit h k = body_said es m sizes small fit h k

method_said : (es : List Entry) (m : MethodLines) → 1 + room es < 2 ^ 16 → AllByRecursion (Found es) (method_needs m)
    → method_faults m ≡ [] → code_faults (numbered es) m ≡ []
    → SaysMethod (in_file es) m (method_of (in_file es) (method_text (numbered es) m))
method_said es m small h faults code =
    let own = needed m.line (Utf8 m.head.name ∷ Utf8 m.head.desc ∷ []) in
    let more = cond (is_some m.head.sizes) (code_needs m) [] in
    let texts = all_front (Found es) own more h in
    let good = is_descriptor Method (method_flags m.head) m.head.desc in
    let lines = attribute_lines m.lines in
    let both = is_good (good && sizes_fit m.head.sizes) m.line
    (left (unless (good && sizes_fit m.head.sizes) m.line) (past_count (λ line. line) lines) faults) in
    record {
      flags = refl;
      name = says es m.head.name texts.0.0 small;
      desc = says es m.head.desc texts.1.0.0 small;
      code = sizes_said es m m.head.sizes small (second_of_both good (sizes_fit m.head.sizes) both) (all_back (Found es) own more h) code;
    }

methods_said : (es : List Entry) (methods : List MethodLines) → 1 + room es < 2 ^ 16
    → AllByRecursion (Found es) (flat_map method_needs methods) → AllByRecursion (λ m. method_faults m ≡ []) methods
    → AllByRecursion (λ m. code_faults (numbered es) m ≡ []) methods
    → InTurn (SaysMethod (in_file es)) methods (map (method_of (in_file es)) (map (method_text (numbered es)) methods))
methods_said es [] small h faults code = tt
methods_said es (m ∷ methods) small h faults code = (
  method_said es m small (all_front (Found es) (method_needs m) (flat_map method_needs methods) h) faults.0 code.0,
  methods_said es methods small (all_back (Found es) (method_needs m) (flat_map method_needs methods) h) faults.1 code.1,
)

-- ---- fields and interfaces

abbrev make : ℕ → List ℕ → List ℕ → FieldContent
make flags name desc = record { flags = flags; name = name; desc = desc }

the_field : (flags : ℕ) (a b c d : List ℕ) → a ≡ c → b ≡ d → make flags a b ≡ make flags c d
the_field flags a b c d p q = ap (λ x. make flags x b) p ∙ ap (λ x. make flags c x) q

fields_said : (es : List Entry) (fields : List (ℕ × FieldLine)) → 1 + room es < 2 ^ 16
    → AllByRecursion (Found es) (flat_map field_needs fields)
    → map (field_of (in_file es)) (map (field_text (numbered es)) fields) ≡ map field_said fields
fields_said es [] small h = refl
fields_said es (f ∷ fields) small h =
    let own = all_front (Found es) (field_needs f) (flat_map field_needs fields) h in
    let field = the_field _ _ _ f.1.name f.1.desc (says es f.1.name own.0.0 small) (says es f.1.desc own.1.0.0 small) in
    ap (λ (c : FieldContent). c ∷ map (field_of (in_file es)) (map (field_text (numbered es)) fields)) field
    ∙ ap (λ (cs : List FieldContent). field_said f ∷ cs)
    (fields_said es fields small (all_back (Found es) (field_needs f) (flat_map field_needs fields) h))

name_said : (es : List Entry) (name : List ℕ) → AllIn es (Class name) → 1 + room es < 2 ^ 16
    → name_of (in_file es) (number_of (numbered es) (Class name)) ≡ name
name_said es name h small = ap (λ (o : Option (List ℕ)). unwrap_or o []) (class_there es name h small)

names_said : (es : List Entry) (names : List (List ℕ)) → 1 + room es < 2 ^ 16 → AllByRecursion (AllIn es) (map (λ name. Class name) names)
    → map (name_of (in_file es)) (map (λ name. number_of (numbered es) (Class name)) names) ≡ names
names_said es [] small h = refl
names_said es (name ∷ names) small h =
    ap (λ (x : List ℕ). x ∷ map (name_of (in_file es)) (map (λ name. number_of (numbered es) (Class name)) names))
    (name_said es name h.0 small)
    ∙ ap (λ (xs : List (List ℕ)). name ∷ xs) (names_said es names small h.1)

-- ---- the class

pub class_said : (line : ℕ) (class : ClassLine) (listing : Listing) → all_faults line class listing ≡ []
    → SaysClass class listing (content_of (class_text (pool_in (listing_needs line class listing)) class listing))
class_said line class listing none =
    let es = entries_in (listing_needs line class listing) in
    let there = in_pool line class listing (no_pool_faults line class listing none) in
    let small = there.small in
    let faults = faultless line class listing none in
    record {
      major = fitting (major_of class) (second_of_both _ (is_some (major_of class)) faults.own);
      flags = refl;
      name = name_said es class.name there.own.0 small;
      super_name = name_said es (super_of class) there.own.1.0 small;
      interfaces = names_said es class.interfaces small there.own.1.1;
      fields = fields_said es listing.fields small there.fields;
      methods = methods_said es listing.methods small there.methods (good_methods listing.methods faults.methods).each faults.codes;
    }
