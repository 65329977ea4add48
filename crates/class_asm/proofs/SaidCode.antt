-- The code of lines without a fault says what its lines say.
use Rattle.std.proofs.Common.{◌≡◌, ℕ, zero, ◌+◌, ◌<◌, ◌^◌, Bool, true, false, cond, not, ◌&&◌, ◌||◌, List, [], ◌∷◌, ◌++◌, length}
use Rattle.std.proofs.Common.{map, Option, Some, None, Ok, is_some, refl, sym, ap, subst, ◌∙◌, arith}
use Rattle.std.specs.Option.{option_map_or, option_and_then}
use Rattle.std.specs.List.{AllByRecursion, filter_map, cons_option}
use Rattle.std.proofs.Math.Path.{fun_ext}
use Rattle.std.proofs.lemmas.Bool.{not-false, or_parts}
use Rattle.list_views.proofs.Options.{both_none}
use Rattle.code_decode.specs.Codes.{Spells}
use Rattle.code_decode.specs.Encoding.{plain_text, code_of}
use Rattle.code_decode.specs.Texts.{padding_of, zeros}
use Rattle.code_forms.specs.declared.insn.Insn.{Insn}
use Rattle.class_base.specs.declared.handler.Handler.{Handler}
use Rattle.code_decode.proofs.Takes.{length-zeros}
use Rattle.asm_lines.specs.declared.item.CatchLine.{CatchLine}
use Rattle.asm_lines.specs.declared.item.Item.{Item}
use Rattle.asm_lines.specs.declared.item.Item.TheVariants as items
use Rattle.asm_lines.specs.declared.listing.CodeLine.{CodeLine}
use Rattle.asm_lines.specs.declared.operation.Operation.{Operation}
use Rattle.asm_lines.specs.declared.fault.AsmFault.{AsmFault}
use Rattle.class_asm.specs.declared.asm_codes.code.MethodCode.{MethodCode}
use Rattle.class_asm.specs.declared.asm_codes.pooled.PoolOperand.{PoolOperand}
use Rattle.class_asm.specs.asm_codes.Pooled.{Pooled}
use Rattle.class_asm.specs.asm_codes.Instructions.{Places, nowhere, insn_of, item_insn, insn_in}
use Rattle.class_asm.specs.asm_codes.Places.{size_of, size_at, end_from, has_label, place_from, places_of, placed, insns_from, item_entry, table_of}
use Rattle.class_asm.specs.asm_codes.LineFaults.{item_labels, knows, reaches, passes, item_is_out, entries_of, line_fault, first_fault_from}
use Rattle.class_asm.specs.asm_codes.LineFaults.{first_fault}
use Rattle.class_asm.specs.asm_codes.MethodCodes.{FitsAt, IsWritable, code_at, answered}
use Rattle.class_asm.specs.asm_codes.Said.{NamedBy, IsNamed, InTurn, SaysInsn, next_place, behind, label_place, SaysLine, SaysLines}
use Rattle.class_asm.specs.asm_codes.Said.{with_catch, catches_in, SaysEntry, SaysCode}
use Rattle.class_asm.proofs.CodeSizes.{code_long}
use Rattle.class_asm.proofs.FirstFaults.{IsSound, sound}
use Rattle.class_asm.proofs.Operands.{Alike, alike}
use Rattle.class_asm.proofs.SaidInsns.{insn_said, first_known, others_known}
use Rattle.class_asm.proofs.Written.{item_size, writable}

abbrev codes : List Pooled → List CodeLine
codes lines = map (λ (x : Pooled). x.code) lines

-- ---- one line

pub record IsLine (named : Operation → PoolOperand → Type 0) (places : Places) (item : Item) (insns rest : List (ℕ × Insn)) : Type 0 where
  pub says : SaysLine (SaysInsn named places) item insns
  pub behind : behind item insns ≡ rest

fitting : (named : Operation → PoolOperand → Type 0) (places : Places) (pc : ℕ) (need : PoolOperand) (operation : Operation)
    (o p : Option Insn) (rest : List (ℕ × Insn))
    → insn_of places need operation ≡ o → Alike o p → is_some p ≡ true → knows places (item_labels (items.Insn operation)) ≡ true
    → named operation need → IsLine named places (items.Insn operation) (placed pc o ++ rest) rest
fitting named places pc need operation (Some i) p rest e a s k n = record
    { says = (need, n, insn_said places need operation i k e); behind = refl }
fitting named places pc need operation None None rest e a s k n = absurd cc
fitting named places pc need operation None (Some j) rest e a s k n = absurd a

line_is : (named : Operation → PoolOperand → Type 0) (caught : Option (List ℕ) → ℕ → Type 0) (places : Places) (entries pc size : ℕ)
    (need : Option PoolOperand) (item : Item) (rest : List (ℕ × Insn)) → is_some need ≡ true
    → item_is_out places entries pc (is_some (option_and_then (item_insn nowhere item) need)) size item ≡ false
    → knows places (item_labels item) ≡ true → NamedBy named caught item need
    → IsLine named places item (placed pc (option_and_then (item_insn places item) need) ++ rest) rest
line_is named caught places entries pc size None item rest s out k n = absurd cc
line_is named caught places entries pc size (Some need) (items.Insn operation) rest s out k n =
    let a = or_parts (not (is_some (insn_of nowhere need operation)) || not (reaches places pc operation)) (passes pc size) out in
    let b = or_parts (not (is_some (insn_of nowhere need operation))) (not (reaches places pc operation)) a.0 in
    fitting named places pc need operation (insn_of places need operation) (insn_of nowhere need operation) rest refl
    (alike places nowhere need operation) (not-false (is_some (insn_of nowhere need operation)) b.0) k n
line_is named caught places entries pc size (Some need) items.Nothing rest s out k n = record { says = tt; behind = refl }
line_is named caught places entries pc size (Some need) (items.Catch c) rest s out k n = record { says = tt; behind = refl }
line_is named caught places entries pc size (Some need) (items.Attribute a) rest s out k n = record { says = tt; behind = refl }
line_is named caught places entries pc size (Some need) items.End rest s out k n = record { says = tt; behind = refl }

here : (named : Operation → PoolOperand → Type 0) (caught : Option (List ℕ) → ℕ → Type 0) (places : Places) (before : List Pooled)
    (pc : ℕ) (x : Pooled) (rest : List (ℕ × Insn)) → IsSound places before pc x → IsNamed named caught x
    → IsLine named places x.code.item (placed pc (insn_in places x) ++ rest) rest
here named caught places before pc x rest s n = line_is named caught places (entries_of before) pc (size_at pc x) x.need x.code.item
    rest s.needed s.inside s.known n

-- ---- all lines

lines_said : (named : Operation → PoolOperand → Type 0) (caught : Option (List ℕ) → ℕ → Type 0) (places : Places)
    (before : List Pooled) (pc : ℕ) (lines : List Pooled) → first_fault_from places before pc lines ≡ None
    → AllByRecursion (IsNamed named caught) lines → SaysLines (SaysInsn named places) (codes lines) (insns_from places pc lines)
lines_said named caught places before pc [] h n = refl
lines_said named caught places before pc (x ∷ xs) h n =
    let b = both_none (line_fault places before pc x) (first_fault_from places (before ++ x ∷ []) (pc + size_at pc x) xs) h in
    let rest = insns_from places (pc + size_at pc x) xs in
    let l = here named caught places before pc x rest (sound places before pc x b.0) n.0 in (
      l.says,
      subst (SaysLines (SaysInsn named places) (codes xs)) (sym l.behind)
          (lines_said named caught places (before ++ x ∷ []) (pc + size_at pc x) xs b.1 n.1),
    )

-- ---- labels

no_more : (pc : ℕ) → pc + 0 ≡ pc
no_more pc = omega arith

next_by : (places : Places) (pc : ℕ) (x : Pooled) (xs : List Pooled) (o : Option Insn) → insn_in places x ≡ o
    → next_place (end_from (pc + size_at pc x) xs) (insns_from places (pc + size_at pc x) xs) ≡ pc + size_at pc x
    → next_place (end_from (pc + size_at pc x) xs) (placed pc o ++ insns_from places (pc + size_at pc x) xs) ≡ pc
next_by places pc x xs (Some i) e h = refl
next_by places pc x xs None e h =
    let size : size_at pc x ≡ 0 = sym (item_size places pc x.need x.code.item) ∙ ap (size_of pc) e in
    h ∙ ap (λ (k : ℕ). pc + k) size ∙ no_more pc

next_is : (places : Places) (pc : ℕ) (lines : List Pooled) → next_place (end_from pc lines) (insns_from places pc lines) ≡ pc
next_is places pc [] = refl
next_is places pc (x ∷ xs) = next_by places pc x xs (insn_in places x) refl (next_is places (pc + size_at pc x) xs)

choice : (b : Bool) (p q : ℕ) (o r : Option ℕ) → p ≡ q → o ≡ r → cond b (Some p) o ≡ cond b (Some q) r
choice true p q o r e f = ap (λ (k : ℕ). Some k) e
choice false p q o r e f = f

place_is : (named : Operation → PoolOperand → Type 0) (caught : Option (List ℕ) → ℕ → Type 0) (places : Places)
    (before : List Pooled) (pc : ℕ) (lines : List Pooled) (label : List ℕ) → first_fault_from places before pc lines ≡ None
    → AllByRecursion (IsNamed named caught) lines
    → place_from pc lines label ≡ label_place (end_from pc lines) (insns_from places pc lines) (codes lines) label
place_is named caught places before pc [] label h n = refl
place_is named caught places before pc (x ∷ xs) label h n =
    let b = both_none (line_fault places before pc x) (first_fault_from places (before ++ x ∷ []) (pc + size_at pc x) xs) h in
    let rest = insns_from places (pc + size_at pc x) xs in
    let l = here named caught places before pc x rest (sound places before pc x b.0) n.0 in
    let end = end_from pc (x ∷ xs) in
    choice (has_label label x) pc (next_place end (insns_from places pc (x ∷ xs))) (place_from (pc + size_at pc x) xs label)
    (label_place end (behind x.code.item (insns_from places pc (x ∷ xs))) (codes xs) label)
    (sym (next_is places pc (x ∷ xs)))
    (place_is named caught places (before ++ x ∷ []) (pc + size_at pc x) xs label b.1 n.1
    ∙ ap (λ (is : List (ℕ × Insn)). label_place end is (codes xs) label) (sym l.behind))

-- ---- bytes

spelled_by : (places : Places) (pc : ℕ) (x : Pooled) (xs : List Pooled) (o : Option Insn) → insn_in places x ≡ o → FitsAt pc o
    → Spells (pc + size_at pc x) (insns_from places (pc + size_at pc x) xs) (code_of (insns_from places (pc + size_at pc x) xs))
    → Spells pc (placed pc o ++ insns_from places (pc + size_at pc x) xs)
    (code_of (placed pc o ++ insns_from places (pc + size_at pc x) xs))
spelled_by places pc x xs (Some i) e fits h =
    let rest = insns_from places (pc + size_at pc x) xs in
    let size : size_at pc x ≡ length (plain_text pc i) = sym (item_size places pc x.need x.code.item) ∙ ap (size_of pc) e in (
      zeros (padding_of pc),
      code_of rest,
      refl,
      length-zeros (padding_of pc),
      fits,
      refl,
      subst
          (λ (k : ℕ). Spells (pc + k) rest (code_of rest)) size h,
    )
spelled_by places pc x xs None e fits h =
    let rest = insns_from places (pc + size_at pc x) xs in
    let size : size_at pc x ≡ 0 = sym (item_size places pc x.need x.code.item) ∙ ap (size_of pc) e in
    subst (λ (k : ℕ). Spells k rest (code_of rest)) (ap (λ (k : ℕ). pc + k) size ∙ no_more pc) h

spelled : (places : Places) (pc : ℕ) (lines : List Pooled) → IsWritable places pc lines
    → Spells pc (insns_from places pc lines) (code_of (insns_from places pc lines))
spelled places pc [] w = refl
spelled places pc (x ∷ xs) w = spelled_by places pc x xs (insn_in places x) refl w.1 (spelled places (pc + size_at pc x) xs w.2)

-- ---- the exception table

entry_is : (named : Operation → PoolOperand → Type 0) (caught : Option (List ℕ) → ℕ → Type 0) (places : Places)
    (need : Option PoolOperand) (item : Item) (cs : List CatchLine) (hs : List Handler) → is_some need ≡ true
    → knows places (item_labels item) ≡ true → NamedBy named caught item need → InTurn (SaysEntry caught places) cs hs
    → InTurn (SaysEntry caught places) (with_catch item cs) (cons_option (item_entry places need item) hs)
entry_is named caught places None item cs hs s k n h = absurd cc
entry_is named caught places (Some need) (items.Catch c) cs hs s k n h =
    let more = others_known places c.from (c.to ∷ c.handler ∷ []) k in (
      record {
        start = first_known places c.from (c.to ∷ c.handler ∷ []) k;
        end = first_known places c.to (c.handler ∷ []) more;
        handler = first_known places c.handler [] (others_known places c.to (c.handler ∷ []) more);
        class = n;
      },
      h,
    )
entry_is named caught places (Some need) (items.Insn operation) cs hs s k n h = h
entry_is named caught places (Some need) items.Nothing cs hs s k n h = h
entry_is named caught places (Some need) (items.Attribute a) cs hs s k n h = h
entry_is named caught places (Some need) items.End cs hs s k n h = h

entries_said : (named : Operation → PoolOperand → Type 0) (caught : Option (List ℕ) → ℕ → Type 0) (places : Places)
    (before : List Pooled) (pc : ℕ) (lines : List Pooled) → first_fault_from places before pc lines ≡ None
    → AllByRecursion (IsNamed named caught) lines → InTurn (SaysEntry caught places) (catches_in (codes lines)) (table_of places lines)
entries_said named caught places before pc [] h n = tt
entries_said named caught places before pc (x ∷ xs) h n =
    let b = both_none (line_fault places before pc x) (first_fault_from places (before ++ x ∷ []) (pc + size_at pc x) xs) h in
    let s = sound places before pc x b.0 in
    entry_is named caught places x.need x.code.item (catches_in (codes xs)) (table_of places xs) s.needed s.known n.0
    (entries_said named caught places (before ++ x ∷ []) (pc + size_at pc x) xs b.1 n.1)

-- ---- the code

pub code_said : (named : Operation → PoolOperand → Type 0) (caught : Option (List ℕ) → ℕ → Type 0) (lines : List Pooled)
    → first_fault (places_of lines) lines ≡ None → AllByRecursion (IsNamed named caught) lines
    → SaysCode named caught (codes lines) (code_at (places_of lines) lines).bytes (code_at (places_of lines) lines).table
code_said named caught lines h n =
    let places = places_of lines in
    let insns = insns_from places 0 lines in
    let end : end_from 0 lines ≡ length (code_of insns) = omega (arith, code_long places 0 lines) in
    let same : places ≡ label_place (length (code_of insns)) insns (codes lines) =
    fun_ext (λ label. place_is named caught places [] 0 lines label h n ∙ ap (λ (k : ℕ). label_place k insns (codes lines) label) end) in
    record {
      insns = insns;
      spelled = spelled places 0 lines (writable lines h);
      each = subst (λ (p : Places). SaysLines (SaysInsn named p) (codes lines) insns) same (lines_said named caught places [] 0 lines h n);
      entries = subst (λ (p : Places). InTurn (SaysEntry caught p) (catches_in (codes lines)) (table_of places lines)) same
          (entries_said named caught places [] 0 lines h n);
    }

unfaulty : (o : Option AsmFault) (code answer : MethodCode) → answered o code ≡ Ok answer → (o ≡ None) × (code ≡ answer)
unfaulty None code answer h = (refl, cc)
unfaulty (Some fault) code answer h = absurd cc
