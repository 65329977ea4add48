-- The code of lines without a fault is written.
use Rattle.std.proofs.Common.{◌≡◌, ◌<◌, ◌≤◌, ◌+◌, ◌^◌, ℕ, Bool, true, false, cond, not, ◌||◌, List, [], ◌∷◌, ◌++◌, Option, Some}
use Rattle.std.proofs.Common.{None, is_some, length, drop, get_or, refl, sym, ap, subst, ◌∙◌, append_assoc, arith}
use Rattle.std.proofs.lemmas.Grind.{common_steps}
use Rattle.std.proofs.lemmas.List.{append-nil, length-append}
use Rattle.std.proofs.lemmas.List.Concat.{flat_map-append}
use Rattle.std.proofs.lemmas.Bool.{not-false, or_parts}
use Rattle.std.specs.Option.{option_or, option_map_or, option_and_then, option_to_list}
use Rattle.std.specs.List.{cons_option}
use Rattle.list_views.proofs.Options.{both_none}
use Rattle.code_forms.specs.declared.insn.Insn.{Insn}
use Rattle.class_base.specs.declared.handler.Handler.{Handler}
use Rattle.code_decode.specs.Encoding.{plain_text, code_of}
use Rattle.asm_lines.specs.declared.item.Item.{Item}
use Rattle.asm_lines.specs.declared.item.Item.TheVariants as items
use Rattle.asm_lines.specs.declared.operation.Operation.{Operation}
use Rattle.class_asm.specs.declared.asm_codes.pooled.PoolOperand.{PoolOperand}
use Rattle.class_asm.specs.asm_codes.Pooled.{Pooled}
use Rattle.class_asm.specs.asm_codes.Instructions.{Places, nowhere, insn_of, item_insn, insn_in}
use Rattle.class_asm.specs.asm_codes.Places.{size_of, size_at, end_from, has_label, place_from, places_of, IsNear, placed, insns_from}
use Rattle.class_asm.specs.asm_codes.Places.{entry_in, table_of}
use Rattle.class_asm.specs.asm_codes.LineFaults.{reaches, passes, item_is_out, entries_of, line_fault, first_fault_from, first_fault}
use Rattle.class_asm.specs.asm_codes.MethodCodes.{FitsAt, IsWritable}
use Rattle.class_asm.proofs.Operands.{Alike, fits, alike}
use Rattle.class_asm.proofs.FirstFaults.{sound, stays, next_line}

-- ---- what has bytes

operation_fits : (places : Places) (pc : ℕ) (need : PoolOperand) (operation : Operation) (o : Option Insn) → IsNear places
    → reaches places pc operation ≡ true → insn_of places need operation ≡ o → FitsAt pc o
operation_fits places pc need operation None near r h = tt
operation_fits places pc need operation (Some i) near r h = fits places need operation pc i near r h

item_fits : (places : Places) (entries pc size : ℕ) (is_fit : Bool) (need : Option PoolOperand) (item : Item) → IsNear places
    → item_is_out places entries pc is_fit size item ≡ false → FitsAt pc (option_and_then (item_insn places item) need)
item_fits places entries pc size is_fit None item near h = tt
item_fits places entries pc size is_fit (Some n) (items.Insn operation) near h =
    let a = or_parts (not is_fit || not (reaches places pc operation)) (passes pc size) h in
    let b = or_parts (not is_fit) (not (reaches places pc operation)) a.0 in
    operation_fits places pc n operation (insn_of places n operation) near (not-false (reaches places pc operation) b.1) refl
item_fits places entries pc size is_fit (Some n) items.Nothing near h = tt
item_fits places entries pc size is_fit (Some n) (items.Catch c) near h = tt
item_fits places entries pc size is_fit (Some n) (items.Attribute a) near h = tt
item_fits places entries pc size is_fit (Some n) items.End near h = tt

writable_from : (places : Places) (before : List Pooled) (pc : ℕ) (lines : List Pooled) → IsNear places → pc ≤ 65535
    → first_fault_from places before pc lines ≡ None → IsWritable places pc lines
writable_from places before pc [] near small h = omega arith
writable_from places before pc (x ∷ xs) near small h =
    let n = both_none (line_fault places before pc x) (first_fault_from places (before ++ x ∷ []) (pc + size_at pc x) xs) h in
    let s = sound places before pc x n.0 in (
      omega arith,
      item_fits places (entries_of before) pc (size_at pc x) (is_some (insn_in nowhere x)) x.need x.code.item near s.inside,
      writable_from places (before ++ x ∷ []) (pc + size_at pc x) xs near (stays places before pc x small s) n.1,
    )

-- ---- places are near

pub end_small : (places : Places) (before : List Pooled) (pc : ℕ) (lines : List Pooled) → pc ≤ 65535
    → first_fault_from places before pc lines ≡ None → end_from pc lines ≤ 65535
end_small places before pc [] small h = small
end_small places before pc (x ∷ xs) small h =
    let n = both_none (line_fault places before pc x) (first_fault_from places (before ++ x ∷ []) (pc + size_at pc x) xs) h in
    let s = sound places before pc x n.0 in
    end_small places (before ++ x ∷ []) (pc + size_at pc x) xs (stays places before pc x small s) n.1

pub grows : (pc : ℕ) (lines : List Pooled) → pc ≤ end_from pc lines
grows pc [] = omega arith
grows pc (x ∷ xs) = omega (arith, grows (pc + size_at pc x) xs)

abbrev IsBelow : ℕ → Option ℕ → Type 0
IsBelow end None = Unit {0}
IsBelow end (Some place) = place ≤ end

one_below : (b : Bool) (pc end : ℕ) (rest : Option ℕ) → pc ≤ end → IsBelow end rest → IsBelow end (cond b (Some pc) rest)
one_below true pc end rest h k = h
one_below false pc end rest h k = k

all_below : (pc : ℕ) (lines : List Pooled) (label : List ℕ) → IsBelow (end_from pc lines) (place_from pc lines label)
all_below pc [] label = tt
all_below pc (x ∷ xs) label = one_below (has_label label x) pc (end_from (pc + size_at pc x) xs)
    (place_from (pc + size_at pc x) xs label) (grows pc (x ∷ xs)) (all_below (pc + size_at pc x) xs label)

target_small : (end : ℕ) (o : Option ℕ) → end ≤ 65535 → IsBelow end o → option_map_or (λ (place : ℕ). place) o 0 < 2 ^ 16
target_small end None h k = omega arith
target_small end (Some place) h k = omega arith

pub near : (lines : List Pooled) → first_fault (places_of lines) lines ≡ None → IsNear (places_of lines)
near lines h label = target_small (end_from 0 lines) (place_from 0 lines label)
    (end_small (places_of lines) [] 0 lines (omega arith) h) (all_below 0 lines label)

pub writable : (lines : List Pooled) → first_fault (places_of lines) lines ≡ None → IsWritable (places_of lines) 0 lines
writable lines h = writable_from (places_of lines) [] 0 lines (near lines h) (omega arith) h

-- ---- bytes

same_size : (pc : ℕ) (o p : Option Insn) → Alike o p → size_of pc o ≡ size_of pc p
same_size pc None None h = refl
same_size pc None (Some j) h = absurd h
same_size pc (Some i) None h = absurd h
same_size pc (Some i) (Some j) h = h pc

pub item_size : (places : Places) (pc : ℕ) (need : Option PoolOperand) (item : Item)
    → size_of pc (option_and_then (item_insn places item) need) ≡ size_of pc (option_and_then (item_insn nowhere item) need)
item_size places pc None item = refl
item_size places pc (Some n) (items.Insn operation) = same_size pc (insn_of places n operation) (insn_of nowhere n operation)
    (alike places nowhere n operation)
item_size places pc (Some n) items.Nothing = refl
item_size places pc (Some n) (items.Catch c) = refl
item_size places pc (Some n) (items.Attribute a) = refl
item_size places pc (Some n) items.End = refl

pub placed_size : (pc : ℕ) (o : Option Insn) → length (code_of (placed pc o)) ≡ size_of pc o
placed_size pc None = refl
placed_size pc (Some i) = ap length (append-nil (plain_text pc i))

-- the bytes so far, and those of the lines that are left
pub record AtByte (places : Places) (lines : List Pooled) (i : ℕ) (out : List ℕ) : Type 0 where
  pub rest : out ++ code_of (insns_from places (length out) (drop i lines)) ≡ code_of (insns_from places 0 lines)
  pub writable : IsWritable places (length out) (drop i lines)

pub at_first : (places : Places) (lines : List Pooled) → IsWritable places 0 lines → AtByte places lines 0 []
at_first places lines h = record { rest = refl; writable = h }

at_line : (places : Places) (lines : List Pooled) (i : ℕ) (out : List ℕ) (x : Pooled) → i < length lines → x ≡ get_or lines i x
    → AtByte places lines i out → IsWritable places (length out) (x ∷ drop (i + 1) lines)
at_line places lines i out x l at h = subst (IsWritable places (length out)) (next_line lines i x l at) h.writable

pub fits_here : (places : Places) (lines : List Pooled) (i : ℕ) (out : List ℕ) (x : Pooled) (o : Option Insn) → i < length lines
    → x ≡ get_or lines i x → AtByte places lines i out → o ≡ insn_in places x → (length out < 2 ^ 16) × FitsAt (length out) o
fits_here places lines i out x o l at h e =
    let w = at_line places lines i out x l at h in
    (w.0, subst (FitsAt (length out)) (sym e) w.1)

pub one_put : (places : Places) (lines : List Pooled) (i : ℕ) (out new : List ℕ) (x : Pooled) (o : Option Insn) → i < length lines
    → x ≡ get_or lines i x → AtByte places lines i out → o ≡ insn_in places x
    → new ≡ out ++ code_of (placed (length out) o) → AtByte places lines (i + 1) new
one_put places lines i out new x o l at h e n =
    let pc = length out in
    let xs = drop (i + 1) lines in
    let text = code_of (placed pc (insn_in places x)) in
    let put : new ≡ out ++ text = n ∙ ap (λ (p : Option Insn). out ++ code_of (placed pc p)) e in
    let longer : length new ≡ pc + size_at pc x =
    ap length put ∙ length-append out text
    ∙ ap (λ (k : ℕ). pc + k) (placed_size pc (insn_in places x) ∙ item_size places pc x.need x.code.item) in
    let w = at_line places lines i out x l at h in
    record {
      rest =
          ap (λ (k : ℕ). new ++ code_of (insns_from places k xs)) longer
          ∙ ap (λ (bs : List ℕ). bs ++ code_of (insns_from places (pc + size_at pc x) xs)) put
          ∙ append_assoc out text (code_of (insns_from places (pc + size_at pc x) xs))
          ∙ ap (λ (bs : List ℕ). out ++ bs)
          (sym (flat_map-append (λ (y : ℕ × Insn). plain_text y.0 y.1) (placed pc (insn_in places x))
          (insns_from places (pc + size_at pc x) xs)))
          ∙ ap (λ (ls : List Pooled). out ++ code_of (insns_from places pc ls)) (sym (next_line lines i x l at))
          ∙ h.rest;
      writable = subst (λ (k : ℕ). IsWritable places k xs) (sym longer) w.2;
    }

pub all_put : (places : Places) (lines : List Pooled) (i : ℕ) (out : List ℕ) → AtByte places lines i out → length lines ≤ i
    → out ≡ code_of (insns_from places 0 lines)
all_put places lines i out h l =
    let none : drop i lines ≡ [] = grind (arith, common_steps) in
    sym (ap (λ (ls : List Pooled). out ++ code_of (insns_from places (length out) ls)) none ∙ append-nil out) ∙ h.rest

-- ---- the table

listed : (o : Option Handler) (rest : List Handler) → option_to_list o ++ rest ≡ cons_option o rest
listed None rest = refl
listed (Some h) rest = refl

pub one_entry : (places : Places) (lines : List Pooled) (i : ℕ) (table new all : List Handler) (x : Pooled) (o : Option Handler)
    → i < length lines → x ≡ get_or lines i x → o ≡ entry_in places x
    → new ≡ table ++ option_to_list o → table ++ table_of places (drop i lines) ≡ all → new ++ table_of places (drop (i + 1) lines) ≡ all
one_entry places lines i table new all x o l at e n h =
    let rest = table_of places (drop (i + 1) lines) in
    ap (λ (hs : List Handler). hs ++ rest) n
    ∙ append_assoc table (option_to_list o) rest
    ∙ ap (λ (hs : List Handler). table ++ hs) (listed o rest ∙ ap (λ (p : Option Handler). cons_option p rest) e)
    ∙ ap (λ (ls : List Pooled). table ++ table_of places ls) (sym (next_line lines i x l at))
    ∙ h
