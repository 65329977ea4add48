-- Lines whose labels stand among them have no fault behind other lines.
use Rattle.std.proofs.Common.{◌≡◌, ℕ, ◌+◌, Bool, true, false, cond, ◌&&◌, ◌||◌, not, List, [], ◌∷◌, ◌++◌, Option, Some, None, is_some}
use Rattle.std.proofs.Common.{refl, sym, ap, ◌∙◌, append_assoc, append-nil}
use Rattle.std.specs.List.{list_all, list_any, flat_map}
use Rattle.std.specs.Option.{option_map_or, option_or}
use Rattle.list_views.proofs.Options.{both_none}
use Rattle.asm_lines.specs.declared.item.Item.{Item}
use Rattle.asm_lines.specs.declared.item.Item.TheVariants as items
use Rattle.asm_lines.specs.declared.operation.Operation.TheVariants as operations
use Rattle.asm_lines.specs.declared.fault.AsmFault.{AsmFault}
use Rattle.class_asm.specs.asm_codes.Pooled.{Pooled}
use Rattle.class_asm.specs.asm_codes.Instructions.{Places, nowhere, insn_in}
use Rattle.class_asm.specs.asm_codes.Places.{size_at, end_from, has_label, place_from}
use Rattle.class_asm.specs.asm_codes.LineFaults.{item_labels, knows, passes, is_within, item_is_out, entries_of}
use Rattle.class_asm.specs.asm_codes.LineFaults.{line_fault, first_fault_from}
use Rattle.generate_text.proofs.Tests.{both, neither, not_true}

-- ---- places that agree

abbrev pub Agree : Places → Places → List (List ℕ) → Type 0
Agree p q [] = Unit {0}
Agree p q (label ∷ labels) = (p label ≡ q label) × Agree p q labels

agree_left : (p q : Places) (xs ys : List (List ℕ)) → Agree p q (xs ++ ys) → Agree p q xs
agree_left p q [] ys h = tt
agree_left p q (x ∷ xs) ys h = (h.0, agree_left p q xs ys h.1)

agree_right : (p q : Places) (xs ys : List (List ℕ)) → Agree p q (xs ++ ys) → Agree p q ys
agree_right p q [] ys h = h
agree_right p q (x ∷ xs) ys h = agree_right p q xs ys h.1

-- no label stands in its operands but that of a jump
abbrev pub is_simple : Item → Bool
is_simple items.Nothing = true
is_simple items.End = true
is_simple (items.Insn (operations.Plain op)) = true
is_simple (items.Insn (operations.Local op n)) = true
is_simple (items.Insn (operations.Member op class name desc)) = true
is_simple (items.Insn (operations.Iinc n m)) = true
is_simple (items.Insn (operations.Jump op label)) = true
is_simple item = false

abbrev pub labels_of : List Pooled → List (List ℕ)
labels_of lines = flat_map (λ x. item_labels x.code.item) lines

module _ (p q : Places) where
  known : (item : Item) → Agree p q (item_labels item) → is_simple item ≡ true
      → knows p (item_labels item) ≡ knows q (item_labels item)
  known (items.Insn (operations.Jump op label)) h s = ap (λ (o : Option ℕ). is_some o && true) h.0
  known (items.Insn (operations.Plain op)) h s = refl
  known (items.Insn (operations.Local op n)) h s = refl
  known (items.Insn (operations.Member op class name desc)) h s = refl
  known (items.Insn (operations.Iinc n m)) h s = refl
  known items.Nothing h s = refl
  known items.End h s = refl
  known item h s = absurd cc

  as_far : (entries pc size : ℕ) (fits : Bool) (item : Item) → Agree p q (item_labels item) → is_simple item ≡ true
      → item_is_out p entries pc fits size item ≡ item_is_out q entries pc fits size item
  as_far entries pc size fits (items.Insn (operations.Jump op label)) h s =
      ap (λ (o : Option ℕ). not fits || not (is_within 32767 pc (option_map_or (λ place. place) o 0)) || passes pc size) h.0
  as_far entries pc size fits (items.Insn (operations.Plain op)) h s = refl
  as_far entries pc size fits (items.Insn (operations.Local op n)) h s = refl
  as_far entries pc size fits (items.Insn (operations.Member op class name desc)) h s = refl
  as_far entries pc size fits (items.Insn (operations.Iinc n m)) h s = refl
  as_far entries pc size fits items.Nothing h s = refl
  as_far entries pc size fits items.End h s = refl
  as_far entries pc size fits item h s = absurd cc

  same_fault : (before : List Pooled) (pc : ℕ) (x : Pooled) → Agree p q (item_labels x.code.item) → is_simple x.code.item ≡ true
      → line_fault p before pc x ≡ line_fault q before pc x
  same_fault before pc x h s =
      let know = known x.code.item h s in
      let far = as_far (entries_of before) pc (size_at pc x) (is_some (insn_in nowhere x)) x.code.item h s in
      rw (know, far) refl

  pub same_faults : (before : List Pooled) (pc : ℕ) (lines : List Pooled) → Agree p q (labels_of lines)
      → list_all (λ (x : Pooled). is_simple x.code.item) lines ≡ true
      → first_fault_from p before pc lines ≡ first_fault_from q before pc lines
  same_faults before pc [] h s = refl
  same_faults before pc (x ∷ xs) h s =
      let simple = both (is_simple x.code.item) _ s in
      let here = same_fault before pc x (agree_left p q (item_labels x.code.item) (labels_of xs) h) simple.0 in
      let rest = same_faults (before ++ x ∷ []) (pc + size_at pc x) xs
      (agree_right p q (item_labels x.code.item) (labels_of xs) h) simple.1 in
      λ i. option_or (here i) (rest i)

-- ---- lines behind others

pub faults_append : (p : Places) (before : List Pooled) (pc : ℕ) (xs ys : List Pooled) → first_fault_from p before pc xs ≡ None
    → first_fault_from p before pc (xs ++ ys) ≡ first_fault_from p (before ++ xs) (end_from pc xs) ys
faults_append p before pc [] ys h = ap (λ (b : List Pooled). first_fault_from p b pc ys) (sym (append-nil before))
faults_append p before pc (x ∷ xs) ys h =
    let next = pc + size_at pc x in
    let none = both_none (line_fault p before pc x) (first_fault_from p (before ++ x ∷ []) next xs) h in
    ap (λ (o : Option AsmFault). option_or o (first_fault_from p (before ++ x ∷ []) next (xs ++ ys))) none.0
    ∙ (faults_append p (before ++ x ∷ []) next xs ys none.1
    ∙ ap (λ (b : List Pooled). first_fault_from p b (end_from next xs) ys) (append_assoc before (x ∷ []) xs))

pub end_append : (pc : ℕ) (xs ys : List Pooled) → end_from pc (xs ++ ys) ≡ end_from (end_from pc xs) ys
end_append pc [] ys = refl
end_append pc (x ∷ xs) ys = end_append (pc + size_at pc x) xs ys

place_behind : (pc : ℕ) (xs ys : List Pooled) (label : List ℕ) → list_any (has_label label) xs ≡ false
    → place_from pc (xs ++ ys) label ≡ place_from (end_from pc xs) ys label
place_behind pc [] ys label h = refl
place_behind pc (x ∷ xs) ys label h =
    let one = neither (has_label label x) (list_any (has_label label) xs) h in
    ap (λ (v : Bool). cond v (Some pc) (place_from (pc + size_at pc x) (xs ++ ys) label)) one.0
    ∙ place_behind (pc + size_at pc x) xs ys label one.1

place_among : (pc : ℕ) (xs ys : List Pooled) (label : List ℕ) → list_any (has_label label) xs ≡ true
    → place_from pc (xs ++ ys) label ≡ place_from pc xs label
place_among pc [] ys label h = absurd cc
place_among pc (x ∷ xs) ys label h =
    elim (has_label label x) as (λ v. (v || list_any (has_label label) xs) ≡ true
    → cond v (Some pc) (place_from (pc + size_at pc x) (xs ++ ys) label) ≡ cond v (Some pc) (place_from (pc + size_at pc x) xs label)) [
      | true ↦ λ e. refl
      | false ↦ λ e. place_among (pc + size_at pc x) xs ys label e
    ] h

-- a label stands on one of the lines, and on none before them
abbrev pub is_own : List Pooled → List Pooled → List ℕ → Bool
is_own before lines label = list_any (has_label label) lines && not (list_any (has_label label) before)

own_agree : (before lines rest : List Pooled) (labels : List (List ℕ)) → list_all (is_own before lines) labels ≡ true
    → Agree (place_from 0 (before ++ (lines ++ rest))) (place_from (end_from 0 before) lines) labels
own_agree before lines rest [] h = tt
own_agree before lines rest (label ∷ labels) h =
    let one = both (is_own before lines label) (list_all (is_own before lines) labels) h in
    let own = both (list_any (has_label label) lines) _ one.0 in (
      place_behind 0 before (lines ++ rest) label (not_true (list_any (has_label label) before) own.1)
          ∙ place_among (end_from 0 before) lines rest label own.0,
      own_agree before lines rest labels one.1,
    )

-- lines with their own labels have the faults that they have by themselves
pub own_faults : (before lines rest : List Pooled) → list_all (is_own before lines) (labels_of lines) ≡ true
    → list_all (λ (x : Pooled). is_simple x.code.item) lines ≡ true
    → first_fault_from (place_from 0 (before ++ (lines ++ rest))) before (end_from 0 before) lines
    ≡ first_fault_from (place_from (end_from 0 before) lines) before (end_from 0 before) lines
own_faults before lines rest h s =
    same_faults (place_from 0 (before ++ (lines ++ rest))) (place_from (end_from 0 before) lines) before (end_from 0 before) lines
    (own_agree before lines rest (labels_of lines) h) s
