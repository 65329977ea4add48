-- The first fault of a method's lines, line by line.
use Rattle.std.proofs.Common.{◌≡◌, ◌<◌, ◌≤◌, ◌+◌, ℕ, Bool, true, false, cond, not, ◌&&◌, ◌||◌, eqb, List, [], ◌∷◌, ◌++◌, Option}
use Rattle.std.proofs.Common.{Some, None, is_some, length, take, drop, get_or, refl, sym, ap, subst, ◌∙◌, add-one, arith}
use Rattle.std.proofs.Math.Path.{fun_ext}
use Rattle.std.proofs.Math.Seq.{drop-cons}
use Rattle.std.proofs.lemmas.Grind.{common_steps}
use Rattle.std.proofs.lemmas.List.{take_more}
use Rattle.std.proofs.lemmas.List.Folds.{list_any-append}
use Rattle.std.proofs.lemmas.List.Sums.{count_by_more_yes, count_by_more_no}
use Rattle.std.proofs.lemmas.Bool.Decides.{nat_tests}
use Rattle.std.proofs.lemmas.Bool.{not-false, or_parts}
use Rattle.std.specs.Prelude.{nat_le}
use Rattle.std.specs.Option.{option_or, option_map_or, option_and_then}
use Rattle.std.specs.List.{list_any}
use Rattle.std.specs.Str.{bytes_eq}
use Rattle.list_views.proofs.Truths.{or_false}
use Rattle.asm_lines.specs.declared.fault.AsmFault.{AsmFault}
use Rattle.asm_lines.specs.declared.fault.AsmFault.TheVariants.{UnknownLabel, DuplicateLabel, OutOfRange}
use Rattle.asm_lines.specs.declared.item.Item.{Item}
use Rattle.asm_lines.specs.declared.item.Item.TheVariants as items
use Rattle.class_asm.specs.declared.asm_codes.pooled.PoolOperand.{PoolOperand}
use Rattle.class_asm.specs.asm_codes.Pooled.{Pooled}
use Rattle.class_asm.specs.asm_codes.Instructions.{Places, nowhere, item_insn, insn_in}
use Rattle.class_asm.specs.asm_codes.Places.{size_of, size_at, has_label}
use Rattle.class_asm.specs.asm_codes.LineFaults.{item_labels, knows, is_repeated, is_among, with_seen, reaches, passes, is_catch, entries_of}
use Rattle.class_asm.specs.asm_codes.LineFaults.{item_is_out, is_out, fault_of, line_fault, first_fault_from, first_fault}

-- ---- a line without a fault

no_fault : (known repeated out : Bool) (line : ℕ)
    → cond (not known) (Some (UnknownLabel line))
    (cond repeated (Some (DuplicateLabel line)) (cond out (Some (OutOfRange line)) None)) ≡ None
    → (known ≡ true) × (repeated ≡ false) × (out ≡ false)
no_fault false repeated out line h = absurd cc
no_fault true true out line h = absurd cc
no_fault true false true line h = absurd cc
no_fault true false false line h = (refl, refl, refl)

pub record IsSound (places : Places) (before : List Pooled) (pc : ℕ) (x : Pooled) : Type 0 where
  pub known : knows places (item_labels x.code.item) ≡ true
  pub new : is_repeated before x.code.label ≡ false
  pub needed : is_some x.need ≡ true
  pub inside : item_is_out places (entries_of before) pc (is_some (insn_in nowhere x)) (size_at pc x) x.code.item ≡ false
  pub ended : (x.code.ends && eqb pc 0) ≡ false

pub sound : (places : Places) (before : List Pooled) (pc : ℕ) (x : Pooled) → line_fault places before pc x ≡ None
    → IsSound places before pc x
sound places before pc x h =
    let item_out = item_is_out places (entries_of before) pc (is_some (insn_in nowhere x)) (size_at pc x) x.code.item in
    let n = no_fault (knows places (item_labels x.code.item)) (is_repeated before x.code.label)
    (is_out places (entries_of before) pc (is_some (insn_in nowhere x)) (size_at pc x) x) x.code.line h in
    let a = or_parts (not (is_some x.need) || item_out) (x.code.ends && eqb pc 0) n.2 in
    let b = or_parts (not (is_some x.need)) item_out a.0 in
    record { known = n.0; new = n.1; needed = not-false (is_some x.need) b.0; inside = b.1; ended = a.1 }

-- ---- sizes

abbrev Stays : ℕ → Bool → ℕ → Item → Type 0
Stays pc out size item = pc ≤ 65535 → out ≡ false → pc + size ≤ 65535

no_insn : (need : Option PoolOperand) (item : Item) → ((n : PoolOperand) → item_insn nowhere item n ≡ None) → (pc : ℕ)
    → size_of pc (option_and_then (item_insn nowhere item) need) ≡ 0
no_insn None item h pc = refl
no_insn (Some n) item h pc = ap (size_of pc) (h n)

not_passed : (pc size : ℕ) → pc ≤ 65535 → passes pc size ≡ false → pc + size ≤ 65535
not_passed pc size small h = grind (arith, nat_tests)

item_stays : (places : Places) (entries pc : ℕ) (need : Option PoolOperand) (item : Item)
    → pc ≤ 65535 → item_is_out places entries pc (is_some (option_and_then (item_insn nowhere item) need))
    (size_of pc (option_and_then (item_insn nowhere item) need)) item ≡ false
    → pc + size_of pc (option_and_then (item_insn nowhere item) need) ≤ 65535
item_stays places entries pc need (items.Insn operation) small h =
    let insn = option_and_then (item_insn nowhere (items.Insn operation)) need in
    let a = or_parts (not (is_some insn) || not (reaches places pc operation)) (passes pc (size_of pc insn)) h in
    not_passed pc (size_of pc insn) small a.1
item_stays places entries pc need items.Nothing small h = omega (arith, no_insn need items.Nothing (λ n. refl) pc)
item_stays places entries pc need (items.Catch c) small h = omega (arith, no_insn need (items.Catch c) (λ n. refl) pc)
item_stays places entries pc need (items.Attribute a) small h = omega (arith, no_insn need (items.Attribute a) (λ n. refl) pc)
item_stays places entries pc need items.End small h = omega (arith, no_insn need items.End (λ n. refl) pc)

-- Behind a line without a fault the code is within its most bytes.
pub stays : (places : Places) (before : List Pooled) (pc : ℕ) (x : Pooled) → pc ≤ 65535 → IsSound places before pc x
    → pc + size_at pc x ≤ 65535
stays places before pc x small h = item_stays places (entries_of before) pc x.need x.code.item small h.inside

-- ---- entries

pub more_entries : (places : Places) (entries pc size : ℕ) (fits : Bool) (item : Item) → entries ≤ 65535
    → item_is_out places entries pc fits size item ≡ false → cond (is_catch item) (entries + 1) entries ≤ 65535
more_entries places entries pc size fits (items.Catch c) few h =
    let a : nat_le 65535 entries ≡ false = (or_parts _ (nat_le 65535 entries) h).1 in
    grind (arith, nat_tests)
more_entries places entries pc size fits (items.Insn operation) few h = few
more_entries places entries pc size fits items.Nothing few h = few
more_entries places entries pc size fits (items.Attribute a) few h = few
more_entries places entries pc size fits items.End few h = few

pub next_line : (lines : List Pooled) (i : ℕ) (x : Pooled) → i < length lines → x ≡ get_or lines i x
    → drop i lines ≡ x ∷ drop (i + 1) lines
next_line lines i x l at =
    let d : drop i lines ≡ get_or lines i x ∷ drop (i + 1) lines = rw (add-one) (drop-cons lines i x l) in
    d ∙ ap (λ (y : Pooled). y ∷ drop (i + 1) lines) (sym at)

pub one_taken : (lines : List Pooled) (i : ℕ) (x : Pooled) → i < length lines → x ≡ get_or lines i x
    → take (i + 1) lines ≡ take i lines ++ x ∷ []
one_taken lines i x l at = take_more lines i x l ∙ ap (λ (y : Pooled). take i lines ++ y ∷ []) (sym at)

one_counted : (b : Bool) (lines : List Pooled) (i : ℕ) (x : Pooled) → i < length lines → is_catch (get_or lines i x).code.item ≡ b
    → cond b (entries_of (take i lines) + 1) (entries_of (take i lines)) ≡ entries_of (take (i + 1) lines)
one_counted true lines i x l h = sym (count_by_more_yes (λ y. is_catch y.code.item) lines i x l h)
one_counted false lines i x l h = sym (count_by_more_no (λ y. is_catch y.code.item) lines i x l h)

-- ---- labels

more_seen : (seen : List ℕ → Bool) (label : Option (List ℕ)) (other : List ℕ)
    → with_seen seen label other ≡ (seen other || option_map_or (bytes_eq other) label false)
more_seen seen None other = sym (or_false (seen other))
more_seen seen (Some label) other = refl

abbrev labels_of : List Pooled → List ℕ → Bool
labels_of lines label = list_any (has_label label) lines

one_seen : (lines : List Pooled) (i : ℕ) (x : Pooled) → i < length lines → x ≡ get_or lines i x
    → with_seen (labels_of (take i lines)) x.code.label ≡ labels_of (take (i + 1) lines)
one_seen lines i x l at = fun_ext (λ other.
    more_seen (labels_of (take i lines)) x.code.label other
    ∙ ap (λ b. labels_of (take i lines) other || b) (sym (or_false (has_label other x)))
    ∙ sym (list_any-append (has_label other) (take i lines) (x ∷ []))
    ∙ ap (list_any (has_label other)) (sym (one_taken lines i x l at)))

-- ---- the loop

pub record SoFar (places : Places) (lines : List Pooled) (i : ℕ) (seen : List ℕ → Bool) (entries pc : ℕ) : Type 0 where
  pub rest : first_fault_from places (take i lines) pc (drop i lines) ≡ first_fault places lines
  pub labels : seen ≡ labels_of (take i lines)
  pub counted : entries ≡ entries_of (take i lines)
  pub few : entries ≤ 65535
  pub small : pc ≤ 65535

pub start : (places : Places) (lines : List Pooled) → SoFar places lines 0 (is_among []) 0 0
start places lines = record { rest = refl; labels = refl; counted = refl; few = omega arith; small = omega arith }

-- one line of the loop: what is known of it
pub record AtLine (places : Places) (lines : List Pooled) (i : ℕ) (seen : List ℕ → Bool) (entries pc : ℕ) (x : Pooled)
    (fits repeated : Bool) (n : ℕ) : Type 0 where
  pub so_far : SoFar places lines i seen entries pc
  pub inside : i < length lines
  pub at : x ≡ get_or lines i x
  pub size : n ≡ size_at pc x
  pub fitting : fits ≡ is_some (insn_in nowhere x)
  pub repeats : repeated ≡ option_map_or seen x.code.label false

fault_is : (places : Places) (lines : List Pooled) (i : ℕ) (seen : List ℕ → Bool) (entries pc : ℕ) (x : Pooled)
    (fits repeated : Bool) (n : ℕ) → AtLine places lines i seen entries pc x fits repeated n
    → fault_of places repeated entries pc fits n x ≡ line_fault places (take i lines) pc x
fault_is places lines i seen entries pc x fits repeated n h =
    ap (λ (b : Bool). fault_of places b entries pc fits n x)
    (h.repeats ∙ ap (λ (s : List ℕ → Bool). option_map_or s x.code.label false) h.so_far.labels)
    ∙ ap (λ (e : ℕ). fault_of places (is_repeated (take i lines) x.code.label) e pc fits n x) h.so_far.counted
    ∙ ap (λ (b : Bool). fault_of places (is_repeated (take i lines) x.code.label) (entries_of (take i lines)) pc b n x) h.fitting
    ∙ ap (λ (k : ℕ). fault_of places (is_repeated (take i lines) x.code.label) (entries_of (take i lines)) pc
    (is_some (insn_in nowhere x)) k x) h.size

split_line : (places : Places) (lines : List Pooled) (i : ℕ) (seen : List ℕ → Bool) (entries pc : ℕ) (x : Pooled)
    (fits repeated : Bool) (n : ℕ) → AtLine places lines i seen entries pc x fits repeated n
    → option_or (fault_of places repeated entries pc fits n x)
    (first_fault_from places (take i lines ++ x ∷ []) (pc + size_at pc x) (drop (i + 1) lines)) ≡ first_fault places lines
split_line places lines i seen entries pc x fits repeated n h =
    ap (λ (o : Option AsmFault). option_or o
    (first_fault_from places (take i lines ++ x ∷ []) (pc + size_at pc x) (drop (i + 1) lines)))
    (fault_is places lines i seen entries pc x fits repeated n h)
    ∙ ap (first_fault_from places (take i lines) pc) (sym (next_line lines i x h.inside h.at))
    ∙ h.so_far.rest

pub found_fault : (places : Places) (lines : List Pooled) (i : ℕ) (seen : List ℕ → Bool) (entries pc : ℕ) (x : Pooled)
    (fits repeated : Bool) (n : ℕ) (fault : AsmFault) → AtLine places lines i seen entries pc x fits repeated n
    → Some fault ≡ fault_of places repeated entries pc fits n x → Some fault ≡ first_fault places lines
found_fault places lines i seen entries pc x fits repeated n fault h e =
    ap (λ (o : Option AsmFault). option_or o (first_fault_from places (take i lines ++ x ∷ []) (pc + size_at pc x) (drop (i + 1) lines))) e
    ∙ split_line places lines i seen entries pc x fits repeated n h

pub one_more : (places : Places) (lines : List Pooled) (i : ℕ) (seen new : List ℕ → Bool) (entries more pc : ℕ) (x : Pooled)
    (fits repeated : Bool) (n : ℕ) → AtLine places lines i seen entries pc x fits repeated n
    → None ≡ fault_of places repeated entries pc fits n x → new ≡ with_seen seen x.code.label
    → more ≡ cond (is_catch x.code.item) (entries + 1) entries → SoFar places lines (i + 1) new more (pc + n)
one_more places lines i seen new entries more pc x fits repeated n h e s m =
    let s0 = sound places (take i lines) pc x (sym (fault_is places lines i seen entries pc x fits repeated n h) ∙ sym e) in
    let same = h.so_far.counted in
    record {
      rest =
          ap (λ (ls : List Pooled). first_fault_from places ls (pc + n) (drop (i + 1) lines)) (one_taken lines i x h.inside h.at)
          ∙ ap (λ (k : ℕ). first_fault_from places (take i lines ++ x ∷ []) (pc + k) (drop (i + 1) lines)) h.size
          ∙ ap (λ (o : Option AsmFault). option_or o
          (first_fault_from places (take i lines ++ x ∷ []) (pc + size_at pc x) (drop (i + 1) lines))) e
          ∙ split_line places lines i seen entries pc x fits repeated n h;
      labels = s ∙ ap (λ (t : List ℕ → Bool). with_seen t x.code.label) h.so_far.labels ∙ one_seen lines i x h.inside h.at;
      counted =
          m ∙ ap (λ (k : ℕ). cond (is_catch x.code.item) (k + 1) k) same
          ∙ one_counted (is_catch x.code.item) lines i x h.inside (ap (λ (y : Pooled). is_catch y.code.item) (sym h.at));
      few = subst (λ (k : ℕ). k ≤ 65535) (sym m)
          (more_entries places entries pc (size_at pc x) (is_some (insn_in nowhere x)) x.code.item h.so_far.few
          (ap (λ (k : ℕ). item_is_out places k pc (is_some (insn_in nowhere x)) (size_at pc x) x.code.item) same ∙ s0.inside));
      small = subst (λ (k : ℕ). pc + k ≤ 65535) (sym h.size) (stays places (take i lines) pc x h.so_far.small s0);
    }

pub none_found : (places : Places) (lines : List Pooled) (i : ℕ) (seen : List ℕ → Bool) (entries pc : ℕ)
    → SoFar places lines i seen entries pc → length lines ≤ i → None ≡ first_fault places lines
none_found places lines i seen entries pc h l =
    let none : drop i lines ≡ [] = grind (arith, common_steps) in
    sym (ap (first_fault_from places (take i lines) pc) none) ∙ h.rest
