-- A listing of blocks that pass their tests says a class.
use Rattle.std.proofs.Common.{◌≡◌, ◌≤◌, ◌<◌, ℕ, zero, suc, ◌+◌, ◌*◌, ◌^◌, Bool, true, false, ◌&&◌, ◌||◌, cond, eqb, List, []}
use Rattle.std.proofs.Common.{◌∷◌, ◌++◌, map, length}
use Rattle.std.proofs.Common.{Option, Some, None, Ok, refl, sym, ap, ◌∙◌, arith, inl, inr, append_assoc, append-nil}
use Rattle.std.specs.Prelude.{codes, nat_lt}
use Rattle.std.specs.List.{flat_map, fold}
use Rattle.std.specs.Option.{option_or}
use Rattle.std.proofs.lemmas.Bool.Decides.{leb_tells, eqb_tells}
use Rattle.std.proofs.lemmas.List.{map-append}
use Rattle.std.proofs.lemmas.List.Concat.{flat_map-append}
use Rattle.std.proofs.lemmas.Grind.{fold-append}
use Rattle.class_read.specs.Text.{class_bytes}
use Rattle.class_read.specs.declared.text.ClassText.{ClassText}
use Rattle.list_views.specs.Results.{◌>>=◌}
use Rattle.asm_lines.specs.LinesAndWords.{lines_of}
use Rattle.asm_lines.specs.Statements.{Said, make_field}
use Rattle.asm_lines.specs.ClassLines.{plain_class}
use Rattle.asm_lines.specs.Operations.{all_names}
use Rattle.asm_lines.specs.Firsts.{with_faults, unless}
use Rattle.asm_lines.specs.Listings.{make_method, no_lines, lines_said, ended}
use Rattle.asm_lines.specs.Listings.{listing_of as listing_said}
use Rattle.asm_lines.specs.declared.fault.AsmFault.{AsmFault}
use Rattle.asm_lines.specs.declared.fault.AsmFault.TheVariants.{OutOfRange}
use Rattle.asm_lines.specs.declared.number.Number.{Number}
use Rattle.asm_lines.specs.declared.listing.CodeLine.{CodeLine}
use Rattle.asm_lines.specs.declared.listing.MethodLines.{MethodLines}
use Rattle.asm_lines.specs.declared.listing.Listing.{Listing}
use Rattle.asm_lines.specs.declared.statement.ClassLine.{ClassLine}
use Rattle.asm_lines.specs.declared.statement.MethodLine.{MethodLine}
use Rattle.class_asm.specs.asm_codes.Pooled.{Pooled}
use Rattle.class_asm.specs.asm_codes.Instructions.{Places}
use Rattle.class_asm.specs.asm_codes.Places.{places_of, place_from}
use Rattle.class_asm.specs.asm_codes.LineFaults.{passes, first_fault, first_fault_from}
use Rattle.class_asm.specs.asm_codes.MethodCodes.{method_code, answered, code_at}
use Rattle.class_asm.specs.asm_pool.Pools.{Need, Numbered, numbered, need_faults, count_faults, brought, with_first, firsts_in, pool_in, pool_faults}
use Rattle.class_asm.specs.asm_pool.Needs.{line_needs, insn_entries, catch_entries, attribute_entries, listing_needs}
use Rattle.class_asm.specs.Rules.{rule_faults}
use Rattle.class_asm.specs.Classes.{pooled, code_said, code_in, code_attributes, code_fits, code_faults, said_faults}
use Rattle.class_asm.specs.Classes.{all_faults, unless_faulty, class_text, class_of, assembled}
use Rattle.class_asm.proofs.CodeBounds.{few}
use Rattle.generate_text.specs.Listings.{blocks, tail, listing_of}
use Rattle.generate_text.proofs.LawTexts.{parts_append}
use Rattle.generate_text.proofs.Readers.{names_and_types, outside_lines, code_lines}
use Rattle.generate_text.proofs.Tests.{all_append}
use Rattle.generate_text.proofs.Reading.{code_at as code_read}
use Rattle.generate_text.proofs.Places.{is_simple, faults_append}
use Rattle.generate_text.proofs.Needed.{are_simple, none_caught, no_attributes, none_own, insn_needs, kept, there, short}
use Rattle.generate_text.proofs.LawBlocks.{tests, line_at, pc_at, codes_at, text_whole, reads, ends, no_fault, lines_are, all_simple}
use Rattle.generate_text.proofs.LawBlocks.{all_pooled, one_pooled, all_small, same_or_less}
use Rattle.generate_text.proofs.LawBlocks.{codes as codes_before, lines as lines_before}

-- ---- what stands around the blocks

abbrev number : ℕ → Number
number n = record { negative = false; size = Some n }

abbrev class_g : ClassLine
class_g = plain_class (codes "G")

abbrev method_g : MethodLine
method_g = record { name = codes "g"; desc = codes "(LG;I)V"; flags = 8; sizes = Some (number 2, number 4) }

abbrev base : Listing
base = record no_lines { fields = (2, make_field (codes "next") (codes "LG;") false) ∷ [] }

-- the lines before others, and those behind the blocks
abbrev front : List (List ℕ) → List (List ℕ)
front texts = codes "class G" ∷ codes "field next LG;" ∷ codes "method g (LG;I)V static stack 2 locals 4" ∷ texts

abbrev back : List (List ℕ)
back = codes "return" ∷ codes "end" ∷ []

-- the lines behind the blocks, the first of which has this number
abbrev last_codes : ℕ → List CodeLine
last_codes line = code_read all_names line (codes "return") ∷ code_read all_names (line + 1) (codes "end") ∷ []

abbrev method_of : List CodeLine → MethodLines
method_of lines = make_method 3 method_g lines

abbrev whole : List CodeLine → Listing
whole lines = record base { methods = method_of lines ∷ []; unended = None }

-- what is needed before the instructions
abbrev needs_before : List Need → List Need
needs_before needs = listing_needs 1 class_g (whole []) ++ needs

-- what so many blocks need
abbrev pub needs_of : ℕ → List Need
needs_of n = needs_before (insn_needs (codes_before all_names n))

-- all lines of the method
abbrev all : ℕ → List CodeLine
all n = codes_before all_names n ++ last_codes (line_at n)

-- ---- rules and needs

five_nil : (needs : List Need) → needs ++ [] ++ [] ++ [] ++ [] ++ [] ≡ needs
five_nil needs = append-nil (needs ++ [] ++ [] ++ [] ++ []) ∙ (append-nil (needs ++ [] ++ [] ++ []) ∙ (append-nil (needs ++ [] ++ [])
    ∙ (append-nil (needs ++ []) ∙ append-nil needs)))

needs_are : (lines : List CodeLine) (needs : List Need) → insn_needs lines ≡ needs → flat_map (line_needs catch_entries) lines ≡ []
    → flat_map (line_needs attribute_entries) lines ≡ [] → listing_needs 1 class_g (whole lines) ≡ needs_before needs
needs_are lines needs insns caught attributes =
    (λ i. needs_before (insns i ++ caught i ++ attributes i ++ [] ++ [] ++ [])) ∙ ap needs_before (five_nil needs)

rules_hold : (lines : List CodeLine) → flat_map (line_needs attribute_entries) lines ≡ [] → rule_faults 1 class_g (whole lines) ≡ []
unfolding names_and_types
rules_hold lines none = rw (none) refl

last_simple : (line : ℕ) → are_simple (last_codes line) ≡ true
unfolding code_lines
last_simple line = refl

last_needs : (line : ℕ) → insn_needs (last_codes line) ≡ []
unfolding code_lines
last_needs line = refl

-- ---- the pool

-- more needs come behind the first of each
firsts_more : (a b : List Need) → firsts_in (needs_before (a ++ b)) ≡ fold with_first (firsts_in (needs_before a)) (flat_map brought b)
firsts_more a b =
    let front = listing_needs 1 class_g (whole []) in
    ap firsts_in (sym (append_assoc front a b))
    ∙ (ap (λ (needs : List Need). fold with_first [] needs) (flat_map-append brought (front ++ a) b)
    ∙ fold-append with_first [] (flat_map brought (front ++ a)) (flat_map brought b))

-- ---- sizes

size_fits : (bytes table : ℕ) → bytes < 2 ^ 16 → table < 2 ^ 16 → nat_lt (12 + bytes + 8 * table + 0) (2 ^ 32) ≡ true
size_fits bytes table b t = elim (leb_tells (suc (12 + bytes + 8 * table + 0)) (2 ^ 32)) [
  | inl p ↦ p.0
  | inr q ↦ absurd (omega (arith, b, t, q.1))
]

not_passed : (pc : ℕ) → pc < 60000 → nat_lt 65535 (pc + 1) ≡ false
not_passed pc h = elim (leb_tells 65536 (pc + 1)) [ inl p ↦ absurd (omega (arith, h, p.1)) | inr q ↦ q.0 ]

not_empty : (pc : ℕ) → eqb (pc + 1) 0 ≡ false
not_empty pc = elim (eqb_tells (pc + 1) 0) [ inl p ↦ absurd (omega (arith, p.1)) | inr q ↦ q.0 ]

passes_not : (pc : ℕ) → pc < 60000 → passes pc 1 ≡ false
passes_not pc h = elim (leb_tells pc 65535) [
  | inl p ↦ ap (λ (v : Bool). v && nat_lt 65535 (pc + 1)) p.0 ∙ not_passed pc h
  | inr q ↦ absurd (omega (arith, h, q.1))
]

-- the lines behind the blocks have no fault
last_fault : (pool : Numbered) (line : ℕ) (before : List Pooled) (p : Places) (pc : ℕ) → pc < 60000
    → first_fault_from p before pc (map (pooled pool) (last_codes line)) ≡ None
unfolding code_lines
last_fault pool line before p pc small =
    let x = pooled pool (code_read all_names line (codes "return")) in
    let y = pooled pool (code_read all_names (line + 1) (codes "end")) in
    ap (λ (v : Bool). option_or (cond (v || false) (Some (OutOfRange line)) None) (first_fault_from p (before ++ x ∷ []) (pc + 1) (y ∷ [])))
    (passes_not pc small)
    ∙ ap (λ (v : Bool). option_or (cond v (Some (OutOfRange (line + 1))) None) (let none : Option AsmFault = None in none)) (not_empty pc)

module _ (from limit : ℕ) where
  abbrev pub firsts_from : List Need
  firsts_from = firsts_in (needs_of from)

  abbrev pub pool_from : Numbered
  pool_from = pool_in (needs_of from)

  module _ (passed : tests all_names pool_from firsts_from limit 0 4 [] 0 ≡ true) (counted : count_faults 1 firsts_from ≡ []) where
    -- ---- lines

    text_divided : (n : ℕ) → n ≤ limit → lines_of (listing_of n) ≡ front (lines_of (blocks n) ++ back)
    text_divided n h = ap front (parts_append 10 (blocks n) tail (text_whole all_names pool_from firsts_from limit passed n h))

    is_read : (n : ℕ) → n ≤ limit → listing_said (listing_of n) ≡ Ok (1, class_g, whole (all n))
    unfolding listing_said outside_lines code_lines
    is_read n h =
        let texts = lines_of (blocks n) ++ back in
        let before = codes_before all_names n in
        ap (λ (lines : List (List ℕ)). lines_said all_names lines) (text_divided n h)
        ∙ (ap (λ (listing : Listing). (let r : Said (ℕ × ClassLine × Listing) = Ok (1, class_g, ended listing (length (front texts))) in r))
        (reads all_names pool_from firsts_from limit passed 3 method_g base n h back)
        ∙ ap (λ (lines : List CodeLine). (let r : Said (ℕ × ClassLine × Listing) = Ok (1, class_g, whole lines) in r))
        (append_assoc before (code_read all_names (line_at n) (codes "return") ∷ [])
        (code_read all_names (line_at n + 1) (codes "end") ∷ [])))

    -- ---- the pool

    pool_kept : (n : ℕ) → from ≤ n → n ≤ limit → firsts_in (needs_of n) ≡ firsts_from
    pool_kept zero low high = ap (λ (k : ℕ). firsts_in (needs_of k)) (let zero_is : zero ≡ from = omega (arith, low) in zero_is)
    pool_kept (suc n) low high = elim (same_or_less from (suc n) low) [
      | inl same ↦ ap (λ (k : ℕ). firsts_in (needs_of k)) (sym same)
      | inr less ↦
          let earlier = codes_before all_names n in
          let next = codes_at all_names n (line_at n) in
          ap (λ (needs : List Need). firsts_in (needs_before needs)) (flat_map-append (line_needs insn_entries) earlier next)
          ∙ (firsts_more (insn_needs earlier) (insn_needs next)
          ∙ (ap (λ (firsts : List Need). fold with_first firsts (flat_map brought (insn_needs next)))
          (pool_kept n (omega (arith, less)) (omega (arith, high)))
          ∙ kept firsts_from (flat_map brought (insn_needs next))
          (there firsts_from next (one_pooled all_names pool_from firsts_from limit passed n high))))
    ]

    module _ (n : ℕ) (low : from ≤ n) (high : n ≤ limit) where
      abbrev before : List CodeLine
      before = codes_before all_names n

      abbrev last : List CodeLine
      last = last_codes (line_at n)

      simple : are_simple (all n) ≡ true
      simple = all_append (λ (code : CodeLine). is_simple code.item) before last
          (all_simple all_names pool_from firsts_from limit passed n high) (last_simple (line_at n))

      entries : insn_needs (all n) ≡ insn_needs before
      entries = flat_map-append (line_needs insn_entries) before last
          ∙ (ap (λ (needs : List Need). insn_needs before ++ needs) (last_needs (line_at n)) ∙ append-nil (insn_needs before))

      needs : listing_needs 1 class_g (whole (all n)) ≡ needs_of n
      needs = needs_are (all n) (insn_needs before) entries (none_caught (all n) simple) (no_attributes (all n) simple)

      pool_is : pool_in (listing_needs 1 class_g (whole (all n))) ≡ pool_from
      pool_is = ap pool_in needs ∙ ap (λ (firsts : List Need). numbered (map (λ need. need.0) firsts)) (pool_kept n low high)

      no_pool_faults : pool_faults (listing_needs 1 class_g (whole (all n))) ≡ []
      no_pool_faults =
          let shorts : flat_map need_faults (needs_of n) ≡ [] =
          short firsts_from before (all_pooled all_names pool_from firsts_from limit passed n high) in
          ap pool_faults needs
          ∙ (λ i. shorts i ++ (ap (λ (firsts : List Need). count_faults 1 firsts) (pool_kept n low high) ∙ counted) i)

      -- ---- the code

      abbrev pooled_lines : List Pooled
      pooled_lines = map (pooled pool_from) (all n)

      abbrev lines : List Pooled
      lines = lines_before all_names pool_from firsts_from n

      abbrev ending : List Pooled
      ending = map (pooled pool_from) last

      divided : pooled_lines ≡ lines ++ ending
      divided = map-append (pooled pool_from) before last
          ∙ ap (λ (front : List Pooled). front ++ ending) (lines_are all_names pool_from firsts_from limit passed n)

      no_first : first_fault (places_of pooled_lines) pooled_lines ≡ None
      no_first =
          let p = place_from 0 (lines ++ ending) in
          let pc = pc_at all_names pool_from firsts_from n in
          ap (λ (all_lines : List Pooled). first_fault (places_of all_lines) all_lines) divided
          ∙ (faults_append p [] 0 lines ending (no_fault all_names pool_from firsts_from limit passed n high ending)
          ∙ (ap (λ (place : ℕ). first_fault_from p lines place ending) (ends all_names pool_from firsts_from limit passed n)
          ∙ last_fault pool_from (line_at n) lines p pc (all_small all_names pool_from firsts_from limit passed n high)))

      said_code : code_said pool_from (method_of (all n)) ≡ Ok (code_at (places_of pooled_lines) pooled_lines)
      unfolding method_code
      said_code = ap (λ (o : Option AsmFault). answered o (code_at (places_of pooled_lines) pooled_lines)) no_first

      code_fitting : code_fits (code_in (code_said pool_from (method_of (all n)))) (code_attributes pool_from (all n)) ≡ true
      code_fitting =
          let code = code_in (code_said pool_from (method_of (all n))) in
          let bounds = few pool_from (method_of (all n)) in
          ap (code_fits code) (none_own pool_from (all n) simple)
          ∙ size_fits (length code.bytes) (length code.table) bounds.bytes bounds.table

      no_code_faults : code_faults pool_from (method_of (all n)) ≡ []
      no_code_faults = λ i. said_faults (said_code i) ++ unless (code_fitting i) 3

      -- ---- the class

      faultless : all_faults 1 class_g (whole (all n)) ≡ []
      faultless =
          let rules = rules_hold (all n) (no_attributes (all n) simple) in
          (λ i. rules i ++ no_pool_faults i ++ flat_map (code_faults (pool_is i)) (method_of (all n) ∷ []))
          ∙ (λ i. no_code_faults i ++ [])

      classed : class_of 1 class_g (whole (all n))
          ≡ Ok (class_text (pool_in (listing_needs 1 class_g (whole (all n)))) class_g (whole (all n)))
      unfolding class_of
      classed = ap (λ (faults : List AsmFault). unless_faulty (with_faults None faults)
          (class_text (pool_in (listing_needs 1 class_g (whole (all n)))) class_g (whole (all n)))) faultless

      pub assembles : (class : List ℕ) × (assembled (listing_of n) ≡ Ok class)
      unfolding assembled
      assembles =
          let class = class_text (pool_in (listing_needs 1 class_g (whole (all n)))) class_g (whole (all n)) in (
            class_bytes class,
            ap (λ (said : Said (ℕ × ClassLine × Listing)). said >>= λ lines. class_of lines.0 lines.1 lines.2
                >>= λ c. Ok (class_bytes c))
                (is_read n high)
                ∙ ap (λ (said : Said ClassText). said >>= λ c. Ok (class_bytes c)) classed,
          )
