-- The blocks of a listing, of which each passes a test behind the others.
use Rattle.std.proofs.Common.{◌≡◌, ◌≤◌, ◌<◌, ◌⊎◌, ℕ, zero, suc, ◌+◌, Bool, true, ◌&&◌, List, [], ◌++◌, map, length}
use Rattle.std.proofs.Common.{Option, Some, None, refl, ap, ◌∙◌, subst, arith, inl, inr, append_assoc}
use Rattle.std.specs.Prelude.{is_none, nat_lt}
use Rattle.std.specs.List.{list_all}
use Rattle.std.proofs.lemmas.Bool.Decides.{leb_tells}
use Rattle.std.proofs.lemmas.List.{map-append}
use Rattle.asm_lines.specs.LinesAndWords.{lines_of}
use Rattle.asm_lines.specs.Items.{Names}
use Rattle.asm_lines.specs.Listings.{with_lines}
use Rattle.asm_lines.specs.declared.fault.AsmFault.{AsmFault}
use Rattle.asm_lines.specs.declared.listing.CodeLine.{CodeLine}
use Rattle.asm_lines.specs.declared.listing.Listing.{Listing}
use Rattle.asm_lines.specs.declared.statement.MethodLine.{MethodLine}
use Rattle.class_asm.specs.asm_codes.Pooled.{Pooled}
use Rattle.class_asm.specs.asm_codes.Places.{end_from, place_from}
use Rattle.class_asm.specs.asm_codes.LineFaults.{first_fault_from}
use Rattle.class_asm.specs.asm_pool.Pools.{Need, Numbered}
use Rattle.class_asm.specs.Classes.{pooled}
use Rattle.generate_text.specs.Listings.{block, blocks}
use Rattle.generate_text.proofs.Tests.{both, all_append}
use Rattle.generate_text.proofs.LawTexts.{is_whole, whole_append, parts_append}
use Rattle.generate_text.proofs.Reading.{codes_of, all_good, reading, lines_step}
use Rattle.generate_text.proofs.Places.{is_simple, labels_of, is_own, own_faults, faults_append, end_append}
use Rattle.generate_text.proofs.Needed.{are_simple, is_pooled}

none_is : (o : Option AsmFault) → is_none o ≡ true → o ≡ None
none_is None h = refl
none_is (Some fault) h = absurd cc

pub same_or_less : (k j : ℕ) → k ≤ j → (k ≡ j) ⊎ (suc k ≤ j)
same_or_less k j h = elim (leb_tells (suc k) j) [ inl p ↦ inr p.1 | inr q ↦ inl (omega (arith, h, q.1)) ]

-- ---- the test of a block

-- A block's text ends its lines, of which none has a fault, by itself or in the pool; their labels are their own.
abbrev pub block_test : Names → List Need → ℕ → ℕ → List Pooled → ℕ → List CodeLine → List Pooled → Bool
block_test names firsts k line before pc codes lines =
    (is_whole 10 (block k) && all_good names line (lines_of (block k)))
    && ((list_all (is_pooled firsts) codes && are_simple codes)
    && ((list_all (λ (x : Pooled). is_simple x.code.item) lines && list_all (is_own before lines) (labels_of lines))
    && (is_none (first_fault_from (place_from pc lines) before pc lines) && nat_lt (end_from pc lines) 60000)))

-- ---- the first so many blocks

-- the number of the line behind them
abbrev pub line_at : ℕ → ℕ
line_at zero = 4
line_at (suc k) = line_at k + length (lines_of (block k))

abbrev pub codes_at : Names → ℕ → ℕ → List CodeLine
codes_at names k line = codes_of names line (lines_of (block k))

abbrev pub codes : Names → ℕ → List CodeLine
codes names zero = []
codes names (suc k) = codes names k ++ codes_at names k (line_at k)

module _ (names : Names) (pool : Numbered) (firsts : List Need) where
  abbrev pub pooled_at : ℕ → ℕ → List Pooled
  pooled_at k line = map (pooled pool) (codes_at names k line)

  -- the test of so many blocks, one behind the other
  abbrev pub tests : ℕ → ℕ → ℕ → List Pooled → ℕ → Bool
  tests zero k line before pc = true
  tests (suc more) k line before pc =
      block_test names firsts k line before pc (codes_at names k line) (pooled_at k line)
      && tests more (suc k) (line + length (lines_of (block k))) (before ++ pooled_at k line) (end_from pc (pooled_at k line))

  abbrev pub lines : ℕ → List Pooled
  lines zero = []
  lines (suc k) = lines k ++ pooled_at k (line_at k)

  -- the place behind them
  abbrev pub pc_at : ℕ → ℕ
  pc_at zero = 0
  pc_at (suc k) = end_from (pc_at k) (pooled_at k (line_at k))

  abbrev test_at : ℕ → Bool
  test_at k = block_test names firsts k (line_at k) (lines k) (pc_at k) (codes_at names k (line_at k)) (pooled_at k (line_at k))

  tested : (more k j : ℕ) → tests more k (line_at k) (lines k) (pc_at k) ≡ true → k ≤ j → j < k + more → test_at j ≡ true
  tested zero k j h low high = absurd (omega (arith, low, high))
  tested (suc more) k j h low high =
      let one = both (test_at k) (tests more (suc k) (line_at (suc k)) (lines (suc k)) (pc_at (suc k))) h in
      elim (same_or_less k j low) [
        | inl same ↦ subst (λ (m : ℕ). test_at m ≡ true) same one.0
        | inr less ↦ tested more (suc k) j one.1 less (omega (arith, high))
      ]

  -- what a block's test says
  record IsTested (k : ℕ) : Type 0 where
    pub whole : is_whole 10 (block k) ≡ true
    pub good : all_good names (line_at k) (lines_of (block k)) ≡ true
    pub entries : list_all (is_pooled firsts) (codes_at names k (line_at k)) ≡ true
    pub plain : are_simple (codes_at names k (line_at k)) ≡ true
    pub simple : list_all (λ (x : Pooled). is_simple x.code.item) (pooled_at k (line_at k)) ≡ true
    pub own : list_all (is_own (lines k) (pooled_at k (line_at k))) (labels_of (pooled_at k (line_at k))) ≡ true
    pub none : is_none (first_fault_from (place_from (pc_at k) (pooled_at k (line_at k))) (lines k) (pc_at k) (pooled_at k (line_at k)))
        ≡ true
    pub small : nat_lt (pc_at (suc k)) 60000 ≡ true

  said : (k : ℕ) → test_at k ≡ true → IsTested k
  said k h =
      let a = both (is_whole 10 (block k) && all_good names (line_at k) (lines_of (block k))) _ h in
      let b = both (is_whole 10 (block k)) _ a.0 in
      let c = both (list_all (is_pooled firsts) (codes_at names k (line_at k)) && are_simple (codes_at names k (line_at k))) _ a.1 in
      let d = both (list_all (is_pooled firsts) (codes_at names k (line_at k))) _ c.0 in
      let e = both (list_all (λ (x : Pooled). is_simple x.code.item) (pooled_at k (line_at k))
      && list_all (is_own (lines k) (pooled_at k (line_at k))) (labels_of (pooled_at k (line_at k)))) _ c.1 in
      let f = both (list_all (λ (x : Pooled). is_simple x.code.item) (pooled_at k (line_at k))) _ e.0 in
      let g = both (is_none (first_fault_from (place_from (pc_at k) (pooled_at k (line_at k))) (lines k) (pc_at k)
      (pooled_at k (line_at k)))) _ e.1 in
      record {
        whole = b.0;
        good = b.1;
        entries = d.0;
        plain = d.1;
        simple = f.0;
        own = f.1;
        none = g.0;
        small = g.1;
      }

  module _ (limit : ℕ) (passed : tests limit 0 4 [] 0 ≡ true) where
    at : (k : ℕ) → suc k ≤ limit → IsTested k
    at k h = said k (tested limit 0 k passed (omega arith) (omega (arith, h)))

    pub text_whole : (k : ℕ) → k ≤ limit → is_whole 10 (blocks k) ≡ true
    text_whole zero h = refl
    text_whole (suc k) h = whole_append 10 (blocks k) (block k) (text_whole k (omega (arith, h))) (at k h).whole

    pub reads : (first : ℕ) (head : MethodLine) (base : Listing) (k : ℕ) → k ≤ limit → (rest : List (List ℕ))
        → with_lines names 4 (lines_of (blocks k) ++ rest) (reading names first head base [])
        ≡ with_lines names (line_at k) rest (reading names first head base (codes names k))
    reads first head base zero h rest = refl
    reads first head base (suc k) h rest =
        ap (λ (texts : List (List ℕ)). with_lines names 4 texts (reading names first head base []))
        (ap (λ (texts : List (List ℕ)). texts ++ rest) (parts_append 10 (blocks k) (block k) (text_whole k (omega (arith, h))))
        ∙ append_assoc (lines_of (blocks k)) (lines_of (block k)) rest)
        ∙ (reads first head base k (omega (arith, h)) (lines_of (block k) ++ rest)
        ∙ lines_step names first head base (lines_of (block k)) rest (line_at k) (codes names k) (at k h).good)

    pub ends : (k : ℕ) → end_from 0 (lines k) ≡ pc_at k
    ends zero = refl
    ends (suc k) =
        end_append 0 (lines k) (pooled_at k (line_at k)) ∙ ap (λ (pc : ℕ). end_from pc (pooled_at k (line_at k))) (ends k)

    pub no_fault : (k : ℕ) → k ≤ limit → (rest : List Pooled)
        → first_fault_from (place_from 0 (lines k ++ rest)) [] 0 (lines k) ≡ None
    no_fault zero h rest = refl
    no_fault (suc k) h rest =
        let b = pooled_at k (line_at k) in
        ap (λ (all : List Pooled). first_fault_from (place_from 0 all) [] 0 (lines k ++ b)) (append_assoc (lines k) b rest)
        ∙ (faults_append (place_from 0 (lines k ++ (b ++ rest))) [] 0 (lines k) b (no_fault k (omega (arith, h)) (b ++ rest))
        ∙ (own_faults (lines k) b rest (at k h).own (at k h).simple
        ∙ (ap (λ (pc : ℕ). first_fault_from (place_from pc b) (lines k) pc b) (ends k)
        ∙ none_is (first_fault_from (place_from (pc_at k) b) (lines k) (pc_at k) b) (at k h).none)))

    pub lines_are : (k : ℕ) → map (pooled pool) (codes names k) ≡ lines k
    lines_are zero = refl
    lines_are (suc k) =
        map-append (pooled pool) (codes names k) (codes_at names k (line_at k))
        ∙ ap (λ (front : List Pooled). front ++ pooled_at k (line_at k)) (lines_are k)

    pub all_simple : (k : ℕ) → k ≤ limit → are_simple (codes names k) ≡ true
    all_simple zero h = refl
    all_simple (suc k) h = all_append (λ (code : CodeLine). is_simple code.item) (codes names k) (codes_at names k (line_at k))
        (all_simple k (omega (arith, h))) (at k h).plain

    pub all_pooled : (k : ℕ) → k ≤ limit → list_all (is_pooled firsts) (codes names k) ≡ true
    all_pooled zero h = refl
    all_pooled (suc k) h = all_append (is_pooled firsts) (codes names k) (codes_at names k (line_at k))
        (all_pooled k (omega (arith, h))) (at k h).entries

    pub one_pooled : (k : ℕ) → suc k ≤ limit → list_all (is_pooled firsts) (codes_at names k (line_at k)) ≡ true
    one_pooled k h = (at k h).entries

    pub all_small : (k : ℕ) → k ≤ limit → pc_at k < 60000
    all_small zero h = omega arith
    all_small (suc k) h = elim (leb_tells (suc (pc_at (suc k))) 60000) [
      | inl p ↦ p.1
      | inr q ↦ absurd (let e = (at k h).small in cc)
    ]
