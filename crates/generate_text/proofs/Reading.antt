-- Lines of a method that have no fault, read one behind the other.
use Rattle.std.proofs.Common.{◌≡◌, ℕ, ◌+◌, Bool, true, false, cond, ◌&&◌, not, List, [], ◌∷◌, ◌++◌, length, Option, Some, None}
use Rattle.std.proofs.Common.{is_some, Ok, Err, sym, ap, ◌∙◌, arith, append_assoc, append-nil}
use Rattle.asm_lines.specs.LinesAndWords.{is_plain, words_of}
use Rattle.asm_lines.specs.Statements.{Said, Words}
use Rattle.asm_lines.specs.Items.{Names, item_of}
use Rattle.asm_lines.specs.declared.item.Item.{Item}
use Rattle.asm_lines.specs.declared.statement.MethodLine.{MethodLine}
use Rattle.asm_lines.specs.declared.listing.CodeLine.{CodeLine}
use Rattle.asm_lines.specs.declared.listing.Listing.{Listing}
use Rattle.asm_lines.specs.Listings.{is_skipped, labelled, is_end, code_line, with_code, with_said, make_method, method_of_line}
use Rattle.asm_lines.specs.Listings.{with_line, with_lines}
use Rattle.generate_text.proofs.Tests.{both, not_true}

abbrev pub says : Said Item → Bool
says (Ok item) = true
says (Err fault) = false

-- the label of a line and the words behind it, and what they say
abbrev pub words_at : List ℕ → Option (List ℕ) × Words
words_at text = labelled (words_of text)

abbrev pub said_at : Names → ℕ → List ℕ → Said Item
said_at names line text = item_of names line (is_some (words_at text).0) (words_at text).1

abbrev pub code_at : Names → ℕ → List ℕ → CodeLine
code_at names line text = code_line line (words_at text) (said_at names line text)

-- the line says something, has no fault and does not end the method
abbrev pub is_good : Names → ℕ → List ℕ → Bool
is_good names line text =
    is_plain text && (not (is_skipped (words_of text)) && (says (said_at names line text) && not (is_end (words_at text).1)))

abbrev pub codes_of : Names → ℕ → List (List ℕ) → List CodeLine
codes_of names line [] = []
codes_of names line (text ∷ texts) = code_at names line text ∷ codes_of names (line + 1) texts

abbrev pub all_good : Names → ℕ → List (List ℕ) → Bool
all_good names line [] = true
all_good names line (text ∷ texts) = is_good names line text && all_good names (line + 1) texts

module _ (names : Names) (first : ℕ) (head : MethodLine) (base : Listing) where
  -- a method is open, with these lines
  abbrev pub reading : List CodeLine → Listing
  reading lines = record base { unended = Some (make_method first head lines) }

  abbrev closed : Listing
  closed = record base { unended = None }

  said_step : (line : ℕ) (lines : List CodeLine) (words : Option (List ℕ) × Words) (said : Said Item) → says said ≡ true
      → is_end words.1 ≡ false
      → with_code (with_said closed said) (make_method first head lines) (code_line line words said)
      ≡ reading (lines ++ code_line line words said ∷ [])
  said_step line lines words (Ok item) h e =
      let longer = make_method first head (lines ++ code_line line words (Ok item) ∷ []) in
      ap (λ (v : Bool). cond v (record closed { methods = closed.methods ++ longer ∷ []; unended = None })
      (record closed { unended = Some longer })) e
  said_step line lines words (Err fault) h e = absurd cc

  line_step : (line : ℕ) (text : List ℕ) (lines : List CodeLine) → is_good names line text ≡ true
      → with_line names line text (reading lines) ≡ reading (lines ++ code_at names line text ∷ [])
  line_step line text lines h =
      let plain = both (is_plain text) _ h in
      let some = both (not (is_skipped (words_of text))) _ plain.1 in
      let good = both (says (said_at names line text)) _ some.1 in
      let goes_on = not_true (is_end (words_at text).1) good.1 in
      let said = λ (v : Bool). method_of_line names closed (make_method first head lines) line v (words_at text) in
      ap (λ (v : Bool). cond (v && is_skipped (words_of text)) (reading lines) (said v)) plain.0
      ∙ (ap (λ (v : Bool). cond v (reading lines) (said true)) (not_true (is_skipped (words_of text)) some.0)
      ∙ said_step line lines (words_at text) (said_at names line text) good.0 goes_on)

  pub lines_step : (texts rest : List (List ℕ)) (line : ℕ) (lines : List CodeLine) → all_good names line texts ≡ true
      → with_lines names line (texts ++ rest) (reading lines)
      ≡ with_lines names (line + length texts) rest (reading (lines ++ codes_of names line texts))
  lines_step [] rest line lines h =
      let place : line ≡ line + 0 = omega arith in
      let same : lines ≡ lines ++ [] = sym (append-nil lines) in
      λ i. with_lines names (place i) rest (reading (same i))
  lines_step (text ∷ texts) rest line lines h =
      let one = both (is_good names line text) (all_good names (line + 1) texts) h in
      let next = codes_of names (line + 1) texts in
      let place : (line + 1) + length texts ≡ line + length (text ∷ texts) = omega arith in
      let same : (lines ++ code_at names line text ∷ []) ++ next ≡ lines ++ codes_of names line (text ∷ texts) =
      append_assoc lines (code_at names line text ∷ []) next in
      ap (λ (l : Listing). with_lines names (line + 1) (texts ++ rest) l) (line_step line text lines one.0)
      ∙ (lines_step texts rest (line + 1) (lines ++ code_at names line text ∷ []) one.1
      ∙ (λ i. with_lines names (place i) rest (reading (same i))))
