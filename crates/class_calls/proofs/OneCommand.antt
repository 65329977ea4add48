-- Words are one command.
use Rattle.std.proofs.Common.{◌≡◌, ◌⊎◌, ℕ, ◌<◌, ◌^◌, Bool, true, false, List, [], ◌∷◌, length, refl, arith, ap, sym, ◌∙◌, subst, inl, inr}
use Rattle.std.specs.Prelude.{Some}
use Rattle.std.specs.Cmp.Lexicographic.{bytes_decides}
use Rattle.std.specs.Str.{bytes_eq}
use Rattle.class_calls.specs.declared.command_rows.table.Request.{Request}
use Rattle.class_calls.specs.declared.command_rows.table.Command.{Command}
use Rattle.class_calls.specs.declared.command_rows.row.NumberRange.{NumberRange}
use Rattle.class_calls.specs.declared.command_rows.row.NumberWord.{NumberWord}
use Rattle.class_calls.specs.declared.command_rows.row.NumberWord.TheVariants.{Absent, Needed, Optional}
use Rattle.class_calls.specs.declared.command_rows.row.Row.{Row}
use Rattle.class_calls.specs.command_rows.Rows.{row_of, request_of, command_of, number_of, Takes}
use Rattle.class_calls.specs.command_rows.Words.{IsNumber, IsCommand}
use Rattle.class_calls.specs.command_rows.inner.Reading.{Reads, BeginWith, IsGoodNumber}
use Rattle.class_calls.proofs.Numbers.{number_one}
use Rattle.class_calls.proofs.Lists.{absent_reads, needed_reads, limited_reads, plain_reads}
use Rattle.class_calls.proofs.Rows.{good, in_range, own_request}
use Rattle.class_calls.proofs.Commands.{of_command, found_of, no_words}

-- a word says one number of a range
range_one : (range : NumberRange) → range.most < 2 ^ 64 → (word : List ℕ) (a b : ℕ) → IsNumber range word a → IsNumber range word b → a ≡ b
range_one range low word a b h k =
    let few = h.few in
    let less = k.few in
    number_one word a b (omega (arith, few, low)) (omega (arith, less, low)) h.spelled k.spelled

-- words begin with an option or not
begins_or_not : (words : List (List ℕ)) (option : List ℕ) → BeginWith words option ⊎ (BeginWith words option → ⊥)
begins_or_not [] option = inr (λ none. none)
begins_or_not (word ∷ words) option = by (bytes_eq word option) refl
  where
    by : (b : Bool) → bytes_eq word option ≡ b → BeginWith (word ∷ words) option ⊎ (BeginWith (word ∷ words) option → ⊥)
    by true t = inl ((bytes_decides word option).0 t)
    by false t = inr (λ same. let e : false ≡ true = sym t ∙ (bytes_decides word option).1 same in cc)

reads_one : (row : Row) (kind : NumberWord) → row.number ≡ kind → IsGoodNumber kind
    → (words : List (List ℕ)) (a b : ℕ) (m n : List (List ℕ)) → Reads row words a m → Reads row words b n → (a ≡ b) × (m ≡ n)
reads_one row Absent is good words a b m n h k =
    let x = absent_reads row words a m is h in
    let y = absent_reads row words b n is k in
    (x.0 ∙ sym y.0, x.1 ∙ sym y.1)
reads_one row (Needed name range) is good words a b m n h k =
    let x = needed_reads row name range words a m is h in
    let y = needed_reads row name range words b n is k in
    let same : x.word ∷ m ≡ y.word ∷ n = sym x.are ∙ y.are in
    let word : x.word ≡ y.word = cc in
    let files : m ≡ n = cc in
    (range_one range good y.word a b (subst (λ (w : List ℕ). IsNumber range w a) word x.is) y.is, files)
reads_one row (Optional option range otherwise) is good words a b m n h k = by (begins_or_not words option)
  where
    two : BeginWith words option → (a ≡ b) × (m ≡ n)
    two begins =
        let x = limited_reads row option range otherwise words a m is good.1 begins h in
        let y = limited_reads row option range otherwise words b n is good.1 begins k in
        let same : x.first ∷ x.word ∷ m ≡ y.first ∷ y.word ∷ n = sym x.are ∙ y.are in
        let word : x.word ≡ y.word = cc in
        let files : m ≡ n = cc in
        (range_one range good.0 y.word a b (subst (λ (w : List ℕ). IsNumber range w a) word x.is) y.is, files)

    plain : (BeginWith words option → ⊥) → (a ≡ b) × (m ≡ n)
    plain other =
        let x = plain_reads row option range otherwise words a m is other h in
        let y = plain_reads row option range otherwise words b n is other k in
        (x.0 ∙ sym y.0, x.1 ∙ sym y.1)

    by : BeginWith words option ⊎ (BeginWith words option → ⊥) → (a ≡ b) × (m ≡ n)
    by (inl begins) = two begins
    by (inr other) = plain other

pub commands_one : (words : List (List ℕ)) (r s : Request) (m n : List (List ℕ)) → IsCommand words r m → IsCommand words s n
    → (r ≡ s) × (m ≡ n)
commands_one [] r s m n h k = absurd (no_words r m h)
commands_one (word ∷ words) r s m n h k =
    let x = of_command word words r m h in
    let y = of_command word words s n k in
    let found : Some (command_of r) ≡ Some (command_of s) = sym (found_of word (command_of r) x.is) ∙ found_of word (command_of s) y.is in
    let same : command_of r ≡ command_of s = cc in
    let row = row_of (command_of s) in
    let reads : Reads row words (number_of r) m = subst (λ (c : Command). Reads (row_of c) words (number_of r) m) same x.reads in
    let one = reads_one row row.number refl (good (command_of s)) words (number_of r) (number_of s) m n reads y.reads in (
      sym (own_request r) ∙ (ap (λ (c : Command). request_of c (number_of r)) same
          ∙ (ap (request_of (command_of s)) one.0 ∙ own_request s)),
      one.1,
    )

pub commands_taken : (words : List (List ℕ)) (request : Request) (names : List (List ℕ)) → IsCommand words request names
    → Takes request (length names)
commands_taken words request names command =
    (in_range (command_of request) command.numbers (number_of request) command.says, command.named.some, command.named.few)
