-- Lists of words: how the words behind a command's word are divided into a number and the words of files.
use Rattle.std.proofs.Common.{◌≡◌, ℕ, ◌≤◌, Bool, true, false, ◌&&◌, List, [], ◌∷◌, ◌++◌, length, map, refl, arith, ap, sym, ◌∙◌}
use Rattle.std.proofs.Common.{subst, IsTrue}
use Rattle.std.proofs.lemmas.List.{length-map}
use Rattle.std.specs.Prelude.{◌↔◌, Option, Some, None, MatchOption}
use Rattle.std.specs.List.{list_all}
use Rattle.class_calls.specs.declared.command_rows.row.NumberRange.{NumberRange}
use Rattle.class_calls.specs.declared.command_rows.row.NumberWord.{NumberWord}
use Rattle.class_calls.specs.declared.command_rows.row.NumberWord.TheVariants.{Absent, Needed, Optional}
use Rattle.class_calls.specs.declared.command_rows.row.Row.{Row}
use Rattle.class_calls.specs.command_rows.Rows.{least_files, most_files}
use Rattle.class_calls.specs.command_rows.Words.{is_file_word, AreFiles, IsNumber, SaysNumber}
use Rattle.class_calls.specs.command_rows.inner.Reading.{BeginWith, Reads}

-- ---- words of files

-- a test of each item is one of each word
all-map : {A : Type 0} (f : A → List ℕ) (p : List ℕ → Bool) (xs : List A) → list_all (λ x. p (f x)) xs ≡ list_all p (map f xs)
all-map f p [] = refl
all-map f p (x ∷ xs) = ap (λ (b : Bool). p (f x) && b) (all-map f p xs)

-- when as many words as a row takes name files
pub are_files : {A : Type 0} (f : A → List ℕ) (row : Row) (words : List A) (answer : Bool)
    → answer ≡ list_all (λ x. is_file_word (f x)) words
    → (least_files row ≤ length words) × (length words ≤ most_files row) → IsTrue answer ↔ AreFiles row (map f words)
are_files f row words answer e count = (
  λ t. record {
    some = (let l = length-map words f in let some = count.0 in omega (arith, l, some));
    few = (let l = length-map words f in let few = count.1 in omega (arith, l, few));
    each = sym (all-map f is_file_word words) ∙ sym e ∙ t;
  },
  λ r. e ∙ all-map f is_file_word words ∙ r.each,
)

pub words_are : {A : Type 0} (f : A → List ℕ) (words : List A) (first : A) (rest : List A) (word : List ℕ) → words ≡ first ∷ rest
    → word ≡ f first → map f words ≡ word ∷ map f rest
words_are f words first rest word e is = ap (map f) e ∙ ap (λ (w : List ℕ). w ∷ map f rest) (sym is)

-- ---- what the words before the files can be

no_word : (numbers : List (List ℕ)) (number : ℕ) → SaysNumber Absent numbers number → numbers ≡ []
no_word [] number says = refl
no_word (word ∷ numbers) number says = absurd says

record IsOne (range : NumberRange) (numbers : List (List ℕ)) (number : ℕ) : Type 0 where
  word : List ℕ
  are : numbers ≡ word ∷ []
  is : IsNumber range word number

one_word : (name : List ℕ) (range : NumberRange) (numbers : List (List ℕ)) (number : ℕ)
    → SaysNumber (Needed name range) numbers number → IsOne range numbers number
one_word name range [] number says = absurd says
one_word name range (word ∷ []) number says = record { word = word; are = refl; is = says }
one_word name range (word ∷ more ∷ numbers) number says = absurd says

-- absent
pub absent_reads : (row : Row) (words : List (List ℕ)) (number : ℕ) (files : List (List ℕ)) → row.number ≡ Absent
    → Reads row words number files → (number ≡ 0) × (files ≡ words)
absent_reads row words number files kind reads =
    let says : SaysNumber Absent reads.numbers number = subst (λ (k : NumberWord). SaysNumber k reads.numbers number) kind reads.says in
    let none : reads.numbers ≡ [] = no_word reads.numbers number says in (
      subst (λ (ns : List (List ℕ)). SaysNumber Absent ns number) none says,
      sym
          (reads.spelled ∙ ap (λ (ns : List (List ℕ)). ns ++ files) none),
    )

-- needed
pub record ReadsOne (range : NumberRange) (words : List (List ℕ)) (number : ℕ) (files : List (List ℕ)) : Type 0 where
  pub word : List ℕ
  pub are : words ≡ word ∷ files
  pub is : IsNumber range word number

pub needed_reads : (row : Row) (name : List ℕ) (range : NumberRange) (words : List (List ℕ)) (number : ℕ) (files : List (List ℕ))
    → row.number ≡ Needed name range → Reads row words number files → ReadsOne range words number files
needed_reads row name range words number files kind reads =
    let one = one_word name range reads.numbers number (subst (λ (k : NumberWord). SaysNumber k reads.numbers number) kind reads.says) in
    record { word = one.word; are = reads.spelled ∙ ap (λ (ns : List (List ℕ)). ns ++ files) one.are; is = one.is }

-- optional: where the option stands first, and where it doesn't
pub record ReadsTwo (range : NumberRange) (words : List (List ℕ)) (number : ℕ) (files : List (List ℕ)) : Type 0 where
  pub first : List ℕ
  pub word : List ℕ
  pub are : words ≡ first ∷ word ∷ files
  pub is : IsNumber range word number

-- words that begin with what names no file are none of files
no_files : (row : Row) (words : List (List ℕ)) (option : List ℕ) → is_file_word option ≡ false → BeginWith words option
    → AreFiles row words → ⊥
no_files row [] option bad begins are = begins
no_files row (word ∷ words) option bad begins are = by (is_file_word word) (ap is_file_word begins ∙ bad) are.each
  where
    by : (b : Bool) → b ≡ false → IsTrue (b && list_all is_file_word words) → ⊥
    by true e t = absurd (cc)
    by false e t = cc

limited_by : (row : Row) (option : List ℕ) (range : NumberRange) (otherwise : ℕ) (words : List (List ℕ)) (number : ℕ)
    (files numbers : List (List ℕ))
    → is_file_word option ≡ false → BeginWith words option → words ≡ numbers ++ files
    → SaysNumber (Optional option range otherwise) numbers number → AreFiles row files → ReadsTwo range words number files
limited_by row option range otherwise words number files [] bad begins e says are = absurd
    (no_files row files option bad (subst (λ (ws : List (List ℕ)). BeginWith ws option) e begins) are)
limited_by row option range otherwise words number files (first ∷ []) bad begins e says are = absurd says
limited_by row option range otherwise words number files (first ∷ word ∷ []) bad begins e says are = record
    { first = first; word = word; are = e; is = says.1 }
limited_by row option range otherwise words number files (first ∷ word ∷ more ∷ numbers) bad begins e says are = absurd says

pub limited_reads : (row : Row) (option : List ℕ) (range : NumberRange) (otherwise : ℕ) (words : List (List ℕ)) (number : ℕ)
    (files : List (List ℕ)) → row.number ≡ Optional option range otherwise
    → is_file_word option ≡ false → BeginWith words option → Reads row words number files → ReadsTwo range words number files
limited_reads row option range otherwise words number files kind bad begins reads =
    limited_by row option range otherwise words number files reads.numbers bad begins reads.spelled
    (subst (λ (k : NumberWord). SaysNumber k reads.numbers number) kind reads.says) reads.named

plain_by : (option : List ℕ) (range : NumberRange) (otherwise : ℕ) (words : List (List ℕ)) (number : ℕ) (files numbers : List (List ℕ))
    → (BeginWith words option → ⊥) → words ≡ numbers ++ files → SaysNumber (Optional option range otherwise) numbers number
    → (number ≡ otherwise) × (files ≡ words)
plain_by option range otherwise words number files [] other e says = (says, sym e)
plain_by option range otherwise words number files (first ∷ []) other e says = absurd says
plain_by option range otherwise words number files (first ∷ word ∷ []) other e says = absurd
    (other (subst (λ (ws : List (List ℕ)). BeginWith ws option) (sym e) says.0))
plain_by option range otherwise words number files (first ∷ word ∷ more ∷ numbers) other e says = absurd says

pub plain_reads : (row : Row) (option : List ℕ) (range : NumberRange) (otherwise : ℕ) (words : List (List ℕ)) (number : ℕ)
    (files : List (List ℕ)) → row.number ≡ Optional option range otherwise
    → (BeginWith words option → ⊥) → Reads row words number files → (number ≡ otherwise) × (files ≡ words)
plain_reads row option range otherwise words number files kind other reads =
    plain_by option range otherwise words number files reads.numbers other reads.spelled
    (subst (λ (k : NumberWord). SaysNumber k reads.numbers number) kind reads.says)

-- ---- what is read

-- what is read where the words are divided so, and all that are read have these files
pub from_files : {A B : Type 0} (f : A → List ℕ) (number : B → ℕ) (files : B → List A) (row : Row) (words numbers : List (List ℕ))
    (n : ℕ) (here : List A) (read : Option B)
    → words ≡ numbers ++ map f here → SaysNumber row.number numbers n
    → ((m : ℕ) (gs : List (List ℕ)) → Reads row words m gs → gs ≡ map f here)
    → MatchOption read (AreFiles row (map f here) → ⊥) (λ r. (number r ≡ n) × (files r ≡ here) × AreFiles row (map f here))
    → MatchOption read ((m : ℕ) (gs : List (List ℕ)) → Reads row words m gs → ⊥) (λ r. Reads row words (number r) (map f (files r)))
from_files f number files row words numbers n here None split says others none = λ m gs reads. none
    (subst (λ (fs : List (List ℕ)). AreFiles row fs) (others m gs reads) reads.named)
from_files {A} f number files row words numbers n here (Some r) split says others some = record {
  numbers = numbers;
  spelled = split ∙ ap (λ (fs : List A). numbers ++ map f fs) (sym some.1);
  says = subst (λ (m : ℕ). SaysNumber row.number numbers m) (sym some.0) says;
  named = subst (λ (fs : List A). AreFiles row (map f fs)) (sym some.1) some.2;
}

-- behind a number
pub from_needed : {A B : Type 0} (f : A → List ℕ) (number : B → ℕ) (files : B → List A) (row : Row) (name : List ℕ)
    (range : NumberRange) (words : List (List ℕ)) (word : List ℕ) (n : ℕ) (here : List A) (read : Option B)
    → row.number ≡ Needed name range → words ≡ word ∷ map f here → IsNumber range word n
    → MatchOption read (AreFiles row (map f here) → ⊥) (λ r. (number r ≡ n) × (files r ≡ here) × AreFiles row (map f here))
    → MatchOption read ((m : ℕ) (gs : List (List ℕ)) → Reads row words m gs → ⊥) (λ r. Reads row words (number r) (map f (files r)))
from_needed f number files row name range words word n here read kind split is h =
    from_files f number files row words (word ∷ []) n here read split
    (subst (λ (k : NumberWord). SaysNumber k (word ∷ []) n) (sym kind) is) others h
  where
    others : (m : ℕ) (gs : List (List ℕ)) → Reads row words m gs → gs ≡ map f here
    others m gs reads =
        let one = needed_reads row name range words m gs kind reads in
        let same : one.word ∷ gs ≡ word ∷ map f here = sym one.are ∙ split in
        cc

-- behind an option and its number
pub from_limited : {A B : Type 0} (f : A → List ℕ) (number : B → ℕ) (files : B → List A) (row : Row) (option : List ℕ)
    (range : NumberRange) (otherwise : ℕ) (words : List (List ℕ)) (first word : List ℕ) (n : ℕ) (here : List A) (read : Option B)
    → row.number ≡ Optional option range otherwise → is_file_word option ≡ false → BeginWith words option
    → words ≡ first ∷ word ∷ map f here → IsNumber range word n
    → MatchOption read (AreFiles row (map f here) → ⊥) (λ r. (number r ≡ n) × (files r ≡ here) × AreFiles row (map f here))
    → MatchOption read ((m : ℕ) (gs : List (List ℕ)) → Reads row words m gs → ⊥) (λ r. Reads row words (number r) (map f (files r)))
from_limited f number files row option range otherwise words first word n here read kind bad begins split is h =
    let begun : first ≡ option = subst (λ (ws : List (List ℕ)). BeginWith ws option) split begins in
    from_files f number files row words (first ∷ word ∷ []) n here read split
    (subst (λ (k : NumberWord). SaysNumber k (first ∷ word ∷ []) n) (sym kind) (begun, is)) others h
  where
    others : (m : ℕ) (gs : List (List ℕ)) → Reads row words m gs → gs ≡ map f here
    others m gs reads =
        let two = limited_reads row option range otherwise words m gs kind bad begins reads in
        let same : two.first ∷ two.word ∷ gs ≡ first ∷ word ∷ map f here = sym two.are ∙ split in
        cc
