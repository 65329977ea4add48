-- From words to commands, and that words are one command.
use Rattle.std.proofs.Common.{◌≡◌, ℕ, List, [], ◌∷◌, ◌++◌, map, ap, sym, ◌∙◌, subst}
use Rattle.std.specs.Prelude.{Option, Some, None, MatchOption}
use Rattle.class_calls.specs.declared.command_rows.table.Request.{Request}
use Rattle.class_calls.specs.declared.command_rows.table.Command.{Command}
use Rattle.class_calls.specs.command_rows.Rows.{commands, row_of, command_of, number_of}
use Rattle.class_calls.specs.command_rows.Words.{IsCommand}
use Rattle.class_calls.specs.command_rows.inner.Reading.{command_named, Reads}
use Rattle.class_calls.proofs.Rows.{own_word, has_word}

-- a command's words are its word and what is read behind it
pub is_command : (word : List ℕ) (words : List (List ℕ)) (command : Command) (request : Request) (files : List (List ℕ))
    → word ≡ (row_of command).word → command_of request ≡ command
    → Reads (row_of command) words (number_of request) files → IsCommand (word ∷ words) request files
is_command word words command request files is asked reads =
    let here : Reads (row_of (command_of request)) words (number_of request) files = subst
    (λ (c : Command). Reads (row_of c) words (number_of request) files) (sym asked) reads in
    let own : word ≡ (row_of (command_of request)).word = is ∙ ap (λ (c : Command). (row_of c).word) (sym asked) in
    let split : word ∷ words ≡ (row_of (command_of request)).word ∷ (here.numbers ++ files) =
    ap (λ (w : List ℕ). w ∷ words) own ∙ ap (λ (ws : List (List ℕ)). (row_of (command_of request)).word ∷ ws) here.spelled in
    record { numbers = here.numbers; spelled = split; says = here.says; named = here.named }

-- and the other way round
pub record OfCommand (word : List ℕ) (words : List (List ℕ)) (request : Request) (files : List (List ℕ)) : Type 0 where
  pub is : word ≡ (row_of (command_of request)).word
  pub reads : Reads (row_of (command_of request)) words (number_of request) files

pub of_command : (word : List ℕ) (words : List (List ℕ)) (request : Request) (files : List (List ℕ))
    → IsCommand (word ∷ words) request files → OfCommand word words request files
of_command word words request files command =
    let split : word ∷ words ≡ (row_of (command_of request)).word ∷ (command.numbers ++ files) = command.spelled in
    let first : word ≡ (row_of (command_of request)).word = cc in
    let rest : words ≡ command.numbers ++ files = cc in
    record { is = first; reads = record { numbers = command.numbers; spelled = rest; says = command.says; named = command.named } }

pub no_words : (request : Request) (files : List (List ℕ)) → IsCommand [] request files → ⊥
no_words request files command = let split : [] ≡ (row_of (command_of request)).word ∷ (command.numbers ++ files) = command.spelled in cc

-- the command of a word is the one that is found
pub found_of : (word : List ℕ) (command : Command) → word ≡ (row_of command).word → command_named commands word ≡ Some command
found_of word command is = subst (λ (w : List ℕ). command_named commands w ≡ Some command) (sym is) (own_word command)

-- an answer that is none shows what none says
pub none_says : {A P : Type 0} (Q : A → Type 0) (answer : Option A) → answer ≡ None → P → MatchOption answer P Q
none_says {A} {P} Q answer e p = subst (λ (o : Option A). MatchOption o P Q) (sym e) p

-- what the words behind the word of a command say is what all words say
pub from_asked : {A B : Type 0} (f : A → List ℕ) (asked : B → Request) (files : B → List A) (words : List (List ℕ)) (word : List ℕ)
    (behind : List (List ℕ)) (command : Command) (answer : Option B)
    → words ≡ word ∷ behind → command_named commands word ≡ Some command
    → MatchOption answer ((r : Request) (fs : List (List ℕ)) → command_of r ≡ command → Reads (row_of command) behind (number_of r) fs → ⊥)
    (λ b. (command_of (asked b) ≡ command) × Reads (row_of command) behind (number_of (asked b)) (map f (files b)))
    → MatchOption answer ((r : Request) (fs : List (List ℕ)) → IsCommand words r fs → ⊥) (λ b. IsCommand words (asked b) (map f (files b)))
from_asked f asked files words word behind command None split found none = λ r fs is.
    let of = of_command word behind r fs (subst (λ (ws : List (List ℕ)). IsCommand ws r fs) split is) in
    let same : Some (command_of r) ≡ Some command = sym (found_of word (command_of r) of.is) ∙ found in
    let one : command_of r ≡ command = cc in
    none r fs one (subst (λ (c : Command). Reads (row_of c) behind (number_of r) fs) one of.reads)
from_asked f asked files words word behind command (Some b) split found some =
    subst (λ (ws : List (List ℕ)). IsCommand ws (asked b) (map f (files b))) (sym split)
    (is_command word behind command (asked b) (map f (files b)) (has_word commands word command found) some.0 some.1)
