-- The words of a survey: `[--why] [--desc FILE].. CLASS..`.
use Rattle.std.specs.Prelude.{ℕ, ◌≤◌, ◌==◌, not, Bool, true, List, [], ◌∷◌, length, codes, IsTrue, if◌then◌else◌}
use Rattle.std.specs.List.{list_all}
use Rattle.std.specs.Str.{bytes_eq}
use Rattle.class_base.specs.Limits.{most_classes}

-- the words behind `--why`, which may stand first
abbrev pub behind_why : List (List ℕ) → List (List ℕ)
behind_why [] = []
behind_why (word ∷ words) = if bytes_eq word (codes "--why") then words else word ∷ words

-- the names of descriptions, each behind a `--desc`
abbrev pub descs_in : List (List ℕ) → List (List ℕ)
descs_in [] = []
descs_in (word ∷ []) = []
descs_in (word ∷ name ∷ words) = if bytes_eq word (codes "--desc") then name ∷ descs_in words else []

-- the words behind the descriptions
abbrev pub behind_descs : List (List ℕ) → List (List ℕ)
behind_descs [] = []
behind_descs (word ∷ []) = word ∷ []
behind_descs (word ∷ name ∷ words) = if bytes_eq word (codes "--desc") then behind_descs words else word ∷ name ∷ words

-- the words that name descriptions
abbrev pub desc_words : List (List ℕ) → List (List ℕ)
desc_words words = descs_in (behind_why words)

-- the words that name class files, behind all descriptions
abbrev pub class_words : List (List ℕ) → List (List ℕ)
class_words words = behind_descs (behind_why words)

-- a word that names a file does not begin with `-`
abbrev pub is_file_word : List ℕ → Bool
is_file_word [] = true
is_file_word (first ∷ rest) = not (first == 45)

-- the words are those of a survey: at least one class file, at most 256 of them and as many descriptions, and none of
-- their names begins with `-`
pub record AreSurvey (words : List (List ℕ)) : Type 0 where
  pub some : 1 ≤ length (class_words words)
  pub few : length (class_words words) ≤ most_classes
  pub few_descs : length (desc_words words) ≤ most_classes
  pub files : IsTrue (list_all is_file_word (class_words words))
  pub descs : IsTrue (list_all is_file_word (desc_words words))
