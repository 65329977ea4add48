-- What a survey reads and puts, and what its status says.
use Rattle.std.specs.Prelude.{◌≡◌, ◌⊎◌, ℕ, List, [], ◌∷◌, ◌++◌, Option, length, ⊤}
use Rattle.std.specs.Io.KnownBytes.{Appends}
use Rattle.io_ports.specs.Told.{Told, IsContent}
use Rattle.survey.specs.Claims.{Surveyed, AreTrue, AreAllProved}

-- some contents are no others than those that are told under some of the names, in their order
abbrev pub AreSome : (List ℕ → Told) → List (List ℕ) → List (List ℕ) → Type 0
AreSome held names [] = ⊤
AreSome held [] (content ∷ contents) = ⊥
AreSome held (name ∷ names) (content ∷ contents) = (IsContent (held name) content × AreSome held names contents)
    ⊎ AreSome held names (content ∷ contents)

-- an output takes a text of true lines
abbrev pub Tells : {S : Type 0} → (S → Option (List ℕ)) → Surveyed → S → S → Type 0
Tells taken s old new = (text : List ℕ) × (Appends (taken old) (taken new) text × AreTrue s text)

-- an output takes the beginning of a text of true lines
abbrev pub BeginsToTell : {S : Type 0} → (S → Option (List ℕ)) → Surveyed → S → S → Type 0
BeginsToTell taken s old new = (text rest : List ℕ) × (Appends (taken old) (taken new) text × AreTrue s (text ++ rest))

-- What a call puts whose words name class files and descriptions. There are class files and descriptions that are
-- surveyed: the contents of some of those that the words name, in their order; the other class files were refused or
-- left out. The output took the beginning of a text of whole lines, of which each that begins with YES is true of
-- them. Status 0 says that all of this text was taken, that no class file was refused or left out, and that each
-- method with code is proved.
pub record HasSurveyed {S : Type 0} (held : List ℕ → Told) (taken : S → Option (List ℕ)) (names descs : List (List ℕ)) (old new : S)
    (status : ℕ) : Type 0 where
  pub s : Surveyed
  pub are : AreSome held names s.files
  pub described : AreSome held descs s.descs
  pub told : BeginsToTell taken s old new
  pub all : status ≡ 0 → (length s.files ≡ length names) × (Tells taken s old new × AreAllProved s)
