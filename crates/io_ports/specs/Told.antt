-- What files tell of the content under a name.
use Rattle.std.specs.Prelude.{◌≡◌, ◌<◌, ℕ, List, length, ⊤}

-- Nothing is told, as of the files of an operating system; or that nothing is held; or the content that is held.
pub data Told : Type 0 where
  Untold : Told
  Absent : Told
  Content : List ℕ → Told

-- a read gave these bytes: they are the content, where one is told
abbrev pub IsContent : Told → List ℕ → Type 0
IsContent Untold bytes = ⊤
IsContent Absent bytes = ⊥
IsContent (Content content) bytes = bytes ≡ content

-- the content, where one is told, is longer than the limit
abbrev pub IsPastLimit : Told → ℕ → Type 0
IsPastLimit Untold limit = ⊤
IsPastLimit Absent limit = ⊥
IsPastLimit (Content content) limit = limit < length content

-- nothing is held, where that is told
abbrev pub IsNotHeld : Told → Type 0
IsNotHeld Untold = ⊤
IsNotHeld Absent = ⊤
IsNotHeld (Content content) = ⊥
