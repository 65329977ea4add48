-- Exception tables.
-- JVM specification, section 4.7.3 (exception_table): start, end and handler are places of instructions; the end is not
-- part of the range, and may be the length of the code.
use Rattle.std.specs.Prelude.{ℕ, List, [], ◌∷◌, Option, Some, None, Result, Ok, Err, Bool, not, ◌&&◌, ◌||◌, ◌==◌, nat_lt}
use Rattle.std.specs.Prelude.{if◌then◌else◌, IsTrue}
use Rattle.code_forms.specs.declared.fault.CodeFault.{CodeFault}
use Rattle.code_forms.specs.declared.fault.CodeFault.TheVariants.{BadTarget}
use Rattle.class_base.specs.declared.handler.Handler.{Handler}

-- a range of an exception table that begins at start may end at a place: the place is above the start, and it is where an
-- instruction begins or the length of the code
abbrev pub may_end : (ℕ → Bool) → ℕ → ℕ → ℕ → Bool
may_end begins length start end = nat_lt start end && (begins end || end == length)

-- the first place of an entry of an exception table that breaks the rules: its start, its end or its handler, in that order
abbrev pub bad_boundary : (ℕ → Bool) → ℕ → Handler → Option ℕ
bad_boundary begins length h =
    if not (begins h.start) then Some h.start else (
    if not (may_end begins length h.start h.end) then Some h.end else (
    if not (begins h.handler) then Some h.handler else None))

-- the first of two bad places, where each may be missing
abbrev pub earlier : Option ℕ → Option ℕ → Option ℕ
earlier (Some place) other = Some place
earlier None other = other

-- the first place of an exception table that breaks the rules, entry by entry
abbrev pub first_bad_boundary : (ℕ → Bool) → ℕ → List Handler → Option ℕ
first_bad_boundary begins length [] = None
first_bad_boundary begins length (h ∷ hs) = earlier (bad_boundary begins length h) (first_bad_boundary begins length hs)

-- a bad place of an exception table is the fault BadTarget there
abbrev pub boundary_fault : Option ℕ → Result (Unit {0}) CodeFault
boundary_fault None = Ok tt
boundary_fault (Some place) = Err (BadTarget place)

-- An entry of an exception table keeps the rules: its start and its handler are places where instructions begin, and its end
-- is one too or the length of the code, and is above the start.
pub record IsEntry (begins : ℕ → Bool) (length : ℕ) (h : Handler) : Type 0 where
  pub start : IsTrue (begins h.start)
  pub end : IsTrue (may_end begins length h.start h.end)
  pub handler : IsTrue (begins h.handler)
