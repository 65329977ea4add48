-- States: objects with exactly the fields `cells`, `eq`, `frames`, `share` and `throw`, read in this order.
--
-- A frame is `[method,place,[locals],[stack]]`, the bottom frame first, with -1 for an unset local and the stack's top
-- last; `throw` is -1 or an id; pairs are `[a,b]` with a below b, rising.
use Rattle.std.specs.Prelude.{ℕ, ◌&&◌, nat_lt, Bool, true, if◌then◌else◌, List, [], ◌∷◌, reverse, Option, Some, None, codes, Result}
use Rattle.std.specs.Prelude.{Ok, Err}
use Rattle.std.specs.Option.{option_map_or}
use Rattle.abs_cells.specs.AbstractStates.{AbstractFrame, AbstractState}
use Rattle.abs_cells.specs.declared.cells.Cell.{Cell}
use Rattle.abs_cells.specs.Limits.{most_ids}
use Rattle.abs_cells.specs.PairLists.{is_before}
use Rattle.cert_form.specs.Answers.{Reader}
use Rattle.cert_form.specs.Fields.{◌>>=◌, only, field, entries_of, at_most, of_length, nth, in_order, last_of, a_number, a_place}
use Rattle.cert_form.specs.Fields.{an_id, maybe_id}
use Rattle.cert_form.specs.Cells.{cell_in, ids_of}

-- ---- pairs

-- a pair may stand behind these: it comes after the last of them
abbrev pub is_next_pair : List (ℕ × ℕ) → ℕ × ℕ → Bool
is_next_pair front q = option_map_or (λ p. is_before p q) (last_of front) true

-- the two ids of a pair
unfoldable pub two_ids : Reader (ℕ × ℕ)
two_ids here = do
  a ← nth 0 an_id here
  b ← nth 1 an_id here
  Ok (a, b)

-- a pair `[a,b]` with a below b, which comes after those of `front`
unfoldable pub ordered_pair : List (ℕ × ℕ) → Reader (ℕ × ℕ)
ordered_pair front here = do
  pair ← two_ids here
  order ← in_order (nat_lt pair.0 pair.1 && is_next_pair front pair) here
  Ok pair

-- a list of two entries that is a pair, behind those of `front`
unfoldable pub pair_in : List (ℕ × ℕ) → Reader (ℕ × ℕ)
pair_in front here = of_length 2 (ordered_pair front) here

-- ---- frames

-- the locals of a frame: the id of each, or none where it is unset
unfoldable pub locals_of : Reader (List (Option ℕ))
locals_of here = entries_of (λ _. maybe_id) here

-- the parts of a frame: its method, the place of its instruction, its locals, and its stack, whose top is written last
unfoldable pub frame_parts : Reader AbstractFrame
frame_parts here = do
  method ← nth 0 a_number here
  pc ← nth 1 a_place here
  locals ← nth 2 locals_of here
  stack ← nth 3 ids_of here
  Ok (record { method = method; pc = pc; locals = locals; stack = reverse stack })

-- the frame `[method,place,[locals],[stack]]`
unfoldable pub frame_of : Reader AbstractFrame
frame_of here = of_length 4 frame_parts here

-- ---- states

-- the names of a state's fields
abbrev pub state_names : List ℕ
state_names = codes "cells eq frames share throw"

-- the cells of a state, of which there may be 512
unfoldable pub cells_of : List (List ℕ) → Reader (List (ℕ × Cell))
cells_of names here = at_most most_ids (entries_of (cell_in names)) here

-- the frames of a state, the bottom one first
unfoldable pub frames_of : Reader (List AbstractFrame)
frames_of here = entries_of (λ _. frame_of) here

-- pairs of ids, rising: those that may be one object, or from which one object may be reached
unfoldable pub pairs_of : Reader (List (ℕ × ℕ))
pairs_of here = entries_of pair_in here

-- a state over the names of the world's classes, with its frames as they are held, the top one first
unfoldable pub state_of : List (List ℕ) → Reader AbstractState
state_of names here = do
  listed ← only state_names here
  cells ← field (codes "cells") (cells_of names) here
  eq ← field (codes "eq") pairs_of here
  frames ← field (codes "frames") frames_of here
  share ← field (codes "share") pairs_of here
  throwing ← field (codes "throw") maybe_id here
  Ok (record { frames = reverse frames; throwing = throwing; cells = cells; eq = eq; share = share })
