-- How what a number leads to is marked.
use Rattle.std.specs.Prelude.{◌≡◌, ℕ, ◌<◌, ◌&&◌, not, nat_lt, Bool, true, false, List, [], ◌∷◌, ◌++◌, length, if◌then◌else◌}
use Rattle.std.specs.Prelude.{slice_index_or, slice_set, sum_by}
use Rattle.number_graphs.specs.Graphs.{Leads}
use Rattle.number_graphs.specs.Lists.{Edge}

-- the marks, and the marked numbers that are still to be gone on from
pub record Front : Type 0 where
  pub marks : List Bool
  pub todo : List ℕ

-- a number that has a mark, and whose mark isn't set
abbrev pub is_open : List Bool → ℕ → Bool
is_open marks b = nat_lt b (length marks) && not (slice_index_or marks b false)

-- a walk comes to a number: an open one is marked, and put behind those that are still to be gone on from
abbrev pub come : ℕ → Front → Front
come b front = if is_open front.marks b then record { marks = slice_set front.marks b true; todo = front.todo ++ b ∷ [] } else front

-- the numbers of a list are come to, one after another
abbrev pub visit : List ℕ → Front → Front
visit [] front = front
visit (b ∷ row) front = visit row (come b front)

-- how many marks are set
abbrev pub marked_count : List Bool → ℕ
marked_count marks = sum_by (λ mark. if mark then 1 else 0) marks

-- exactly the numbers are marked to which ways lead from `start`
pub record AreReached (graph : List (List ℕ)) (start : ℕ) (marks : List Bool) : Type 0 where
  pub count : length marks ≡ length graph
  pub sound : (b : ℕ) → slice_index_or marks b false ≡ true → Leads (Edge graph) start b
  pub whole : (b : ℕ) → b < length graph → Leads (Edge graph) start b → slice_index_or marks b false ≡ true
