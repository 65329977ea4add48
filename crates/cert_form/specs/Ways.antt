-- How a node is left: `["expand",[child,..]]`, `["instance",target,[[id of the target, id here],..]]` or `["end"]`.
use Rattle.std.specs.Prelude.{ℕ, if◌then◌else◌, List, Option, Some, None, codes, Ok}
use Rattle.std.specs.Str.{bytes_eq}
use Rattle.term_graph.specs.declared.nodes.By.{By}
use Rattle.term_graph.specs.declared.nodes.By.TheVariants as ways
use Rattle.cert_form.specs.declared.ways.WayWord.{WayWord}
use Rattle.cert_form.specs.declared.ways.WayWord.TheVariants.{Expand, Instance, End}
use Rattle.cert_form.specs.Answers.{Reader}
use Rattle.cert_form.specs.Fields.{◌>>=◌, entries_of, of_length, longer_than, nth, a_word, a_number}
use Rattle.cert_form.specs.States.{two_ids}

-- how a node is left, by its word
abbrev pub way_word : List ℕ → Option WayWord
way_word word =
    if bytes_eq word (codes "expand") then Some Expand
    else if bytes_eq word (codes "instance") then Some Instance
    else if bytes_eq word (codes "end") then Some End
    else None

-- how many entries the list with this word has
abbrev pub way_length : WayWord → ℕ
way_length Expand = 2
way_length Instance = 3
way_length End = 1

-- a list of numbers
unfoldable pub numbers_of : Reader (List ℕ)
numbers_of here = entries_of (λ _. a_number) here

-- the entry `[id of the target, id here]` of an instance: an id of the target with the id that stands for it
unfoldable pub map_entry : Reader (ℕ × ℕ)
map_entry here = of_length 2 two_ids here

-- which id here stands for each id of the target
unfoldable pub map_of : Reader (List (ℕ × ℕ))
map_of here = entries_of (λ _. map_entry) here

-- the way `["expand",[child,..]]`: the node is expanded, and these are its children
unfoldable pub expand_of : Reader By
expand_of here = nth 1 numbers_of here >>= λ children. Ok (ways.Expand children)

-- the way `["instance",target,[[id of the target, id here],..]]`: the node is an instance of the target
unfoldable pub instance_of : Reader By
instance_of here = do
  target ← nth 1 a_number here
  map ← nth 2 map_of here
  Ok (ways.Instance target map)

-- how a node is left, with this word
abbrev pub way_of : WayWord → Reader By
way_of Expand here = expand_of here
way_of Instance here = instance_of here
way_of End here = Ok ways.End

-- how a node is left: the word and the length are tested before the rest
unfoldable pub by_of : Reader By
by_of here = longer_than 0 (nth 0 (a_word way_word)) here >>= λ word. of_length (way_length word) (way_of word) here
