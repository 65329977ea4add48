-- The names of an object's members against a list of names.
use Rattle.std.specs.Prelude.{ℕ, List, [], ◌∷◌, ◌==◌, Bool, not, Option, Some, None, is_none, filter, find}
use Rattle.std.specs.List.{slice_split, list_any}
use Rattle.std.specs.Option.{option_map_or}
use Rattle.std.specs.Ordering.{nat_cmp, match_ordering}
use Rattle.std.specs.Cmp.Lexicographic.{slice_cmp}
use Rattle.std.specs.Str.{bytes_eq}
use Rattle.serde_json.specs.Data.{Members, no_members, member}
use Rattle.serde_json.specs.Find.{get_member}

-- the names that stand in a text, divided by single spaces
abbrev pub listed : List ℕ → List (List ℕ)
listed names = slice_split (λ byte. byte == 32) names

-- a name is one of those that stand in the text of names
abbrev pub is_listed : List ℕ → List ℕ → Bool
is_listed names name = list_any (λ other. bytes_eq other name) (listed names)

-- the names of an object's members, in their order
abbrev pub member_names : Members → List (List ℕ)
member_names no_members = []
member_names (member name value rest) = name ∷ member_names rest

-- the lesser of two names by their bytes
abbrev pub lesser : List ℕ → List ℕ → List ℕ
lesser a b = match_ordering (slice_cmp nat_cmp a b) a a b

-- the least of some names by their bytes
abbrev pub least : List (List ℕ) → Option (List ℕ)
least [] = None
least (name ∷ rest) = Some (option_map_or (lesser name) (least rest) name)

-- the least name of a member that isn't listed
unfoldable pub least_unlisted : List ℕ → Members → Option (List ℕ)
least_unlisted names members = least (filter (λ name. not (is_listed names name)) (member_names members))

-- the first listed name that no member has
unfoldable pub first_missing : List ℕ → Members → Option (List ℕ)
first_missing names members = find (λ name. is_none (get_member name members)) (listed names)
