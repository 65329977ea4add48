-- The texts of a pool by numbers: equal texts have one number, so members are compared by pairs of numbers.
use Rattle.std.specs.Prelude.{◌≡◌, ◌||◌, ℕ, ◌<◌, Bool, true, false, List, map, slice_index_or, Option, Some, None, IsSome, option_and_then}
use Rattle.std.specs.List.{list_any, position_or_len, AllByRecursion}
use Rattle.std.specs.Str.{bytes_eq}
use Rattle.std.specs.Ordering.{nat_cmp}
use Rattle.std.specs.Cmp.Lexicographic.{slice_cmp}
use Rattle.std.specs.BTreeMap.{BTreeMap, get_by}
use Rattle.class_pool.specs.declared.entry.PoolEntry.{PoolEntry}
use Rattle.class_pool.specs.Text as pools
use Rattle.class_pool.specs.Text.{places_of, utf8_at}
use Rattle.class_read.specs.Rules.{Key, same_key, text_of}

-- the text of the entry at a place of a pool, none where it isn't a Utf8
abbrev pub place_text : Option PoolEntry → Option (List ℕ)
place_text place = option_and_then pools.text_of place

-- two texts agree byte by byte, or both are missing
abbrev pub same_text : Option (List ℕ) → Option (List ℕ) → Bool
same_text None None = true
same_text None (Some b) = false
same_text (Some a) None = false
same_text (Some a) (Some b) = bytes_eq a b

-- the number of a text in a pool: the first place that has it. It is 0 where there is no text, for place 0 has none.
abbrev pub number_in : List (Option PoolEntry) → Option (List ℕ) → ℕ
number_in places text = position_or_len (λ place. same_text text (place_text place)) places

-- the number of the text of the entry at a place
abbrev pub place_number : List (Option PoolEntry) → Option PoolEntry → ℕ
place_number places place = number_in places (place_text place)

-- the number of the text of the Utf8 entry `i`
abbrev pub number_of : List PoolEntry → ℕ → ℕ
number_of pool i = number_in (places_of pool) (utf8_at pool i)

-- ---- how the numbers are found

-- the place that a map keeps for a text
abbrev pub kept_place : {K : Type 0} → (K → List ℕ) → BTreeMap K ℕ → List ℕ → Option ℕ
kept_place text kept t = get_by (λ k. slice_cmp nat_cmp t (text k)) kept

-- A map keeps the first places of all texts that stand before the place `i` of a pool: what it keeps is a text's number, and
-- it keeps one for each of these texts.
pub record KeepsFirst (places : List (Option PoolEntry)) (i : ℕ) (kept : List ℕ → Option ℕ) : Type 0 where
  pub right : (t : List ℕ) (n : ℕ) → kept t ≡ Some n → n ≡ number_in places (Some t)
  pub all : (j : ℕ) (t : List ℕ) → j < i → place_text (slice_index_or places j None) ≡ Some t → IsSome (kept t)

-- ---- members by numbers

-- the key of a member whose name and descriptor are the Utf8 entries of these two numbers
abbrev pub key_of : List PoolEntry → ℕ × ℕ → Key
key_of pool pair = (text_of pool pair.0, text_of pool pair.1)

-- the keys of members by the numbers of their names and descriptors
abbrev pub keys_in : List PoolEntry → List (ℕ × ℕ) → List Key
keys_in pool pairs = map (key_of pool) pairs

-- n is the number of a text of the pool: a Utf8 entry stands at the place n, and its text stands at no earlier place
pub record IsNumber (pool : List PoolEntry) (n : ℕ) : Type 0 where
  pub there : IsSome (utf8_at pool n)
  pub first : number_of pool n ≡ n

-- each of the pairs is made of two numbers of texts of the pool
abbrev pub AreNumbers : List PoolEntry → List (ℕ × ℕ) → Type 0
AreNumbers pool pairs = AllByRecursion (λ pair. IsNumber pool pair.0 × IsNumber pool pair.1) pairs

-- The pairs `now` are those of `was` and of one more member, whose key is `key`: they are numbers of texts, and exactly the keys
-- of `was` and this one are among them.
pub record Joins (pool : List PoolEntry) (was now : List (ℕ × ℕ)) (key : Key) : Type 0 where
  pub numbers : AreNumbers pool now
  pub keys : (k : Key) → list_any (same_key k) (keys_in pool now) ≡ (same_key k key || list_any (same_key k) (keys_in pool was))
