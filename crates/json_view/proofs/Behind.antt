-- The items of a list that are still to be read.
use Rattle.std.proofs.Common.{◌≡◌, ℕ, zero, suc, List, Option, Some, None, refl, ap}
use Rattle.std.specs.Prelude.{option_map}
use Rattle.serde_json.specs.Data.{Data, null, boolean, number, string, array, object, Items, no_items, item}
use Rattle.serde_json.specs.Events.{items_len}
use Rattle.serde_json.specs.Find.{get_item, at}
use Rattle.json_view.specs.Located.{Located}
use Rattle.json_view.specs.Reading.{item_count, at_item}

-- the items behind the first n
abbrev pub items_after : ℕ → Items → Items
items_after zero items = items
items_after (suc n) no_items = no_items
items_after (suc n) (item value rest) = items_after n rest

abbrev pub items_in : Data → Items
items_in (array items) = items
items_in null = no_items
items_in (boolean b) = no_items
items_in (number n) = no_items
items_in (string s) = no_items
items_in (object ms) = no_items

-- the first of the items behind n
first_after : (n : ℕ) (items : Items) (value : Data) → get_item n items ≡ Some value
    → items_after n items ≡ item value (items_after (suc n) items)
first_after n no_items value e = let no : ⊥ = cc in absurd no
first_after zero (item d ds) value e = let same : d ≡ value = cc in ap (λ (x : Data). item x ds) same
first_after (suc n) (item d ds) value e = first_after n ds value e

pub nth_after : (n : ℕ) (here value : Data) → at n here ≡ Some value
    → items_after n (items_in here) ≡ item value (items_after (suc n) (items_in here))
nth_after n null value e = let no : ⊥ = cc in absurd no
nth_after n (boolean b) value e = let no : ⊥ = cc in absurd no
nth_after n (number x) value e = let no : ⊥ = cc in absurd no
nth_after n (string s) value e = let no : ⊥ = cc in absurd no
nth_after n (object ms) value e = let no : ⊥ = cc in absurd no
nth_after n (array items) value e = first_after n items value e

pub item_found : (place : List ℕ) (n : ℕ) (found : Option Data) (there : Located) → option_map (at_item place n) found ≡ Some there
    → (value : Data) × ((found ≡ Some value) × (at_item place n value ≡ there))
item_found place n None there e = let no : ⊥ = cc in absurd no
item_found place n (Some value) there e = (value, (refl, cc))

-- behind the last item there are none
all_after : (items : Items) → items_after (items_len items) items ≡ no_items
all_after no_items = refl
all_after (item d ds) = all_after ds

pub all_in : (value : Data) → items_after (item_count value) (items_in value) ≡ no_items
all_in null = refl
all_in (boolean b) = refl
all_in (number n) = refl
all_in (string s) = refl
all_in (object ms) = refl
all_in (array items) = all_after items
