-- The items of a list.
use Rattle.std.proofs.Common.{ℕ, zero, suc, ◌<◌, refl, arith, IsSome}
use Rattle.serde_json.specs.Data.{Data, null, boolean, number, string, array, object, Items, no_items, item}
use Rattle.serde_json.specs.Events.{items_len}
use Rattle.serde_json.specs.Find.{get_item, at}
use Rattle.json_view.specs.Reading.{item_count}

get_item-below : (n : ℕ) (items : Items) → n < items_len items → IsSome (get_item n items)
get_item-below n no_items h = absurd (omega arith)
get_item-below zero (item d ds) h = refl
get_item-below (suc n) (item d ds) h = get_item-below n ds (omega arith)

-- an item below the count is there
pub at_below : (n : ℕ) (value : Data) → n < item_count value → IsSome (at n value)
at_below n null h = absurd (omega arith)
at_below n (boolean b) h = absurd (omega arith)
at_below n (number x) h = absurd (omega arith)
at_below n (string s) h = absurd (omega arith)
at_below n (array items) h = get_item-below n items h
at_below n (object ms) h = absurd (omega arith)
