use Rattle.std.proofs.Common.{◌≡◌, ◌<◌, ◌^◌, ◌∷◌, ℕ, List, [], Some, None, Ok, decimal, refl, ap, ◌∙◌, sym, append_assoc, option_map}
use Rattle.std.specs.Option.{ok_or}
use Rattle.serde_json.specs.Data.{Data, null, boolean, number, string, array, object, Items, Members}
use Rattle.serde_json.specs.Find.{pointer, step, get_member, get_item}
use Rattle.json_view.proofs.Leads.{pointer_more, Lacks-escaped, unescape-escaped, Lacks-decimal, index_of-decimal}
use Rattle.json_view.specs.Leads.{LeadsFrom}
use Rattle.json_view.specs.Located.{Located}
use Rattle.json_view.specs.Place.{escaped, member_pointer, item_pointer}
use Rattle.json_view.specs.Reading.{field_of, item_of, at_member, at_item}
use Rattle.json_view.specs.declared.fault.JsonFault.{JsonFault}
use Rattle.json_view.proofs.laws.places_lead_to_their_values.Goals as goal

-- the token of a field leads on to its value
record IsStep (token place : List ℕ) (here : Data) (there : Located) : Type 0 where
  value : step token here ≡ Some there.value
  place_is : there.place ≡ place

member_found : (place name : List ℕ) (ms : Members) (there : Located) (fault : JsonFault)
    → ok_or (option_map (at_member place name) (get_member name ms)) fault ≡ Ok there
    → IsStep (escaped name) (member_pointer place name) (object ms) there
member_found place name ms there fault found =
    elim (get_member name ms) as (λ o. get_member name ms ≡ o → ok_or (option_map (at_member place name) o) fault ≡ Ok there
    → IsStep (escaped name) (member_pointer place name) (object ms) there) [
      | None ↦ λ is e. absurd cc
      | Some d ↦ λ is e. let same : at_member place name d ≡ there = cc in record
          { value = rw (unescape-escaped name, is) (ap (λ l. Some l.value) same); place_is = sym (ap (λ l. l.place) same) }
    ] refl found

field_found : (place name : List ℕ) (here : Data) (there : Located)
    → field_of name (record { value = here; place = place }) ≡ Ok there → IsStep (escaped name) (member_pointer place name) here there
unfolding field_of
field_found place name null there found = absurd cc
field_found place name (boolean b) there found = absurd cc
field_found place name (number n) there found = absurd cc
field_found place name (string s) there found = absurd cc
field_found place name (array items) there found = absurd cc
field_found place name (object ms) there found = member_found place name ms there _ found

element_found : (place : List ℕ) (n : ℕ) (items : Items) (there : Located) → n < 2 ^ 64
    → option_map (at_item place n) (get_item n items) ≡ Some there → IsStep (decimal n) (item_pointer place n) (array items) there
element_found place n items there small found =
    elim (get_item n items) as (λ o. get_item n items ≡ o → option_map (at_item place n) o ≡ Some there
    → IsStep (decimal n) (item_pointer place n) (array items) there) [
      | None ↦ λ is e. absurd cc
      | Some d ↦ λ is e. let same : at_item place n d ≡ there = cc in record
          { value = rw (index_of-decimal n small, is) (ap (λ l. Some l.value) same); place_is = sym (ap (λ l. l.place) same) }
    ] refl found

item_found : (place : List ℕ) (n : ℕ) (here : Data) (there : Located) → n < 2 ^ 64
    → item_of n (record { value = here; place = place }) ≡ Some there → IsStep (decimal n) (item_pointer place n) here there
unfolding item_of
item_found place n null there small found = absurd cc
item_found place n (boolean b) there small found = absurd cc
item_found place n (number x) there small found = absurd cc
item_found place n (string s) there small found = absurd cc
item_found place n (array items) there small found = element_found place n items there small found
item_found place n (object ms) there small found = absurd cc

of_field : (root : Data) (name : List ℕ) (here there : Located) → LeadsFrom root here → field_of name here ≡ Ok there
    → LeadsFrom root there
of_field root name here there leads found =
    let next = field_found here.place name here.value there found in
    rw next.place_is (ap (λ p. pointer p root) (append_assoc here.place (47 ∷ []) (escaped name))
    ∙ pointer_more here.place (escaped name) root here.value (Lacks-escaped name) leads ∙ next.value)

of_item : (root : Data) (n : ℕ) (here there : Located) → n < 2 ^ 64 → LeadsFrom root here → item_of n here ≡ Some there
    → LeadsFrom root there
of_item root n here there small leads found =
    let next = item_found here.place n here.value there small found in
    rw next.place_is (ap (λ p. pointer p root) (append_assoc here.place (47 ∷ []) (decimal n))
    ∙ pointer_more here.place (decimal n) root here.value (Lacks-decimal n small) leads ∙ next.value)

pub returns : goal.returns
returns c = record { of_root = λ root. refl; of_field = of_field; of_item = of_item }
