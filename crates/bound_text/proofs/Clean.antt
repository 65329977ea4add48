-- No reader of a value says that the text is no JSON.
use Rattle.std.proofs.Common.{◌≡◌, ℕ, zero, suc, ℤ, pos, negsuc, ◌==◌, ◌&&◌, nat_lt, Bool, true, false, cond, List, [], ◌∷◌, Result, Ok}
use Rattle.std.proofs.Common.{Err, Option}
use Rattle.std.proofs.Common.{Some, None, refl, sym, subst, codes}
use Rattle.std.specs.Prelude.{option_map, int_le, nat_abs}
use Rattle.std.specs.Option.{ok_or}
use Rattle.serde_json.specs.Data.{Data, Items, no_items, item, Members}
use Rattle.serde_json.specs.Find.{as_object, as_array, get_member}
use Rattle.json_view.specs.Located.{Located, root_of}
use Rattle.json_view.specs.Answers.{Reads}
use Rattle.json_view.specs.Names.{least_unlisted, first_missing}
use Rattle.json_view.specs.Reading.{only_of, field_of, items_of, item_of, int_of, first_fault, unknown_field}
use Rattle.json_view.specs.Reading.{missing_field, at_member, at_item, within, whole_number_of}
use Rattle.json_view.specs.declared.fault.JsonFault.{JsonFault}
use Rattle.json_view.specs.declared.fault.JsonFault.TheVariants.{NotJson, WrongKind, MissingField, UnknownField, OutOfRange, Memory}
use Rattle.input_text.specs.Answers.{Reader, Says}
use Rattle.input_text.specs.Fields.{◌>>=◌, items_from, list_of}
use Rattle.bound_text.specs.declared.texts.BoundText.{BoundText}
use Rattle.bound_text.specs.Reading.{AnswersText}
use Rattle.bound_text.specs.Texts.{at_most, of_length, there_or, nth, number_to, a_number, an_id, a_multiple, a_constant, row_parts, row_of}
use Rattle.bound_text.specs.Texts.{multipliers_of, multiple_parts, multiple_of, multiples_of, form_parts, form_of, forms_of, rule_parts}
use Rattle.bound_text.specs.Texts.{rule_of}
use Rattle.bound_text.specs.Texts.{rules_of, entry_parts, entry_of, ranks_of, bound_text_of}

abbrev IsOther : JsonFault → Type 0
IsOther NotJson = ⊥
IsOther (WrongKind p) = Unit {0}
IsOther (MissingField p) = Unit {0}
IsOther (UnknownField p) = Unit {0}
IsOther (OutOfRange p) = Unit {0}
IsOther Memory = Unit {0}

abbrev IsClean : {A : Type 0} → Result A JsonFault → Type 0
IsClean (Ok value) = Unit {0}
IsClean (Err fault) = IsOther fault

bind : {A B : Type 0} (r : Result A JsonFault) (next : A → Result B JsonFault) → IsClean r → ((x : A) → IsClean (next x))
    → IsClean (r >>= next)
bind (Ok x) next c d = d x
bind (Err fault) next c d = c

choice : {A : Type 0} (t : Bool) (r s : Result A JsonFault) → IsClean r → IsClean s → IsClean (cond t r s)
choice true r s c d = c
choice false r s c d = d

kinds : {A : Type 0} (found : Option A) (fault : JsonFault) → IsOther fault → IsClean (ok_or found fault)
kinds (Some x) fault o = tt
kinds None fault o = o

firsts : (place : List ℕ) (a b : Option (List ℕ))
    → IsClean (first_fault (option_map (unknown_field place) a) (option_map (missing_field place) b))
firsts place (Some a) b = tt
firsts place None (Some b) = tt
firsts place None None = tt

only : (names : List ℕ) (here : Located) → IsClean (only_of names here)
unfolding only_of
only names here = at (as_object here.value)
  where
    at : (found : Option Members)
        → IsClean (ok_or found (WrongKind here.place) >>= λ members. first_fault
        (option_map (unknown_field here.place) (least_unlisted names members))
        (option_map (missing_field here.place) (first_missing names members)))
    at (Some members) = firsts here.place (least_unlisted names members) (first_missing names members)
    at None = tt

field_is : (name : List ℕ) (here : Located) → IsClean (field_of name here)
unfolding field_of
field_is name here = at (as_object here.value)
  where
    at : (found : Option Members)
        → IsClean (ok_or found (WrongKind here.place) >>= λ members. ok_or
        (option_map (at_member here.place name) (get_member name members)) (missing_field here.place name))
    at (Some members) = kinds (option_map (at_member here.place name) (get_member name members)) (missing_field here.place name) tt
    at None = tt

items : (here : Located) → IsClean (items_of here)
unfolding items_of
items here = kinds (option_map Rattle.serde_json.specs.Events.items_len (as_array here.value)) (WrongKind here.place) tt

int : (low high : ℤ) (here : Located) → IsClean (int_of low high here)
unfolding int_of
int low high here = at (whole_number_of here.value)
  where
    at : (found : Option ℤ) → IsClean (ok_or found (WrongKind here.place) >>= within here.place low high)
    at (Some n) = choice (int_le low n && int_le n high) (Ok n) (Err (OutOfRange here.place)) tt tt
    at None = tt

abbrev AreClean : {A : Type 0} → Reader A → Type 0
AreClean reader = (here : Located) → IsClean (reader here)

from_items : {A : Type 0} (reader : Reader A) (place : List ℕ) (n : ℕ) (all : Items) → AreClean reader
    → IsClean (items_from reader place n all)
from_items reader place n no_items c = tt
from_items reader place n (item value rest) c =
    bind (reader (at_item place n value)) (λ x. items_from reader place (suc n) rest >>= λ xs. Ok (x ∷ xs)) (c (at_item place n value))
    (λ x. bind (items_from reader place (suc n) rest) (λ xs. Ok (x ∷ xs)) (from_items reader place (suc n) rest c) (λ _. tt))

of_list : {A : Type 0} (reader : Reader A) → AreClean reader → AreClean (list_of reader)
unfolding list_of
of_list reader c here = bind (ok_or (as_array here.value) (WrongKind here.place)) (items_from reader here.place 0)
    (kinds (as_array here.value) (WrongKind here.place) tt) (λ all. from_items reader here.place 0 all c)

-- ---- readers of texts of bounds

of_at_most : {A : Type 0} (most : ℕ) (reader : Reader A) → AreClean reader → AreClean (at_most most reader)
unfolding at_most
of_at_most most reader c here = bind (items_of here) _ (items here) (λ count. choice (nat_lt most count) _ _ tt (c here))

of_size : {A : Type 0} (size : ℕ) (reader : Reader A) → AreClean reader → AreClean (of_length size reader)
unfolding of_length
of_size size reader c here = bind (items_of here) _ (items here) (λ count. choice (count == size) _ _ (c here) tt)

of_nth : {A : Type 0} (n : ℕ) (reader : Reader A) → AreClean reader → AreClean (nth n reader)
unfolding nth
of_nth n reader c here = at (item_of n here)
  where
    at : (found : Option Located) → IsClean (there_or here reader found)
    at (Some there) = c there
    at None = tt

of_number : AreClean a_number
unfolding a_number number_to
of_number here = bind (int_of (pos 0) (pos 4294967295) here) _ (int (pos 0) (pos 4294967295) here) (λ _. tt)

of_id : AreClean an_id
unfolding an_id number_to
of_id here = bind (int_of (pos 0) (pos 2047) here) _ (int (pos 0) (pos 2047) here) (λ _. tt)

of_multiple : AreClean a_multiple
unfolding a_multiple
of_multiple here = int (negsuc 2147483647) (pos 2147483648) here

of_constant : AreClean a_constant
unfolding a_constant
of_constant here = int (negsuc 1099511627775) (pos 1099511627776) here

of_row : AreClean row_of
unfolding row_of row_parts
of_row here = of_size 2 row_parts (λ there. bind (nth 0 a_number there) _ (of_nth 0 a_number of_number there)
    (λ _. bind (nth 1 a_multiple there) _ (of_nth 1 a_multiple of_multiple there) (λ _. tt))) here

of_multipliers : AreClean multipliers_of
unfolding multipliers_of
of_multipliers here = of_at_most 65536 (list_of row_of) (of_list row_of of_row) here

of_multiples : AreClean multiples_of
unfolding multiples_of multiple_of multiple_parts
of_multiples here = of_list multiple_of (λ at. of_size 2 multiple_parts (λ there. bind (nth 0 an_id there) _ (of_nth 0 an_id of_id there)
    (λ _. bind (nth 1 a_multiple there) _ (of_nth 1 a_multiple of_multiple there) (λ _. tt))) at) here

of_form : AreClean form_of
unfolding form_of form_parts
of_form here = of_size 4 form_parts (λ there. bind (nth 0 a_number there) _ (of_nth 0 a_number of_number there)
    (λ _. bind (nth 1 a_constant there) _ (of_nth 1 a_constant of_constant there)
    (λ _. bind (nth 2 multiples_of there) _ (of_nth 2 multiples_of of_multiples there)
    (λ _. bind (nth 3 multiples_of there) _ (of_nth 3 multiples_of of_multiples there) (λ _. tt))))) here

of_forms : AreClean forms_of
unfolding forms_of
of_forms here = of_list form_of of_form here

of_rule : AreClean rule_of
unfolding rule_of rule_parts
of_rule here = of_size 2 rule_parts (λ there. bind (nth 0 a_number there) _ (of_nth 0 a_number of_number there)
    (λ _. bind (nth 1 multipliers_of there) _ (of_nth 1 multipliers_of of_multipliers there) (λ _. tt))) here

of_rules : AreClean rules_of
unfolding rules_of
of_rules here = of_list rule_of of_rule here

of_entry : AreClean entry_of
unfolding entry_of entry_parts
of_entry here = of_size 3 entry_parts (λ there. bind (nth 0 a_number there) _ (of_nth 0 a_number of_number there)
    (λ _. bind (nth 1 forms_of there) _ (of_nth 1 forms_of of_forms there)
    (λ _. bind (nth 2 rules_of there) _ (of_nth 2 rules_of of_rules there) (λ _. tt)))) here

of_ranks : AreClean ranks_of
unfolding ranks_of
of_ranks here = of_list entry_of of_entry here

pub of_bound_text : AreClean bound_text_of
unfolding bound_text_of
of_bound_text here = bind (only_of (codes "form ranks") here) _ (only (codes "form ranks") here)
    (λ _. bind (field_of (codes "form") here) _ (field_is (codes "form") here)
    (λ at. bind (int_of (pos 1) (pos 1) at) _ (int (pos 1) (pos 1) at)
    (λ _. bind (field_of (codes "ranks") here) _ (field_is (codes "ranks") here)
    (λ there. bind (ranks_of there) _ (of_ranks there) (λ _. tt)))))

-- ---- the answer for a whole text

clean_is : {A : Type 0} (r : Result A JsonFault) → IsClean r → r ≡ Err NotJson → ⊥
clean_is (Ok x) c e = let no : ⊥ = cc in no
clean_is (Err fault) c e = let same : fault ≡ NotJson = cc in subst IsOther same c

pub faulty : (bytes : List ℕ) (value : Data) (fault : JsonFault) → Reads bytes value → Says (Err fault) (bound_text_of (root_of value))
    → AnswersText bytes (Err fault)
faulty bytes value NotJson r t = absurd (clean_is (bound_text_of (root_of value)) (of_bound_text (root_of value)) t)
faulty bytes value (WrongKind p) r t = (value, (r, t))
faulty bytes value (MissingField p) r t = (value, (r, t))
faulty bytes value (UnknownField p) r t = (value, (r, t))
faulty bytes value (OutOfRange p) r t = (value, (r, t))
faulty bytes value Memory r t = tt
