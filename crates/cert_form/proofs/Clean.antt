-- Readers of values never say that a text is no JSON, and never want memory.
use Rattle.std.proofs.Common.{◌≡◌, ℕ, suc, ℤ, pos, negsuc, ◌+◌, ◌==◌, ◌&&◌, ◌||◌, nat_lt, nat_le, Bool, true, false, cond, List, []}
use Rattle.std.proofs.Common.{◌∷◌, ◌++◌, length, Result, Ok, Err, Option, Some, None, option_map, codes, refl, sym, ap, ◌∙◌, subst}
use Rattle.std.specs.Prelude.{int_le}
use Rattle.std.specs.Option.{ok_or}
use Rattle.std.specs.Str.{bytes_eq}
use Rattle.serde_json.specs.Data.{Data, Items, no_items, item, Members}
use Rattle.serde_json.specs.Events.{items_len}
use Rattle.serde_json.specs.Find.{get_member, as_object, as_array, as_str, as_bool}
use Rattle.json_view.specs.Located.{Located, root_of}
use Rattle.json_view.specs.Names.{least_unlisted, first_missing}
use Rattle.json_view.specs.Reading.{only_of, field_of, items_of, item_of, at_item, at_member, int_of, text_of, flag_of, within}
use Rattle.json_view.specs.Reading.{whole_number_of, first_fault, unknown_field, missing_field, of_kind}
use Rattle.json_view.specs.declared.fault.JsonFault.{JsonFault}
use Rattle.json_view.specs.declared.fault.JsonFault.TheVariants as faults
use Rattle.abs_cells.specs.declared.cells.Cell.{Cell}
use Rattle.jvm_values.specs.Kinds.{kind_of_code}
use Rattle.jvm_values.specs.declared.shape.Shape.TheVariants.{Tree, Dag, Any}
use Rattle.descent.specs.declared.proof.CutForm.{CutForm}
use Rattle.descent.specs.declared.proof.RankRule.{RankRule}
use Rattle.cert_form.specs.declared.fault.CertFault.{CertFault}
use Rattle.cert_form.specs.declared.fault.CertFault.TheVariants.{Json, Limit, Memory}
use Rattle.cert_form.specs.declared.cells.CellWord.{CellWord}
use Rattle.cert_form.specs.declared.cells.CellWord.TheVariants as cell_words
use Rattle.cert_form.specs.declared.ways.WayWord.{WayWord}
use Rattle.cert_form.specs.declared.ways.WayWord.TheVariants as way_words
use Rattle.cert_form.specs.declared.steps.StepWord.{StepWord}
use Rattle.cert_form.specs.declared.steps.StepWord.TheVariants as step_words
use Rattle.cert_form.specs.declared.steps.RuleWord.{RuleWord}
use Rattle.cert_form.specs.declared.steps.RuleWord.TheVariants as rule_words
use Rattle.json_view.specs.Answers.{Reads}
use Rattle.cert_form.specs.Answers.{Reader, Says, json, wrong_kind, out_of_range, past_limit}
use Rattle.cert_form.specs.Fields.{◌>>=◌, only, field, entries_from, entries_of, at_most, of_length, nth, there_or, longer_than}
use Rattle.cert_form.specs.Fields.{word_or, a_word, in_order, number_to, a_number, a_place, an_id, an_int, maybe_to, maybe_number}
use Rattle.cert_form.specs.Fields.{maybe_within, maybe_id, long_to, a_multiple, a_constant}
use Rattle.cert_form.specs.Types.{type_in, type_of_word, shape_of, shape_named, kind_of, kind_or}
use Rattle.cert_form.specs.Cells.{cell_word, up_to, bounds_or, int_cell, ids_of, obj_cell, nums_cell, refs_cell, unk_cell, cell_of}
use Rattle.cert_form.specs.Cells.{keyed_cell, cell_in}
use Rattle.cert_form.specs.States.{is_next_pair, two_ids, ordered_pair, pair_in, locals_of, frame_parts, frame_of, cells_of}
use Rattle.cert_form.specs.States.{frames_of, pairs_of, state_of}
use Rattle.cert_form.specs.Ways.{way_word, numbers_of, map_entry, map_of, expand_of, instance_of, way_of, by_of}
use Rattle.cert_form.specs.Steps.{row_parts, row_of, multipliers_of, a_weight, weight_parts, weight_in, multiple_parts, multiple_in}
use Rattle.cert_form.specs.Steps.{multiples_of, sized_list, form_parts, form_in, rule_word, weak_of, strict_of, listed_of}
use Rattle.cert_form.specs.Steps.{rule_parts, rule_in, step_word, order_of, order_named, parts_of, steps_of, split_of, rank_parts}
use Rattle.cert_form.specs.Steps.{rank_of, dead_of, proof_step_of, step_of, proof_of}
use Rattle.cert_form.specs.Certificates.{whole_node, named_node, node_with, node_in, nodes_of, form_of, CertContent, cert_of, AnswersText}

-- ---- faults that a value has

abbrev pub IsOther : JsonFault → Type 0
IsOther faults.NotJson = ⊥
IsOther (faults.WrongKind p) = Unit {0}
IsOther (faults.MissingField p) = Unit {0}
IsOther (faults.UnknownField p) = Unit {0}
IsOther (faults.OutOfRange p) = Unit {0}
IsOther faults.Memory = ⊥

abbrev pub IsOfValue : CertFault → Type 0
IsOfValue (Json fault) = IsOther fault
IsOfValue (Limit place) = Unit {0}
IsOfValue Memory = ⊥

abbrev pub IsClean : {A : Type 0} → Result A CertFault → Type 0
IsClean (Ok value) = Unit {0}
IsClean (Err fault) = IsOfValue fault

abbrev AreClean : {A : Type 0} → Reader A → Type 0
AreClean reader = (here : Located) → IsClean (reader here)

bind : {A B : Type 0} (r : Result A CertFault) (next : A → Result B CertFault) → IsClean r → ((x : A) → IsClean (next x))
    → IsClean (r >>= next)
bind (Ok x) next c d = d x
bind (Err fault) next c d = c

choice : {A : Type 0} (t : Bool) (r s : Result A CertFault) → IsClean r → IsClean s → IsClean (cond t r s)
choice true r s c d = c
choice false r s c d = d

-- ---- readers of JSON

kinds : {A : Type 0} (found : Option A) (fault : JsonFault) → IsOther fault → IsClean (json (ok_or found fault))
kinds (Some x) fault o = tt
kinds None fault o = o

firsts : (place : List ℕ) (a b : Option (List ℕ))
    → IsClean (json (first_fault (option_map (unknown_field place) a) (option_map (missing_field place) b)))
firsts place (Some a) b = tt
firsts place None (Some b) = tt
firsts place None None = tt

of_only : (names : List ℕ) (here : Located) → IsClean (only names here)
unfolding only only_of
of_only names here = at (as_object here.value)
  where
    at : (found : Option Members)
        → IsClean (json (ok_or found (faults.WrongKind here.place) >>= λ members. first_fault
        (option_map (unknown_field here.place) (least_unlisted names members))
        (option_map (missing_field here.place) (first_missing names members))))
    at (Some members) = firsts here.place (least_unlisted names members) (first_missing names members)
    at None = tt

field_is : (name : List ℕ) (here : Located) → IsClean (json (field_of name here))
unfolding field_of
field_is name here = at (as_object here.value)
  where
    at : (found : Option Members)
        → IsClean (json (ok_or found (faults.WrongKind here.place) >>= λ members. ok_or
        (option_map (at_member here.place name) (get_member name members)) (missing_field here.place name)))
    at (Some members) = kinds (option_map (at_member here.place name) (get_member name members)) (missing_field here.place name) tt
    at None = tt

items : (here : Located) → IsClean (json (items_of here))
unfolding items_of
items here = kinds (option_map items_len (as_array here.value)) (faults.WrongKind here.place) tt

int : (low high : ℤ) (here : Located) → IsClean (json (int_of low high here))
unfolding int_of
int low high here = at (whole_number_of here.value)
  where
    inside : (t : Bool) (n : ℤ) → IsClean (json (cond t (Ok n) (Err (faults.OutOfRange here.place))))
    inside true n = tt
    inside false n = tt

    at : (found : Option ℤ) → IsClean (json (ok_or found (faults.WrongKind here.place) >>= within here.place low high))
    at (Some n) = inside (int_le low n && int_le n high) n
    at None = tt

text : (here : Located) → IsClean (json (text_of here))
unfolding text_of
text here = kinds (as_str here.value) (faults.WrongKind here.place) tt

flag : (here : Located) → IsClean (json (flag_of here))
unfolding flag_of
flag here = kinds (as_bool here.value) (faults.WrongKind here.place) tt

-- ---- fields and lists

of_field : {A : Type 0} (name : List ℕ) (reader : Reader A) → AreClean reader → AreClean (field name reader)
unfolding field
of_field name reader c here = bind (json (field_of name here)) reader (field_is name here) c

from_entries : {A : Type 0} (reader : List A → Reader A) (front : List A) (place : List ℕ) (n : ℕ) (all : Items)
    → ((f : List A) → AreClean (reader f)) → IsClean (entries_from reader front place n all)
from_entries reader front place n no_items c = tt
from_entries reader front place n (item value rest) c = bind (reader front (at_item place n value))
    (λ x. entries_from reader (front ++ x ∷ []) place (suc n) rest) (c front (at_item place n value))
    (λ x. from_entries reader (front ++ x ∷ []) place (suc n) rest c)

of_entries : {A : Type 0} (reader : List A → Reader A) → ((f : List A) → AreClean (reader f)) → AreClean (entries_of reader)
unfolding entries_of
of_entries reader c here = bind (json (of_kind as_array here)) (entries_from reader [] here.place 0)
    (kinds (as_array here.value) (faults.WrongKind here.place) tt) (λ all. from_entries reader [] here.place 0 all c)

of_most : {A : Type 0} (most : ℕ) (reader : Reader A) → AreClean reader → AreClean (at_most most reader)
unfolding at_most
of_most most reader c here = bind (json (items_of here)) (λ count. cond (nat_lt most count) (past_limit here) (reader here))
    (items here) (λ count. choice (nat_lt most count) (past_limit here) (reader here) tt (c here))

of_size : {A : Type 0} (size : ℕ) (reader : Reader A) → AreClean reader → AreClean (of_length size reader)
unfolding of_length
of_size size reader c here = bind (json (items_of here)) (λ count. cond (count == size) (reader here) (wrong_kind here))
    (items here) (λ count. choice (count == size) (reader here) (wrong_kind here) (c here) tt)

of_longer : {A : Type 0} (least : ℕ) (reader : Reader A) → AreClean reader → AreClean (longer_than least reader)
unfolding longer_than
of_longer least reader c here = bind (json (items_of here)) (λ count. cond (nat_lt least count) (reader here) (wrong_kind here))
    (items here) (λ count. choice (nat_lt least count) (reader here) (wrong_kind here) (c here) tt)

of_nth : {A : Type 0} (n : ℕ) (reader : Reader A) → AreClean reader → AreClean (nth n reader)
unfolding nth
of_nth n reader c here = at (item_of n here)
  where
    at : (found : Option Located) → IsClean (there_or here reader found)
    at (Some there) = c there
    at None = tt

of_order : (stands : Bool) (here : Located) → IsClean (in_order stands here)
of_order stands here = choice stands (Ok tt) (out_of_range here) tt tt

-- ---- numbers

of_number_to : (most : ℕ) → AreClean (number_to most)
unfolding number_to
of_number_to most here = bind _ _ (int _ _ here) (λ _. tt)

of_number : AreClean a_number
unfolding a_number
of_number here = of_number_to 4294967295 here

of_place : AreClean a_place
unfolding a_place
of_place here = of_number_to 65535 here

of_id : AreClean an_id
unfolding an_id
of_id here = bind _ _ (of_number_to 65535 here) (λ n. choice (nat_lt n 2048) (Ok n) (past_limit here) tt tt)

of_int : AreClean an_int
unfolding an_int
of_int here = int _ _ here

of_maybe_to : (most : ℕ) → AreClean (maybe_to most)
unfolding maybe_to
of_maybe_to most here = bind _ _ (int _ _ here) (λ _. tt)

of_maybe_number : AreClean maybe_number
unfolding maybe_number
of_maybe_number here = of_maybe_to 4294967295 here

maybe_is : (found : Option ℕ) (here : Located) → IsClean (maybe_within here found)
maybe_is (Some n) here = choice (nat_lt n 2048) (Ok (Some n)) (past_limit here) tt tt
maybe_is None here = tt

of_maybe_id : AreClean maybe_id
unfolding maybe_id
of_maybe_id here = bind _ _ (of_maybe_to 65535 here) (λ found. maybe_is found here)

of_long : (most : ℕ) → AreClean (long_to most)
unfolding long_to
of_long most here = bind _ _ (int _ _ here) (λ n. choice _ (Ok n) (past_limit here) tt tt)

of_multiple : AreClean a_multiple
unfolding a_multiple
of_multiple here = of_long 2147483648 here

of_constant : AreClean a_constant
unfolding a_constant
of_constant here = of_long 1099511627776 here

of_numbers : AreClean numbers_of
unfolding numbers_of
of_numbers here = of_entries (λ _. a_number) (λ _. of_number) here

-- ---- types and cells

word_or_wrong : {A : Type 0} (here : Located) (found : Option A) → IsClean (word_or here found)
word_or_wrong here (Some meant) = tt
word_or_wrong here None = tt

of_word : {A : Type 0} (means : List ℕ → Option A) → AreClean (a_word means)
unfolding a_word
of_word means here = bind _ _ (text here) (λ word. word_or_wrong here (means word))

of_type : (names : List (List ℕ)) → AreClean (type_in names)
unfolding type_in
of_type names here = bind _ _ (text here) (λ word. word_or_wrong here (type_of_word names word))

of_shape : AreClean shape_of
unfolding shape_of
of_shape here = bind _ _ (text here) named
  where
    named : (word : List ℕ) → IsClean (shape_named here word)
    named word =
        choice (bytes_eq word (codes "tree")) (Ok Tree)
        (cond (bytes_eq word (codes "dag")) (Ok Dag) (cond (bytes_eq word (codes "any")) (Ok Any) (wrong_kind here))) tt
        (choice (bytes_eq word (codes "dag")) (Ok Dag) (cond (bytes_eq word (codes "any")) (Ok Any) (wrong_kind here)) tt
        (choice (bytes_eq word (codes "any")) (Ok Any) (wrong_kind here) tt tt))

of_kind_number : AreClean kind_of
unfolding kind_of
of_kind_number here = bind _ _ (of_number_to 255 here) (λ n. at (kind_of_code n))
  where
    at : (found : Option _) → IsClean (kind_or here found)
    at (Some kind) = tt
    at None = tt

of_up_to : (lo : ℤ) → AreClean (up_to lo)
unfolding up_to
of_up_to lo here = bind _ _ (of_int here) (λ hi. at (Rattle.lin_core.specs.Intervals.interval_of lo hi))
  where
    at : (found : Option _) → IsClean (bounds_or here found)
    at (Some bounds) = tt
    at None = tt

of_ids : AreClean ids_of
unfolding ids_of
of_ids here = of_entries (λ _. an_id) (λ _. of_id) here

of_cell : (names : List (List ℕ)) (word : CellWord) → AreClean (cell_of names word)
unfolding int_cell obj_cell nums_cell refs_cell unk_cell
of_cell names cell_words.Int here = bind _ _ (of_nth 2 an_int of_int here) (λ lo. of_nth 3 (up_to lo) (of_up_to lo) here)
of_cell names cell_words.Null here = tt
of_cell names cell_words.Obj here = bind _ _ (of_nth 2 a_number of_number here) (λ _. bind _ _ (of_nth 3 ids_of of_ids here) (λ _. tt))
of_cell names cell_words.Nums here = bind _ _ (of_nth 2 kind_of of_kind_number here) (λ _. bind _ _ (of_nth 3 an_id of_id here) (λ _. tt))
of_cell names cell_words.Refs here = bind _ _ (of_nth 2 (type_in names) (of_type names) here)
    (λ _. bind _ _ (of_nth 3 an_id of_id here) (λ _. bind _ _ (of_nth 4 shape_of of_shape here) (λ _. tt)))
of_cell names cell_words.Unk here = bind _ _ (of_nth 2 (type_in names) (of_type names) here)
    (λ _. bind _ _ (of_nth 3 (λ there. json (flag_of there)) flag here) (λ _. bind _ _ (of_nth 4 shape_of of_shape here) (λ _. tt)))

of_keyed : (names : List (List ℕ)) (front : List (ℕ × Cell)) (word : CellWord) → AreClean (keyed_cell names front word)
unfolding keyed_cell
of_keyed names front word here = bind _ _ (of_nth 0 an_id of_id here)
    (λ _. bind _ _ (of_order _ here) (λ _. bind _ _ (of_cell names word here) (λ _. tt)))

of_cell_in : (names : List (List ℕ)) (front : List (ℕ × Cell)) → AreClean (cell_in names front)
unfolding cell_in
of_cell_in names front here = bind _ _ (of_longer 1 _ (of_nth 1 (a_word cell_word) (of_word cell_word)) here)
    (λ word. of_size _ _ (of_keyed names front word) here)

-- ---- states

of_two_ids : AreClean two_ids
unfolding two_ids
of_two_ids here = bind _ _ (of_nth 0 an_id of_id here) (λ _. bind _ _ (of_nth 1 an_id of_id here) (λ _. tt))

of_ordered : (front : List (ℕ × ℕ)) → AreClean (ordered_pair front)
unfolding ordered_pair
of_ordered front here =
    bind (two_ids here) (λ pair. in_order (nat_lt pair.0 pair.1 && is_next_pair front pair) here >>= λ order. Ok pair) (of_two_ids here)
    (λ pair. bind (in_order (nat_lt pair.0 pair.1 && is_next_pair front pair) here) (λ order. Ok pair)
    (of_order (nat_lt pair.0 pair.1 && is_next_pair front pair) here) (λ order. tt))

of_pair : (front : List (ℕ × ℕ)) → AreClean (pair_in front)
unfolding pair_in
of_pair front here = of_size 2 (ordered_pair front) (of_ordered front) here

of_pairs : AreClean pairs_of
unfolding pairs_of
of_pairs here = of_entries pair_in of_pair here

of_frame_parts : AreClean frame_parts
unfolding frame_parts locals_of
of_frame_parts here =
    bind _ _ (of_nth 0 a_number of_number here) (λ _.
    bind _ _ (of_nth 1 a_place of_place here) (λ _.
    bind _ _ (of_nth 2 locals_of (of_entries (λ _. maybe_id) (λ _. of_maybe_id)) here) (λ _.
    bind _ _ (of_nth 3 ids_of of_ids here) (λ _. tt))))

of_frames : AreClean frames_of
unfolding frames_of frame_of
of_frames here = of_entries (λ _. frame_of) (λ _. of_size 4 frame_parts of_frame_parts) here

of_cells : (names : List (List ℕ)) → AreClean (cells_of names)
unfolding cells_of
of_cells names here = of_most 512 (entries_of (cell_in names)) (of_entries (cell_in names) (of_cell_in names)) here

of_state : (names : List (List ℕ)) → AreClean (state_of names)
unfolding state_of
of_state names here =
    bind _ _ (of_only _ here) (λ _.
    bind _ _ (of_field (codes "cells") (cells_of names) (of_cells names) here) (λ _.
    bind _ _ (of_field (codes "eq") pairs_of of_pairs here) (λ _.
    bind _ _ (of_field (codes "frames") frames_of of_frames here) (λ _.
    bind _ _ (of_field (codes "share") pairs_of of_pairs here) (λ _.
    bind _ _ (of_field (codes "throw") maybe_id of_maybe_id here) (λ _. tt))))))

-- ---- nodes

of_map : AreClean map_of
unfolding map_of map_entry
of_map here = of_entries (λ _. map_entry) (λ _. of_size 2 two_ids of_two_ids) here

of_way : (word : WayWord) → AreClean (way_of word)
unfolding expand_of instance_of
of_way way_words.Expand here = bind _ _ (of_nth 1 numbers_of of_numbers here) (λ _. tt)
of_way way_words.Instance here = bind _ _ (of_nth 1 a_number of_number here) (λ _. bind _ _ (of_nth 2 map_of of_map here) (λ _. tt))
of_way way_words.End here = tt

of_by : AreClean by_of
unfolding by_of
of_by here = bind _ _ (of_longer 0 _ (of_nth 0 (a_word way_word) (of_word way_word)) here) (λ word. of_size _ _ (of_way word) here)

of_node_with : (names : List (List ℕ)) (lacks : Bool) → AreClean (node_with names lacks)
unfolding named_node whole_node
of_node_with names true here = bind _ _ (of_only _ here) (λ _. bind _ _ (of_field (codes "by") by_of of_by here) (λ _. tt))
of_node_with names false here = bind _ _ (of_only _ here)
    (λ _. bind _ _ (of_field (codes "by") by_of of_by here)
    (λ _. bind _ _ (of_field (codes "state") (state_of names) (of_state names) here) (λ _. tt)))

of_nodes : (names : List (List ℕ)) (second : Bool) → AreClean (nodes_of names second)
unfolding nodes_of node_in
of_nodes names second here = of_most 20000 (entries_of (node_in names second))
    (of_entries (node_in names second) (λ front. of_node_with names (Rattle.cert_form.specs.Certificates.lacks_state second front))) here

-- ---- proofs

of_multipliers : AreClean multipliers_of
unfolding multipliers_of row_of row_parts
of_multipliers here = of_most 65536 _
    (of_entries (λ _. row_of)
    (λ _. of_size 2 row_parts
    (λ there. bind _ _ (of_nth 0 a_number of_number there) (λ _. bind _ _ (of_nth 1 a_multiple of_multiple there) (λ _. tt))))) here

of_weight : AreClean a_weight
unfolding a_weight
of_weight here = bind _ _ (int _ _ here) (λ n. choice _ (Ok n) (past_limit here) tt tt)

of_weight_in : (front : List (ℕ × ℤ)) → AreClean (weight_in front)
unfolding weight_in weight_parts
of_weight_in front here = of_size 2 (weight_parts front)
    (λ there. bind _ _ (of_nth 0 a_number of_number there)
    (λ _. bind _ _ (of_order _ there) (λ _. bind _ _ (of_nth 1 a_weight of_weight there) (λ _. tt)))) here

of_multiple_in : (front : List (ℕ × ℤ)) → AreClean (multiple_in front)
unfolding multiple_in multiple_parts
of_multiple_in front here = of_size 2 (multiple_parts front)
    (λ there. bind _ _ (of_nth 0 an_id of_id there)
    (λ _. bind _ _ (of_order _ there) (λ _. bind _ _ (of_nth 1 a_multiple of_multiple there) (λ _. tt)))) here

of_multiples : AreClean multiples_of
unfolding multiples_of
of_multiples here = of_entries multiple_in of_multiple_in here

of_sized : {A : Type 0} (size : Bool) (reader : List A → Reader A) → ((f : List A) → AreClean (reader f))
    → AreClean (sized_list size reader)
unfolding sized_list
of_sized size reader c here = bind _ _ (items here)
    (λ count. choice (size || (count == 0)) (entries_of reader here) (wrong_kind here) (of_entries reader c here) tt)

of_form : (size : Bool) (front : List CutForm) → AreClean (form_in size front)
unfolding form_in form_parts
of_form size front here =
    of_size 4 (form_parts size front) (λ there.
    bind _ _ (of_nth 0 a_number of_number there) (λ _.
    bind _ _ (of_order _ there) (λ _.
    bind _ _ (of_nth 1 a_constant of_constant there) (λ _.
    bind _ _ (of_nth 2 multiples_of of_multiples there) (λ _.
    bind _ _ (of_nth 3 (sized_list size multiple_in) (of_sized size multiple_in of_multiple_in) there) (λ _. tt)))))) here

of_listed : (word : RuleWord) (rule : ℕ) → AreClean (listed_of word rule)
unfolding weak_of strict_of
of_listed rule_words.Weak rule here = bind _ _ (of_nth 2 multipliers_of of_multipliers here) (λ _. tt)
of_listed rule_words.Strict rule here = bind _ _ (of_nth 2 multipliers_of of_multipliers here)
    (λ _. bind _ _ (of_nth 3 multipliers_of of_multipliers here) (λ _. tt))

of_rule : (front : List RankRule) → AreClean (rule_in front)
unfolding rule_in rule_parts
of_rule front here = bind _ _ (of_longer 1 _ (of_nth 1 (a_word rule_word) (of_word rule_word)) here)
    (λ word. of_size _ (rule_parts front word)
    (λ there. bind _ _ (of_nth 0 a_number of_number there) (λ rule. bind _ _ (of_order _ there) (λ _. of_listed word rule there))) here)

of_order_word : AreClean order_of
unfolding order_of
of_order_word here = bind _ _ (text here) named
  where
    named : (word : List ℕ) → IsClean (order_named here word)
    named word =
        choice (bytes_eq word (codes "size")) (Ok true) (cond (bytes_eq word (codes "linear")) (Ok false) (wrong_kind here)) tt
        (choice (bytes_eq word (codes "linear")) (Ok false) (wrong_kind here) tt tt)

of_ranked : (size : Bool) → AreClean (rank_parts size)
unfolding rank_parts
of_ranked size here =
    bind _ _ (of_nth 2 (sized_list size weight_in) (of_sized size weight_in of_weight_in) here) (λ _.
    bind _ _ (of_nth 3 (entries_of (form_in size)) (of_entries (form_in size) (of_form size)) here) (λ _.
    bind _ _ (of_nth 4 (entries_of rule_in) (of_entries rule_in of_rule) here) (λ _. tt)))

of_parts : AreClean parts_of
unfolding parts_of
of_parts here = of_entries (λ _. numbers_of) (λ _. of_numbers) here

of_taken : (count : ℕ) → AreClean (steps_of count)
unfolding steps_of
of_taken count here = of_size count (entries_of (λ _. maybe_number)) (of_entries (λ _. maybe_number) (λ _. of_maybe_number)) here

of_kind_of_step : (word : StepWord) → AreClean (proof_step_of word)
unfolding split_of rank_of dead_of
of_kind_of_step step_words.Empty here = tt
of_kind_of_step step_words.Split here = bind _ _ (of_nth 1 parts_of of_parts here)
    (λ parts. bind _ _ (of_nth 2 (steps_of (length parts)) (of_taken (length parts)) here) (λ _. tt))
of_kind_of_step step_words.Rank here = bind _ _ (of_nth 1 order_of of_order_word here)
    (λ size. bind _ _ (of_ranked size here) (λ _. bind _ _ (of_nth 5 a_number of_number here) (λ _. tt)))
of_kind_of_step step_words.Dead here = bind _ _ (of_nth 1 a_number of_number here)
    (λ _. bind _ _ (of_nth 2 multipliers_of of_multipliers here) (λ _. bind _ _ (of_nth 3 a_number of_number here) (λ _. tt)))

of_step : AreClean step_of
unfolding step_of
of_step here = bind _ _ (of_longer 0 _ (of_nth 0 (a_word step_word) (of_word step_word)) here)
    (λ word. of_size _ _ (of_kind_of_step word) here)

of_proof : AreClean proof_of
unfolding proof_of
of_proof here = of_entries (λ _. step_of) (λ _. of_step) here

-- ---- the whole

of_form_number : AreClean form_of
unfolding form_of
of_form_number here = bind _ _ (int _ _ here) (λ _. tt)

-- the fault of a value is one of a value
pub of_cert : (names : List (List ℕ)) (here : Located) → IsClean (cert_of names here)
unfolding cert_of
of_cert names here =
    bind _ _ (of_only _ here) (λ _.
    bind _ _ (of_field (codes "form") form_of of_form_number here) (λ second.
    bind _ _ (of_field (codes "cuts") numbers_of of_numbers here) (λ _.
    bind _ _ (of_field (codes "nodes") (nodes_of names second) (of_nodes names second) here) (λ _.
    bind _ _ (of_field (codes "proof") proof_of of_proof here) (λ _. tt)))))

-- ---- the answer for a text

clean_is : {A : Type 0} (said : Result A CertFault) (fault : CertFault) → IsClean said → said ≡ Err fault → IsOfValue fault
clean_is {A = A} said fault c e = subst (λ (r : Result A CertFault). IsClean r) e c

-- the fault of the value of a text is that of the text
pub faulty : (names : List (List ℕ)) (bytes : List ℕ) (value : Data) (fault : CertFault) → Reads bytes value
    → Says {A = CertContent} (Err fault) (cert_of names (root_of value)) → AnswersText (cert_of names) bytes (Err fault)
faulty names bytes value (Json faults.NotJson) r s = absurd
    (clean_is (cert_of names (root_of value)) (Json faults.NotJson) (of_cert names (root_of value)) s)
faulty names bytes value (Json (faults.WrongKind p)) r s = (value, (r, s))
faulty names bytes value (Json (faults.MissingField p)) r s = (value, (r, s))
faulty names bytes value (Json (faults.UnknownField p)) r s = (value, (r, s))
faulty names bytes value (Json (faults.OutOfRange p)) r s = (value, (r, s))
faulty names bytes value (Json faults.Memory) r s = absurd
    (clean_is (cert_of names (root_of value)) (Json faults.Memory) (of_cert names (root_of value)) s)
faulty names bytes value (Limit p) r s = (value, (r, s))
faulty names bytes value Memory r s = tt
