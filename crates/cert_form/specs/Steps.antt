-- Steps of a proof: `["empty"]`; `["split",[[rules],..],[step or -1,..]]`; `["rank",order,[[class,weight],..],
-- [[cut,constant,[[id,multiple],..],[[id,multiple],..]],..],[[rule,"weak",M] or [rule,"strict",M,M],..],rest]`, where
-- order is `linear` or `size` and M is a list `[[row,multiplier],..]`; `["dead",rule,M,rest]`.
use Rattle.std.specs.Prelude.{ℕ, ◌+◌, ℤ, pos, negsuc, ◌==◌, ◌&&◌, ◌||◌, not, nat_abs, nat_le, int_le, Bool, true, false}
use Rattle.std.specs.Prelude.{if◌then◌else◌, List, Option, Some, None, codes, length, Result, Ok, Err}
use Rattle.std.specs.Str.{bytes_eq}
use Rattle.std.specs.Option.{option_map_or}
use Rattle.json_view.specs.Located.{Located}
use Rattle.json_view.specs.Reading.{items_of, int_of, text_of}
use Rattle.descent.specs.declared.proof.CutForm.{CutForm}
use Rattle.descent.specs.declared.proof.RankRule.{RankRule}
use Rattle.descent.specs.declared.proof.RankRule.TheVariants as listed
use Rattle.descent.specs.declared.proof.RankStep.{RankStep}
use Rattle.descent.specs.declared.proof.ProofStep.{ProofStep}
use Rattle.descent.specs.declared.proof.ProofStep.TheVariants as steps
use Rattle.cert_form.specs.declared.fault.CertFault.{CertFault}
use Rattle.cert_form.specs.declared.steps.StepWord.{StepWord}
use Rattle.cert_form.specs.declared.steps.StepWord.TheVariants.{Empty, Split, Rank, Dead}
use Rattle.cert_form.specs.declared.steps.RuleWord.{RuleWord}
use Rattle.cert_form.specs.declared.steps.RuleWord.TheVariants.{Weak, Strict}
use Rattle.cert_form.specs.Answers.{Reader, json, wrong_kind, past_limit}
use Rattle.cert_form.specs.Fields.{◌>>=◌, entries_of, at_most, of_length, longer_than, nth, a_word, in_order, last_of, key_in}
use Rattle.cert_form.specs.Fields.{a_number, maybe_number, an_id, a_multiple, a_constant}
use Rattle.cert_form.specs.Ways.{numbers_of}

-- ---- multipliers

-- the parts of a multiplier: the number of a row, and by what it is multiplied
unfoldable pub row_parts : Reader (ℕ × ℤ)
row_parts here = do
  row ← nth 0 a_number here
  multiplier ← nth 1 a_multiple here
  Ok (row, multiplier)

-- the multiplier `[row,multiplier]`
unfoldable pub row_of : Reader (ℕ × ℤ)
row_of here = of_length 2 row_parts here

-- a list of multipliers of rows, of at most 65,536 entries
unfoldable pub multipliers_of : Reader (List (ℕ × ℤ))
multipliers_of here = at_most 65536 (entries_of (λ _. row_of)) here

-- ---- weights and forms

-- a weight of a class, which is at most 65,535 and not below 0; another one passes a limit
unfoldable pub a_weight : Reader ℤ
a_weight here = json (int_of (negsuc 9223372036854775807) (pos 9223372036854775807) here) >>= λ n. if int_le (pos 0) n && int_le n
    (pos 65535) then Ok n else past_limit here

-- the parts of a weight: the number of a class, which is above those of `front`, and its weight
unfoldable pub weight_parts : List (ℕ × ℤ) → Reader (ℕ × ℤ)
weight_parts front here = do
  class ← nth 0 a_number here
  order ← key_in front class here
  weight ← nth 1 a_weight here
  Ok (class, weight)

-- the weight `[class,weight]`, behind those of `front`
unfoldable pub weight_in : List (ℕ × ℤ) → Reader (ℕ × ℤ)
weight_in front here = of_length 2 (weight_parts front) here

-- the parts of a multiple: an id, which is above those of `front`, and its coefficient in a form
unfoldable pub multiple_parts : List (ℕ × ℤ) → Reader (ℕ × ℤ)
multiple_parts front here = do
  id ← nth 0 an_id here
  order ← key_in front id here
  multiple ← nth 1 a_multiple here
  Ok (id, multiple)

-- the multiple `[id,multiple]`, behind those of `front`
unfoldable pub multiple_in : List (ℕ × ℤ) → Reader (ℕ × ℤ)
multiple_in front here = of_length 2 (multiple_parts front) here

-- the multiples of ids in a form, rising by id
unfoldable pub multiples_of : Reader (List (ℕ × ℤ))
multiples_of here = entries_of multiple_in here

-- a list that is filled only where sizes count: in a linear step, which has no sizes and no weights, one with an entry is of the
-- wrong kind
unfoldable pub sized_list : {A : Type 0} → Bool → (List A → Reader A) → Reader (List A)
sized_list size reader here = json (items_of here) >>= λ count. if size || (count == 0) then entries_of reader here else wrong_kind here

-- the least cut whose form may come behind these
abbrev pub next_cut : List CutForm → ℕ
next_cut front = option_map_or (λ form. form.cut + 1) (last_of front) 0

-- the parts of a form: the cut, the constant, and the multiples of ints and of sizes
unfoldable pub form_parts : Bool → List CutForm → Reader CutForm
form_parts size front here = do
  cut ← nth 0 a_number here
  order ← in_order (nat_le (next_cut front) cut) here
  constant ← nth 1 a_constant here
  ints ← nth 2 multiples_of here
  sizes ← nth 3 (sized_list size multiple_in) here
  Ok (record { cut = cut; constant = constant; ints = ints; sizes = sizes })

-- the form `[cut,constant,[[id,multiple],..],[[id,multiple],..]]` of a cut, behind those of `front`
unfoldable pub form_in : Bool → List CutForm → Reader CutForm
form_in size front here = of_length 4 (form_parts size front) here

-- ---- listed rules

-- what a rank step says of a rule, by the word: the form never rises on it (`weak`), or it falls and is at least 0 at its start
-- (`strict`)
abbrev pub rule_word : List ℕ → Option RuleWord
rule_word word = if bytes_eq word (codes "weak") then Some Weak else if bytes_eq word (codes "strict") then Some Strict else None

-- how many entries the list of a rule with this word has
abbrev pub rule_length : RuleWord → ℕ
rule_length Weak = 3
rule_length Strict = 4

-- the rule `[rule,"weak",M]`, with the multipliers that show that the form never rises on it
unfoldable pub weak_of : ℕ → Reader RankRule
weak_of rule here = nth 2 multipliers_of here >>= λ fall. Ok (listed.Weak rule fall)

-- the rule `[rule,"strict",M,M]`, with the multipliers that show the fall, and those that show the bound
unfoldable pub strict_of : ℕ → Reader RankRule
strict_of rule here = do
  fall ← nth 2 multipliers_of here
  bound ← nth 3 multipliers_of here
  Ok (listed.Strict rule fall bound)

-- a listed rule with this word
abbrev pub listed_of : RuleWord → ℕ → Reader RankRule
listed_of Weak rule here = weak_of rule here
listed_of Strict rule here = strict_of rule here

-- the number of a listed rule
abbrev pub number_of : RankRule → ℕ
number_of (listed.Weak rule fall) = rule
number_of (listed.Strict rule fall bound) = rule

-- the least rule that may come behind these
abbrev pub next_rule : List RankRule → ℕ
next_rule front = option_map_or (λ rule. number_of rule + 1) (last_of front) 0

-- a listed rule with this word, whose number is above those of `front`
unfoldable pub rule_parts : List RankRule → RuleWord → Reader RankRule
rule_parts front word here = do
  rule ← nth 0 a_number here
  order ← in_order (nat_le (next_rule front) rule) here
  listed_of word rule here

-- a listed rule, behind those of `front`: its word and its length are tested before its number and the rest
unfoldable pub rule_in : List RankRule → Reader RankRule
rule_in front here = longer_than 1 (nth 1 (a_word rule_word)) here >>= λ word. of_length (rule_length word) (rule_parts front word) here

-- ---- steps

-- the kind of a step by its word
abbrev pub step_word : List ℕ → Option StepWord
step_word word =
    if bytes_eq word (codes "empty") then Some Empty
    else if bytes_eq word (codes "split") then Some Split
    else if bytes_eq word (codes "rank") then Some Rank
    else if bytes_eq word (codes "dead") then Some Dead
    else None

-- how many entries the list of a step with this word has
abbrev pub step_length : StepWord → ℕ
step_length Empty = 1
step_length Split = 3
step_length Rank = 6
step_length Dead = 4

-- the order of a rank step by its word, as whether sizes count: `size` or `linear`; another word is of the wrong kind
abbrev pub order_named : Located → List ℕ → Result Bool CertFault
order_named here word = if bytes_eq word (codes "size") then Ok true else if bytes_eq word (codes "linear") then Ok false else
    wrong_kind here

-- the order of a rank step, as whether sizes count
unfoldable pub order_of : Reader Bool
order_of here = json (text_of here) >>= order_named here

-- the parts of a split, each a list of numbers of rules
unfoldable pub parts_of : Reader (List (List ℕ))
parts_of here = entries_of (λ _. numbers_of) here

-- for each of so many parts the step that takes it, or none for a lone rule that doesn't follow itself; a list of another length is
-- of the wrong kind
unfoldable pub steps_of : ℕ → Reader (List (Option ℕ))
steps_of count here = of_length count (entries_of (λ _. maybe_number)) here

-- the step `["split",[[rules],..],[step or -1,..]]`: no rule of a part is followed by one of a lower part
unfoldable pub split_of : Reader ProofStep
split_of here = do
  parts ← nth 1 parts_of here
  taken ← nth 2 (steps_of (length parts)) here
  Ok (steps.Split parts taken)

-- the parts of a rank step: the weights of classes, the forms of cuts, and the rules of its set
unfoldable pub rank_parts : Bool → Reader RankStep
rank_parts size here = do
  weights ← nth 2 (sized_list size weight_in) here
  forms ← nth 3 (entries_of (form_in size)) here
  rules ← nth 4 (entries_of rule_in) here
  Ok (record { size = size; weights = weights; forms = forms; rules = rules })

-- the step `["rank",order,weights,forms,rules,rest]`, where the step `rest` takes the weak rules
unfoldable pub rank_of : Reader ProofStep
rank_of here = do
  size ← nth 1 order_of here
  step ← rank_parts size here
  rest ← nth 5 a_number here
  Ok (steps.Rank step rest)

-- the step `["dead",rule,M,rest]`: the rule can never be taken, as the multipliers M show, and the step `rest` takes the others
unfoldable pub dead_of : Reader ProofStep
dead_of here = do
  rule ← nth 1 a_number here
  multipliers ← nth 2 multipliers_of here
  rest ← nth 3 a_number here
  Ok (steps.Dead rule multipliers rest)

-- a step with this word
abbrev pub proof_step_of : StepWord → Reader ProofStep
proof_step_of Empty here = Ok steps.Empty
proof_step_of Split here = split_of here
proof_step_of Rank here = rank_of here
proof_step_of Dead here = dead_of here

-- a step of a proof: its word and its length are tested before the rest
unfoldable pub step_of : Reader ProofStep
step_of here = longer_than 0 (nth 0 (a_word step_word)) here >>= λ word. of_length (step_length word) (proof_step_of word) here

-- the steps of a proof, in order
unfoldable pub proof_of : Reader (List ProofStep)
proof_of here = entries_of (λ _. step_of) here
