-- A bound in words, and why a text is none.
use Rattle.std.specs.Prelude.{ℕ, ℤ, nat_lt, Bool, if◌then◌else◌, List, [], ◌∷◌, ◌++◌, length, codes}
use Rattle.std.specs.List.{flat_map}
use Rattle.std.specs.Fmt.{decimal, signed_decimal}
use Rattle.list_views.specs.FaultWords.{joined, number_field}
use Rattle.json_view.specs.Faults.{fault_text as json_text}
use Rattle.lin_core.specs.declared.faults.LinFault.{LinFault}
use Rattle.lin_core.specs.declared.faults.LinFault.TheVariants as lin
use Rattle.class_world.specs.World.{World}
use Rattle.class_program.specs.Methods.{class_name}
use Rattle.bound_check.specs.declared.bound.Bound.{Bound}
use Rattle.bound_check.specs.declared.bound.RootForm.{RootForm}
use Rattle.bound_check.specs.declared.fault.BoundFault.{BoundFault}
use Rattle.bound_check.specs.declared.fault.BoundFault.TheVariants.{NotRank, BadList, Lin, NotWeak, Missing, Memory}
use Rattle.bound_check.specs.declared.refusal.BoundRefusal.{BoundRefusal}
use Rattle.bound_check.specs.declared.refusal.BoundRefusal.TheVariants.{NoText, Faulty}

-- ---- bounds

-- a multiple of an int or of a size in words: ` int I C` or ` size I C`
abbrev pub multiple_text : List ℕ → ℕ × ℤ → List ℕ
multiple_text word multiple = joined (codes " " ∷ word ∷ codes " " ∷ decimal multiple.0 ∷ codes " " ∷ signed_decimal multiple.1 ∷ [])

-- the weight of a class in words: ` weight CLASS W`, where the number is that of a class
abbrev pub weight_text : World → ℕ × ℤ → List ℕ
weight_text world weight = if nat_lt weight.0 (length world)
    then joined (codes " weight " ∷ class_name world weight.0 ∷ codes " " ∷ signed_decimal weight.1 ∷ []) else []

-- a form in words: its constant, and then its ints, sizes and weights
abbrev pub form_text : World → RootForm → List ℕ
form_text world form = signed_decimal form.constant ++ (flat_map (multiple_text (codes "int")) form.ints
    ++ (flat_map (multiple_text (codes "size")) form.sizes ++ flat_map (weight_text world) form.weights))

-- the line of a rank step: `term K F`
abbrev pub term_line : World → ℕ × RootForm → List ℕ
term_line world term = joined (codes "term " ∷ decimal term.0 ∷ codes " " ∷ form_text world term.1 ∷ codes "\n" ∷ [])

-- the lines `steps L` and `const C`
abbrev pub first_lines : ℕ → ℕ → List ℕ
first_lines steps constant = joined (codes "steps " ∷ decimal steps ∷ codes "\nconst " ∷ decimal constant ∷ codes "\n" ∷ [])

-- a bound in words: two lines for steps and constant, and one for each rank step
abbrev pub bound_lines : World → Bound → List ℕ
bound_lines world bound = first_lines bound.steps bound.constant ++ flat_map (term_line world) bound.terms

-- ---- refusals: a name, and then the fields

-- the name of a fault in multipliers
abbrev pub lin_name : LinFault → List ℕ
lin_name (lin.BadIndex n) = codes "BadIndex"
lin_name (lin.NegativeMultiplier n) = codes "NegativeMultiplier"
lin_name (lin.Limit n) = codes "Limit"

-- the number of the multiplier at fault
abbrev pub lin_number : LinFault → ℕ
lin_number (lin.BadIndex n) = n
lin_number (lin.NegativeMultiplier n) = n
lin_number (lin.Limit n) = n

-- a fault in words, of a name and one field
abbrev pub with_one : List ℕ → List ℕ → ℕ → List ℕ
with_one name field value = joined (name ∷ number_field field value ∷ [])

-- a fault in words, of a name, the entry and one field
abbrev pub with_entry : List ℕ → ℕ → List ℕ → ℕ → List ℕ
with_entry name entry field value = joined (name ∷ number_field (codes "entry") entry ∷ number_field field value ∷ [])

-- a fault of entries in words: its name and its fields. Multipliers that are refused are told by the inner name, the entry and the inner
-- field
abbrev pub fault_text : BoundFault → List ℕ
fault_text (NotRank entry step) = with_entry (codes "NotRank") entry (codes "step") step
fault_text (BadList entry) = with_one (codes "BadList") (codes "entry") entry
fault_text (Lin entry fault) = with_entry (lin_name fault) entry (codes "n") (lin_number fault)
fault_text (NotWeak entry rule) = with_entry (codes "NotWeak") entry (codes "rule") rule
fault_text (Missing step) = with_one (codes "Missing") (codes "step") step
fault_text Memory = codes "Memory"

-- why a text is no bound, in words: the fault of the text, or of its entries
abbrev pub cause_text : BoundRefusal → List ℕ
cause_text (NoText fault) = json_text fault
cause_text (Faulty fault) = fault_text fault
