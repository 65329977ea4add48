-- The line that says why an input is refused.
use Rattle.std.specs.Prelude.{ℕ, List, [], ◌∷◌, ◌++◌, codes}
use Rattle.std.specs.Fmt.{decimal}
use Rattle.list_views.specs.FaultWords.{joined}
use Rattle.asm_lines.specs.Faults.{fault_text as listing_fault_text}
use Rattle.its_front.specs.Faults.{fault_text as its_fault_text}
use Rattle.class_read.specs.Faults.{fault_text as class_fault_text}
use Rattle.class_world.specs.Faults.{method_pieces, fault_text as link_fault_text}
use Rattle.class_world.specs.declared.fault.MethodName.{MethodName}
use Rattle.input_text.specs.Faults.{fault_text as desc_fault_text}
use Rattle.call_graph.specs.Faults.{fault_text as call_fault_text}
use Rattle.input_steps.specs.declared.refused.Place.{Place}
use Rattle.input_steps.specs.declared.refused.Place.TheVariants.{Class, Listing, Its, Description, State, Link, Recursion, Verify}
use Rattle.input_steps.specs.declared.refused.Fault.{Fault}
use Rattle.input_steps.specs.declared.refused.Fault.TheVariants as faults

-- the file or the step that has a fault
abbrev pub place_text : Place → List ℕ
place_text (Class number) = codes "class " ++ decimal number
place_text Listing = codes "listing"
place_text Its = codes "its"
place_text Description = codes "description"
place_text State = codes "state"
place_text Link = codes "link"
place_text Recursion = codes "recursion"
place_text Verify = codes "verify"

-- the fault of a method that has no typing, with the method as `CLASS.NAMEDESC`
abbrev pub untyped_text : MethodName → List ℕ
untyped_text method = joined (codes "NoTyping method=" ∷ method_pieces method.class method.name method.desc [])

-- a fault as lines name it: each crate puts its own faults into words
abbrev pub fault_text : Fault → List ℕ
fault_text (faults.Class fault) = class_fault_text fault
fault_text (faults.Listing fault) = listing_fault_text fault
fault_text (faults.Its fault) = its_fault_text fault
fault_text (faults.Desc fault) = desc_fault_text fault
fault_text (faults.Link fault) = link_fault_text fault
fault_text (faults.Call fault) = call_fault_text fault
fault_text (faults.Untyped method) = untyped_text method

-- the input has this fault at this place
abbrev pub refusal_line : Place → Fault → List ℕ
refusal_line place fault = joined (codes "jterm: " ∷ place_text place ∷ codes ": " ∷ fault_text fault ∷ codes "\n" ∷ [])
