-- The faults of linking and closing in words. A fault of a method's code stands for the method's.
use Rattle.std.specs.Prelude.{ℕ, List, [], ◌∷◌, codes}
use Rattle.code_forms.specs.list_views.FaultWords.{joined, bytes_field}
use Rattle.code_forms.specs.Faults.{pc_field, fault_name as code_fault_name, fault_fields as code_fault_fields}
use Rattle.class_world.specs.declared.fault.MethodName.{MethodName}
use Rattle.class_world.specs.declared.fault.LinkFault.{LinkFault}
use Rattle.class_world.specs.declared.fault.LinkFault.TheVariants.{DuplicateClass, MissingClass, CyclicHierarchy, BadSuper}
use Rattle.class_world.specs.declared.fault.LinkFault.TheVariants.{DefaultMethod, StaticInit, Native, Synchronized, UnsupportedType}
use Rattle.class_world.specs.declared.fault.LinkFault.TheVariants.{Unresolved, PrivateVirtual, Code, TooManyStatics, Memory}

-- the name of a fault of linking or closing, as it is printed; a fault in the code of a method has the name of that fault
abbrev pub fault_name : LinkFault → List ℕ
fault_name (DuplicateClass name) = codes "DuplicateClass"
fault_name (MissingClass name) = codes "MissingClass"
fault_name (CyclicHierarchy name) = codes "CyclicHierarchy"
fault_name (BadSuper name) = codes "BadSuper"
fault_name (DefaultMethod name) = codes "DefaultMethod"
fault_name (StaticInit name) = codes "StaticInit"
fault_name (Native method) = codes "Native"
fault_name (Synchronized method) = codes "Synchronized"
fault_name (UnsupportedType method pc) = codes "UnsupportedType"
fault_name (Unresolved method pc) = codes "Unresolved"
fault_name (PrivateVirtual method pc) = codes "PrivateVirtual"
fault_name (Code method fault) = code_fault_name fault
fault_name TooManyStatics = codes "TooManyStatics"
fault_name Memory = codes "Memory"

-- the name of a class as a field of a fault's text, `name=`, as it stands in the class file
abbrev pub name_field : List ℕ → List ℕ
name_field name = bytes_field (codes "name") name

-- the name of a method in pieces, `CLASS.NAMEDESC`, with what stands behind it
abbrev pub method_pieces : List ℕ → List ℕ → List ℕ → List (List ℕ) → List (List ℕ)
method_pieces class name desc more = class ∷ codes "." ∷ name ∷ desc ∷ more

-- a method as a field of a fault's text, `method=CLASS.NAMEDESC`, and further fields behind it
abbrev pub method_fields : MethodName → List ℕ → List ℕ
method_fields method more = joined (codes " method=" ∷ method_pieces method.class method.name method.desc (more ∷ []))

-- the fields of a fault's text behind its name: the class or method that has the fault, and the place of the instruction in its code
abbrev pub fault_fields : LinkFault → List ℕ
fault_fields (DuplicateClass name) = name_field name
fault_fields (MissingClass name) = name_field name
fault_fields (CyclicHierarchy name) = name_field name
fault_fields (BadSuper name) = name_field name
fault_fields (DefaultMethod name) = name_field name
fault_fields (StaticInit name) = name_field name
fault_fields (Native method) = method_fields method []
fault_fields (Synchronized method) = method_fields method []
fault_fields (UnsupportedType method pc) = method_fields method (pc_field pc)
fault_fields (Unresolved method pc) = method_fields method (pc_field pc)
fault_fields (PrivateVirtual method pc) = method_fields method (pc_field pc)
fault_fields (Code method fault) = method_fields method (code_fault_fields fault)
fault_fields TooManyStatics = []
fault_fields Memory = []

-- the text of a fault of linking or closing: its name, and then its fields
abbrev pub fault_text : LinkFault → List ℕ
fault_text fault = joined (fault_name fault ∷ fault_fields fault ∷ [])
