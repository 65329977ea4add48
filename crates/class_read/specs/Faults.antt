-- The faults of class files in words. A pool's fault stands for the class's.
use Rattle.std.specs.Prelude.{ℕ, List, [], ◌∷◌, codes}
use Rattle.class_base.specs.list_views.FaultWords.{joined, number_field}
use Rattle.class_pool.specs.Faults.{fault_name as pool_fault_name, fault_fields as pool_fault_fields}
use Rattle.class_read.specs.declared.fault.ClassFault.{ClassFault}
use Rattle.class_read.specs.declared.fault.ClassFault.TheVariants.{BadMagic, Version, Pool, Truncated, BadDescriptor}
use Rattle.class_read.specs.declared.fault.ClassFault.TheVariants.{DuplicateMember, CodeLength, MissingCode, ExtraCode}
use Rattle.class_read.specs.declared.fault.ClassFault.TheVariants.{TrailingBytes, Memory}

-- the name of a fault of a class file, the first word of its text
abbrev pub fault_name : ClassFault → List ℕ
fault_name BadMagic = codes "BadMagic"
fault_name (Version major) = codes "Version"
fault_name (Pool fault) = pool_fault_name fault
fault_name (Truncated at) = codes "Truncated"
fault_name (BadDescriptor at) = codes "BadDescriptor"
fault_name (DuplicateMember at) = codes "DuplicateMember"
fault_name (CodeLength at) = codes "CodeLength"
fault_name (MissingCode at) = codes "MissingCode"
fault_name (ExtraCode at) = codes "ExtraCode"
fault_name (TrailingBytes at) = codes "TrailingBytes"
fault_name Memory = codes "Memory"

-- what a fault of a class file says besides its name: the place in the file, or the major version, that it is about
abbrev pub fault_fields : ClassFault → List ℕ
fault_fields BadMagic = []
fault_fields (Version major) = number_field (codes "major") major
fault_fields (Pool fault) = pool_fault_fields fault
fault_fields (Truncated at) = number_field (codes "at") at
fault_fields (BadDescriptor at) = number_field (codes "at") at
fault_fields (DuplicateMember at) = number_field (codes "at") at
fault_fields (CodeLength at) = number_field (codes "at") at
fault_fields (MissingCode at) = number_field (codes "at") at
fault_fields (ExtraCode at) = number_field (codes "at") at
fault_fields (TrailingBytes at) = number_field (codes "at") at
fault_fields Memory = []

-- the text of a fault of a class file: its name, and then its fields
abbrev pub fault_text : ClassFault → List ℕ
fault_text fault = joined (fault_name fault ∷ fault_fields fault ∷ [])
