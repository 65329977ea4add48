-- The faults of pools in words.
use Rattle.std.specs.Prelude.{ℕ, List, [], ◌∷◌, codes}
use Rattle.list_views.specs.FaultWords.{joined, number_field}
use Rattle.class_pool.specs.declared.fault.PoolFault.{PoolFault}
use Rattle.class_pool.specs.declared.fault.PoolFault.TheVariants.{Truncated, BadTag, BadUtf8, BadIndex, Memory}

-- the name of a fault of a pool, the first word of its text
abbrev pub fault_name : PoolFault → List ℕ
fault_name (Truncated at) = codes "Truncated"
fault_name (BadTag at) = codes "BadTag"
fault_name (BadUtf8 at) = codes "BadUtf8"
fault_name (BadIndex entry) = codes "BadIndex"
fault_name Memory = codes "Memory"

-- what a fault says besides its name: the place in the file, or the number of the entry, that it is about
abbrev pub fault_fields : PoolFault → List ℕ
fault_fields (Truncated at) = number_field (codes "at") at
fault_fields (BadTag at) = number_field (codes "at") at
fault_fields (BadUtf8 at) = number_field (codes "at") at
fault_fields (BadIndex entry) = number_field (codes "entry") entry
fault_fields Memory = []

-- the text of a fault of a pool: its name, and then its fields
abbrev pub fault_text : PoolFault → List ℕ
fault_text fault = joined (fault_name fault ∷ fault_fields fault ∷ [])
