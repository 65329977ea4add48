-- The faults of certificates in words.
use Rattle.std.specs.Prelude.{ℕ, List, [], ◌∷◌, codes}
use Rattle.list_views.specs.FaultWords.{joined, bytes_field}
use Rattle.json_view.specs.Faults.{fault_name as json_name, fault_fields as json_fields}
use Rattle.cert_form.specs.declared.fault.CertFault.{CertFault}
use Rattle.cert_form.specs.declared.fault.CertFault.TheVariants.{Json, Limit, Memory}

-- the name of a fault of a certificate, the first word of its text
abbrev pub fault_name : CertFault → List ℕ
fault_name (Json fault) = json_name fault
fault_name (Limit place) = codes "Limit"
fault_name Memory = codes "Memory"

-- what a fault of a certificate says besides its name: the place in the JSON that it is about
abbrev pub fault_fields : CertFault → List ℕ
fault_fields (Json fault) = json_fields fault
fault_fields (Limit place) = bytes_field (codes "place") place
fault_fields Memory = []

-- the text of a fault of a certificate: its name, and then its fields
abbrev pub fault_text : CertFault → List ℕ
fault_text fault = joined (fault_name fault ∷ fault_fields fault ∷ [])
