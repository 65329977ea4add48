-- What `asm` answers for the bytes of a listing.
use Rattle.std.specs.Prelude.{◌≡◌, ℕ, List, Result, Ok, Err}
use Rattle.asm_lines.specs.declared.fault.AsmFault.{AsmFault}
use Rattle.asm_lines.specs.declared.fault.AsmFault.TheVariants as listings
use Rattle.class_asm.specs.Classes.{assembled}
use Rattle.input_steps.specs.declared.refused.Refused.{Refused}
use Rattle.input_steps.specs.declared.refused.Refused.TheVariants.{At, Memory}
use Rattle.input_steps.specs.declared.refused.Place.{Place}
use Rattle.input_steps.specs.declared.refused.Place.TheVariants as places
use Rattle.input_steps.specs.declared.refused.Fault.{Fault}
use Rattle.input_steps.specs.declared.refused.Fault.TheVariants as faults
use Rattle.input_steps.specs.Steps.{IsAt}

-- the listing says the class file of these bytes
abbrev pub IsClassFile : List ℕ → List ℕ → Type 0
IsClassFile listing class = assembled listing ≡ Ok class

-- a listing is refused for its first fault
abbrev pub RefusesListing : List ℕ → Place → Fault → Type 0
RefusesListing listing = IsAt {C = AsmFault} (λ fault. places.Listing) faults.Listing (λ fault. assembled listing ≡ Err fault)

-- The class file's bytes where the listing says a class, and else its first fault. Want of memory has no cause.
abbrev pub Answers : List ℕ → Result (List ℕ) Refused → Type 0
Answers listing (Ok out) = IsClassFile listing out
Answers listing (Err (At place fault)) = RefusesListing listing place fault
Answers listing (Err Memory) = Unit {0}

-- what is said of a listing that has this fault
abbrev pub listing_refusal : AsmFault → Refused
listing_refusal listings.Memory = Memory
listing_refusal fault = At places.Listing (faults.Listing fault)
