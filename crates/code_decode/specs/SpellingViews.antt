-- The program's opcode and operands as the table has them.
use Rattle.code_decode.specs.declared.spelling.SpellingView.{SpellingView}
use Rattle.code_decode.specs.declared.spelling.SpellingView.TheVariants as views
use Rattle.code_forms.specs.Spellings.{Spelling, Plain, Byte, Pair, SignedByte, SignedPair, Jump, FarJump, Increment, Table, Lookup}
use Rattle.code_forms.specs.Spellings.{Interface, Array, WideLocal, WideIncrement}

-- an instruction's form as the program has it, seen as the form in the table of the instructions
abbrev pub shown : SpellingView → Spelling
shown (views.Plain op) = Plain op
shown (views.Byte op n) = Byte op n
shown (views.Pair op n) = Pair op n
shown (views.SignedByte op v) = SignedByte op v
shown (views.SignedPair op v) = SignedPair op v
shown (views.Jump op target) = Jump op target
shown (views.FarJump op target) = FarJump op target
shown (views.Increment op n v) = Increment op n v
shown (views.Table op default low targets) = Table op default low targets.now
shown (views.Lookup op default cases) = Lookup op default cases.now
shown (views.Interface op n count) = Interface op n count
shown (views.Array op code) = Array op code
shown (views.WideLocal op n) = WideLocal op n
shown (views.WideIncrement op n v) = WideIncrement op n v
