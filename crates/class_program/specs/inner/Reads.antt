-- Members that instructions name, seen as what the definitions read.
use Rattle.class_program.specs.Operands.{Member}
use Rattle.class_program.specs.declared.member_operand.MemberNames.{MemberNames}

-- the member that the code read from a pool, as the definitions have it
abbrev pub member_seen : MemberNames → Member
member_seen m = record { class = m.class.now; name = m.name.now; desc = m.desc.now }
