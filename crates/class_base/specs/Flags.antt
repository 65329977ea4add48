-- Access flags (JVM specification, SE 8, tables 4.1-A, 4.5-A and 4.6-A).
use Rattle.std.specs.Prelude.{ℕ, Bool, not, bit_and, ◌==◌}

-- access flags have a flag: the bit of it is set
abbrev pub has_flag : ℕ → ℕ → Bool
has_flag flags flag = not (bit_and flags flag == 0)

-- ACC_PRIVATE is set: the member is private
abbrev pub is_private : ℕ → Bool
is_private flags = has_flag flags 0x0002

-- ACC_STATIC is set: the member belongs to its class, and a method has no receiver
abbrev pub is_static : ℕ → Bool
is_static flags = has_flag flags 0x0008

-- ACC_SYNCHRONIZED is set: a call of the method enters a monitor
abbrev pub is_synchronized : ℕ → Bool
is_synchronized flags = has_flag flags 0x0020

-- ACC_NATIVE is set: the method's body is outside of its class file
abbrev pub is_native : ℕ → Bool
is_native flags = has_flag flags 0x0100

-- ACC_INTERFACE is set: the class file is that of an interface, not of a class
abbrev pub is_interface : ℕ → Bool
is_interface flags = has_flag flags 0x0200

-- ACC_ABSTRACT is set: the class has no instances of its own, or the method has no body
abbrev pub is_abstract : ℕ → Bool
is_abstract flags = has_flag flags 0x0400
