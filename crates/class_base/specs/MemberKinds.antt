-- What the members of a class have as descriptors (JVM specification, SE 8, sections 4.3.2 and 4.3.3).
use Rattle.std.specs.Prelude.{ℕ, ◌+◌, ◌-◌, ◌≤◌, Bool, false, List, nat_le, is_some, if◌then◌else◌}
use Rattle.std.specs.Option.{option_map_or}
use Rattle.class_base.specs.declared.types.FieldType.{FieldType}
use Rattle.class_base.specs.declared.methods.MethodType.{MethodType}
use Rattle.class_base.specs.declared.member_kind.MemberKind.{MemberKind}
use Rattle.class_base.specs.declared.member_kind.MemberKind.TheVariants.{Field, Method}
use Rattle.class_base.specs.Flags.{is_static}
use Rattle.class_base.specs.Types.{field_type, IsFieldType}
use Rattle.class_base.specs.MethodTypes.{method_words, words_of, IsMethodType}

-- the words that a receiver takes among a method's arguments: one, or none where the method is static
abbrev pub receiver_words : ℕ → ℕ
receiver_words flags = if is_static flags then 0 else 1

-- the bytes are a field's descriptor: they write a type (JVM specification, section 4.3.2)
pub record IsFieldDescriptor (bytes : List ℕ) : Type 0 where
  pub type_is : FieldType
  pub field : IsFieldType type_is bytes

-- The bytes are the descriptor of a method with these flags (JVM specification, section 4.3.3): they write a method's type,
-- and with the receiver its parameters have at most 255 words.
pub record IsMethodDescriptor (flags : ℕ) (bytes : List ℕ) : Type 0 where
  pub method : MethodType
  pub descriptor : IsMethodType method bytes
  pub words : words_of method.params + receiver_words flags ≤ 255

-- the bytes are the descriptor of a field or of a method that has these access flags
abbrev pub IsDescriptor : MemberKind → ℕ → List ℕ → Type 0
IsDescriptor Field flags bytes = IsFieldDescriptor bytes
IsDescriptor Method flags bytes = IsMethodDescriptor flags bytes

-- the test whether bytes are the descriptor of a field or of a method with these flags, by reading them from left to right
unfoldable pub is_descriptor : MemberKind → ℕ → List ℕ → Bool
is_descriptor Field flags bytes = is_some (field_type bytes)
is_descriptor Method flags bytes = option_map_or (λ words. nat_le words (255 - receiver_words flags)) (method_words bytes) false
