-- What the proofs of this crate compute with, by kinds.
use Rattle.std.specs.Prelude.{⊤}
use Rattle.std.specs.Str.{is_utf8, chars}
use lib.Utf8.{encode}
use Rattle.class_base.specs.MemberKinds.{is_descriptor}
use Rattle.class_base.specs.MethodTypes.{types_at, returned_at, method_type}
use Rattle.class_base.specs.Types.{object_at, element_at, type_at, field_type}
use Rattle.asm_lines.specs.Statements.{static_word, field_line, sizes_said, size_words, sizes_of, method_line, one_word}
use Rattle.asm_lines.specs.ClassLines.{any_word, class_word, class_line}
use Rattle.asm_lines.specs.Operations.{one_number, member_operation, increment_operation, operands}
use Rattle.asm_lines.specs.Items.{operation_of, plain_item, item_of}
use Rattle.asm_lines.specs.Listings.{outside_of, class_said}

-- names and descriptors
unfoldable pub names_and_types : ⊤
unfolding is_descriptor types_at returned_at method_type object_at element_at type_at field_type is_utf8 chars encode
names_and_types = tt

-- lines outside methods
unfoldable pub outside_lines : ⊤
unfolding class_said class_line class_word any_word outside_of field_line static_word method_line sizes_of size_words sizes_said
outside_lines = tt

-- lines of methods
unfoldable pub code_lines : ⊤
unfolding item_of plain_item operation_of operands one_word one_number member_operation increment_operation
code_lines = tt
