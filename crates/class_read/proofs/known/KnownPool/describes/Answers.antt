use Rattle.std.proofs.Common.{◌≡◌, Some, None}
use Rattle.class_base.specs.declared.member_kind.MemberKind.TheVariants.{Field, Method}
use Rattle.class_pool.specs.Text.{utf8_at}
use Rattle.class_read.proofs.KnownLaws.{field_asked, method_asked, no_method}
use Rattle.class_read.proofs.known.KnownPool.describes.Goals as goal

pub returns-in-Field : goal.returns-in-Field
returns-in-Field c =
    let kind : c.args.kind ≡ Field = cc in
    field_asked c.args.flags c.args.kind c.kinds-kinds.result (utf8_at c.args.self.now c.args.i) kind c.kinds-kinds.ensures

pub returns-in-Some : goal.returns-in-Some
returns-in-Some c =
    let kind : c.args.kind ≡ Method = cc in
    let words : c.kinds-kinds.result.words ≡ Some c.in-Some.words = cc in
    method_asked c.args.flags c.in-Some.words c.receiver_words.result c.args.kind c.kinds-kinds.result
    (utf8_at c.args.self.now c.args.i) kind c.kinds-kinds.ensures words c.receiver_words.ensures

pub returns-in-None : goal.returns-in-None
returns-in-None c =
    let kind : c.args.kind ≡ Method = cc in
    let words : c.kinds-kinds.result.words ≡ None = cc in
    no_method c.args.flags c.args.kind c.kinds-kinds.result (utf8_at c.args.self.now c.args.i) kind c.kinds-kinds.ensures words
