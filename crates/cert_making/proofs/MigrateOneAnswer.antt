-- A certificate, a description and class files have one answer.
use Rattle.std.proofs.Common.{◌∙◌, sym}
use Rattle.check_call.proofs.OneAnswer.{bytes_one}
use Rattle.cert_making.specs.migrate_call.Answers.{SaysMigrated}
use Rattle.cert_making.specs.migrate_call.Laws.{AnswersAreOne}

pub answers_one : AnswersAreOne
answers_one = bytes_one SaysMigrated (λ case v w x y h k. h ∙ sym k)
