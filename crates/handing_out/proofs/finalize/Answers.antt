use Rattle.std.proofs.Common.{length, ◌∙◌, arith}
use Rattle.handing_out.proofs.Verdict.{refused_answer, refused_words, given_answer, given_words}
use Rattle.handing_out.proofs.finalize.Goals as goal

pub returns-then-out-size-clause-answer : goal.returns-then-out-size-clause-answer
returns-then-out-size-clause-answer g c gone =
    refused_answer g.S.Lists.meaning c.args.s.now (length c.args.out.now) c.of_image-size.result.words c.of_image-size.ensures.words gone c.if-out-size.true c.at.result c.at.ensures

pub returns-then-out-size-clause-words : goal.returns-then-out-size-clause-words
returns-then-out-size-clause-words g c gone =
    refused_words g.S.Lists.meaning c.args.s.now (length c.args.out.now) c.of_image-size.result.words c.of_image-size.ensures.words gone c.if-out-size.true c.args.out.now

pub returns-clause-answer : goal.returns-clause-answer
returns-clause-answer g c gone = given_answer g.S.Lists.meaning c.args.s.now (length c.args.out.now) c.of_image-size.result.words c.of_image-size.ensures.words gone (omega arith)

pub returns-clause-words : goal.returns-clause-words
returns-clause-words g c gone =
    c.write_image.ensures
    ∙ given_words g.S.Lists.meaning c.args.s.now (length c.args.out.now) c.of_image-size.result.words c.of_image-size.ensures.words gone (omega arith) c.args.out.now
