use Rattle.std.proofs.Common.{refl, sym, ◌∙◌, arith}
use Rattle.std.proofs.lemmas.Bool.{eqb-true}
use Rattle.input.proofs.Readings.{decoding_end}
use Rattle.input.proofs.bytes.decode.Goals as goal

pub returns : goal.returns
returns c =
    decoding_end c.args.bytes.now _ c.loop-k.out c.as_chunks.result.0.now c.loop-k.k _ c.as_chunks.ensures.front (omega arith) refl c.as_chunks.ensures.front_len c.if-words-gt16384.false (sym c.as_chunks.ensures.back_len ∙ eqb-true _ _ (sym c.is_empty.ensures ∙ c.if-not-is_empty.false)) c.loop-k.invariant
