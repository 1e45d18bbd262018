use Rattle.std.proofs.lemmas.Grind.{common_steps}
use Rattle.std.proofs.Common.{◌≡◌, ◌*◌, length, arith, ap, sym, ◌∙◌}
use Rattle.std.proofs.lemmas.Option.{IfSome_then}
use Rattle.tas_language.specs.Parts.{Part, IsPart}
use Rattle.tas_language.proofs.PartLemmas.{length-word_text, length-hex_text, word_read, word_made, offset_same, image_over}
use Rattle.tas_language.proofs.WordLemmas.{none_then}
use Rattle.tas_language.proofs.loading.write_part.Goals as goal

pub returns-then-word-lt6-clause-other : goal.returns-then-word-lt6-clause-other
returns-then-word-lt6-clause-other c = λ part is-part is. let l = ap length is in absurd (omega (arith, length-word_text part, is-part.some))

pub returns-then-digits-ne0-clause-other : goal.returns-then-digits-ne0-clause-other
returns-then-digits-ne0-clause-other c = λ part is-part is.
    let read = word_read c.args.word.now c.split_at.result.1.now part is c.split_at.ensures.back in
    let l : length c.split_at.result.1.now ≡ 2 * length part.bytes = ap length read.2 ∙ length-hex_text part.bytes in
    c.if-digits-ne0.true (omega (arith, l))

pub returns-then-end-image-clause-other : goal.returns-then-end-image-clause-other
returns-then-end-image-clause-other c = λ part is-part is.
    let read = word_read c.args.word.now c.split_at.result.1.now part is c.split_at.ensures.back in
    let l : length c.split_at.result.1.now ≡ 2 * length part.bytes = ap length read.2 ∙ length-hex_text part.bytes in
    let same : c.in_ok-offset.offset ≡ part.offset = offset_same c.in_ok-offset.offset part.offset c.in_ok-offset.ensures.some.0 (omega (arith, is-part.some, is-part.within, c.requires)) (c.in_ok-offset.ensures.some.1 ∙ sym read.0) in
    absurd (omega (arith, l, same, is-part.within))

pub returns-clause-written : goal.returns-clause-written
returns-clause-written c = IfSome_then c.write_bytes.result c.write_bytes.ensures.written (λ u digits.
    let part : Part = record { offset = c.in_ok-offset.offset; bytes = c.write_bytes.new.buffer } in
    let l : length c.split_at.result.1.now ≡ 2 * length c.write_bytes.new.buffer = ap length digits ∙ length-hex_text c.write_bytes.new.buffer in
    let is-part : IsPart (length c.args.image.now) part = record { some = omega (arith, l, c.split_at.ensures.back_len); within = omega (arith, l); bytes = c.write_bytes.ensures.bytes } in (
      part,
      is-part,
      word_made c.args.word.now c.split_at.result.1.now c.write_bytes.new.buffer c.in_ok-offset.offset (omega arith) c.split_at.ensures.back c.if-word-ne61.false c.in_ok-offset.ensures.some.1 digits,
      image_over c.in_ok-offset.offset _ c.args.image.now c.write_bytes.new.buffer (omega arith) (omega (arith, l)),
    ))

pub returns-clause-other : goal.returns-clause-other
returns-clause-other c = none_then _ _ c.write_bytes.result c.write_bytes.ensures.other (λ never part is-part is.
    never part.bytes is-part.bytes (word_read c.args.word.now c.split_at.result.1.now part is c.split_at.ensures.back).2)

pub returns-in_err-offset-clause-other : goal.returns-in_err-offset-clause-other
returns-in_err-offset-clause-other c = grind (arith, common_steps)
