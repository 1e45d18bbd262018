use Rattle.std.proofs.lemmas.Grind.{common_steps}
use Rattle.std.proofs.Common.{◌≡◌, ◌*◌, get_or, length, arith, rules, ap, ◌∙◌, refl}
use Rattle.tas_language.specs.Parts.{hex_text}
use Rattle.tas_language.proofs.PartLemmas.{more_bytes, byte_read, length-hex_text, all_bytes, set_bytes}
use Rattle.tas_language.proofs.loading.write_bytes.Goals as goal

pub loop-k-preserved : goal.loop-k-preserved
loop-k-preserved c =
    let i = c.loop-k.invariant in
    record { len = search rules; bytes = set_bytes c.loop-k.buffer c.loop-k.k c.in_ok-byte.byte (omega arith) i.bytes (omega arith); done = more_bytes c.args.digits.now c.loop-k.buffer c.loop-k.k c.in_ok-byte.byte (omega arith) (omega arith) i.done c.in_ok-byte.ensures.some }

pub returns-in_err-byte-clause-other : goal.returns-in_err-byte-clause-other
returns-in_err-byte-clause-other c =
    rw c.from_residual.ensures
    (λ bytes are is.
    let len : length c.args.digits.now ≡ 2 * length bytes = ap length is ∙ length-hex_text bytes in
    c.in_err-byte.ensures.none (get_or bytes c.loop-k.k 0) (are c.loop-k.k) (byte_read c.args.digits.now bytes c.loop-k.k is (omega arith)))

pub returns-clause-written : goal.returns-clause-written
returns-clause-written c = all_bytes c.args.digits.now c.loop-k.buffer c.loop-k.k (omega arith) (omega arith) c.loop-k.invariant.done

pub loop-k-init : goal.loop-k-init
unfolding hex_text
loop-k-init c = record { len = refl; bytes = λ j. omega (arith, c.type_inv.buffer j); done = refl }

pub returns-in_err-byte-clause-bytes : goal.returns-in_err-byte-clause-bytes
returns-in_err-byte-clause-bytes c = grind (arith, common_steps)
