use Rattle.std.proofs.Common.{◌≡◌, ◌+◌, ◌-◌, ◌<◌, ◌∷◌, ◌++◌, ℕ, List, length, drop, refl, ap, ◌∙◌, arith}
use Rattle.std.specs.Prelude.{decimal, slice_index}
use Rattle.std.proofs.lemmas.Fmt.{length-decimal-le}
use Rattle.std.proofs.lemmas.Grind.{common_steps, drop-set_at}
use Rattle.tas_engines.proofs.ram.put_value.Goals as goal

pub write_digits-start-requires : goal.write_digits-start-requires
write_digits-start-requires g c =
    let small : c.from-2.result < 256 = grind (arith, common_steps) in
    let three = length-decimal-le 3 c.from-2.result (omega arith) (omega (arith, small)) (omega (arith, small)) in
    (omega (arith, three, c.requires.room), c.requires.end)

pub overflow_sub-start : goal.overflow_sub-start
overflow_sub-start g c =
    let small : c.from-2.result < 256 = grind (arith, common_steps) in
    let three = length-decimal-le 3 c.from-2.result (omega arith) (omega (arith, small)) (omega (arith, small)) in
    omega (arith, three, c.requires.room, c.write_digits-start.ensures.start)

pub returns-clause-start : goal.returns-clause-start
returns-clause-start g c =
    let small : c.from-2.result < 256 = grind (arith, common_steps) in
    let three = length-decimal-le 3 c.from-2.result (omega arith) (omega (arith, small)) (omega (arith, small)) in
    omega (arith, three, c.requires.room, c.write_digits-start.ensures.start)

pub returns-clause-value : goal.returns-clause-value
returns-clause-value g c =
    let start = c.write_digits-start.result in
    let new = c.write_digits-start.new.buf in
    let small : c.from-2.result < 256 = grind (arith, common_steps) in
    let three = length-decimal-le 3 c.from-2.result (omega arith) (omega (arith, small)) (omega (arith, small)) in
    let next : (start - 1) + 1 ≡ start = omega (arith, three, c.requires.room, c.write_digits-start.ensures.start) in
    let within : start - 1 < length new = omega (arith, three, c.requires.room, c.requires.end, c.write_digits-start.ensures.start, c.write_digits-start.auto.buf) in
    let value : c.from-2.result ≡ slice_index c.args.ram.now (c.args.name.now.address - 128) = grind (arith, common_steps) in
    drop-set_at new (start - 1) (start - 1) 44 refl within ∙ ap (λ (n : ℕ). 44 ∷ drop n new) next
    ∙ ap (λ (bs : List ℕ). 44 ∷ bs) (c.write_digits-start.ensures.written ∙ ap (λ (v : ℕ). decimal v ++ drop c.args.end c.args.buffer.now) value)
