use Rattle.std.proofs.Common.{arith, refl}
use Rattle.std.proofs.lemmas.Grind.{common_steps}
use Rattle.tas_words.proofs.TipLemmas.{flags_between}
use Rattle.tas_words.proofs.tips.with_flags.Goals as goal

pub returns-then-is_empty : goal.returns-then-is_empty
returns-then-is_empty g c = grind (arith, common_steps)

pub returns : goal.returns
returns g c =
    let input = c.split_once.ensures.byte (omega arith) (λ text found is. is) in
    let flags = c.split_once-2.ensures.byte (omega arith) (λ text found is. is) in
    flags_between c.args.tip.now c.args.flags.now _ c.split_once.result c.split_once-2.result _ c.unwrap_or.result _ c.unwrap_or-2.result _ c.is_empty.ensures c.if-is_empty.false refl refl input c.unwrap_or.ensures refl refl flags c.unwrap_or-2.ensures
    c.in_ok-new.ensures.ok
