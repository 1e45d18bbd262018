use Rattle.std.proofs.Common.{arith, refl}
use Rattle.tas_words.proofs.TipLemmas.{tip_between}
use Rattle.tas_words.proofs.invocation.with_tip.Goals as goal

pub returns : goal.returns
returns g c =
    let split = c.split_once.ensures.byte (omega arith) (λ text found is. is) in
    tip_between c.args.tip.now c.args.text.now _ c.split_once.result _ _ refl refl split c.unwrap_or.ensures c.in_ok-new.ensures.ok
