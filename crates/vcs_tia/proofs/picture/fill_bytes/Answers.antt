use Rattle.std.proofs.Common.{◌+◌, ◌∙◌, ap, sym, refl, set, add-one, length-set}
use Rattle.vcs_tia.specs.Inside.Spans.{filled}
use Rattle.vcs_tia.proofs.picture.fill_bytes.Goals as goal

pub loop-i-init : goal.loop-i-init
unfolding filled
loop-i-init c = record { all = refl; done = refl }

pub loop-i-preserved : goal.loop-i-preserved
unfolding filled
loop-i-preserved c =
    let i = c.loop-i.i in
    record {
      all = length-set c.loop-i.bytes _ _ ∙ c.loop-i.invariant.all;
      done =
          ap (λ p. set p (c.args.start + i) c.args.value) c.loop-i.invariant.done
          ∙ ap (λ n. filled c.args.bytes.now c.args.start n (λ _. c.args.value)) (sym (add-one i));
    }
