use Rattle.std.proofs.Common.{◌≡◌, ◌+◌, length, min, sym, subst, arith}
use Rattle.std.proofs.lemmas.Bool.{eqb-true, eqb-false}
use Rattle.tas_engines.specs.Ram.{ram_after}
use Rattle.tas_engines.specs.Comparing.{input_at, ram_at, picture_at, pixmap_of, IsFirstDifference}
use Rattle.tas_engines.proofs.CompareLemmas.{first_input, at_end}
use Rattle.tas_engines.proofs.compare.find_differences.Goals as goal

pub returns : goal.returns
returns g c =
    let old = c.args.old.now in
    let new = c.args.new.now in
    let common = rw (c.inputs.ensures.inputs, c.inputs-2.ensures.inputs) at c.common_front-front.ensures in
    let end : c.min-end.result ≡ min (length c.args.old.now.inputs) (length c.args.new.now.inputs) = omega (arith, c.min-end.ensures, c.len-old_len.ensures.len, c.len-new_len.ensures.len) in
    record {
      input = subst (IsFirstDifference (input_at old) (input_at new)) (sym c.first_of.ensures)
          (first_input old new c.common_front-front.result c.requires common _
          (λ on. omega (arith, eqb-true _ _ on, c.max.ensures, c.len-old_len.ensures.len, c.len-new_len.ensures.len))
          (λ off is. eqb-false _ _ off (omega (arith, is, c.max.ensures, c.len-old_len.ensures.len, c.len-new_len.ensures.len))));
      ram = subst (IsFirstDifference (ram_at old) (ram_at new)) (sym c.first_of-2.ensures)
          (at_end old new (λ k. ram_after old (k + 1)) (λ k. ram_after new (k + 1)) c.min-end.result c.in_ok-found.found.ram _ end
          (λ on. omega (arith, eqb-true _ _ on, c.len-old_len.ensures.len, c.len-new_len.ensures.len))
          (λ off is. eqb-false _ _ off (omega (arith, is, c.len-old_len.ensures.len, c.len-new_len.ensures.len)))
          c.in_ok-found.ensures.ram);
      picture = subst (IsFirstDifference (picture_at old) (picture_at new)) (sym c.first_of-3.ensures)
          (at_end old new (λ k. pixmap_of old k) (λ k. pixmap_of new k) c.min-end.result c.in_ok-found.found.picture _ end
          (λ on. omega (arith, eqb-true _ _ on, c.len-old_len.ensures.len, c.len-new_len.ensures.len))
          (λ off is. eqb-false _ _ off (omega (arith, is, c.len-old_len.ensures.len, c.len-new_len.ensures.len)))
          c.in_ok-found.ensures.picture);
    }
