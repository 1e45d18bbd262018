use Rattle.std.proofs.Common.{◌++◌, ◌∙◌, ap, List, ℕ, length, arith}
use Rattle.std.specs.Prelude.{codes}
use Rattle.byte_text.specs.Sending.{buffered}
use Rattle.byte_text.proofs.Sendings.{pushed_both, pushed_length}
use Rattle.tas_movie.proofs.PrintLemmas.{digest_length}
use Rattle.tas_movie.proofs.printing.push_head.Goals as goal

pub push-requires-2 : goal.push-requires-2
push-requires-2 g c =
    let grown = pushed_length c.args.out.now c.push.new.self (codes "a26movie 2\n") c.push.ensures in
    let name = ap (λ (l : List ℕ). length l) c.print_digest.ensures ∙ digest_length c.args.cart.now in
    omega (arith, grown, name, c.requires)

pub push-requires-3 : goal.push-requires-3
push-requires-3 g c =
    let grown = pushed_length c.args.out.now c.push.new.self (codes "a26movie 2\n") c.push.ensures in
    let named = pushed_length c.push.new.self c.push-2.new.self c.print_digest.result c.push-2.ensures in
    let name = ap (λ (l : List ℕ). length l) c.print_digest.ensures ∙ digest_length c.args.cart.now in
    omega (arith, grown, named, name, c.requires)

pub returns : goal.returns
returns g c =
    pushed_both c.args.out.now c.push-2.new.self c.push-3.new.self (codes "a26movie 2\n" ++ c.print_digest.result) (codes "\n")
    (pushed_both c.args.out.now c.push.new.self c.push-2.new.self (codes "a26movie 2\n") c.print_digest.result c.push.ensures c.push-2.ensures) c.push-3.ensures
    ∙ ap (λ (l : List ℕ). buffered c.args.out.now.written (c.args.out.now.waiting ++ ((codes "a26movie 2\n" ++ l) ++ codes "\n"))) c.print_digest.ensures
