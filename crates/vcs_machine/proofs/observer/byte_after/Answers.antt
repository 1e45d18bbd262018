use Rattle.std.proofs.Common.{◌≡◌, ◌+◌, ◌-◌, ◌∙◌, ap, sym, arith}
use Rattle.vcs_tia.specs.declared.chip.Tia.{Tia}
use Rattle.vcs_tia.specs.Tia.{clocks_passed, read_at}
use Rattle.vcs_tia.specs.Trace.{after_clocks}
use Rattle.vcs_tia.proofs.Traces.{clocks_passed-after_clocks, after_clocks-add}
use Rattle.vcs_machine.proofs.observer.byte_after.Goals as goal

pub read_after-requires-2 : goal.read_after-requires-2
read_after-requires-2 c =
    let passed = ap clocks_passed c.pass.ensures.tia ∙ clocks_passed-after_clocks 65535 c.args.tia.now in
    let room = c.requires.room in
    omega (arith, passed, room, c.if-clocks-le-MOST_CLOCKS.false)

pub returns : goal.returns
returns c =
    let t = c.args.tia.now in
    let rest = c.args.clocks - 65535 in
    let all : 65535 + rest ≡ c.args.clocks = omega (arith, c.if-clocks-le-MOST_CLOCKS.false) in
    c.read_after-2.ensures
    ∙ ap (λ (u : Tia). read_at c.args.address (after_clocks rest u)) c.pass.ensures.tia
    ∙ ap (read_at c.args.address) (sym (after_clocks-add 65535 rest t))
    ∙ ap (λ n. read_at c.args.address (after_clocks n t)) all
