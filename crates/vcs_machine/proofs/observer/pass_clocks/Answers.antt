use Rattle.std.proofs.Common.{◌≡◌, ◌+◌, ◌-◌, ◌∙◌, ap, sym, arith}
use Rattle.vcs_tia.specs.declared.chip.Tia.{Tia}
use Rattle.vcs_tia.specs.Tia.{clocks_passed}
use Rattle.vcs_tia.specs.Trace.{after_clocks, trace}
use Rattle.vcs_tia.proofs.Traces.{clocks_passed-after_clocks, after_clocks-add, trace-add}
use Rattle.vcs_machine.proofs.observer.pass_clocks.Goals as goal

pub advance-requires-3 : goal.advance-requires-3
advance-requires-3 g c =
    let passed = ap clocks_passed c.advance-2.ensures.tia ∙ clocks_passed-after_clocks 65535 c.args.tia.now in
    let room = c.requires.room in
    omega (arith, passed, room, c.if-clocks-le-MOST_CLOCKS.false)

pub returns-clause-tia : goal.returns-clause-tia
returns-clause-tia g c =
    let t = c.args.tia.now in
    let rest = c.args.clocks - 65535 in
    let all : 65535 + rest ≡ c.args.clocks = omega (arith, c.if-clocks-le-MOST_CLOCKS.false) in
    c.advance-3.ensures.tia ∙ ap (after_clocks rest) c.advance-2.ensures.tia ∙ sym (after_clocks-add 65535 rest t) ∙ ap (λ n. after_clocks n t) all

pub returns-clause-seen : goal.returns-clause-seen
returns-clause-seen g c =
    let t = c.args.tia.now in
    let rest = c.args.clocks - 65535 in
    let seen = g.O.Observer.seen c.args.observer.now in
    let observe = g.O.Observer.observe in
    let all : 65535 + rest ≡ c.args.clocks = omega (arith, c.if-clocks-le-MOST_CLOCKS.false) in
    c.advance-3.ensures.seen
    ∙ ap (λ (u : Tia). observe (trace rest u) (g.O.Observer.seen c.advance-2.new.self)) c.advance-2.ensures.tia
    ∙ ap (λ (s : g.O.Observer.Seen). observe (trace rest (after_clocks 65535 t)) s) c.advance-2.ensures.seen
    ∙ sym (g.met.O.Observer.observe_append (trace 65535 t) (trace rest (after_clocks 65535 t)) seen)
    ∙ ap (λ ts. observe ts seen) (sym (trace-add 65535 rest t))
    ∙ ap (λ n. observe (trace n t) seen) all
