use Rattle.std.proofs.lemmas.Grind.{common_steps}
use Rattle.std.proofs.Common.{◌≡◌, ◌+◌, ◌-◌, ◌*◌, ◌∙◌, ap, sym, arith}
use Rattle.vcs_cpu.specs.Polls.{polled_byte, after_polls}
use Rattle.vcs_tia.proofs.Traces.{clocks_passed-after_clocks}
use Rattle.vcs_machine.specs.Bus.{Observed, bus_device}
use Rattle.vcs_machine.specs.Inside.Console.{content_of, clocks_of}
use Rattle.vcs_machine.proofs.Lagging.{lagging-same}
use Rattle.vcs_machine.proofs.Polling.{at, polls-before, at-polls, at-is_poll-from, at-byte}
use Rattle.vcs_machine.proofs.Watched.{poll-unwatched}
use Rattle.vcs_machine.proofs.bus.ConsoleBusSettle.pass_polls.Goals as goal

pub invariant_of-self : goal.invariant_of-self
invariant_of-self g c =
    let b = c.catch_up_riot.new.self in
    let fit = c.polls_within-polls.ensures.fit in
    record {
      rom_size = b.rom_size;
      start_is = b.start_is;
      sides_is = b.sides_is;
      riot_past = omega (arith, b.riot_past);
      riot_first = b.riot_first;
      tia_past = omega (arith, b.tia_past);
      beam = b.beam;
      clock = b.clock;
      few = b.few;
      low = omega (arith, fit, c.if-self-ge-END.false);
      still = λ h. b.still (omega (arith, h));
    }

pub invariant_of-self-2 : goal.invariant_of-self-2
invariant_of-self-2 g c =
    let b = c.catch_up_riot.new.self in
    let fit = c.polls_within-polls.ensures.fit in
    record {
      rom_size = b.rom_size;
      start_is = b.start_is;
      sides_is = b.sides_is;
      riot_past = omega (arith, b.riot_past);
      riot_first = b.riot_first;
      tia_past = omega (arith, b.tia_past);
      beam = b.beam;
      clock = b.clock;
      few = b.few;
      low = omega (arith, fit, c.if-self-ge-END.false);
      still = λ h. b.still (omega (arith, h));
    }

pub returns-clause-content : goal.returns-clause-content
returns-clause-content g c =
    let b = c.catch_up_riot.new.self in
    let poll = c.args.poll in
    let polls = c.polls_within-polls.result in
    let fit = c.polls_within-polls.ensures.fit in
    let is = c.is_wait.ensures c.if-not-is_wait.false in
    let first : polls * (4 + poll.branch) ≡ 0 + polls * (4 + poll.branch) = omega arith in
    lagging-same g.O.Observer.observe g.met.O.Observer.observe_nil g.met.O.Observer.observe_append b.rom.now b.pins b.riot.now b.tia.now (g.O.Observer.seen b.observer.now) _ _ (polls * (4 + poll.branch)) (clocks_of b + 3 * (polls * (4 + poll.branch)))
    (omega (arith, c.catch_up_riot.ensures.ticks, b.riot_past)) (omega (arith, b.tia_past))
    ∙ ap (at g.met.O.Observer.observe_nil g.met.O.Observer.observe_append b c.catch_up_riot.ensures.ticks) first
    ∙ sym (at-polls g.met.O.Observer.observe_nil g.met.O.Observer.observe_append b c.catch_up_riot.ensures.ticks poll is polls c.cycles_to_wait-to_wait.result
    c.cycles_to_wait-to_wait.ensures c.polls_within-polls.ensures.reads (omega (arith, fit, c.if-self-ge-END.false)) polls (omega arith))
    ∙ ap (after_polls (bus_device g.O.Observer.observe) poll polls) c.catch_up_riot.ensures.content

pub returns-clause-polls : goal.returns-clause-polls
returns-clause-polls g c = λ i h.
    let b = c.catch_up_riot.new.self in
    let poll = c.args.poll in
    let polls = c.polls_within-polls.result in
    let fit = c.polls_within-polls.ensures.fit in
    let is = c.is_wait.ensures c.if-not-is_wait.false in
    at-is_poll-from g.met.O.Observer.observe_nil g.met.O.Observer.observe_append b c.catch_up_riot.ensures.ticks poll is polls c.cycles_to_wait-to_wait.result
    c.cycles_to_wait-to_wait.ensures c.polls_within-polls.ensures.reads (omega (arith, fit, c.if-self-ge-END.false)) (content_of c.args.self.now) c.catch_up_riot.ensures.content i h
    (c.is_in_cartridge.ensures.first c.if-not-is_in_cartridge.false) (c.is_in_cartridge.ensures.last c.if-not-is_in_cartridge.false) c.is_in_cartridge.ensures.fits

pub returns-clause-byte : goal.returns-clause-byte
returns-clause-byte g c = λ i more.
    let b = c.catch_up_riot.new.self in
    let poll = c.args.poll in
    let polls = c.polls_within-polls.result in
    let fit = c.polls_within-polls.ensures.fit in
    let is = c.is_wait.ensures c.if-not-is_wait.false in
    let within = polls-before i polls (4 + poll.branch) (omega (arith, more)) in
    c.read_after-byte.ensures
    ∙ at-byte g.met.O.Observer.observe_nil g.met.O.Observer.observe_append b c.catch_up_riot.ensures.ticks poll is polls c.cycles_to_wait-to_wait.result
    c.cycles_to_wait-to_wait.ensures c.polls_within-polls.ensures.reads (omega (arith, fit, c.if-self-ge-END.false)) i (polls * (4 + poll.branch) - poll.branch) more (omega (arith, within))
    ∙ ap (λ (o : Observed g.O.Observer.Seen). polled_byte (bus_device g.O.Observer.observe) poll (after_polls (bus_device g.O.Observer.observe) poll i o)) c.catch_up_riot.ensures.content

pub returns-clause-ready : goal.returns-clause-ready
returns-clause-ready g c =
    let b = c.catch_up_riot.new.self in
    let cycles = c.polls_within-polls.result * (4 + c.args.poll.branch) in
    let fit = c.polls_within-polls.ensures.fit in
    let behind = clocks_passed-after_clocks (3 * (b.count + cycles - b.offset - b.tia_at)) b.tia.now in
    (omega (arith, behind, fit, b.beam, b.tia_past, c.if-self-ge-END.false), λ n few. omega (arith, behind, fit, b.beam, b.tia_past, c.if-self-ge-END.false, few))

pub overflow_add-period : goal.overflow_add-period
overflow_add-period g c = grind (arith, common_steps)

pub returns-then-not-is_wait-clause-polls : goal.returns-then-not-is_wait-clause-polls
returns-then-not-is_wait-clause-polls g c = grind (arith, common_steps)

pub returns-then-polls-eq0-clause-ready : goal.returns-then-polls-eq0-clause-ready
returns-then-polls-eq0-clause-ready g c = grind (arith, common_steps)

pub returns-then-self-ge-END-clause-ready : goal.returns-then-self-ge-END-clause-ready
returns-then-self-ge-END-clause-ready g c = grind (arith, common_steps)

pub returns-then-self-ge-END-clause-polls : goal.returns-then-self-ge-END-clause-polls
returns-then-self-ge-END-clause-polls g c = grind (arith, common_steps)

pub overflow_cast-last : goal.overflow_cast-last
overflow_cast-last g c = grind (arith, common_steps)

pub returns-then-polls-eq0-clause-polls : goal.returns-then-polls-eq0-clause-polls
returns-then-polls-eq0-clause-polls g c = grind (arith, common_steps)

pub overflow_cast-period : goal.overflow_cast-period
overflow_cast-period g c = grind (arith, common_steps)

pub overflow_sub-last : goal.overflow_sub-last
overflow_sub-last g c = grind (arith, common_steps)

pub returns-clause-unwatched : goal.returns-clause-unwatched
returns-clause-unwatched g c = λ some other.
    poll-unwatched g.O.Observer.watches (content_of other).board c.args.poll (c.is_wait.ensures c.if-not-is_wait.false)
    (c.is_in_cartridge.ensures.first c.if-not-is_in_cartridge.false) (c.is_in_cartridge.ensures.last c.if-not-is_in_cartridge.false) c.is_in_cartridge.ensures.fits
