use Rattle.std.proofs.Common.{◌∙◌, not, ap, sym, arith}
use Rattle.vcs_machine.specs.Bus.{nothing_seen}
use Rattle.vcs_machine.proofs.Notings.{rest_ends}
use Rattle.vcs_machine.proofs.lag.run_chips_noting.Goals as goal

pub returns-then-ended-clause-ended : goal.returns-then-ended-clause-ended
returns-then-ended-clause-ended c = (c.run_chips_unread-halt.ensures.says.over c.if-ended.true).0

pub returns-then-ended-clause-ignored : goal.returns-then-ended-clause-ignored
returns-then-ended-clause-ignored c = ap not c.latches_presses.ensures ∙ sym (c.run_chips_unread-halt.ensures.says.over c.if-ended.true).1

pub returns-clause-ended : goal.returns-clause-ended
returns-clause-ended c =
    rest_ends nothing_seen _ _ _ _ _ c.run_chips_unread-halt.ensures.says c.if-ended.false (omega (arith, c.requires.beam)) c.requires.beam c.run_chips-rest.ensures.ended

pub returns-clause-ignored : goal.returns-clause-ignored
returns-clause-ignored c = sym (c.run_chips_unread-halt.ensures.says.stopped c.if-ended.false).0

pub run_chips-rest-requires-clause-beam : goal.run_chips-rest-requires-clause-beam
run_chips-rest-requires-clause-beam c = c.run_chips_unread-halt.ensures.low c.if-ended.false
