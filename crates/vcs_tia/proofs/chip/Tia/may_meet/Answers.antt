use Rattle.vcs_tia.proofs.Later.{latches_by_fields}
use Rattle.vcs_tia.proofs.Meeting.{blank_clocks, none_new_latches}
use Rattle.vcs_tia.proofs.chip.Tia.may_meet.Goals as goal

pub returns-then-are_blank : goal.returns-then-are_blank
returns-then-are_blank c = λ _. blank_clocks c.args.clocks c.args.self.now (c.are_blank.ensures.blank c.if-are_blank.true)

pub returns : goal.returns
returns c = λ no.
    none_new_latches c.args.clocks c.args.self.now c.are_blank.ensures.low
    (λ x inside.
    latches_by_fields _ _ _ _ _ _ _ _ _ _ _ _ _ _ _ _ _ _ _ _ _ _ _ _ _ _ _ _ _ _
    (c.player0_may_meet.ensures.player1 c.if-player0_may_meet.false x inside)
    (c.player0_may_meet.ensures.missile0 c.if-player0_may_meet.false x inside)
    (c.player0_may_meet.ensures.missile1 c.if-player0_may_meet.false x inside)
    (c.player0_may_meet.ensures.ball c.if-player0_may_meet.false x inside)
    (c.player0_may_meet.ensures.playfield c.if-player0_may_meet.false x inside)
    (c.player1_may_meet.ensures.missile0 c.if-player1_may_meet.false x inside)
    (c.player1_may_meet.ensures.missile1 c.if-player1_may_meet.false x inside)
    (c.player1_may_meet.ensures.ball c.if-player1_may_meet.false x inside)
    (c.player1_may_meet.ensures.playfield c.if-player1_may_meet.false x inside)
    (c.missile0_may_meet.ensures.missile1 c.if-missile0_may_meet.false x inside)
    (c.missile0_may_meet.ensures.ball c.if-missile0_may_meet.false x inside)
    (c.missile0_may_meet.ensures.playfield c.if-missile0_may_meet.false x inside)
    (c.missile1_may_meet.ensures.ball c.if-missile1_may_meet.false x inside)
    (c.missile1_may_meet.ensures.playfield c.if-missile1_may_meet.false x inside)
    (c.ball_may_meet.ensures no x inside))
