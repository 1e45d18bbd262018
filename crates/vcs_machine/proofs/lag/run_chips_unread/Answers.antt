use Rattle.std.proofs.Common.{◌∙◌, ap, arith}
use Rattle.std.proofs.lemmas.Grind.{common_steps}
use Rattle.vcs_tia.specs.Trace.{after_clocks}
use Rattle.vcs_machine.specs.Bus.{Observed, nothing_seen}
use Rattle.vcs_machine.specs.Frame.{is_frame_over}
use Rattle.vcs_machine.proofs.Lagging.{not_over-early}
use Rattle.vcs_machine.proofs.Notings.{says_same}
use Rattle.vcs_machine.proofs.lag.run_chips_unread.Goals as goal

pub run_unread-requires-clause-begun : goal.run_unread-requires-clause-begun
unfolding after_clocks
run_unread-requires-clause-begun c =
    ap (λ (o : Observed (Unit {0})). is_frame_over o.board.tia) c.new-bus.ensures.content ∙ not_over-early 0 c.args.tia.now c.requires.begun (omega (arith, c.requires.beam))

pub returns-clause-says : goal.returns-clause-says
returns-clause-says c =
    says_same nothing_seen 12160 _ _ _ _ _ _ _ _ c.new-bus.ensures.content (grind (arith, common_steps)) c.run_unread.ensures.says
