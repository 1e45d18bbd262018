use Rattle.std.proofs.Common.{rules}
use Rattle.vcs_machine.proofs.playback.play_unseen.Goals as goal

pub returns-clause-state : goal.returns-clause-state
returns-clause-state c = search rules

pub returns-clause-ends : goal.returns-clause-ends
returns-clause-ends c = search rules
