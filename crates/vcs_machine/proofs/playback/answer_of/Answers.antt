use Rattle.std.proofs.Common.{rules}
use Rattle.vcs_machine.proofs.playback.answer_of.Goals as goal

pub returns : goal.returns
returns c = search rules
