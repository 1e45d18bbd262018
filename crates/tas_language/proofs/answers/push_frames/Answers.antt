use Rattle.std.proofs.Common.{arith}
use Rattle.std.proofs.lemmas.Grind.{common_steps}
use Rattle.tas_language.specs.Answers.{frame_word}
use Rattle.tas_language.proofs.RequestLemmas.{each_more}
use Rattle.tas_language.proofs.answers.push_frames.Goals as goal

pub loop-frame-preserved : goal.loop-frame-preserved
loop-frame-preserved g c =
    each_more frame_word c.args.bytes.now.items c.loop-frame.bytes.items c.push_frame.new.bytes.items c.args.frames.now c.loop-frame.frame-index c.loop-frame-test.true c.loop-frame.invariant c.in_ok-push_frame.ensures

pub returns : goal.returns
returns g c = grind (arith, common_steps)
