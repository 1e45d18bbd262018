use Rattle.std.proofs.Common.{arith}
use Rattle.std.proofs.lemmas.Grind.{common_steps}
use Rattle.tas_words.proofs.words.text_task.Goals as goal

pub returns-in_err-frame_of-in-cut-2 : goal.returns-in_err-frame_of-in-cut-2
returns-in_err-frame_of-in-cut-2 c = grind (arith, common_steps)

pub returns-in_err-word_of-in-cut : goal.returns-in_err-word_of-in-cut
returns-in_err-word_of-in-cut c = grind (arith, common_steps)

pub returns-in-search : goal.returns-in-search
returns-in-search c = grind (arith, common_steps)

pub returns-in-verify : goal.returns-in-verify
returns-in-verify c = grind (arith, common_steps)

pub returns-in-script : goal.returns-in-script
returns-in-script c = grind (arith, common_steps)

pub returns-in_ok-word_of-in-edit-2 : goal.returns-in_ok-word_of-in-edit-2
returns-in_ok-word_of-in-edit-2 c = grind (arith, common_steps)

pub returns-in_err-word_of-in-diff-2 : goal.returns-in_err-word_of-in-diff-2
returns-in_err-word_of-in-diff-2 c = grind (arith, common_steps)

pub returns-in_err-frame_of-in-cut : goal.returns-in_err-frame_of-in-cut
returns-in_err-frame_of-in-cut c = grind (arith, common_steps)

pub returns-in_err-word_of-in-migrate : goal.returns-in_err-word_of-in-migrate
returns-in_err-word_of-in-migrate c = grind (arith, common_steps)

pub returns-in_err-word_of-in-edit : goal.returns-in_err-word_of-in-edit
returns-in_err-word_of-in-edit c = grind (arith, common_steps)

pub returns-in_ok-word_of-in-diff-2 : goal.returns-in_ok-word_of-in-diff-2
returns-in_ok-word_of-in-diff-2 c = grind (arith, common_steps)

pub returns-in_err-word_of-in-check : goal.returns-in_err-word_of-in-check
returns-in_err-word_of-in-check c = grind (arith, common_steps)

pub returns-in-desk : goal.returns-in-desk
returns-in-desk c = grind (arith, common_steps)

pub returns-in_err-number_of-in-trace : goal.returns-in_err-number_of-in-trace
returns-in_err-number_of-in-trace c = grind (arith, common_steps)

pub returns-in_err-word_of-in-diff : goal.returns-in_err-word_of-in-diff
returns-in_err-word_of-in-diff c = grind (arith, common_steps)

pub returns-in-talk : goal.returns-in-talk
returns-in-talk c = grind (arith, common_steps)

pub returns-in_err-word_of-in-edit-2 : goal.returns-in_err-word_of-in-edit-2
returns-in_err-word_of-in-edit-2 c = grind (arith, common_steps)

pub returns-in_ok-frame_of-in-cut-2 : goal.returns-in_ok-frame_of-in-cut-2
returns-in_ok-frame_of-in-cut-2 c = grind (arith, common_steps)

pub returns-in_ok-word_of-in-check : goal.returns-in_ok-word_of-in-check
returns-in_ok-word_of-in-check c = grind (arith, common_steps)

pub fact_in-result-in-diff-2 : goal.fact_in-result-in-diff-2
fact_in-result-in-diff-2 c = grind (arith, common_steps)

pub returns-in_ok-number_of-in-trace : goal.returns-in_ok-number_of-in-trace
returns-in_ok-number_of-in-trace c = grind (arith, common_steps)

pub returns-in_err-frames_of-in-new : goal.returns-in_err-frames_of-in-new
returns-in_err-frames_of-in-new c = grind (arith, common_steps)

pub returns-in_err-optional_number_of-in-recover : goal.returns-in_err-optional_number_of-in-recover
returns-in_err-optional_number_of-in-recover c = grind (arith, common_steps)

pub returns-in_ok-optional_number_of-in-recover : goal.returns-in_ok-optional_number_of-in-recover
returns-in_ok-optional_number_of-in-recover c = grind (arith, common_steps)

pub returns-in_ok-frames_of-in-new : goal.returns-in_ok-frames_of-in-new
returns-in_ok-frames_of-in-new c = grind (arith, common_steps)

pub returns-in_err-word_of-in-new : goal.returns-in_err-word_of-in-new
returns-in_err-word_of-in-new c = grind (arith, common_steps)

pub returns-in_err-word_of-in-recover : goal.returns-in_err-word_of-in-recover
returns-in_err-word_of-in-recover c = grind (arith, common_steps)
