use Rattle.std.proofs.Common.{arith}
use Rattle.std.proofs.lemmas.Grind.{common_steps}
use Rattle.tas_words.proofs.words.frames_task.Goals as goal

pub returns-in_err-frame_of-in-ram : goal.returns-in_err-frame_of-in-ram
returns-in_err-frame_of-in-ram c = grind (arith, common_steps)

pub returns-in_err-frame_of-in-export : goal.returns-in_err-frame_of-in-export
returns-in_err-frame_of-in-export c = grind (arith, common_steps)

pub returns-in_err-word_of-in-film : goal.returns-in_err-word_of-in-film
returns-in_err-word_of-in-film c = grind (arith, common_steps)

pub returns-in_ok-frame_of-in-shot : goal.returns-in_ok-frame_of-in-shot
returns-in_ok-frame_of-in-shot c = grind (arith, common_steps)

pub returns-in_err-every_of-in-digest : goal.returns-in_err-every_of-in-digest
returns-in_err-every_of-in-digest c = grind (arith, common_steps)

pub returns-in_err-word_of-in-digest : goal.returns-in_err-word_of-in-digest
returns-in_err-word_of-in-digest c = grind (arith, common_steps)

pub returns-in_err-word_of-in-export : goal.returns-in_err-word_of-in-export
returns-in_err-word_of-in-export c = grind (arith, common_steps)

pub returns-in_err-word_of-in-shot : goal.returns-in_err-word_of-in-shot
returns-in_err-word_of-in-shot c = grind (arith, common_steps)

pub returns-in_ok-every_of-in-digest : goal.returns-in_ok-every_of-in-digest
returns-in_ok-every_of-in-digest c = grind (arith, common_steps)

pub returns-in_err-word_of-in-compare : goal.returns-in_err-word_of-in-compare
returns-in_err-word_of-in-compare c = grind (arith, common_steps)

pub returns-in_err-word_of-in-compare-2 : goal.returns-in_err-word_of-in-compare-2
returns-in_err-word_of-in-compare-2 c = grind (arith, common_steps)

pub returns-in_err-number_of-in-export : goal.returns-in_err-number_of-in-export
returns-in_err-number_of-in-export c = grind (arith, common_steps)

pub returns-in_err-frame_of-in-export-2 : goal.returns-in_err-frame_of-in-export-2
returns-in_err-frame_of-in-export-2 c = grind (arith, common_steps)

pub returns-in_err-optional_frame_of-in-film : goal.returns-in_err-optional_frame_of-in-film
returns-in_err-optional_frame_of-in-film c = grind (arith, common_steps)

pub returns-in_ok-optional_frame_of-in-film-2 : goal.returns-in_ok-optional_frame_of-in-film-2
returns-in_ok-optional_frame_of-in-film-2 c = grind (arith, common_steps)

pub returns-in_err-word_of-in-ram : goal.returns-in_err-word_of-in-ram
returns-in_err-word_of-in-ram c = grind (arith, common_steps)

pub returns-in_ok-word_of-in-compare-2 : goal.returns-in_ok-word_of-in-compare-2
returns-in_ok-word_of-in-compare-2 c = grind (arith, common_steps)

pub returns-in_err-word_of-in-lag : goal.returns-in_err-word_of-in-lag
returns-in_err-word_of-in-lag c = grind (arith, common_steps)

pub returns-in_err-frame_of-in-ram-2 : goal.returns-in_err-frame_of-in-ram-2
returns-in_err-frame_of-in-ram-2 c = grind (arith, common_steps)

pub returns-in_ok-number_of-in-export : goal.returns-in_ok-number_of-in-export
returns-in_ok-number_of-in-export c = grind (arith, common_steps)

pub returns-in_err-frame_of-in-shot : goal.returns-in_err-frame_of-in-shot
returns-in_err-frame_of-in-shot c = grind (arith, common_steps)

pub returns-in_ok-frame_of-in-ram-2 : goal.returns-in_ok-frame_of-in-ram-2
returns-in_ok-frame_of-in-ram-2 c = grind (arith, common_steps)

pub overflow_cast-result : goal.overflow_cast-result
overflow_cast-result c = grind (arith, common_steps)

pub returns-in_err-optional_frame_of-in-film-2 : goal.returns-in_err-optional_frame_of-in-film-2
returns-in_err-optional_frame_of-in-film-2 c = grind (arith, common_steps)
