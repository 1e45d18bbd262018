use Rattle.std.proofs.Common.{◌≡◌, ◌+◌, ◌∙◌, List, ℕ, Some, ap, sym}
use Rattle.std.proofs.lemmas.Result.{IfOk-weaker}
use Rattle.vcs_machine.specs.declared.state.State.{State}
use Rattle.vcs_tia.specs.Image.{ppm_bytes}
use Rattle.tas_green.specs.Run.{state_after}
use Rattle.tas_language.specs.Answers.{frame_digest_text}
use Rattle.tas_seat.proofs.TextLemmas.{text_made, present, if_some}
use Rattle.tas_seat.proofs.looks.answer_digest.Goals as goal

pub returns-in-Err : goal.returns-in-Err
returns-in-Err g c = rw c.in-Err.is c.unshown_answer.ensures

pub unwrap-after-requires : goal.unwrap-after-requires
unwrap-after-requires g c = present c.after_frame.result _ _ c.after_frame.ensures.none (rw c.in-Ok.is at c.requires.within) (rw c.in-Ok.is at c.requires.forward)

pub returns : goal.returns
returns g c =
    let k = c.args.frame in
    let shot = c.in-Ok.shot in
    let after : c.unwrap-after.result ≡ state_after c.args.view.now.movie (k + 1) = (if_some _ c.after_frame.result c.unwrap-after.result c.unwrap-after.ensures c.after_frame.ensures.some).2 in
    let ram = c.ram.ensures ∙ ap (λ (s : State). s.riot.ram) after in
    rw c.in-Ok.is
    (text_made _ c.digest_answer-bytes.result c.answer_or_refusal.result (λ bytes. bytes.items) c.answer_or_refusal.ensures
    (IfOk-weaker c.digest_answer-bytes.result _ _ (λ bytes is. ap (λ (l : List ℕ). Some l) (sym (is ∙ ap (λ (l : List ℕ). frame_digest_text shot.at k l (ppm_bytes shot.picture)) ram))) c.digest_answer-bytes.ensures))
