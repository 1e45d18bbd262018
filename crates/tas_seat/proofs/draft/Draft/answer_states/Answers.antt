use Rattle.std.proofs.Common.{subst, sym, ap, List, ℕ, length, ◌∙◌}
use Rattle.std.proofs.lemmas.Result.{IfOk-weaker}
use Rattle.tas_green.specs.View.{ViewContent}
use Rattle.tas_language.specs.declared.request.Request.TheVariants.{States}
use Rattle.tas_language.specs.Answers.{states_text}
use Rattle.tas_seat.specs.Requests.{kept_frames}
use Rattle.tas_seat.specs.Drafts.{IsDraftAnswered}
use Rattle.tas_seat.proofs.DraftLemmas.{answered_or, states_answered, lost_states}
use Rattle.tas_seat.proofs.draft.Draft.answer_states.Goals as goal

pub returns : goal.returns
returns g c =
    let draft = c.args.self.now in
    let told = states_answered draft c.edits.result c.view.ensures.lawful c.edits.ensures.at in
    answered_or draft draft States c.list_states-bytes.result c.answer_or_refusal.result (λ bytes. bytes.items) c.answer_or_refusal.ensures
    (IfOk-weaker c.list_states-bytes.result _ _
    (λ bytes is. subst (λ (l : List ℕ). IsDraftAnswered draft States l draft)
    (sym (is ∙ ap (λ (v : ViewContent). states_text c.edits.result (kept_frames (length v.movie.inputs) v.states)) c.view.ensures.view)) told) c.list_states-bytes.ensures)
    (lost_states draft)
