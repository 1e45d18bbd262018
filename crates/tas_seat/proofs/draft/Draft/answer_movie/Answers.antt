use Rattle.std.proofs.Common.{subst, sym, ap, List, ℕ, ◌∙◌}
use Rattle.std.proofs.lemmas.Result.{IfOk-weaker}
use Rattle.tas_movie.specs.Content.{MovieContent}
use Rattle.tas_movie.specs.Text.{text2}
use Rattle.tas_language.specs.declared.request.Request.TheVariants.{Movie}
use Rattle.tas_language.specs.Answers.{movie_text}
use Rattle.tas_seat.specs.Drafts.{IsDraftAnswered}
use Rattle.tas_seat.proofs.DraftLemmas.{answered_or, movie_answered, lost_movie}
use Rattle.tas_seat.proofs.draft.Draft.answer_movie.Goals as goal

pub returns : goal.returns
returns g c =
    let draft = c.args.self.now in
    let told = movie_answered c.args.self.now c.edits.result c.movie.ensures.lawful c.edits.ensures.at in
    answered_or c.args.self.now c.args.self.now Movie c.movie_answer-bytes.result c.answer_or_refusal.result (λ bytes. bytes.items) c.answer_or_refusal.ensures
    (IfOk-weaker c.movie_answer-bytes.result _ _
    (λ bytes is. subst (λ (l : List ℕ). IsDraftAnswered c.args.self.now Movie l c.args.self.now) (sym (is ∙ ap (λ (m : MovieContent). movie_text c.edits.result (text2 m)) c.movie.ensures.movie)) told) c.movie_answer-bytes.ensures)
    (lost_movie c.args.self.now)
