-- Refusals of edits.
use Rattle.std.proofs.Common.{◌≡◌, ℕ, ◌≤◌, List, [], ◌++◌, length, ap, sym, ◌∙◌, subst, arith, length-append}
use Rattle.logbook.specs.Pages.{Book}
use Rattle.tas_movie.specs.Content.{MovieContent}
use Rattle.tas_movie.specs.declared.edit.Edit.{Edit}
use Rattle.std.proofs.lemmas.List.{length-map}
use Rattle.std.proofs.Math.Seq.{take-append_seam}
use Rattle.std.specs.Prelude.{take}
use Rattle.tas_published.specs.declared.entry.Entry.{Entry}
use Rattle.tas_published.specs.Version.{VersionContent, version_of}
use Rattle.tas_published.specs.History.{most_edits, movie_of, IsLegal}
use Rattle.tas_session.specs.Session.{SessionContent, IsEditError, refusal_of, edit_refusal, refusal_at}
use Rattle.std.specs.Prelude.{Option}
use Rattle.tas_session.specs.declared.replies.EditError.{EditError}
use Rattle.tas_published.specs.declared.reader_view.ReaderView.{ReaderView}
use Rattle.tas_published.specs.Published.{PublishedContent, PublisherContent, StepContent, step_of, view_of, after, pushed_by, IsSoundPublished, IsCurrent, Follows}
use Rattle.tas_published.specs.declared.journal.Step.{Step}
use Rattle.tas_published.specs.Strokes.{entries_in}
use Rattle.tas_published.specs.Strokes.{edits_in, edited_by, AreNext}
use Rattle.tas_published.proofs.HistoryLemmas.{movie_of-on, legal-on, room-on}

-- an error at a session is one at its history
pub refused_as : {A : Type 0} (session : SessionContent A) (history : List (Entry A)) (seat made seat' made' : ℕ) (edit : Edit A) (error : EditError) → IsEditError (edit_refusal session seat made edit) error → session.movie ≡ movie_of session.journal → session.journal ≡ history → seat ≡ seat' → made ≡ made'
    → IsEditError (refusal_at history seat' made' edit) error
refused_as {A} session history seat made seat' made' edit error is movie list s m =
    let same : edit_refusal session seat made edit ≡ refusal_at history seat' made' edit = λ i. refusal_of (list i) ((movie ∙ ap (λ (h : List (Entry A)). movie_of h) list) i) (s i) (m i) edit in
    subst (λ (found : Option EditError). IsEditError found error) same is
