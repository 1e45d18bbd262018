-- What lies under the lock after an edit, and what its seat sees.
use Rattle.std.proofs.Common.{◌≡◌, ℕ, ◌+◌, [], ◌∷◌, ◌++◌, length, ap, ◌∙◌, Result, Ok, Err}
use Rattle.std.specs.Prelude.{Option, None, IfOk, OnOk, OnErr, MatchResult}
use mathlib.Core.List.{IsPrefix}
use Rattle.tas_movie.specs.Content.{MovieContent}
use Rattle.tas_movie.specs.declared.edit.Edit.{Edit}
use Rattle.tas_movie.specs.declared.edit.EditRefusal.{EditRefusal}
use Rattle.tas_movie.specs.Edit.{edited, IsAllowed}
use Rattle.tas_published.specs.declared.entry.Entry.{Entry}
use Rattle.tas_session.specs.declared.replies.Receipt.{Receipt}
use Rattle.tas_session.specs.declared.replies.EditError.{EditError}
use Rattle.tas_published.specs.History.{movie_of}
use Rattle.tas_session.specs.Session.{SessionContent, left_by, after_entry, refusal_at, refusal_by, IsEditError}
use Rattle.tas_desk.specs.Inside.Counting.{IsCounted}
use Rattle.tas_desk.specs.Locked.{LockedContent, locked_of, locked_after}
use Rattle.tas_desk.specs.Seats.{SeatContent, seat_of, entry_of, AnswersEdit, IsEdited, IsEditedBy}

-- what lies under the lock after an entry of its session
pub locked_edited : {A : Type 0} (old new : SessionContent A) (locked : LockedContent A) (seat made seat' made' : ℕ) (edit : Edit A) → new ≡ after_entry old (record { seat = seat; serial = made; edit = edit })
    → old.movie ≡ movie_of old.journal → locked_of old.journal old.zone ≡ locked → seat ≡ seat' → made ≡ made' → locked_of new.journal new.zone ≡ locked_after locked (entry_of seat' made' edit)
locked_edited {A} old new locked seat made seat' made' edit done movie view s m =
    ap (λ (c : SessionContent A). locked_of c.journal c.zone) done
    ∙ ap (λ (t : MovieContent). locked_of (old.journal ++ entry_of seat made edit ∷ []) (left_by t edit old.zone)) movie
    ∙ (λ i. locked_after (view i) (entry_of (s i) (m i) edit))

-- the seat has seen the journal, with its entry where that was made
seen_after : {A : Type 0} (old new : LockedContent A) (before now : SeatContent A) (entry : Entry A) (r : Result Receipt EditError) → OnOk r (new ≡ locked_after old entry) → OnErr r (new ≡ old)
    → IsCounted before now new.journal 1 r
    → MatchResult r (λ _. now ≡ seat_of before.number (before.made + 1) (old.journal ++ entry ∷ []) before.zone) (λ _. now ≡ seat_of before.number before.made old.journal before.zone)
seen_after {A} old new before now entry (Ok receipt) done refused seat = seat ∙ ap (λ (l : LockedContent A). seat_of before.number (before.made + 1) l.journal before.zone) done
seen_after {A} old new before now entry (Err error) done refused seat = seat ∙ ap (λ (l : LockedContent A). seat_of before.number before.made l.journal before.zone) refused

-- an edit under the lock is one that is answered at the history there
pub edited_at : {A : Type 0} (old new : LockedContent A) (before now : SeatContent A) (edit : Edit A) (r : Result Receipt EditError) → IsPrefix before.front old.journal
    → IfOk r (λ receipt. receipt ≡ record { at = length old.journal + 1; len = length (edited (movie_of old.journal) edit).inputs })
    → MatchResult r (λ _. refusal_at old.journal before.number before.made edit ≡ None) (IsEditError (refusal_at old.journal before.number before.made edit))
    → AnswersEdit (movie_of old.journal) edit r → OnOk r (new ≡ locked_after old (entry_of before.number before.made edit)) → OnErr r (new ≡ old)
    → IsCounted before now new.journal 1 r
    → IsEdited before now edit r
edited_at old new before now edit r begins is refusal answered done refused seat = record {
  at = old.journal;
  begins = begins;
  receipt = is;
  refusal = refusal;
  answered = answered;
  seat = seen_after old new before now _ r done refused seat;
}

-- so is one that a plan makes there
pub edited_by_at : {A : Type 0} (old new : LockedContent A) (before now : SeatContent A) (refused : MovieContent → Option EditRefusal) (edit_in : MovieContent → Edit A) (r : Result Receipt EditError) → IsPrefix before.front old.journal
    → IfOk r (λ receipt. receipt ≡ record { at = length old.journal + 1; len = length (edited (movie_of old.journal) (edit_in (movie_of old.journal))).inputs })
    → MatchResult r (λ _. refusal_by old.journal before.number before.made (refused (movie_of old.journal)) ≡ None) (IsEditError (refusal_by old.journal before.number before.made (refused (movie_of old.journal))))
    → OnOk r (IsAllowed (movie_of old.journal) (edit_in (movie_of old.journal))) → OnOk r (new ≡ locked_after old (entry_of before.number before.made (edit_in (movie_of old.journal)))) → OnErr r (new ≡ old)
    → IsCounted before now new.journal 1 r
    → IsEditedBy before now refused edit_in r
edited_by_at old new before now refused edit_in r begins is refusal allowed done same seat = record {
  at = old.journal;
  begins = begins;
  receipt = is;
  refusal = refusal;
  allowed = allowed;
  seat = seen_after old new before now _ r done same seat;
}
