-- What the reply to an edit says of the movie.
use Rattle.std.proofs.Common.{◌≡◌, ℕ, ◌+◌, ◌==◌, Bool, true, false, List, length, refl, ap, sym, ◌∙◌}
use Rattle.tas_movie.specs.Content.{MovieContent}
use Rattle.tas_movie.specs.declared.edit.Edit.{Edit}
use Rattle.tas_movie.specs.declared.edit.EditRefusal.{EditRefusal}
use Rattle.tas_movie.specs.declared.edit.EditRefusal.TheVariants.{Place as PlaceRefusal, Long as LongRefusal}
use Rattle.tas_movie.specs.Edit.{edited, refusal}
use Rattle.tas_published.specs.declared.entry.Entry.{Entry}
use Rattle.tas_published.specs.History.{most_edits, movie_of, entries_of}
use Rattle.tas_session.specs.Session.{SessionContent, IsEditError, error_at, edit_refusal, refusal_at}
use Rattle.std.specs.Prelude.{Option, Some, None, Ok, Err, if◌then◌else◌}
use Rattle.tas_session.specs.declared.replies.Receipt.{Receipt}
use Rattle.tas_session.specs.declared.replies.EditError.{EditError}
use Rattle.tas_session.specs.declared.replies.EditError.TheVariants.{Serial, Full, Place, Long, Memory}
use Rattle.tas_session.specs.Answers.{answer_edit, answer_edit_of}
use Rattle.tas_desk.specs.Seats.{AnswersEdit}

-- where nothing refuses an edit, the movie doesn't
pub no_error : (n m : ℕ) (b c : Bool) (found : Option EditRefusal) → (if b then (if c then Some (Full n) else error_at n found) else Some (Serial n m)) ≡ None → found ≡ None
no_error n m true true found p = absurd (cc p)
no_error n m true false None p = refl
no_error n m true false (Some (PlaceRefusal place len)) p = absurd (cc p)
no_error n m true false (Some (LongRefusal len)) p = absurd (cc p)
no_error n m false c found p = absurd (cc p)

-- `Place` and `Long` are what the movie says
place_error : (n m : ℕ) (b c : Bool) (at place len : ℕ) (found : Option EditRefusal) → (if b then (if c then Some (Full n) else error_at n found) else Some (Serial n m)) ≡ Some (Place at place len) → found ≡ Some (PlaceRefusal place len)
place_error n m true true at place len found p = absurd (cc p)
place_error n m true false at place len None p = absurd (cc p)
place_error n m true false at place len (Some (PlaceRefusal q l)) p = cc p
place_error n m true false at place len (Some (LongRefusal l)) p = absurd (cc p)
place_error n m false c at place len found p = absurd (cc p)

long_error : (n m : ℕ) (b c : Bool) (at len : ℕ) (found : Option EditRefusal) → (if b then (if c then Some (Full n) else error_at n found) else Some (Serial n m)) ≡ Some (Long at len) → found ≡ Some (LongRefusal len)
long_error n m true true at len found p = absurd (cc p)
long_error n m true false at len None p = absurd (cc p)
long_error n m true false at len (Some (PlaceRefusal q l)) p = absurd (cc p)
long_error n m true false at len (Some (LongRefusal l)) p = cc p
long_error n m false c at len found p = absurd (cc p)

-- a refusal says of the movie what the answer to the edit is
pub refusal_answered : {A : Type 0} (history : List (Entry A)) (seat made : ℕ) (edit : Edit A) (error : EditError) → IsEditError (refusal_at history seat made edit) error → AnswersEdit (movie_of history) edit (Err error)
refusal_answered history seat made edit (Place at place len) p =
    ap (λ o. answer_edit_of o (movie_of history) edit) (place_error (length history) (entries_of seat history) (entries_of seat history == made) (length history == most_edits) at place len (refusal (movie_of history) edit) p)
refusal_answered history seat made edit (Long at len) p =
    ap (λ o. answer_edit_of o (movie_of history) edit) (long_error (length history) (entries_of seat history) (entries_of seat history == made) (length history == most_edits) at len (refusal (movie_of history) edit) p)
refusal_answered history seat made edit (Serial at counted) p = tt
refusal_answered history seat made edit (Full at) p = tt
refusal_answered history seat made edit Memory p = tt

-- a receipt's length is the answer to the edit
pub receipt_answered : {A : Type 0} (session : SessionContent A) (history : List (Entry A)) (seat made : ℕ) (edit : Edit A) (receipt : Receipt) → edit_refusal session seat made edit ≡ None → receipt ≡ record { at = length session.journal + 1; len = length (edited session.movie edit).inputs }
    → session.movie ≡ movie_of session.journal → session.journal ≡ history → AnswersEdit (movie_of history) edit (Ok receipt)
receipt_answered session history seat made edit receipt none is movie list =
    let same = movie ∙ ap movie_of list in
    let may = no_error (length session.journal) (entries_of seat session.journal) (entries_of seat session.journal == made) (length session.journal == most_edits) (refusal session.movie edit) none in
    ap (λ (m : MovieContent). answer_edit m edit) (sym same) ∙ ap (λ o. answer_edit_of o session.movie edit) may ∙ ap Ok (sym (ap (λ (r : Receipt). r.len) is))
