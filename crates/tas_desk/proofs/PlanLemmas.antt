-- What refuses an edit that a plan makes.
use Rattle.std.proofs.Common.{◌≡◌, ℕ, ◌==◌, Bool, true, false, List, length, refl, sym, ◌∙◌, ap, subst}
use Rattle.std.specs.Prelude.{Option, Some, None, Result, Ok, Err, MatchResult, if◌then◌else◌}
use Rattle.tas_movie.specs.declared.edit.EditRefusal.{EditRefusal}
use Rattle.tas_movie.specs.declared.edit.EditRefusal.TheVariants.{Place as PlaceRefusal, Long as LongRefusal}
use Rattle.tas_movie.specs.Content.{MovieContent}
use Rattle.tas_movie.specs.declared.edit.Edit.{Edit}
use Rattle.tas_movie.specs.Edit.{check_answer, refusal, IsAllowed}
use Rattle.tas_published.specs.declared.entry.Entry.{Entry}
use Rattle.tas_session.specs.declared.replies.EditError.{EditError}
use Rattle.tas_session.specs.declared.replies.EditError.TheVariants.{Serial, Full, Place, Long, Memory}
use Rattle.tas_published.specs.History.{most_edits, entries_of, movie_of}
use Rattle.tas_session.specs.Session.{error_at, refusal_at, refusal_by, IsEditError}
use Rattle.tas_desk.proofs.AnswerLemmas.{no_error}

-- nothing refuses an edit for being out of memory
never_memory : (n m : ℕ) (b c : Bool) (found : Option EditRefusal) → (if b then (if c then Some (Full n) else error_at n found) else Some (Serial n m)) ≡ Some Memory → ⊥
never_memory n m true true found p = cc p
never_memory n m true false None p = cc p
never_memory n m true false (Some (PlaceRefusal q l)) p = cc p
never_memory n m true false (Some (LongRefusal l)) p = cc p
never_memory n m false c found p = cc p

-- what refuses an edit is its error
pub refused_by : {A : Type 0} (history : List (Entry A)) (seat made : ℕ) (found : Option EditRefusal) (error : EditError) → refusal_by history seat made found ≡ Some error → IsEditError (refusal_by history seat made found) error
refused_by history seat made found (Serial at counted) p = p
refused_by history seat made found (Full at) p = p
refused_by history seat made found (Place at place len) p = p
refused_by history seat made found (Long at len) p = p
refused_by history seat made found Memory p = absurd (never_memory (length history) (entries_of seat history) (entries_of seat history == made) (length history == most_edits) found p)

-- a check that nothing comes of
pub check_ok : (found : Option EditRefusal) → Ok tt ≡ check_answer found → found ≡ None
check_ok None p = refl
check_ok (Some refused) p = absurd (cc p)

pub check_err : (found : Option EditRefusal) (refused : EditRefusal) → Err refused ≡ check_answer found → found ≡ Some refused
check_err None refused p = absurd (cc p)
check_err (Some other) refused p = cc p

-- an edit that its movie allows is refused for what refuses its plan, which is nothing
pub planned_refusal : {A R : Type 0} (history : List (Entry A)) (seat made : ℕ) (found other : Option EditRefusal) (answer : Result R EditError) → refusal_by history seat made found ≡ None → other ≡ None
    → MatchResult answer (λ _. refusal_by history seat made other ≡ None) (IsEditError (refusal_by history seat made other))
    → MatchResult answer (λ _. refusal_by history seat made found ≡ None) (IsEditError (refusal_by history seat made found))
planned_refusal history seat made found other answer none allowed is =
    let same : other ≡ found = allowed ∙ sym (no_error (length history) (entries_of seat history) (entries_of seat history == made) (length history == most_edits) found none) in
    subst (λ (f : Option EditRefusal). MatchResult answer (λ _. refusal_by history seat made f ≡ None) (IsEditError (refusal_by history seat made f))) same is

-- what refuses a plan at a session refuses it at its history
pub planned_as : {A : Type 0} (journal history : List (Entry A)) (seat made seat' made' : ℕ) (refused : MovieContent → Option EditRefusal) (error : EditError) → IsEditError (refusal_by journal seat made (refused (movie_of journal))) error → journal ≡ history → seat ≡ seat' → made ≡ made'
    → IsEditError (refusal_by history seat' made' (refused (movie_of history))) error
planned_as journal history seat made seat' made' refused error is list s m =
    let same : refusal_by journal seat made (refused (movie_of journal)) ≡ refusal_by history seat' made' (refused (movie_of history)) = λ i. refusal_by (list i) (s i) (m i) (refused (movie_of (list i))) in
    subst (λ (found : Option EditError). IsEditError found error) same is

-- the answer to the edit of a plan at a session is the plan's at its history
pub planned_answer : {A R : Type 0} (journal history : List (Entry A)) (seat made seat' made' : ℕ) (refused : MovieContent → Option EditRefusal) (edit_in : MovieContent → Edit A) (edit : Edit A) (answer : Result R EditError) → refusal_by journal seat made (refused (movie_of journal)) ≡ None
    → IsAllowed (movie_of journal) (edit_in (movie_of journal)) → edit ≡ edit_in (movie_of journal) → MatchResult answer (λ _. refusal_at journal seat made edit ≡ None) (IsEditError (refusal_at journal seat made edit)) → journal ≡ history → seat ≡ seat' → made ≡ made'
    → MatchResult answer (λ _. refusal_by history seat' made' (refused (movie_of history)) ≡ None) (IsEditError (refusal_by history seat' made' (refused (movie_of history))))
planned_answer {A} journal history seat made seat' made' refused edit_in edit answer none allowed made_as is list s m =
    let may : refusal (movie_of journal) edit ≡ None = ap (λ (e : Edit A). refusal (movie_of journal) e) made_as ∙ allowed in
    let same : refusal_by journal seat made (refused (movie_of journal)) ≡ refusal_by history seat' made' (refused (movie_of history)) = λ i. refusal_by (list i) (s i) (m i) (refused (movie_of (list i))) in
    subst (λ (found : Option EditError). MatchResult answer (λ _. found ≡ None) (IsEditError found)) same
    (planned_refusal journal seat made (refused (movie_of journal)) (refusal (movie_of journal) edit) answer none may is)
