-- Edits that are made as one step, under the lock and at a seat.
use Rattle.std.proofs.Common.{◌≡◌, ◌≢◌, ℕ, ◌+◌, ◌<◌, ◌≤◌, ◌==◌, Bool, true, false, true≢false, List, [], ◌∷◌, ◌++◌, length, refl, ap, sym, ◌∙◌, subst, append_assoc, arith}
use Rattle.std.proofs.lemmas.List.{append-nil}
use Rattle.std.proofs.lemmas.Bool.Decides.{nat_tests}
use Rattle.std.specs.Prelude.{Option, Some, None, Result, Ok, Err, IfOk, IfErr, OnOk, OnErr, MatchResult, nat_lt, if◌then◌else◌}
use mathlib.Core.List.{IsPrefix}
use Rattle.tas_movie.specs.Content.{MovieContent}
use Rattle.tas_movie.specs.declared.edit.Edit.{Edit}
use Rattle.tas_movie.specs.Edit.{edited}
use Rattle.tas_movie.specs.declared.edit.EditRefusal.{EditRefusal}
use Rattle.tas_movie.specs.declared.edit.EditRefusal.TheVariants.{Place as PlaceRefusal, Long as LongRefusal}
use Rattle.tas_published.specs.declared.entry.Entry.{Entry}
use Rattle.tas_session.specs.declared.replies.Receipt.{Receipt}
use Rattle.tas_session.specs.declared.replies.EditError.TheVariants.{Serial, Full, Memory}
use Rattle.tas_session.specs.declared.replies.CommitError.{CommitError}
use Rattle.tas_session.specs.declared.replies.CommitError.TheVariants.{Moved, Refused}
use Rattle.tas_published.specs.History.{most_edits, movie_of, entries_of}
use Rattle.tas_session.specs.Session.{SessionContent, left_by, after_entry, error_at}
use Rattle.tas_published.specs.Strokes.{entries_by, edited_by, refusal_in}
use Rattle.tas_session.specs.Commits.{refused_as, after_entries, commit_refusal, commit_refusal_at, IsCommitError}
use Rattle.tas_published.proofs.HistoryLemmas.{movie_of-push}
use Rattle.tas_desk.specs.Inside.Counting.{IsCounted}
use Rattle.tas_desk.specs.Locked.{LockedContent, locked_of, locked_after, locked_after_all}
use Rattle.tas_desk.specs.Seats.{SeatContent, seat_of}
use Rattle.tas_desk.specs.Commits.{TellsLength, IsCommitted}

-- where nothing refuses the edits: none of the causes is there
record NoCause (b c d : Bool) (found : Option EditRefusal) : Type 0 where
  serial : b ≡ true
  at : c ≡ true
  room : d ≡ false
  movie : found ≡ None

no_cause : (n m : ℕ) (b c d : Bool) (found : Option EditRefusal) → (if b then (if c then (if d then Some (Refused (Full n)) else refused_as (error_at n found)) else Some (Moved n)) else Some (Refused (Serial n m))) ≡ None → NoCause b c d found
no_cause n m true true true found p = absurd (cc p)
no_cause n m true true false None p = record { serial = refl; at = refl; room = refl; movie = refl }
no_cause n m true true false (Some (PlaceRefusal place len)) p = absurd (cc p)
no_cause n m true true false (Some (LongRefusal len)) p = absurd (cc p)
no_cause n m true false d found p = absurd (cc p)
no_cause n m false c d found p = absurd (cc p)

-- `Moved` comes where the length is another one, and tells it
moved_cause : (n m told : ℕ) (b c d : Bool) (found : Option EditRefusal) → (if b then (if c then (if d then Some (Refused (Full n)) else refused_as (error_at n found)) else Some (Moved n)) else Some (Refused (Serial n m))) ≡ Some (Moved told) → (told ≡ n) × (c ≡ false)
moved_cause n m told true true true found p = absurd (cc p)
moved_cause n m told true true false None p = absurd (cc p)
moved_cause n m told true true false (Some (PlaceRefusal place len)) p = absurd (cc p)
moved_cause n m told true true false (Some (LongRefusal len)) p = absurd (cc p)
moved_cause n m told true false d found p = (cc p, refl)
moved_cause n m told false c d found p = absurd (cc p)

same_of : (a b : ℕ) → (a == b) ≡ true → a ≡ b
same_of a b is = grind (arith, nat_tests)

apart_of : (a b : ℕ) → (a == b) ≡ false → a ≢ b
apart_of a b is = λ same. true≢false (grind (arith, nat_tests))

room_of : (a b : ℕ) → nat_lt a b ≡ false → b ≤ a
room_of a b is = grind (arith, nat_tests)

-- what is known where nothing refuses the edits
pub record MayCommit {A : Type 0} (history : List (Entry A)) (movie : MovieContent) (seat made at : ℕ) (edits : List (Edit A)) : Type 0 where
  pub serial : entries_of seat history ≡ made
  pub stands : length history ≡ at
  pub room : length history + length edits ≤ most_edits
  pub allowed : refusal_in movie edits ≡ None

pub may_commit : {A : Type 0} (history : List (Entry A)) (movie : MovieContent) (seat made at : ℕ) (edits : List (Edit A)) → commit_refusal history movie seat made at edits ≡ None → MayCommit history movie seat made at edits
may_commit {A} history movie seat made at edits none =
    let e = no_cause (length history) (entries_of seat history) (entries_of seat history == made) (length history == at) (nat_lt most_edits (length history + length edits)) (refusal_in movie edits) none in
    record { serial = same_of _ _ e.serial; stands = same_of _ _ e.at; room = room_of _ _ e.room; allowed = e.movie }

pub tells_length : {A : Type 0} (history : List (Entry A)) (seat made at : ℕ) (edits : List (Edit A)) (error : CommitError) → IsCommitError (commit_refusal_at history seat made at edits) error → TellsLength at (length history) (Err error)
tells_length {A} history seat made at edits (Moved told) p =
    let e = moved_cause (length history) (entries_of seat history) told (entries_of seat history == made) (length history == at) (nat_lt most_edits (length history + length edits)) (refusal_in (movie_of history) edits) p in
    (e.0, apart_of _ _ e.1)
tells_length {A} history seat made at edits (Refused error) p = tt

-- an error at a session is one at its history
pub commit_refused : {A : Type 0} (journal history : List (Entry A)) (movie : MovieContent) (seat made seat' made' at : ℕ) (edits : List (Edit A)) (error : CommitError) → IsCommitError (commit_refusal journal movie seat made at edits) error → movie ≡ movie_of journal → journal ≡ history → seat ≡ seat' → made ≡ made'
    → IsCommitError (commit_refusal_at history seat' made' at edits) error
commit_refused {A} journal history movie seat made seat' made' at edits error is same list s m =
    let e : commit_refusal journal movie seat made at edits ≡ commit_refusal_at history seat' made' at edits = λ i. commit_refusal (list i) ((same ∙ ap (λ (h : List (Entry A)). movie_of h) list) i) (s i) (m i) at edits in
    subst (λ (found : Option CommitError). IsCommitError found error) e is

pub none_refused : {A : Type 0} (journal history : List (Entry A)) (movie : MovieContent) (seat made seat' made' at : ℕ) (edits : List (Edit A)) → commit_refusal journal movie seat made at edits ≡ None → movie ≡ movie_of journal → journal ≡ history → seat ≡ seat' → made ≡ made'
    → commit_refusal_at history seat' made' at edits ≡ None
none_refused {A} journal history movie seat made seat' made' at edits none same list s m =
    sym (λ i. commit_refusal (list i) ((same ∙ ap (λ (h : List (Entry A)). movie_of h) list) i) (s i) (m i) at edits) ∙ none

-- what lies under the lock after entries of its session
locked_all : {A : Type 0} (s : SessionContent A) (entries : List (Entry A)) → s.movie ≡ movie_of s.journal → locked_of (after_entries s entries).journal (after_entries s entries).zone ≡ locked_after_all (locked_of s.journal s.zone) entries
locked_all {A} s [] same = refl
locked_all {A} s (entry ∷ entries) same =
    locked_all (after_entry s entry) entries (ap (λ (m : MovieContent). edited m entry.edit) same ∙ sym (movie_of-push s.journal entry))
    ∙ ap (λ (m : MovieContent). locked_after_all (locked_of (s.journal ++ entry ∷ []) (left_by m entry.edit s.zone)) entries) same

pub locked_committed : {A : Type 0} (old new : SessionContent A) (locked : LockedContent A) (seat made seat' made' : ℕ) (edits : List (Edit A)) → new ≡ after_entries old (entries_by seat made edits) → old.movie ≡ movie_of old.journal → locked_of old.journal old.zone ≡ locked → seat ≡ seat' → made ≡ made'
    → locked_of new.journal new.zone ≡ locked_after_all locked (entries_by seat' made' edits)
locked_committed {A} old new locked seat made seat' made' edits done movie view s m =
    ap (λ (c : SessionContent A). locked_of c.journal c.zone) done
    ∙ locked_all old (entries_by seat made edits) movie
    ∙ (λ i. locked_after_all (view i) (entries_by (s i) (m i) edits))

locked_journal : {A : Type 0} (locked : LockedContent A) (entries : List (Entry A)) → (locked_after_all locked entries).journal ≡ locked.journal ++ entries
locked_journal {A} locked [] = sym (append-nil locked.journal)
locked_journal {A} locked (entry ∷ entries) = locked_journal (locked_after locked entry) entries ∙ append_assoc locked.journal (entry ∷ []) entries

-- a commit under the lock is one that is answered at the history there
pub committed_at : {A : Type 0} (old new : LockedContent A) (before now : SeatContent A) (at : ℕ) (edits : List (Edit A)) (r : Result Receipt CommitError) → IsPrefix before.front old.journal
    → IfOk r (λ receipt. receipt ≡ record { at = length old.journal + length edits; len = length (edited_by (movie_of old.journal) edits).inputs })
    → MatchResult r (λ _. commit_refusal_at old.journal before.number before.made at edits ≡ None) (IsCommitError (commit_refusal_at old.journal before.number before.made at edits))
    → IfErr r (λ error. error ≡ Refused Memory → 0 < length edits) → OnOk r (new ≡ locked_after_all old (entries_by before.number before.made edits)) → OnErr r (new ≡ old)
    → IsCounted before now new.journal (length edits) r
    → IsCommitted before now at edits r
committed_at {A} old new before now at edits (Ok receipt) begins is none memory done refused seat =
    let may = may_commit old.journal (movie_of old.journal) before.number before.made at edits none in
    let list = ap (λ (l : LockedContent A). l.journal) done ∙ locked_journal old (entries_by before.number before.made edits) in
    record {
      history = old.journal;
      begins = begins;
      tells = may.stands;
      receipt = is;
      refusal = none;
      memory = tt;
      allowed = may.allowed;
      seat = seat ∙ ap (λ (l : List (Entry A)). seat_of before.number (before.made + length edits) l before.zone) list;
    }
committed_at {A} old new before now at edits (Err error) begins is refusal memory done same seat = record {
  history = old.journal;
  begins = begins;
  tells = tells_length old.journal before.number before.made at edits error refusal;
  receipt = tt;
  refusal = refusal;
  memory = memory;
  allowed = tt;
  seat = seat ∙ ap (λ (l : LockedContent A). seat_of before.number before.made l.journal before.zone) same;
}
