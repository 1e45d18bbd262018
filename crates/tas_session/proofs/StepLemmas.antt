-- Steps of a session: edits of a seat, one after the other.
use Rattle.std.proofs.Common.{◌≡◌, ℕ, ◌+◌, ◌≤◌, ◌==◌, Bool, true, false, cond, List, [], ◌∷◌, ◌++◌, length, refl, ap, sym, ◌∙◌, arith, length-append, append_assoc}
use Rattle.std.specs.Prelude.{Option, Some, None, Result, Ok, Err, OnErr, nat_lt, if◌then◌else◌}
use Rattle.std.proofs.lemmas.List.{append-nil}
use Rattle.std.proofs.lemmas.List.Sums.{sum_by-append}
use Rattle.std.proofs.lemmas.Bool.Decides.{nat_tests}
use Rattle.tas_movie.specs.Content.{MovieContent}
use Rattle.tas_movie.specs.declared.edit.Edit.{Edit}
use Rattle.tas_movie.specs.declared.edit.EditRefusal.{EditRefusal}
use Rattle.tas_movie.specs.Edit.{edited, refusal, first_refusal, check_answer}
use Rattle.tas_published.specs.declared.entry.Entry.{Entry}
use Rattle.tas_published.specs.History.{most_edits, movie_of, entries_of}
use Rattle.tas_session.specs.Session.{SessionContent, error_at, after_entry}
use Rattle.tas_published.specs.Strokes.{entries_by, refusal_in, AreNext}
use Rattle.tas_session.specs.Commits.{refused_as, commit_refusal, after_entries}
use Rattle.tas_session.specs.declared.replies.CommitError.{CommitError}
use Rattle.tas_session.specs.declared.replies.CommitError.TheVariants.{Moved, Refused}
use Rattle.tas_session.specs.declared.replies.EditError.TheVariants.{Serial, Full, Memory}
use Rattle.tas_movie.specs.declared.edit.EditRefusal.TheVariants.{Place as PlaceRefusal, Long as LongRefusal}
use Rattle.tas_published.proofs.HistoryLemmas.{movie_of-push}

abbrev one_if : Bool → ℕ
one_if b = cond b 1 0

same_number : (a : ℕ) (b : Bool) → (a == a) ≡ b → one_if b ≡ 1
same_number a true is = refl
same_number a false is = absurd (grind (arith, nat_tests))

-- the seat of an entry has one more
entries_more : {A : Type 0} (history : List (Entry A)) (entry : Entry A) → entries_of entry.seat (history ++ entry ∷ []) ≡ entries_of entry.seat history + 1
entries_more {A} history entry =
    let k = sum_by-append (λ (e : Entry A). cond (e.seat == entry.seat) 1 0) history (entry ∷ []) in
    let one : one_if (entry.seat == entry.seat) ≡ 1 = same_number entry.seat (entry.seat == entry.seat) refl in
    omega (arith, k, one)

no_refusal : (here later : Option EditRefusal) → first_refusal here later ≡ None → (here ≡ None) × (later ≡ None)
no_refusal None later p = (refl, p)
no_refusal (Some refused) later p = absurd (cc p)

-- what a check found that found nothing
pub answer_none : (found : Option EditRefusal) (answer : Result (Unit {0}) EditRefusal) (none : Unit {0}) → answer ≡ Ok none → answer ≡ check_answer found → found ≡ None
answer_none None answer none is e = refl
answer_none (Some refused) answer none is e = absurd (cc (is, e))

-- what holds anyway holds of an error
pub on_any_error : {T E : Type 0} (P : Type 0) (r : Result T E) → P → OnErr r P
on_any_error P (Ok x) p = tt
on_any_error P (Err e) p = p

-- being out of memory is no cause of the history or the movie
other_cause : (n m : ℕ) (b c d : Bool) (found : Option EditRefusal)
    → (if b then (if c then (if d then Some (Refused (Full n)) else refused_as (error_at n found)) else Some (Moved n)) else Some (Refused (Serial n m))) ≡ Some (Refused Memory) → ⊥
other_cause n m true true true found p = cc p
other_cause n m true true false None p = cc p
other_cause n m true true false (Some (PlaceRefusal place len)) p = cc p
other_cause n m true true false (Some (LongRefusal len)) p = cc p
other_cause n m true false d found p = cc p
other_cause n m false c d found p = cc p

pub never_memory : {A : Type 0} (history : List (Entry A)) (movie : MovieContent) (seat made at : ℕ) (edits : List (Edit A)) (error : CommitError) → commit_refusal history movie seat made at edits ≡ Some error → error ≡ Refused Memory → ⊥
never_memory {A} history movie seat made at edits error found is =
    other_cause (length history) (entries_of seat history) (entries_of seat history == made) (length history == at) (nat_lt most_edits (length history + length edits)) (refusal_in movie edits)
    (found ∙ ap (λ (e : CommitError). Some e) is)

-- edits that the movie allows, one after the other, can come next where there is room
pub are_next : {A : Type 0} (history : List (Entry A)) (seat made : ℕ) (edits : List (Edit A)) → made ≡ entries_of seat history → length history + length edits ≤ most_edits → refusal_in (movie_of history) edits ≡ None → AreNext history (entries_by seat made edits)
are_next {A} history seat made [] is room none = tt
are_next {A} history seat made (edit ∷ edits) is room none =
    let entry : Entry A = record { seat = seat; serial = made; edit = edit } in
    let both = no_refusal (refusal (movie_of history) edit) (refusal_in (edited (movie_of history) edit) edits) none in
    let more : entries_of seat (history ++ entry ∷ []) ≡ entries_of seat history + 1 = entries_more history entry in
    let long = length-append history (entry ∷ []) in
    let rest = ap (λ (m : MovieContent). refusal_in m edits) (movie_of-push history entry) ∙ both.1 in (
      record { legal = record { allowed = both.0; serial = is }; room = omega (arith, room) },
      are_next (history ++ entry ∷ []) seat (made + 1) edits (omega (arith, is, more)) (omega (arith, room, long)) rest,
    )

pub after_journal : {A : Type 0} (session : SessionContent A) (entries : List (Entry A)) → (after_entries session entries).journal ≡ session.journal ++ entries
after_journal {A} session [] = sym (append-nil session.journal)
after_journal {A} session (entry ∷ entries) = after_journal (after_entry session entry) entries ∙ append_assoc session.journal (entry ∷ []) entries
