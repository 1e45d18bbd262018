-- Histories that grow by an entry.
use Rattle.std.proofs.Common.{◌≡◌, ◌+◌, ◌≤◌, List, [], ◌∷◌, ◌++◌, length, refl, ap, sym, ◌∙◌, subst, arith, length-append, append_assoc}
use Rattle.std.proofs.lemmas.List.{append-nil}
use Rattle.tas_movie.specs.Content.{MovieContent, blank_movie}
use Rattle.tas_movie.specs.Edit.{edited}
use Rattle.tas_published.specs.declared.entry.Entry.{Entry}
use Rattle.tas_published.specs.History.{most_edits, movie_from, movie_of, IsLegal, IsLegalEntry}
use Rattle.tas_published.specs.Strokes.{edits_in, edited_by, AreNext}

movie_from-push : {A : Type 0} (movie : MovieContent) (history : List (Entry A)) (entry : Entry A) → movie_from movie (history ++ entry ∷ []) ≡ edited (movie_from movie history) entry.edit
unfolding movie_from
movie_from-push movie [] entry = refl
movie_from-push movie (first ∷ rest) entry = movie_from-push (edited movie first.edit) rest entry

pub movie_of-push : {A : Type 0} (history : List (Entry A)) (entry : Entry A) → movie_of (history ++ entry ∷ []) ≡ edited (movie_of history) entry.edit
movie_of-push history entry = movie_from-push blank_movie history entry

pub movie_of-none : (A : Type 0) → movie_of {A = A} [] ≡ blank_movie
unfolding movie_from
movie_of-none A = refl

-- where a list with one more at its end is cut, the cut is at the end, or within the list
data Cut {A : Type 0} (history : List (Entry A)) (last : Entry A) (before : List (Entry A)) (entry : Entry A) : Type 0 where
  at_end : history ≡ before → last ≡ entry → Cut history last before entry
  within : (rest : List (Entry A)) → history ≡ before ++ entry ∷ rest → Cut history last before entry

cut_cons : {A : Type 0} (y : Entry A) (history : List (Entry A)) (last : Entry A) (before : List (Entry A)) (entry : Entry A) → Cut history last before entry → Cut (y ∷ history) last (y ∷ before) entry
cut_cons y history last before entry (at_end p q) = at_end (ap (λ l. y ∷ l) p) q
cut_cons y history last before entry (within rest p) = within rest (ap (λ l. y ∷ l) p)

cut_head : {A : Type 0} (z y : Entry A) (history : List (Entry A)) (last : Entry A) (before : List (Entry A)) (entry : Entry A) → z ≡ y → Cut (y ∷ history) last (y ∷ before) entry → Cut (z ∷ history) last (y ∷ before) entry
cut_head {A} z y history last before entry same c = subst (λ (w : Entry A). Cut (w ∷ history) last (y ∷ before) entry) (sym same) c

cut_of : {A : Type 0} (history : List (Entry A)) (last : Entry A) (before : List (Entry A)) (entry : Entry A) (rest : List (Entry A)) → history ++ last ∷ [] ≡ before ++ entry ∷ rest → Cut history last before entry
cut_of [] last [] entry rest p = at_end refl (cc p)
cut_of [] last (b ∷ []) entry rest p = absurd (cc p)
cut_of [] last (b ∷ c ∷ bs) entry rest p = absurd (cc p)
cut_of {A} (y ∷ ys) last [] entry rest p = within ys (ap (λ (w : Entry A). w ∷ ys) (cc p))
cut_of (y ∷ ys) last (b ∷ bs) entry rest p = cut_head y b ys last bs entry (cc p) (cut_cons b ys last bs entry (cut_of ys last bs entry rest (cc p)))

pub legal_none : {A : Type 0} → IsLegal {A = A} []
legal_none [] entry rest p = absurd (cc p)
legal_none (b ∷ bs) entry rest p = absurd (cc p)

pub legal-push : {A : Type 0} (history : List (Entry A)) (last : Entry A) → IsLegal history → IsLegalEntry history last → IsLegal (history ++ last ∷ [])
legal-push {A} history last legal next before entry rest p = elim (cut_of history last before entry rest p) [
  | at_end was is ↦ subst (λ (b : List (Entry A)). IsLegalEntry b entry) was (subst (λ (y : Entry A). IsLegalEntry history y) is next)
  | within more was ↦ legal before entry more was
]

-- the movie of a history that goes on
pub movie_of-on : {A : Type 0} (history entries : List (Entry A)) → movie_of (history ++ entries) ≡ edited_by (movie_of history) (edits_in entries)
movie_of-on {A} history [] = ap (λ (h : List (Entry A)). movie_of h) (append-nil history)
movie_of-on {A} history (entry ∷ entries) =
    ap (λ (h : List (Entry A)). movie_of h) (sym (append_assoc history (entry ∷ []) entries))
    ∙ movie_of-on (history ++ entry ∷ []) entries
    ∙ ap (λ (m : MovieContent). edited_by m (edits_in entries)) (movie_of-push history entry)

-- entries that can come next leave the history legal
pub legal-on : {A : Type 0} (history entries : List (Entry A)) → IsLegal history → AreNext history entries → IsLegal (history ++ entries)
legal-on {A} history [] legal next = subst (λ (h : List (Entry A)). IsLegal h) (sym (append-nil history)) legal
legal-on {A} history (entry ∷ entries) legal next =
    subst (λ (h : List (Entry A)). IsLegal h) (append_assoc history (entry ∷ []) entries)
    (legal-on (history ++ entry ∷ []) entries (legal-push history entry legal next.0.legal) next.1)

-- and no longer than it may be
pub room-on : {A : Type 0} (history entries : List (Entry A)) → length history ≤ most_edits → AreNext history entries → length history + length entries ≤ most_edits
room-on {A} history [] most next = omega (arith, most)
room-on {A} history (entry ∷ entries) most next =
    let long = length-append history (entry ∷ []) in
    let room = next.0.room in
    let rest = room-on (history ++ entry ∷ []) entries (omega (arith, long, room)) next.1 in
    omega (arith, long, rest)
