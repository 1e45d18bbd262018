-- Sessions whose histories grow by an entry.
use Rattle.std.proofs.Common.{◌≡◌, ℕ, ◌+◌, ◌<◌, ◌≤◌, List, [], ◌∷◌, ◌++◌, length, take, refl, ap, sym, ◌∙◌, subst, arith, length-append, append_assoc}
use Rattle.std.proofs.lemmas.List.{append-nil}
use Rattle.tas_movie.specs.Content.{MovieContent, blank_movie}
use Rattle.std.specs.Prelude.{◌==◌, if◌then◌else◌}
use Rattle.std.proofs.lemmas.List.Sums.{sum_by-append}
use Rattle.tas_movie.specs.Edit.{edited, edited_place, IsAllowed}
use Rattle.tas_session.proofs.EditLemmas.{edited_before, edited_cart}
use Rattle.tas_green.specs.declared.savestate.Savestate.{Savestate}
use Rattle.tas_green.specs.Green.{IsLawful, AgreeUpTo}
use Rattle.tas_published.specs.declared.entry.Entry.{Entry}
use Rattle.tas_published.specs.History.{most_edits, movie_from, movie_of, entries_of, IsLegal, IsLegalEntry}
use Rattle.tas_published.specs.Strokes.{edits_in, edited_by, AreNext}
use Rattle.tas_session.specs.Session.{IsSound}
use Rattle.tas_published.specs.History.{IsNextEntry}
use Rattle.tas_published.proofs.HistoryLemmas.{movie_of-push, movie_of-none, legal_none, legal-push}

-- a session that opens
pub sound_opened : {A : Type 0} (history : List (Entry A)) (movie : MovieContent) (zone : List Savestate) → history ≡ [] → movie ≡ blank_movie → IsLawful movie zone → IsSound history movie zone
sound_opened {A} history movie zone none is lawful = record {
  legal = subst (λ (h : List (Entry A)). IsLegal h) (sym none) legal_none;
  most = rw none (omega arith);
  movie_is = is ∙ sym (movie_of-none A) ∙ ap (λ (h : List (Entry A)). movie_of h) (sym none);
  lawful = lawful;
}

pub counted_none : {A : Type 0} (history : List (Entry A)) (seat count : ℕ) → history ≡ [] → count ≡ 0 → count ≡ entries_of seat history
counted_none {A} history seat count none is = is ∙ ap (λ (h : List (Entry A)). entries_of seat h) (sym none)

-- a session after an entry: the kept states were cut at the edited place
pub sound_after : {A : Type 0} (history pushed : List (Entry A)) (movie new : MovieContent) (zone kept : List Savestate) (entry : Entry A) (place len : ℕ)
    → IsSound history movie zone → IsNextEntry history entry → pushed ≡ history ++ entry ∷ [] → new ≡ edited movie entry.edit
    → place ≡ edited_place entry.edit → len ≡ length new.inputs
    → take (edited_place entry.edit) new.inputs ≡ take (edited_place entry.edit) movie.inputs
    → (0 < edited_place entry.edit → new.cart ≡ movie.cart)
    → ((before after : MovieContent) → IsLawful before zone → AgreeUpTo place before after → length after.inputs ≡ len → IsLawful after kept)
    → IsSound pushed new kept
sound_after {A} history pushed movie new zone kept entry place len sound next push is at long before cart cut = record {
  legal = subst (λ (h : List (Entry A)). IsLegal h) (sym push) (legal-push history entry sound.legal next.legal);
  most = let l = ap length push in let k = length-append history (entry ∷ []) in let r = next.room in omega (arith, l, k, r);
  movie_is = is ∙ ap (λ (m : MovieContent). edited m entry.edit) sound.movie_is ∙ sym (movie_of-push history entry) ∙ ap (λ (h : List (Entry A)). movie_of h) (sym push);
  lawful = cut movie new sound.lawful (subst (λ (n : ℕ). AgreeUpTo n movie new) (sym at) (record { cart = cart; inputs = before })) (sym long);
}

pub counted_after : {A : Type 0} (history pushed : List (Entry A)) (entry : Entry A) (seat old reserved added : ℕ) → old ≡ entries_of seat history → reserved ≡ old
    → added ≡ reserved + (if entry.seat == seat then 1 else 0) → pushed ≡ history ++ entry ∷ [] → added ≡ entries_of seat pushed
counted_after {A} history pushed entry seat old reserved added is same more push =
    let k = sum_by-append (λ (e : Entry A). if e.seat == seat then 1 else 0) history (entry ∷ []) in
    let p : entries_of seat pushed ≡ entries_of seat (history ++ entry ∷ []) = ap (λ (h : List (Entry A)). entries_of seat h) push in
    omega (arith, k, p)

pub same_next : {A : Type 0} (held named : List (Entry A)) (entry : Entry A) → held ≡ named → IsNextEntry named entry → IsNextEntry held entry
same_next {A} held named entry same next = subst (λ (h : List (Entry A)). IsNextEntry h entry) (sym same) next

-- the same, by what an edit does
pub sound_edited : {A : Type 0} (history pushed : List (Entry A)) (movie new : MovieContent) (zone kept : List Savestate) (entry : Entry A) (place len : ℕ)
    → IsSound history movie zone → IsNextEntry history entry → pushed ≡ history ++ entry ∷ [] → new ≡ edited movie entry.edit
    → place ≡ edited_place entry.edit → len ≡ length new.inputs
    → ((before after : MovieContent) → IsLawful before zone → AgreeUpTo place before after → length after.inputs ≡ len → IsLawful after kept)
    → IsSound pushed new kept
sound_edited {A} history pushed movie new zone kept entry place len sound next push is at long cut =
    let may : IsAllowed movie entry.edit = subst (λ (m : MovieContent). IsAllowed m entry.edit) (sym sound.movie_is) next.legal.allowed in
    sound_after history pushed movie new zone kept entry place len sound next push is at long
    (ap (λ (m : MovieContent). take (edited_place entry.edit) m.inputs) is ∙ edited_before movie entry.edit may)
    (λ later. ap (λ (m : MovieContent). m.cart) is ∙ edited_cart movie entry.edit may later) cut
