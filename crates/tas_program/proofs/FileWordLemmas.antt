-- Words that stand for files, one after the other.
use Rattle.std.proofs.Common.{◌≡◌, ℕ, ◌<◌, ◌≤◌, ◌+◌, All, List, [], ◌∷◌, ◌++◌, length, map, take, set, get_or, sym, ap, subst, ◌∙◌}
use Rattle.std.proofs.lemmas.List.{map-append, take_all, take_more, take_more_set}
use Rattle.std.proofs.lemmas.List.Elements.{All-push}
use Rattle.tas_program.specs.declared.file_words.FileWord.{FileWord}
use Rattle.tas_program.specs.declared.file_words.SeenWord.{SeenWord}
use Rattle.tas_program.specs.FileWords.{words}

-- one more word is seen
pub seen_more : (P : SeenWord → Type 0) (seen : List SeenWord) (i : ℕ) (d : FileWord) (saw : SeenWord) → i < length seen → i < length words → saw.word ≡ get_or words i d → P saw
    → (map (λ s. s.word) (take i seen) ≡ take i words) × All P (take i seen)
    → (map (λ s. s.word) (take (i + 1) (set seen i saw)) ≡ take (i + 1) words) × All P (take (i + 1) (set seen i saw))
seen_more P seen i d saw below within is fits (known, all) =
    rw (take_more_set seen i saw below) (
      map-append (λ s. s.word) (take i seen) (saw ∷ []) ∙ ap (λ l. l ++ saw.word ∷ []) known ∙ ap (λ w. take i words ++ w ∷ []) is ∙ sym (take_more words i d within),
      All-push P (take i seen) saw all fits,
    )

-- all are seen
pub all_seen : (P : SeenWord → Type 0) (seen : List SeenWord) (i : ℕ) → length seen ≤ i → length words ≤ i → (map (λ s. s.word) (take i seen) ≡ take i words) × All P (take i seen)
    → (map (λ s. s.word) seen ≡ words) × All P seen
all_seen P seen i done many (known, all) =
    (sym (ap (map (λ s. s.word)) (take_all i seen done)) ∙ known ∙ take_all i words many, subst (All P) (take_all i seen done) all)
