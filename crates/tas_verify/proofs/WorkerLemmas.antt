-- Movies that workers played.
use Rattle.std.proofs.Common.{◌≡◌, ℕ, suc, ◌<◌, List, [], ◌∷◌, ◌++◌, length, map, take, refl, sym, ap, subst, ◌∙◌, arith}
use Rattle.std.specs.Prelude.{slice_index_or}
use Rattle.std.specs.List.{All}
use Rattle.std.proofs.lemmas.List.{get_or-map, length-map}
use Rattle.std.proofs.Math.Seq.{take-append_seam}
use Rattle.tas_verify.specs.declared.lines.Verified.{Verified}
use Rattle.tas_verify.specs.Manifest.{RowWords, words_in}
use Rattle.tas_verify.specs.Rows.{ShelfFacts, IsOutcome}
use Rattle.tas_verify.specs.Lines.{RowEnd, AreOutcomes, end_of}

-- the words of their lines
abbrev pub rows_of : List Verified → List RowWords
rows_of verified = map (λ (v : Verified). words_in v.row) verified

-- what is known of one, from before it was played to after it
abbrev pub IsPlayedOne : ShelfFacts → Verified → Verified → Type 0
IsPlayedOne facts old new = (new.row ≡ old.row) × IsOutcome facts (words_in new.row) new.outcome

same_rows : (facts : ShelfFacts) (old new : List Verified) → length new ≡ length old → ((k : ℕ) (d : Verified) → k < length old → IsPlayedOne facts (slice_index_or old k d) (slice_index_or new k d)) → rows_of new ≡ rows_of old
same_rows facts [] [] long each = refl
same_rows facts [] (n ∷ new) long each = absurd (omega (arith, long))
same_rows facts (o ∷ old) [] long each = absurd (omega (arith, long))
same_rows facts (o ∷ old) (n ∷ new) long each =
    let head : n.row ≡ o.row = (each 0 o (omega arith)).0 in
    let tail : rows_of new ≡ rows_of old = same_rows facts old new (omega (arith, long)) (λ k d lt. each (suc k) d (omega (arith, lt))) in
    rw (head, tail) refl

all_played : (facts : ShelfFacts) (old new : List Verified) → length new ≡ length old → ((k : ℕ) (d : Verified) → k < length old → IsPlayedOne facts (slice_index_or old k d) (slice_index_or new k d)) → All (λ (e : RowEnd). IsOutcome facts e.row e.outcome) (map end_of new)
all_played facts old [] long each = λ k d lt. absurd (omega (arith, lt))
all_played facts old (n ∷ new) long each = λ k d lt.
    let count = length-map (n ∷ new) end_of in
    let here : k < length (n ∷ new) = omega (arith, lt, count) in
    let at = get_or-map end_of (n ∷ new) k n d here in
    subst (λ (e : RowEnd). IsOutcome facts e.row e.outcome) (sym at) (each k n (omega (arith, here, long))).1

rows_of_ends : (new : List Verified) → map (λ (e : RowEnd). e.row) (map end_of new) ≡ rows_of new
rows_of_ends [] = refl
rows_of_ends (n ∷ new) = ap (λ (r : List RowWords). words_in n.row ∷ r) (rows_of_ends new)

pub outcomes_played : (facts : ShelfFacts) (rows : List RowWords) (old new : List Verified) → length new ≡ length old → rows_of old ≡ rows
    → ((k : ℕ) (d : Verified) → k < length old → IsPlayedOne facts (slice_index_or old k d) (slice_index_or new k d)) → AreOutcomes facts rows (map end_of new)
outcomes_played facts rows old new long are each = record {
  named = rows_of_ends new ∙ same_rows facts old new long each ∙ are;
  each = all_played facts old new long each;
}

-- one that a call changed
pub played_there : (facts : ShelfFacts) (a x b y : Verified) → a ≡ x → b ≡ y → IsPlayedOne facts a b → IsPlayedOne facts x y
played_there facts a x b y from to played = subst (λ (v : Verified). IsPlayedOne facts x v) to (subst (λ (v : Verified). IsPlayedOne facts v b) from played)

-- what is written back into a list
pub taken_back : (xs rest : List Verified) (n : ℕ) → n ≡ length xs → take n (xs ++ rest) ≡ xs
taken_back xs rest n is = ap (λ (k : ℕ). take k (xs ++ rest)) is ∙ take-append_seam xs rest
