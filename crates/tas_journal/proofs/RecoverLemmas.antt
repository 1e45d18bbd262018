-- The lines of a journal, one after the other.
use Rattle.std.proofs.Common.{◌≡◌, ℕ, zero, suc, ◌+◌, ◌-◌, ◌<◌, ◌≤◌, List, [], ◌∷◌, ◌++◌, length, take, min, Bool, true, false, not, Result, Ok, Err, refl, sym, ap, subst, ◌∙◌, arith}
use Rattle.std.proofs.lemmas.List.{length-append, length-take}
use Rattle.std.proofs.Math.Nat.{min-eq_left, min-eq_right}
use Rattle.std.proofs.lemmas.Bool.{false≢true}
use Rattle.byte_text.specs.Splitting.{NoByte}
use Rattle.tas_movie.specs.Content.{MovieContent}
use Rattle.tas_movie.specs.Fault.{SplitLines, split_lines}
use Rattle.tas_movie.proofs.TextLemmas.{NoBreak, split_lines-rest, split_lines-line}
use Rattle.tas_journal.specs.declared.error.JournalError.{JournalError}
use Rattle.tas_journal.specs.declared.error.JournalErrorKind.{JournalErrorKind}
use Rattle.tas_journal.specs.declared.entries.LineError.{LineError}
use Rattle.tas_journal.specs.declared.entries.LineError.TheVariants.{Memory, Wrong}
use Rattle.tas_journal.specs.Recovery.{IsCut, IsLineError, IsRecoverError, LineMakes, LinesMake, error_at}

no_break : (xs : List ℕ) → NoByte 10 xs → NoBreak xs
no_break [] h = tt
no_break (x ∷ xs) h = (h.0, no_break xs h.1)

pub first_line : (rest said after : List ℕ) → rest ≡ said ++ 10 ∷ after → NoByte 10 said → split_lines rest ≡ record { lines = said ∷ (split_lines after).lines; rest = (split_lines after).rest }
first_line rest said after is none = ap split_lines is ∙ split_lines-line said after (no_break said none)

pub last_bytes : (rest : List ℕ) → NoByte 10 rest → split_lines rest ≡ record { lines = []; rest = rest }
last_bytes rest none = split_lines-rest rest (no_break rest none)

pub next_lines : (rest said after : List ℕ) → rest ≡ said ++ 10 ∷ after → NoByte 10 said → (split_lines rest).lines ≡ said ∷ (split_lines after).lines
next_lines rest said after is none = ap (λ (x : SplitLines). x.lines) (first_line rest said after is none)

pub next_rest : (rest said after : List ℕ) → rest ≡ said ++ 10 ∷ after → NoByte 10 said → (split_lines rest).rest ≡ (split_lines after).rest
next_rest rest said after is none = ap (λ (x : SplitLines). x.rest) (first_line rest said after is none)

pub no_lines : (rest : List ℕ) → NoByte 10 rest → (split_lines rest).lines ≡ []
no_lines rest none = ap (λ (x : SplitLines). x.lines) (last_bytes rest none)

pub only_rest : (rest : List ℕ) → NoByte 10 rest → (split_lines rest).rest ≡ rest
only_rest rest none = ap (λ (x : SplitLines). x.rest) (last_bytes rest none)

-- what the further lines make of a movie, after some edits
abbrev pub Makes : (A : Type 0) (first edits most : ℕ) → MovieContent → List ℕ → Result MovieContent JournalError → Type 0
Makes A first edits most movie rest result = LinesMake A (first + edits) edits movie (take (most - edits) (split_lines rest).lines) result

-- no edit is made yet
pub begins : (A : Type 0) (first most : ℕ) (movie : MovieContent) (text : List ℕ) (result : Result MovieContent JournalError) → Makes A first 0 most movie text result → LinesMake A first 0 movie (take most (split_lines text).lines) result
begins A first most movie text result h =
    let at : first + 0 ≡ first = omega arith in
    let all : most - 0 ≡ most = omega arith in
    subst (λ (n : ℕ). LinesMake A n 0 movie (take most (split_lines text).lines) result) at
    (subst (λ (k : ℕ). LinesMake A (first + 0) 0 movie (take k (split_lines text).lines) result) all h)

lines_left : (edits most : ℕ) (rest said after : List ℕ) → rest ≡ said ++ 10 ∷ after → NoByte 10 said → edits < most → take (most - edits) (split_lines rest).lines ≡ said ∷ take (most - (edits + 1)) (split_lines after).lines
lines_left edits most rest said after is none lt =
    let k : most - edits ≡ suc (most - (edits + 1)) = omega arith in
    ap (take (most - edits)) (next_lines rest said after is none) ∙ ap (λ (n : ℕ). take n (said ∷ (split_lines after).lines)) k

-- an edit more is made
pub goes_on : (A : Type 0) (first edits most : ℕ) (old new : MovieContent) (rest said after : List ℕ) (result : Result MovieContent JournalError) → rest ≡ said ++ 10 ∷ after → NoByte 10 said → edits < most
    → LineMakes A edits old said (Ok new) → Makes A first (edits + 1) most new after result → Makes A first edits most old rest result
unfolding LinesMake
goes_on A first edits most old new rest said after result is none lt one more =
    let at : first + (edits + 1) ≡ first + edits + 1 = omega arith in
    let moved = subst (λ (n : ℕ). LinesMake A n (edits + 1) new (take (most - (edits + 1)) (split_lines after).lines) result) at more in
    let here : LinesMake A (first + edits) edits old (said ∷ take (most - (edits + 1)) (split_lines after).lines) result = (Ok new, (one, moved)) in
    subst (λ (ls : List (List ℕ)). LinesMake A (first + edits) edits old ls result) (sym (lines_left edits most rest said after is none lt)) here

-- a line is at fault
pub stops : (A : Type 0) (first edits most : ℕ) (old : MovieContent) (rest said after : List ℕ) (kind : JournalErrorKind) → rest ≡ said ++ 10 ∷ after → NoByte 10 said → edits < most
    → LineMakes A edits old said (Err kind) → Makes A first edits most old rest (Err (record { line = first + edits; kind = kind }))
unfolding LinesMake
stops A first edits most old rest said after kind is none lt one =
    let here : LinesMake A (first + edits) edits old (said ∷ take (most - (edits + 1)) (split_lines after).lines) (Err (record { line = first + edits; kind = kind })) = (Err kind, (one, refl)) in
    subst (λ (ls : List (List ℕ)). LinesMake A (first + edits) edits old ls (Err (record { line = first + edits; kind = kind }))) (sym (lines_left edits most rest said after is none lt)) here

made_all : (A : Type 0) (at number : ℕ) (movie : MovieContent) (lines : List (List ℕ)) → lines ≡ [] → LinesMake A at number movie lines (Ok movie)
unfolding LinesMake
made_all A at number movie [] none = refl
made_all A at number movie (l ∷ ls) none = absurd cc

no_take : (n : ℕ) (lines : List (List ℕ)) → lines ≡ [] → take n lines ≡ []
no_take zero lines none = refl
no_take (suc n) lines none = ap (take (suc n)) none

-- no whole line is left
pub ends : (A : Type 0) (first edits most : ℕ) (movie : MovieContent) (rest : List ℕ) → NoByte 10 rest → Makes A first edits most movie rest (Ok movie)
ends A first edits most movie rest none = made_all A (first + edits) edits movie _ (no_take (most - edits) (split_lines rest).lines (no_lines rest none))

-- as many lines were read as were asked for
pub full : (A : Type 0) (first edits most : ℕ) (movie : MovieContent) (rest : List ℕ) → most ≤ edits → Makes A first edits most movie rest (Ok movie)
full A first edits most movie rest le =
    let k : most - edits ≡ 0 = omega arith in
    made_all A (first + edits) edits movie _ (ap (λ (n : ℕ). take n (split_lines rest).lines) k)

pub shorter_line : (rest said after : List ℕ) → rest ≡ said ++ 10 ∷ after → length after < length rest
shorter_line rest said after is = let e = ap length is in omega (arith, e, length-append said (10 ∷ after))

-- an error of a line becomes one of the journal
pub wrong_line : (at : ℕ) (Is : JournalErrorKind → Type 0) (Are : JournalError → Type 0) (error : LineError) → IsLineError Is error → ((kind : JournalErrorKind) → Is kind → Are (record { line = at; kind = kind })) → IsRecoverError Are (error_at at error)
wrong_line at Is Are Memory is makes = tt
wrong_line at Is Are (Wrong kind) is makes = makes kind is

pub taken : (most edits : ℕ) (text rest : List ℕ) → length (split_lines text).lines ≡ edits + length (split_lines rest).lines → (split_lines rest).lines ≡ [] → length (split_lines text).lines ≡ edits
taken most edits text rest all none = let n = ap length none in omega (arith, all, n)

-- ---- how many edits were made, and what follows them

pub edits_all : (most edits n : ℕ) → n ≡ edits → edits ≤ most → edits ≡ min most n
edits_all most edits n is le = let fits : n ≤ most = omega (arith, is, le) in sym (min-eq_right fits ∙ is)

pub edits_most : (most edits n : ℕ) → most ≤ edits → edits ≤ most → edits ≤ n → edits ≡ min most n
edits_most most edits n le more some =
    let e : edits ≡ most = omega (arith, le, more) in
    let fits : most ≤ n = omega (arith, e, some) in
    e ∙ sym (min-eq_left fits)

pub cut_here : (most edits : ℕ) (text rest : List ℕ) → length (split_lines text).lines ≡ edits + length (split_lines rest).lines → (split_lines text).rest ≡ (split_lines rest).rest → NoByte 10 rest → edits < most → (length rest ≡ 0 → ⊥) → IsCut most text
cut_here most edits text rest all last none lt some =
    let n = ap length (no_lines rest none) in
    let k = ap length (last ∙ only_rest rest none) in
    (omega (arith, all, n, lt), omega (arith, k, some))

pub not_cut : (most : ℕ) (text rest : List ℕ) → (split_lines text).rest ≡ (split_lines rest).rest → NoByte 10 rest → length rest ≡ 0 → IsCut most text → ⊥
not_cut most text rest last none empty is = let k = ap length (last ∙ only_rest rest none) in omega (arith, k, empty, is.1)

pub full_not_cut : (most edits : ℕ) (text rest : List ℕ) → length (split_lines text).lines ≡ edits + length (split_lines rest).lines → most ≤ edits → IsCut most text → ⊥
full_not_cut most edits text rest all le is = omega (arith, all, le, is.0)

pub not_false : (b : Bool) → not b ≡ false → b ≡ true
not_false true e = refl
not_false false e = absurd (false≢true (sym e))

pub empty_lines : (rest : List ℕ) → length rest ≡ 0 → (split_lines rest).lines ≡ []
empty_lines [] none = no_lines [] tt
empty_lines (b ∷ rest) none = absurd (omega (arith, none))
