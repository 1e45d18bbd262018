-- What is recovered from a journal that was cut after its head.
use Rattle.std.proofs.Common.{◌≡◌, ℕ, zero, suc, ◌+◌, ◌-◌, ◌<◌, ◌≤◌, ◌^◌, min, Bool, true, false, List, [], ◌∷◌, ◌++◌, length, get_or, take, drop, Result, Ok, Err, MatchResult, Option, Some, None, ◌⊎◌, inl, inr, refl, sym, ap, subst, ◌∙◌, arith, append_assoc}
use Rattle.std.specs.Prelude.{decimal}
use Rattle.std.proofs.lemmas.List.{append-nil, length-append, length-take-le, take_all}
use Rattle.std.proofs.Math.Nat.{min-eq_right}
use Rattle.tas_movie.specs.Content.{MovieContent, most_inputs}
use Rattle.tas_movie.specs.Edit.{IsAllowed, edited, refusal}
use Rattle.tas_movie.specs.Fault.{split_lines, fault}
use Rattle.std.specs.List.{flat_map}
use Rattle.tas_movie.specs.Runs.{runs_of}
use Rattle.tas_movie.specs.Text.{line, run_line, digest_text, text2}
use Rattle.tas_movie.specs.declared.edit.Edit.{Edit}
use Rattle.tas_movie.specs.declared.error.TextError.{TextError}
use Rattle.tas_movie.proofs.TextLemmas.{NoBreak}
use Rattle.tas_movie.proofs.TwoTexts.{text_right}
use Rattle.tas_journal.specs.declared.error.JournalError.{JournalError}
use Rattle.tas_journal.specs.declared.error.JournalErrorKind.{JournalErrorKind}
use Rattle.tas_journal.specs.declared.error.JournalErrorKind.TheVariants.{Head, Profile, Movie, Text, Number, Edit as NoEdit, Refused}
use Rattle.tas_journal.specs.Text.{entry_text, entry_lines, edit_text, head_text, journal_text, profile_line, movie_line, Entry, Fits, IsSeat, AreEntries}
use Rattle.tas_journal.specs.Recovery.{IsEntry, LineMakes, LinesMake, IsHeadFault, IsTextFault, IsBeginning, IsJournal, IsRecovered, IsUnrecovered, IsCut, head_of, first_number, most_before, entries_made, AreAllowed}
use Rattle.tas_journal.proofs.ReadingLemmas.{none_some}
use Rattle.tas_journal.proofs.RecoverLemmas.{next_lines, no_lines}
use Rattle.tas_journal.proofs.LawLemmas.{no_byte, line_is, text_short, entry_same, entry_no_break, texts_same, heads_same, head_of_movie}

-- ---- the lines of some entries

-- the lines of some entries, the first of which has this number, without their newlines
texts : {A : Type 0} → ℕ → List (Entry A) → List (List ℕ)
texts number [] = []
texts number (entry ∷ entries) = entry_text number entry.seat entry.edit ∷ texts (number + 1) entries

length-texts : {A : Type 0} (number : ℕ) (es : List (Entry A)) → length (texts number es) ≡ length es
unfolding texts
length-texts number [] = refl
length-texts number (e ∷ es) = let ih = length-texts (number + 1) es in omega (arith, ih)

entry_first : {A : Type 0} (number : ℕ) (e : Entry A) (es : List (Entry A)) (more : List ℕ) → entry_lines number (e ∷ es) ++ more ≡ entry_text number e.seat e.edit ++ 10 ∷ (entry_lines (number + 1) es ++ more)
entry_first number e es more = append_assoc (line (entry_text number e.seat e.edit)) (entry_lines (number + 1) es) more ∙ line_is (entry_text number e.seat e.edit) (entry_lines (number + 1) es ++ more)

lines_of : {A : Type 0} (number : ℕ) (es : List (Entry A)) (more : List ℕ) → number + length es < 2 ^ 64 → AreEntries es → (split_lines (entry_lines number es ++ more)).lines ≡ texts number es ++ (split_lines more).lines
unfolding AreEntries texts split_lines
lines_of number [] more lt are = refl
lines_of number (e ∷ es) more lt are =
    let said : List ℕ = entry_text number e.seat e.edit in
    next_lines (entry_lines number (e ∷ es) ++ more) said (entry_lines (number + 1) es ++ more) (entry_first number e es more) (no_byte said (entry_no_break number e.seat e.edit (omega (arith, lt)) are.0 are.1))
    ∙ ap (λ (l : List (List ℕ)). said ∷ l) (lines_of (number + 1) es more (omega (arith, lt)) are.2)

taken_are : {A : Type 0} (n : ℕ) (es : List (Entry A)) → AreEntries es → AreEntries (take n es)
unfolding AreEntries
taken_are zero es are = tt
taken_are (suc n) [] are = tt
taken_are (suc n) (e ∷ es) are = (are.0, are.1, taken_are n es are.2)

taken_allowed : {A : Type 0} (n : ℕ) (movie : MovieContent) (es : List (Entry A)) → AreAllowed movie es → AreAllowed movie (take n es)
unfolding AreAllowed
taken_allowed zero movie es are = tt
taken_allowed (suc n) movie [] are = tt
taken_allowed (suc n) movie (e ∷ es) are = (are.0, taken_allowed n (edited movie e.edit) es are.1)

-- ---- where it was cut

-- bytes are the lines of some first entries, and bytes without a newline
record CutAt {A : Type 0} (number : ℕ) (entries : List (Entry A)) (cutting : List ℕ) : Type 0 where
  edits : ℕ
  rest : List ℕ
  most : edits ≤ length entries
  none : NoBreak rest
  is : cutting ≡ entry_lines number (take edits entries) ++ rest

first_cut : (said rest cutting more : List ℕ) → NoBreak said → cutting ++ more ≡ said ++ 10 ∷ rest → NoBreak cutting ⊎ ((after : List ℕ) × ((cutting ≡ said ++ 10 ∷ after) × (after ++ more ≡ rest)))
first_cut said rest [] more none e = inl tt
first_cut [] rest (c ∷ cs) more none e = inr (cs, (ap (λ (b : ℕ). b ∷ cs) (ap (λ (l : List ℕ). get_or l 0 0) e), ap (drop 1) e))
first_cut (s ∷ said) rest (c ∷ cs) more none e = go (first_cut said rest cs more none.1 (ap (drop 1) e))
  where
    same : c ≡ s
    same = ap (λ (l : List ℕ). get_or l 0 0) e

    go : NoBreak cs ⊎ ((after : List ℕ) × ((cs ≡ said ++ 10 ∷ after) × (after ++ more ≡ rest))) → NoBreak (c ∷ cs) ⊎ ((after : List ℕ) × ((c ∷ cs ≡ s ∷ (said ++ 10 ∷ after)) × (after ++ more ≡ rest)))
    go (inl free) = inl ((λ (ten : c ≡ 10). none.0 (sym same ∙ ten)), free)
    go (inr found) = inr (found.0, (ap (λ (b : ℕ). b ∷ cs) same ∙ ap (λ (l : List ℕ). s ∷ l) found.1.0, found.1.1))

nothing_cut : (cutting more : List ℕ) → cutting ++ more ≡ [] → NoBreak cutting
nothing_cut [] more e = tt
nothing_cut (c ∷ cs) more e = absurd cc

cut_at : {A : Type 0} (number : ℕ) (es : List (Entry A)) (cutting more : List ℕ) → number + length es < 2 ^ 64 → AreEntries es → cutting ++ more ≡ entry_lines number es → CutAt number es cutting
unfolding AreEntries
cut_at {A} number [] cutting more lt are e = record { edits = 0; rest = cutting; most = omega arith; none = nothing_cut cutting more e; is = refl }
cut_at {A} number (entry ∷ es) cutting more lt are e = go (first_cut said (entry_lines (number + 1) es) cutting more (entry_no_break number entry.seat entry.edit (omega (arith, lt)) are.0 are.1) (e ∙ line_is said (entry_lines (number + 1) es)))
    (λ after same. cut_at (number + 1) es after more (omega (arith, lt)) are.2 same)
  where
    said : List ℕ
    said = entry_text number entry.seat entry.edit

    go : NoBreak cutting ⊎ ((after : List ℕ) × ((cutting ≡ said ++ 10 ∷ after) × (after ++ more ≡ entry_lines (number + 1) es))) → ((after : List ℕ) → after ++ more ≡ entry_lines (number + 1) es → CutAt (number + 1) es after) → CutAt number (entry ∷ es) cutting
    go (inl free) next = record { edits = 0; rest = cutting; most = omega arith; none = free; is = refl }
    go (inr found) next =
        let further = next found.0 found.1.1 in
        let fits = further.most in
        record {
          edits = suc further.edits;
          rest = further.rest;
          most = omega (arith, fits);
          none = further.none;
          is = found.1.0 ∙ ap (λ (l : List ℕ). said ++ 10 ∷ l) further.is ∙ sym (entry_first number entry (take further.edits es) further.rest);
        }

-- ---- what the lines make

ok_same : {X E : Type 0} (a b : X) → ◌≡◌ {A = Result X E} (Ok a) (Ok b) → a ≡ b
ok_same a b e = cc

err_apart : {X E : Type 0} (a : X) (b : E) → ◌≡◌ {A = Result X E} (Err b) (Ok a) → ⊥
err_apart a b e = cc

is_numbered : {A : Type 0} (number seat : ℕ) (asked : Edit A) → entry_text number seat asked ≡ decimal number ++ 32 ∷ (decimal seat ++ 32 ∷ edit_text asked)
is_numbered number seat asked = simp append_assoc

edit_is : {A : Type 0} (number : ℕ) (e : Entry A) (asked : Edit A) → IsSeat e.seat → Fits e.edit → IsEntry number (entry_text number e.seat e.edit) asked → e.edit ≡ asked
edit_is {A} number e asked small fits is = ap (λ (x : Entry A). x.edit) (entry_same number e (record { seat = is.seat; edit = asked }) small is.is_seat fits is.fits is.text)

lines_make : (A : Type 0) (at number : ℕ) (movie : MovieContent) (es : List (Entry A)) (result : Result MovieContent JournalError) → AreEntries es → AreAllowed movie es → LinesMake A at number movie (texts number es) result → result ≡ Ok (entries_made movie es)
unfolding LinesMake AreEntries AreAllowed entries_made texts
lines_make A at number movie [] result are allowed h = h
lines_make A at number movie (e ∷ es) result are allowed h = go are.0 are.1 allowed.0 (λ more. lines_make A (at + 1) (number + 1) (edited movie e.edit) es result are.2 allowed.1 more) h.0 h.1.0 h.1.1
  where
    said : List ℕ
    said = entry_text number e.seat e.edit

    go : IsSeat e.seat → Fits e.edit → IsAllowed movie e.edit → (LinesMake A (at + 1) (number + 1) (edited movie e.edit) (texts (number + 1) es) result → result ≡ Ok (entries_made (edited movie e.edit) es)) → (one : Result MovieContent JournalErrorKind) → LineMakes A number movie said one
        → MatchResult one (λ made. LinesMake A (at + 1) (number + 1) made (texts (number + 1) es) result) (λ kind. result ≡ Err (record { line = at; kind = kind })) → result ≡ Ok (entries_made (edited movie e.edit) es)
    go small fits free next (Ok made) is more =
        let same : made ≡ edited movie e.edit = is.1.2 ∙ ap (λ (x : Edit A). edited movie x) (sym (edit_is number e is.0 small fits is.1.0)) in
        next (subst (λ (m : MovieContent). LinesMake A (at + 1) (number + 1) m (texts (number + 1) es) result) same more)
    go small fits free next (Err (Refused refused)) is more =
        absurd (none_some refused (sym free ∙ ap (λ (x : Edit A). refusal movie x) (edit_is number e is.0 small fits is.1.0) ∙ is.1.1))
    go small fits free next (Err Number) is more = absurd (is (decimal e.seat ++ 32 ∷ edit_text e.edit, is_numbered number e.seat e.edit))
    go small fits free next (Err NoEdit) is more = absurd (is.1 e.edit (record { seat = e.seat; is_seat = small; text = refl; fits = fits }))
    go small fits free next (Err Head) is more = absurd is
    go small fits free next (Err Profile) is more = absurd is
    go small fits free next (Err Movie) is more = absurd is
    go small fits free next (Err (Text kind)) is more = absurd is

-- ---- a journal that was cut after its head

cut_lines : {A : Type 0} (es : List (Entry A)) (cutting more : List ℕ) (at : CutAt 0 es cutting) → length es < 2 ^ 64 → AreEntries es → (split_lines cutting).lines ≡ texts 0 (take at.edits es)
cut_lines es cutting more at lt are =
    let short = length-take-le at.edits es at.most in
    let few : 0 + length (take at.edits es) < 2 ^ 64 = omega (arith, short, lt, at.most) in
    ap (λ (b : List ℕ). (split_lines b).lines) at.is ∙ lines_of 0 (take at.edits es) at.rest few (taken_are at.edits es are)
    ∙ ap (λ (l : List (List ℕ)). texts 0 (take at.edits es) ++ l) (no_lines at.rest (no_byte at.rest at.none)) ∙ append-nil (texts 0 (take at.edits es))

cut_count : {A : Type 0} (es : List (Entry A)) (cutting more : List ℕ) (at : CutAt 0 es cutting) → length es < 2 ^ 64 → AreEntries es → length (split_lines cutting).lines ≡ at.edits
cut_count es cutting more at lt are =
    let n = ap length (cut_lines es cutting more at lt are) in
    omega (arith, n, length-texts 0 (take at.edits es), length-take-le at.edits es at.most)

-- each entry whose line is whole is one of them
whole_counted : {A : Type 0} (es : List (Entry A)) (cutting rest : List ℕ) (n : ℕ) → length es < 2 ^ 64 → AreEntries es → n ≤ length es → cutting ≡ entry_lines 0 (take n es) ++ rest → n ≤ length (split_lines cutting).lines
whole_counted es cutting rest n lt are le is =
    let short = length-take-le n es le in
    let few : 0 + length (take n es) < 2 ^ 64 = omega (arith, short, lt, le) in
    let all = ap length (ap (λ (b : List ℕ). (split_lines b).lines) is ∙ lines_of 0 (take n es) rest few (taken_are n es are)) in
    omega (arith, all, length-append (texts 0 (take n es)) (split_lines rest).lines, length-texts 0 (take n es), short, le)

-- what as many lines as there are entries make is what the whole lines make
lines_result : (A : Type 0) (began : MovieContent) (es : List (Entry A)) (cutting more : List ℕ) (until : ℕ) (result : Result MovieContent JournalError) (at : CutAt 0 es cutting) → length es < 2 ^ 64 → AreEntries es → AreAllowed began es
    → first_number began + length es ≤ until → LinesMake A (first_number began) 0 began (take (most_before until began) (split_lines cutting).lines) result → result ≡ Ok (entries_made began (take at.edits es))
lines_result A began es cutting more until result at lt are allowed far made =
    let counted = cut_count es cutting more at lt are in
    let fits : length (split_lines cutting).lines ≤ most_before until began = omega (arith, counted, at.most, far) in
    lines_make A (first_number began) 0 began (take at.edits es) result (taken_are at.edits es are) (taken_allowed at.edits began es allowed)
    (subst (λ (l : List (List ℕ)). LinesMake A (first_number began) 0 began l result) (take_all (most_before until began) (split_lines cutting).lines fits ∙ cut_lines es cutting more at lt are) made)

pub cut_recovered : (A : Type 0) (began : MovieContent) (es : List (Entry A)) (cutting more : List ℕ) (until : ℕ) → length began.inputs ≤ most_inputs → length es < 2 ^ 64 → AreEntries es → AreAllowed began es
    → cutting ++ more ≡ entry_lines 0 es → first_number began + length es ≤ until → (made : MovieContent) (edits : ℕ) (cut : Bool) → IsRecovered A (head_text began ++ cutting) began.cart until made edits cut → IsBeginning began es cutting made edits
cut_recovered A began es cutting more until few lt are allowed is far made edits cut found =
    let at = cut_at 0 es cutting more (omega (arith, lt)) are is in
    let same = heads_same found.began began found.rest cutting found.journal.cartridge found.journal.few few (sym found.journal.head ∙ head_of_movie began cutting) in
    let lines = subst (λ (m : MovieContent). LinesMake A (first_number m) 0 m (take (most_before until m) (split_lines found.rest).lines) (Ok made)) same.0 found.lines in
    let made-is = lines_result A began es cutting more until (Ok made) at lt are allowed far (subst (λ (r : List ℕ). LinesMake A (first_number began) 0 began (take (most_before until began) (split_lines r).lines) (Ok made)) same.1 lines) in
    let counted = cut_count es cutting more at lt are in
    let count : edits ≡ min (most_before until began) (length (split_lines cutting).lines) =
    found.count ∙ ap (λ (m : MovieContent). min (most_before until m) (length (split_lines found.rest).lines)) same.0 ∙ ap (λ (r : List ℕ). min (most_before until began) (length (split_lines r).lines)) same.1 in
    let fits : length (split_lines cutting).lines ≤ most_before until began = omega (arith, counted, at.most, far) in
    let all : edits ≡ at.edits = count ∙ min-eq_right fits ∙ counted in (
      ok_same {E = JournalError} made (entries_made began (take at.edits es)) made-is ∙ ap (λ (k : ℕ). entries_made began (take k es)) (sym all),
      omega (arith, all, at.most),
      λ n rest le begun. let m = whole_counted es cutting rest n lt are le begun in omega (arith, m, counted, all),
    )

pub cut_unfaulted : (A : Type 0) (began : MovieContent) (es : List (Entry A)) (cutting more : List ℕ) (until : ℕ) → length began.inputs ≤ most_inputs → length es < 2 ^ 64 → AreEntries es → AreAllowed began es
    → cutting ++ more ≡ entry_lines 0 es → first_number began + length es ≤ until → (error : JournalError) → IsUnrecovered A (head_text began ++ cutting) began.cart until error → ⊥
cut_unfaulted A began es cutting more until few lt are allowed is far error wrong = go wrong
  where
    bytes : List ℕ
    bytes = head_text began ++ cutting

    begun : bytes ≡ head_of (text2 began) cutting
    begun = head_of_movie began cutting

    in_head : (at : ℕ) (kind : JournalErrorKind) → IsHeadFault bytes at kind → ⊥
    in_head at Head h = h.1 (profile_line ++ (movie_line (text2 began) ++ (text2 began ++ cutting)), begun)
    in_head at Profile h = h.1.1 (movie_line (text2 began) ++ (text2 began ++ cutting), begun)
    in_head at Movie h = h.1.1 (text2 began) cutting (text_short began few) begun
    in_head at (Text kind) h = h
    in_head at Number h = h
    in_head at NoEdit h = h
    in_head at (Refused refused) h = h

    in_text : (text rest : List ℕ) → bytes ≡ head_of text rest → length text < 2 ^ 64 → (found : TextError) → IsTextFault text began.cart found → ⊥
    in_text text rest head short found (inl fault-is) =
        let same = texts_same text (text2 began) rest cutting short (text_short began few) (sym head ∙ begun) in
        none_some found (sym (text_right text began few (inr same.0)) ∙ fault-is.1)
    in_text text rest head short found (inr none) =
        let same = texts_same text (text2 began) rest cutting short (text_short began few) (sym head ∙ begun) in
        none.0 (line (digest_text began.cart) ++ flat_map run_line (runs_of began.inputs)) same.0

    in_lines : (other : MovieContent) (rest : List ℕ) → IsJournal bytes began.cart other rest → LinesMake A (first_number other) 0 other (take (most_before until other) (split_lines rest).lines) (Err error) → ⊥
    in_lines other rest journal lines =
        let same = heads_same other began rest cutting journal.cartridge journal.few few (sym journal.head ∙ begun) in
        let moved = subst (λ (m : MovieContent). LinesMake A (first_number m) 0 m (take (most_before until m) (split_lines rest).lines) (Err error)) same.0 lines in
        let at = cut_at 0 es cutting more (omega (arith, lt)) are is in
        err_apart {E = JournalError} (entries_made began (take at.edits es)) error
        (lines_result A began es cutting more until (Err error) at lt are allowed far (subst (λ (r : List ℕ). LinesMake A (first_number began) 0 began (take (most_before until began) (split_lines r).lines) (Err error)) same.1 moved))

    go : IsUnrecovered A bytes began.cart until error → ⊥
    go (inl head) = in_head error.line error.kind head
    go (inr (inl text)) = in_text text.0 text.1.0 text.1.1.0 text.1.1.1.0 text.1.1.1.1.0 text.1.1.1.1.1.0
    go (inr (inr lines)) = in_lines lines.0 lines.1.0 lines.1.1.0 lines.1.1.1

-- a whole journal
pub whole_recovered : (A : Type 0) (began : MovieContent) (es : List (Entry A)) (until : ℕ) → length began.inputs ≤ most_inputs → length es < 2 ^ 64 → AreEntries es → AreAllowed began es
    → first_number began + length es ≤ until → (made : MovieContent) (edits : ℕ) (cut : Bool) → IsRecovered A (journal_text began es) began.cart until made edits cut → (made ≡ entries_made began es) × (edits ≡ length es)
whole_recovered A began es until few lt are allowed far made edits cut found =
    let begun = cut_recovered A began es (entry_lines 0 es) [] until few lt are allowed (append-nil (entry_lines 0 es)) far made edits cut found in
    let whole : take (length es) es ≡ es = take_all (length es) es (omega arith) in
    let n = begun.2 (length es) [] (omega arith) (sym (append-nil (entry_lines 0 es)) ∙ ap (λ (l : List (Entry A)). entry_lines 0 l ++ []) (sym whole)) in
    let all : edits ≡ length es = omega (arith, n, begun.1) in
    (begun.0 ∙ ap (λ (k : ℕ). entries_made began (take k es)) all ∙ ap (entries_made began) whole, all)
