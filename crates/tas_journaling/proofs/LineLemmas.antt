-- The lines of a journal.
use Rattle.std.proofs.Common.{◌≡◌, ℕ, suc, ◌+◌, ◌-◌, ◌<◌, ◌≤◌, List, [], ◌∷◌, ◌++◌, length, take, drop, get_or, refl, sym, ap, ◌∙◌, arith, append_assoc, append-nil}
use Rattle.std.proofs.lemmas.List.{take-append-drop, length-drop, length-take-le, take_more}
use Rattle.std.proofs.Math.Seq.{drop-append-le}
use Rattle.tas_movie.specs.Text.{line}
use Rattle.tas_published.specs.declared.entry.Entry.{Entry}
use Rattle.tas_journal.specs.Text.{Entry as JournalEntry, entry_lines, entry_text}
use Rattle.tas_journaling.specs.Journals.{journal_entry, journaled, lines_from}

journaled-append : {A : Type 0} (xs ys : List (Entry A)) → journaled (xs ++ ys) ≡ journaled xs ++ journaled ys
journaled-append [] ys = refl
journaled-append {A} (x ∷ xs) ys = ap (λ (l : List (JournalEntry A)). journal_entry x ∷ l) (journaled-append xs ys)

journaled-length : {A : Type 0} (xs : List (Entry A)) → length (journaled xs) ≡ length xs
journaled-length [] = refl
journaled-length (x ∷ xs) = ap (λ (k : ℕ). suc k) (journaled-length xs)

lines-append : {A : Type 0} (n : ℕ) (xs ys : List (JournalEntry A)) → entry_lines n (xs ++ ys) ≡ entry_lines n xs ++ entry_lines (n + length xs) ys
lines-append {A} n [] ys = ap (λ (k : ℕ). entry_lines k ys) (omega arith)
lines-append {A} n (x ∷ xs) ys =
    let at : n + 1 + length xs ≡ n + suc (length xs) = omega arith in
    let first : List ℕ = line (entry_text n x.seat x.edit) in
    ap (λ (l : List ℕ). first ++ l) (lines-append (n + 1) xs ys ∙ ap (λ (k : ℕ). entry_lines (n + 1) xs ++ entry_lines k ys) at)
    ∙ sym (append_assoc first (entry_lines (n + 1) xs) (entry_lines (n + suc (length xs)) ys))

-- one entry more
pub lines_next : {A : Type 0} (first number i : ℕ) (entries : List (Entry A)) (entry : Entry A) (text next : List ℕ) → i < length entries → entry ≡ get_or entries i entry → number ≡ first + i → text ≡ entry_lines first (journaled (take i entries))
    → next ≡ text ++ line (entry_text number entry.seat entry.edit) → next ≡ entry_lines first (journaled (take (i + 1) entries))
lines_next {A} first number i entries entry text next lt here at so_far is =
    let more : take (i + 1) entries ≡ take i entries ++ entry ∷ [] = take_more entries i entry lt ∙ ap (λ (x : Entry A). take i entries ++ x ∷ []) (sym here) in
    let many : length (journaled (take i entries)) ≡ i = journaled-length (take i entries) ∙ length-take-le i entries (omega (arith, lt)) in
    let done : List ℕ = entry_lines first (journaled (take i entries)) in
    is ∙ ap (λ (l : List ℕ). l ++ line (entry_text number entry.seat entry.edit)) so_far
    ∙ ap (λ (n : ℕ). done ++ line (entry_text n entry.seat entry.edit)) (at ∙ ap (λ (n : ℕ). first + n) (sym many))
    ∙ ap (λ (l : List ℕ). done ++ l) (sym (append-nil (line (entry_text (first + length (journaled (take i entries))) entry.seat entry.edit))))
    ∙ sym (lines-append first (journaled (take i entries)) (journaled (entry ∷ [])))
    ∙ ap (entry_lines first) (sym (journaled-append (take i entries) (entry ∷ [])) ∙ ap (λ (l : List (Entry A)). journaled l) (sym more))

-- the lines of a history, up to a place and from there on
pub lines_split : {A : Type 0} (first upto : ℕ) (history : List (Entry A)) → first ≤ upto → upto ≤ length history
    → lines_from first history ≡ lines_from first (take upto history) ++ entry_lines (upto - first) (journaled (drop upto history))
lines_split {A} first upto history from few =
    let front : List (Entry A) = take upto history in
    let rest : List (Entry A) = drop upto history in
    let long : length front ≡ upto = length-take-le upto history few in
    let both : drop first history ≡ drop first front ++ rest =
    ap (λ (l : List (Entry A)). drop first l) (sym (take-append-drop upto history)) ∙ drop-append-le first front rest (omega (arith, long, from)) in
    let many : 0 + length (journaled (drop first front)) ≡ upto - first = omega (arith, journaled-length (drop first front), length-drop first front, long) in
    ap (λ (l : List (Entry A)). entry_lines 0 (journaled l)) both
    ∙ ap (λ (l : List (JournalEntry A)). entry_lines 0 l) (journaled-append (drop first front) rest)
    ∙ lines-append 0 (journaled (drop first front)) (journaled rest)
    ∙ ap (λ (k : ℕ). lines_from first front ++ entry_lines k (journaled rest)) many
