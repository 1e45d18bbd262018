-- The lines of some entries of a history, one entry after the other.
use Rattle.std.proofs.Common.{◌≡◌, ℕ, suc, ◌+◌, ◌<◌, ◌≤◌, ◌^◌, List, [], ◌∷◌, ◌++◌, length, take, drop, get_or, refl, sym, ap, subst, ◌∙◌, arith, append_assoc}
use Rattle.std.specs.Prelude.{max}
use Rattle.std.proofs.lemmas.List.{append-nil, length-drop, length-take, length-take-le, take_more}
use Rattle.tas_published.specs.declared.entry.Entry.{Entry}
use Rattle.tas_desk.specs.Parts.{most_entries, last_end, one_part}
use Rattle.tas_language.specs.History.{entry_text}
use Rattle.tas_seat.specs.HistoryText.{entry_lines}

pub no_lines : (A : Type 0) (first : ℕ) → [] ≡ entry_lines {A = A} first []
unfolding entry_lines
no_lines A first = refl

-- one entry more
lines_push : {A : Type 0} (first : ℕ) (entries : List (Entry A)) (entry : Entry A) → entry_lines first (entries ++ entry ∷ []) ≡ entry_lines first entries ++ entry_text (first + length entries) entry.seat entry.edit
unfolding entry_lines
lines_push first [] entry =
    let here : first ≡ first + 0 = omega arith in
    append-nil (entry_text first entry.seat entry.edit) ∙ ap (λ (n : ℕ). entry_text n entry.seat entry.edit) here
lines_push first (head ∷ rest) entry =
    let at : first + 1 + length rest ≡ first + suc (length rest) = omega arith in
    ap (λ (l : List ℕ). entry_text first head.seat head.edit ++ l) (lines_push (first + 1) rest entry ∙ ap (λ (n : ℕ). entry_lines (first + 1) rest ++ entry_text n entry.seat entry.edit) at)
    ∙ sym (append_assoc (entry_text first head.seat head.edit) (entry_lines (first + 1) rest) (entry_text (first + suc (length rest)) entry.seat entry.edit))

pub lines_more : {A : Type 0} (first number i : ℕ) (entries : List (Entry A)) (entry : Entry A) (text next : List ℕ) → i < length entries → entry ≡ get_or entries i entry → number ≡ first + i → text ≡ entry_lines first (take i entries)
    → next ≡ text ++ entry_text number entry.seat entry.edit → next ≡ entry_lines first (take (i + 1) entries)
lines_more {A} first number i entries entry text next lt here at so_far is =
    let more : take (i + 1) entries ≡ take i entries ++ entry ∷ [] = take_more entries i entry lt ∙ ap (λ (x : Entry A). take i entries ++ x ∷ []) (sym here) in
    let many : length (take i entries) ≡ i = length-take-le i entries (omega (arith, lt)) in
    is ∙ ap (λ (l : List ℕ). l ++ entry_text number entry.seat entry.edit) so_far
    ∙ ap (λ (n : ℕ). entry_lines first (take i entries) ++ entry_text n entry.seat entry.edit) (at ∙ ap (λ (n : ℕ). first + n) (sym many))
    ∙ sym (lines_push first (take i entries) entry) ∙ ap (entry_lines first) (sym more)

-- the entries that are reported are within the history
pub told_within : {A : Type 0} (history entries : List (Entry A)) (from at : ℕ) → at ≡ length history → entries ≡ one_part (drop from history) → from + length entries ≤ max at from
told_within {A} history entries from at here are =
    let few : length entries ≤ length (drop from history) =
    subst (λ (l : List (Entry A)). length l ≤ length (drop from history)) (sym are) (omega (arith, length-take (last_end (drop from history) most_entries) (drop from history))) in
    let left = length-drop from history in
    omega (arith, few, left, here)

-- their numbers fit a word
pub numbers_fit : (from at count : ℕ) → from < 2 ^ 64 → at < 2 ^ 64 → from + count ≤ max at from → from + count < 2 ^ 64
numbers_fit from at count fits top within = omega (arith, fits, top, within)
