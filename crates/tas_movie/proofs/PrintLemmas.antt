-- The text of a movie on its way to a writer.
use Rattle.std.proofs.Common.{◌≡◌, ℕ, ◌+◌, ◌*◌, ◌<◌, ◌≤◌, Bool, true, false, cond, List, [], ◌∷◌, ◌++◌, length, take, drop, Option, Some, refl, sym, ap, subst, ◌∙◌, arith, append_assoc}
use Rattle.std.specs.Prelude.{◌==◌, codes, decimal, replicate, slice_get}
use Rattle.std.specs.List.{flat_map}
use Rattle.std.proofs.lemmas.Bool.{ne_eqb}
use Rattle.std.proofs.lemmas.Fmt.{length-decimal-le}
use Rattle.std.proofs.lemmas.List.{append-nil, length-append}
use Rattle.sha2.specs.Sha256.{sha256}
use Rattle.sha2.proofs.Facts256.{length-sha256}
use Rattle.hex.specs.Hex.{encode_with, lower_digits}
use Rattle.byte_text.specs.Sending.{Buffered, buffered, IsSending}
use Rattle.byte_text.proofs.Sendings.{pushed_both, sending-start, sending-pushed}
use Rattle.vcs_inputs.specs.declared.input.Input.{Input}
use Rattle.tas_movie.specs.Content.{MovieContent, most_inputs}
use Rattle.tas_movie.specs.Runs.{runs_of}
use Rattle.tas_movie.specs.Text.{line, frame_text, count_text, run_text, run_line, head_text2, digest_text, text2}
use Rattle.tas_movie.specs.declared.run.FrameRun.{FrameRun}
use Rattle.tas_movie.proofs.RunLemmas.{runs_split}

-- ---- how long the lines are

pub hex_length : (t xs : List ℕ) → length (encode_with t xs) ≡ 2 * length xs
unfolding encode_with
hex_length t [] = refl
hex_length t (b ∷ xs) = let ih = hex_length t xs in omega (arith, ih)

pub digest_length : (cart : List ℕ) → length (digest_text cart) ≡ 69
unfolding digest_text
digest_length cart = let digits = hex_length lower_digits (sha256 cart) in omega (arith, digits, length-sha256 cart)

pub digits_length : (n : ℕ) → n ≤ most_inputs → length (decimal n) ≤ 6
digits_length n few = length-decimal-le 6 n (omega arith) (omega (arith, few)) (omega (arith, few))

pub count_length : (n : ℕ) → n ≤ most_inputs → length (count_text n) ≤ 8
count_length n few = go (n == 1)
  where
    digits : length (decimal n) ≤ 6
    digits = digits_length n few

    go : (one : Bool) → length (cond one [] (codes " x" ++ decimal n)) ≤ 8
    go true = omega arith
    go false = omega (arith, digits)

pub run_line_length : (r : FrameRun) → r.count ≤ most_inputs → length (run_line r) ≤ 26
run_line_length r few =
    let count = count_length r.count few in
    let ended = length-append (run_text r) (10 ∷ []) in
    let begun = length-append (frame_text r.input) (count_text r.count) in
    omega (arith, count, ended, begun)

-- ---- a line that waits

-- nothing is pushed for a frame that comes once
pub pushed_none : (a : Buffered) (n : ℕ) → n ≡ 1 → a ≡ buffered a.written (a.waiting ++ count_text n)
pushed_none a n one = ap (λ (w : List ℕ). buffered a.written w) (sym (append-nil a.waiting) ∙ ap (λ (m : ℕ). a.waiting ++ count_text m) (sym one))

pub pushed_count : (a b c : Buffered) (digits : List ℕ) (n : ℕ) → (n ≡ 1 → ⊥) → digits ≡ decimal n → b ≡ buffered a.written (a.waiting ++ codes " x") → c ≡ buffered b.written (b.waiting ++ digits)
    → c ≡ buffered a.written (a.waiting ++ count_text n)
pushed_count a b c digits n ne is first second =
    pushed_both a b c (codes " x") digits first second
    ∙ ap (λ (l : List ℕ). buffered a.written (a.waiting ++ (codes " x" ++ l))) is
    ∙ ap (λ (one : Bool). buffered a.written (a.waiting ++ cond one [] (codes " x" ++ decimal n))) (sym (ne_eqb n 1 ne))

pub pushed_run : (a b c d : Buffered) (frame : List ℕ) (r : FrameRun) → frame ≡ frame_text r.input → b ≡ buffered a.written (a.waiting ++ frame) → c ≡ buffered b.written (b.waiting ++ count_text r.count)
    → d ≡ buffered c.written (c.waiting ++ 10 ∷ []) → d ≡ buffered a.written (a.waiting ++ run_line r)
pushed_run a b c d frame r is first second third =
    pushed_both a c d (frame ++ count_text r.count) (10 ∷ []) (pushed_both a b c frame (count_text r.count) first second) third
    ∙ ap (λ (f : List ℕ). buffered a.written (a.waiting ++ ((f ++ count_text r.count) ++ 10 ∷ []))) is

-- ---- the first two lines

-- they wait, and the lines of all runs are still to come
pub text_begun : (now : Option (List ℕ)) (movie : MovieContent) (cart : List ℕ) (rest : List Input) (a b : Buffered) → a ≡ record { written = 0; waiting = [] } → cart ≡ movie.cart → rest ≡ movie.inputs
    → b ≡ buffered a.written (a.waiting ++ ((codes "a26movie 2\n" ++ digest_text cart) ++ codes "\n")) → IsSending now now (text2 movie) b (flat_map run_line (runs_of rest))
text_begun now movie cart rest a b none named inputs pushed =
    subst (λ (o : Buffered). IsSending now now (text2 movie) o lines) (sym pushed) (sending-pushed now now (text2 movie) head lines a (sending-start now (text2 movie) (head ++ lines) a none whole))
  where
    head : List ℕ
    head = (codes "a26movie 2\n" ++ digest_text cart) ++ codes "\n"

    lines : List ℕ
    lines = flat_map run_line (runs_of rest)

    joined : (h d n : List ℕ) → h ++ ((d ++ n) ++ lines) ≡ ((h ++ d) ++ n) ++ lines
    joined h d n = ap (λ (l : List ℕ). h ++ l) (append_assoc d n lines) ∙ sym (append_assoc h d (n ++ lines)) ∙ sym (append_assoc (h ++ d) n lines)

    whole : text2 movie ≡ head ++ lines
    whole =
        ap (λ (c : List ℕ). line head_text2 ++ (line (digest_text c) ++ flat_map run_line (runs_of movie.inputs))) (sym named)
        ∙ ap (λ (l : List Input). line head_text2 ++ (line (digest_text cart) ++ flat_map run_line (runs_of l))) (sym inputs)
        ∙ joined (codes "a26movie 2\n") (digest_text cart) (codes "\n")

pub head_length : (cart : List ℕ) (a b : Buffered) → a ≡ record { written = 0; waiting = [] } → b ≡ buffered a.written (a.waiting ++ ((codes "a26movie 2\n" ++ digest_text cart) ++ codes "\n")) → b.written + length b.waiting ≡ 81
head_length cart a b none pushed =
    let grown = ap (λ (o : Buffered). o.written + length o.waiting) pushed in
    let joined = length-append a.waiting ((codes "a26movie 2\n" ++ digest_text cart) ++ codes "\n") in
    let empty = ap (λ (o : Buffered). o.written + length o.waiting) none in
    let ended = length-append (codes "a26movie 2\n" ++ digest_text cart) (codes "\n") in
    let begun = length-append (codes "a26movie 2\n") (digest_text cart) in
    omega (arith, grown, joined, empty, ended, begun, digest_length cart)

-- ---- the runs, one after the other

-- a run's line is added to what waits, and the lines of the runs after it are still to come
pub run_sent : (start now : Option (List ℕ)) (text : List ℕ) (rest after : List Input) (i : Input) (n : ℕ) (a b : Buffered) → 1 ≤ n → take n rest ≡ replicate n i → (n < length rest → slice_get rest n ≡ Some i → ⊥) → after ≡ drop n rest
    → IsSending start now text a (flat_map run_line (runs_of rest)) → b ≡ buffered a.written (a.waiting ++ run_line (record { input = i; count = n })) → IsSending start now text b (flat_map run_line (runs_of after))
run_sent start now text rest after i n a b le same longest after-is sending pushed =
    subst (λ (o : Buffered). IsSending start now text o lines) (sym pushed) (sending-pushed start now text (run_line run) lines a (subst (λ (xs : List ℕ). IsSending start now text a xs) split sending))
  where
    run : FrameRun
    run = record { input = i; count = n }

    lines : List ℕ
    lines = flat_map run_line (runs_of after)

    split : flat_map run_line (runs_of rest) ≡ run_line run ++ lines
    split = ap (λ (q : List FrameRun). flat_map run_line q) (runs_split rest i n le same longest) ∙ ap (λ (l : List Input). run_line run ++ flat_map run_line (runs_of l)) (sym after-is)

pub none_sent : (rest : List Input) → length rest ≡ 0 → flat_map run_line (runs_of rest) ≡ []
unfolding runs_of
none_sent [] none = refl
none_sent (x ∷ rest) none = absurd (omega (arith, none))
