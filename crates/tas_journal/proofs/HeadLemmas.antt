-- The head of a journal.
use Rattle.std.proofs.Common.{cond, ◌≡◌, ℕ, ◌+◌, ◌-◌, ◌<◌, ◌≤◌, ◌^◌, ◌/◌, ◌%◌, suc, zero, List, [], ◌∷◌, ◌++◌, length, get_or, take, drop, Bool, true, false, Option, Some, None, Result, Ok, Err, ◌⊎◌, inl, inr, refl, sym, ap, subst, ◌∙◌, arith, append_assoc}
use Rattle.std.specs.Prelude.{codes, decimal, min, nat_le, ◌==◌}
use Rattle.std.proofs.lemmas.Bool.{eqb-false}
use Rattle.std.proofs.lemmas.Fmt.{decimal_injective}
use Rattle.std.proofs.lemmas.List.{append_cancel_left, length-append}
use Rattle.std.proofs.Math.Seq.{take-append_seam}
use Rattle.sha2.specs.Sha256.{sha256}
use Rattle.hex.specs.Hex.{encode_with, encode_lower, lower_digits}
use Rattle.byte_text.specs.Splitting.{NoByte}
use Rattle.byte_text.proofs.SplitLemmas.{no_parts, same_front}
use Rattle.tas_language.proofs.WordLemmas.{decimal_no_space}
use Rattle.tas_movie.specs.Text.{line, head_text1, head_text2, digest_text, text1, text2, most_frames1, IsText}
use Rattle.tas_movie.specs.Content.{MovieContent, most_inputs}
use Rattle.tas_movie.specs.declared.error.TextError.{TextError}
use Rattle.tas_movie.specs.declared.error.TextErrorKind.{TextErrorKind}
use Rattle.tas_movie.specs.declared.error.TextErrorKind.TheVariants.{Head, Digest, Frame, End, TooMany}
use Rattle.tas_movie.specs.Fault.{SplitLines, split_lines, prepend_byte, is_frame, fault_at, frames_fault, shown_run, run_fault, fault_or, runs_fault, digest_fault, head_fault, fault}
use Rattle.tas_movie.specs.Runs.{run_inputs}
use Rattle.vcs_inputs.specs.declared.input.Input.{Input}
use Rattle.std.specs.Str.{bytes_eq}
use Rattle.tas_journal.proofs.ReadingLemmas.{none_some, some_same}
use Rattle.tas_journal.specs.declared.error.JournalErrorKind.TheVariants.{Text}
use Rattle.tas_journal.specs.declared.error.RecoverError.{RecoverError}
use Rattle.tas_journal.specs.declared.error.RecoverError.TheVariants.{Memory, Journal}
use Rattle.tas_journal.specs.Recovery.{LinesMake, IsCut, IsRecoverError, IsHeadError, IsTextError, IsRecovered, IsUnrecovered, head_of, first_number, most_before}
use Rattle.tas_journal.specs.Text.{format_line, profile_line, movie_line}

-- ---- the third line and the text after it

joined : (a b c d e f g : List ℕ) → (a ++ b ++ c ++ d ++ e) ++ (f ++ g) ≡ a ++ (b ++ (c ++ (d ++ (e ++ (f ++ g)))))
joined a b c d e f g = simp append_assoc

-- what stands after the word of the third line
pub words_are : (bytes words text rest : List ℕ) → bytes ≡ codes "movie " ++ words → bytes ≡ movie_line text ++ (text ++ rest) → words ≡ decimal (length text) ++ 32 ∷ (encode_lower (sha256 text) ++ 10 ∷ (text ++ rest))
unfolding movie_line
words_are bytes words text rest is said =
    append_cancel_left (codes "movie ") words (decimal (length text) ++ 32 ∷ (encode_lower (sha256 text) ++ 10 ∷ (text ++ rest)))
    (sym is ∙ said ∙ joined (codes "movie ") (decimal (length text)) (codes " ") (encode_lower (sha256 text)) (codes "\n") text rest)

pub has_word : (bytes text rest : List ℕ) → bytes ≡ movie_line text ++ (text ++ rest) → bytes ≡ codes "movie " ++ (decimal (length text) ++ 32 ∷ (encode_lower (sha256 text) ++ 10 ∷ (text ++ rest)))
unfolding movie_line
has_word bytes text rest said = said ∙ joined (codes "movie ") (decimal (length text)) (codes " ") (encode_lower (sha256 text)) (codes "\n") text rest

pub count_cut : (words count after text rest : List ℕ) → words ≡ count ++ 32 ∷ after → NoByte 32 count → length text < 2 ^ 64 → words ≡ decimal (length text) ++ 32 ∷ (encode_lower (sha256 text) ++ 10 ∷ (text ++ rest))
    → (count ≡ decimal (length text)) × (after ≡ encode_lower (sha256 text) ++ 10 ∷ (text ++ rest))
count_cut words count after text rest cut none short is = same_front 32 count (decimal (length text)) after (encode_lower (sha256 text) ++ 10 ∷ (text ++ rest)) none (decimal_no_space (length text) short) (sym cut ∙ is)

pub size_is : (count text : List ℕ) (size : ℕ) → count ≡ decimal size → size < 2 ^ 64 → length text < 2 ^ 64 → count ≡ decimal (length text) → size ≡ length text
size_is count text size digits lt short is = decimal_injective size (length text) lt short (sym digits ∙ is)

digit_apart : (t : List ℕ) (k : ℕ) → NoByte 10 t → get_or t k 0 ≡ 10 → ⊥
digit_apart [] k h e = omega arith
digit_apart (x ∷ xs) zero h e = h.0 e
digit_apart (x ∷ xs) (suc k) h e = digit_apart xs k h.1 e

hex_no_byte : (t xs : List ℕ) → NoByte 10 t → NoByte 10 (encode_with t xs)
unfolding encode_with
hex_no_byte t [] h = tt
hex_no_byte t (b ∷ xs) h = (digit_apart t (b / 16) h, (digit_apart t (b % 16) h, hex_no_byte t xs h))

lower_no_byte : NoByte 10 lower_digits
lower_no_byte = (
  eqb-false 48 10 refl,
  (
    eqb-false 49 10 refl,
    (
      eqb-false 50 10 refl,
      (
        eqb-false 51 10 refl,
        (
          eqb-false 52 10 refl,
          (
            eqb-false 53 10 refl,
            (
              eqb-false 54 10 refl,
              (
                eqb-false 55 10 refl,
                (eqb-false 56 10 refl, (eqb-false 57 10 refl, (eqb-false 97 10 refl, (eqb-false 98 10 refl, (eqb-false 99 10 refl, (eqb-false 100 10 refl, (eqb-false 101 10 refl, (eqb-false 102 10 refl, tt)))))))),
              ),
            ),
          ),
        ),
      ),
    ),
  ),
)

pub digest_no_byte : (text : List ℕ) → NoByte 10 (encode_lower (sha256 text))
digest_no_byte text = hex_no_byte lower_digits (sha256 text) lower_no_byte

pub text_after : (after front behind text rest : List ℕ) → after ≡ front ++ 10 ∷ behind → NoByte 10 front → after ≡ encode_lower (sha256 text) ++ 10 ∷ (text ++ rest) → behind ≡ text ++ rest
text_after after front behind text rest cut none is = (same_front 10 front (encode_lower (sha256 text)) behind (text ++ rest) none (digest_no_byte text) (sym cut ∙ is)).1

pub text_long : (behind text rest : List ℕ) → behind ≡ text ++ rest → length text ≤ length behind
text_long behind text rest is = let n = ap length is in omega (arith, n, length-append text rest)

pub text_taken : (behind text rest found : List ℕ) (size : ℕ) → behind ≡ text ++ rest → size ≡ length text → found ≡ take size behind → found ≡ text
text_taken behind text rest found size is long front = front ∙ ap (λ (n : ℕ). take n behind) long ∙ ap (take (length text)) is ∙ take-append_seam text rest

-- the line and the text were found where they are
pub line_found : (bytes found line text rest : List ℕ) → found ≡ text → line ≡ movie_line found → bytes ≡ movie_line text ++ (text ++ rest) → bytes ≡ line ++ (text ++ rest)
line_found bytes found line text rest same line-is is = is ∙ ap (λ (l : List ℕ). l ++ (text ++ rest)) (sym (line-is ∙ ap movie_line same))

pub rest_found : (bytes line after text rest : List ℕ) → bytes ≡ line ++ after → bytes ≡ line ++ (text ++ rest) → after ≡ text ++ rest
rest_found bytes line after text rest is said = append_cancel_left line after (text ++ rest) (sym is ∙ said)

-- ---- the first two lines

pub line_there : (second line wanted rest : List ℕ) → line ≡ wanted → second ≡ wanted ++ rest → second ≡ line ++ rest
line_there second line wanted rest same is = is ∙ ap (λ (l : List ℕ). l ++ rest) (sym same)

pub behind_format : (bytes second more : List ℕ) → bytes ≡ format_line ++ second → bytes ≡ format_line ++ more → second ≡ more
behind_format bytes second more is said = append_cancel_left format_line second more (sym is ∙ said)

pub profiled : (bytes second line third : List ℕ) → bytes ≡ format_line ++ second → second ≡ line ++ third → line ≡ profile_line → bytes ≡ format_line ++ (profile_line ++ third)
profiled bytes second line third is next same = is ∙ ap (λ (l : List ℕ). format_line ++ l) (next ∙ ap (λ (l : List ℕ). l ++ third) same)

pub behind_profile : (bytes third more : List ℕ) → bytes ≡ format_line ++ (profile_line ++ third) → bytes ≡ format_line ++ (profile_line ++ more) → third ≡ more
behind_profile bytes third more is said = append_cancel_left profile_line third more (append_cancel_left format_line (profile_line ++ third) (profile_line ++ more) (sym is ∙ said))

-- ---- the movie's text

-- the older text isn't one of runs
older_apart : (text more : List ℕ) (movie : MovieContent) → text ≡ line head_text2 ++ more → text ≡ text1 movie → ⊥
older_apart text more movie is older = let digit : ◌≡◌ {A = ℕ} 50 49 = ap (λ (l : List ℕ). get_or l 9 0) (sym is ∙ older) in omega (arith, digit)

pub text_read : (text : List ℕ) (movie : MovieContent) → ((more : List ℕ) × (text ≡ line head_text2 ++ more)) → IsText text movie → text ≡ text2 movie
text_read text movie begun (inl older) = absurd (older_apart text begun.0 movie begun.1 older.0)
text_read text movie begun (inr is) = is

-- a text that isn't one of runs is at fault at its first line, the fourth one of the journal
pub no_text : (text cart : List ℕ) → ((more : List ℕ) → text ≡ line head_text2 ++ more → ⊥) → IsTextError text cart (record { line = 4; kind = Text Head })
no_text text cart none = (record { line = 1; kind = Head }, (inr (none, refl), refl))

pub fault_at_line : (text cart more : List ℕ) (error : TextError) → text ≡ line head_text2 ++ more → fault text cart ≡ Some error → IsTextError text cart (record { line = 3 + error.line; kind = Text error.kind })
fault_at_line text cart more error begun is = (error, (inl ((more, begun), is), refl))

-- ---- the whole

pub recovered : (A : Type 0) (bytes cart text rest : List ℕ) (until first most edits : ℕ) (began made : MovieContent) (cut : Bool) → bytes ≡ head_of text rest → text ≡ text2 began → began.cart ≡ cart → length began.inputs ≤ most_inputs
    → first ≡ 4 + length (split_lines text).lines → most ≡ until - first → LinesMake A first 0 began (take most (split_lines rest).lines) (Ok made) → edits ≡ min most (length (split_lines rest).lines)
    → (cut ≡ true → IsCut most rest) → (cut ≡ false → IsCut most rest → ⊥) → IsRecovered A bytes cart until made edits cut
recovered A bytes cart text rest until first most edits began made cut is text-is cart-is few first-is most-is lines count is-cut whole =
    let n : first ≡ first_number began = first-is ∙ ap (λ (t : List ℕ). 4 + length (split_lines t).lines) text-is in
    let m : most ≡ most_before until began = most-is ∙ ap (λ (k : ℕ). until - k) n in
    record {
      began = began;
      rest = rest;
      journal = record { head = is ∙ ap (λ (t : List ℕ). head_of t rest) text-is; cartridge = cart-is; few = few };
      lines = subst (λ (k : ℕ). LinesMake A k 0 began (take (most_before until began) (split_lines rest).lines) (Ok made)) n
          (subst (λ (k : ℕ). LinesMake A first 0 began (take k (split_lines rest).lines) (Ok made)) m lines);
      count = count ∙ ap (λ (k : ℕ). min k (length (split_lines rest).lines)) m;
      is_cut = λ e. subst (λ (k : ℕ). IsCut k rest) m (is-cut e);
      is_whole = λ e h. whole e (subst (λ (k : ℕ). IsCut k rest) (sym m) h);
    }

pub line_wrong : (A : Type 0) (bytes cart text rest : List ℕ) (until first most : ℕ) (began : MovieContent) (error : RecoverError) → bytes ≡ head_of text rest → text ≡ text2 began → began.cart ≡ cart → length began.inputs ≤ most_inputs
    → first ≡ 4 + length (split_lines text).lines → most ≡ until - first → IsRecoverError (λ e. LinesMake A first 0 began (take most (split_lines rest).lines) (Err e)) error → IsRecoverError (IsUnrecovered A bytes cart until) error
line_wrong A bytes cart text rest until first most began Memory is text-is cart-is few first-is most-is lines = tt
line_wrong A bytes cart text rest until first most began (Journal error) is text-is cart-is few first-is most-is lines =
    let n : first ≡ first_number began = first-is ∙ ap (λ (t : List ℕ). 4 + length (split_lines t).lines) text-is in
    let m : most ≡ most_before until began = most-is ∙ ap (λ (k : ℕ). until - k) n in
    inr (inr (
      began,
      (
        rest,
        (
          record { head = is ∙ ap (λ (t : List ℕ). head_of t rest) text-is; cartridge = cart-is; few = few },
          subst (λ (k : ℕ). LinesMake A k 0 began (take (most_before until began) (split_lines rest).lines) (Err error)) n
              (subst (λ (k : ℕ). LinesMake A first 0 began (take k (split_lines rest).lines) (Err error)) m lines),
        ),
      ),
    ))

pub head_wrong : (A : Type 0) (bytes cart : List ℕ) (until : ℕ) (error : RecoverError) → IsRecoverError (IsHeadError bytes) error → IsRecoverError (IsUnrecovered A bytes cart until) error
head_wrong A bytes cart until Memory is = tt
head_wrong A bytes cart until (Journal error) is = inl is

pub text_wrong : (A : Type 0) (bytes cart text rest : List ℕ) (until : ℕ) (error : RecoverError) → bytes ≡ head_of text rest → length text < 2 ^ 64 → IsRecoverError (IsTextError text cart) error → IsRecoverError (IsUnrecovered A bytes cart until) error
text_wrong A bytes cart text rest until Memory is short wrong = tt
text_wrong A bytes cart text rest until (Journal error) is short wrong = inr (inl (text, (rest, (is, (short, wrong)))))

-- ---- how far down the first fault may be

at_line : (n m : ℕ) (kind : TextErrorKind) (e : TextError) → fault_at n kind ≡ Some e → n ≤ m → e.line ≤ m
at_line n m kind e is le = let same : n ≡ e.line = ap (λ (x : TextError). x.line) (some_same _ e is) in omega (arith, same, le)

frames_line : (n : ℕ) (ls : List (List ℕ)) (rest : List ℕ) (e : TextError) → frames_fault n ls rest ≡ Some e → e.line ≤ n + 3 + length ls
unfolding frames_fault
frames_line n [] [] e is = absurd (none_some e is)
frames_line n [] (b ∷ rest) e is = at_line (n + 3) (n + 3 + 0) End e is (omega arith)
frames_line n (l ∷ ls) rest e is = go (nat_le most_frames1 n) (is_frame l) (λ found. frames_line (n + 1) ls rest e found) is
  where
    go : (full frame : Bool) → (frames_fault (n + 1) ls rest ≡ Some e → e.line ≤ n + 1 + 3 + length ls) → cond full (fault_at (n + 3) TooMany) (cond frame (frames_fault (n + 1) ls rest) (fault_at (n + 3) Frame)) ≡ Some e → e.line ≤ n + 3 + length (l ∷ ls)
    go true frame more h = at_line (n + 3) (n + 3 + length (l ∷ ls)) TooMany e h (omega arith)
    go false true more h = let m = more h in omega (arith, m)
    go false false more h = at_line (n + 3) (n + 3 + length (l ∷ ls)) Frame e h (omega arith)

runs_line : (n : ℕ) (before : List Input) (ls : List (List ℕ)) (rest : List ℕ) (e : TextError) → runs_fault n before ls rest ≡ Some e → e.line ≤ n + length ls
unfolding runs_fault
runs_line n before [] [] e is = absurd (none_some e is)
runs_line n before [] (b ∷ rest) e is = at_line n (n + 0) End e is (omega arith)
runs_line n before (l ∷ ls) rest e is = go (run_fault before l) (λ found. runs_line (n + 1) (before ++ run_inputs (shown_run l)) ls rest e found) is
  where
    go : (wrong : Option TextErrorKind) → (runs_fault (n + 1) (before ++ run_inputs (shown_run l)) ls rest ≡ Some e → e.line ≤ n + 1 + length ls) → fault_or n wrong (runs_fault (n + 1) (before ++ run_inputs (shown_run l)) ls rest) ≡ Some e → e.line ≤ n + length (l ∷ ls)
    go None more h = let m = more h in omega (arith, m)
    go (Some kind) more h = at_line n (n + length (l ∷ ls)) kind e h (omega arith)

digest_line : (cart : List ℕ) (further : List (List ℕ) → List ℕ → Option TextError) (ls : List (List ℕ)) (rest : List ℕ) (e : TextError) → ((more : List (List ℕ)) → further more rest ≡ Some e → e.line ≤ 3 + length more)
    → digest_fault cart further ls rest ≡ Some e → e.line ≤ 2 + length ls
digest_line cart further [] rest e few is = at_line 2 2 End e is (omega arith)
digest_line cart further (l ∷ ls) rest e few is = go (bytes_eq l (digest_text cart)) is
  where
    go : (same : Bool) → cond same (further ls rest) (fault_at 2 Digest) ≡ Some e → e.line ≤ 2 + length (l ∷ ls)
    go true h = let m = few ls h in omega (arith, m)
    go false h = at_line 2 (2 + length (l ∷ ls)) Digest e h (omega arith)

head_line : (cart : List ℕ) (ls : List (List ℕ)) (rest : List ℕ) (e : TextError) → head_fault cart ls rest ≡ Some e → e.line ≤ 1 + length ls
head_line cart [] rest e is = at_line 1 1 End e is (omega arith)
head_line cart (l ∷ ls) rest e is = go (bytes_eq l head_text1) (bytes_eq l head_text2) is
  where
    go : (older newer : Bool) → cond older (digest_fault cart (frames_fault 0) ls rest) (cond newer (digest_fault cart (runs_fault 3 []) ls rest) (fault_at 1 Head)) ≡ Some e → e.line ≤ 1 + length (l ∷ ls)
    go true newer h = let m = digest_line cart (frames_fault 0) ls rest e (λ more found. frames_line 0 more rest e found) h in omega (arith, m)
    go false true h = let m = digest_line cart (runs_fault 3 []) ls rest e (λ more found. runs_line 3 [] more rest e found) h in omega (arith, m)
    go false false h = at_line 1 (1 + length (l ∷ ls)) Head e h (omega arith)

prepended : (b : ℕ) (ls : List (List ℕ)) (rest : List ℕ) → length (prepend_byte b ls rest).lines ≡ length ls
prepended b [] rest = refl
prepended b (l ∷ ls) rest = refl

-- there is a byte for each newline
pub few_lines : (text : List ℕ) → length (split_lines text).lines ≤ length text
unfolding split_lines
few_lines [] = omega arith
few_lines (b ∷ text) = go (b == 10) (few_lines text)
  where
    broken : SplitLines
    broken = record { lines = [] ∷ (split_lines text).lines; rest = (split_lines text).rest }

    longer : SplitLines
    longer = prepend_byte b (split_lines text).lines (split_lines text).rest

    go : (break : Bool) → length (split_lines text).lines ≤ length text → length (cond break broken longer).lines ≤ length (b ∷ text)
    go true m = omega (arith, m)
    go false m = omega (arith, m, prepended b (split_lines text).lines (split_lines text).rest)

pub fault_line : (text cart : List ℕ) (e : TextError) → fault text cart ≡ Some e → e.line ≤ 1 + length text
fault_line text cart e is = let m = head_line cart (split_lines text).lines (split_lines text).rest e is in omega (arith, m, few_lines text)

-- a head has more bytes than its movie's text and what follows
pub head_long : (bytes text rest : List ℕ) → bytes ≡ head_of text rest → 13 + length text + length rest ≤ length bytes
head_long bytes text rest is =
    let n = ap length is in
    omega (arith, n, length-append format_line (profile_line ++ (movie_line text ++ (text ++ rest))), length-append profile_line (movie_line text ++ (text ++ rest)), length-append (movie_line text) (text ++ rest), length-append text rest)
