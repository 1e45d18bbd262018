-- One text has one journal.
use Rattle.std.proofs.Common.{◌≡◌, ℕ, suc, ◌+◌, ◌*◌, ◌/◌, ◌%◌, ◌<◌, ◌≤◌, ◌^◌, Bool, true, false, cond, List, [], ◌∷◌, ◌++◌, length, get_or, take, drop, Option, Some, refl, sym, ap, subst, ◌∙◌, arith, append_assoc}
use Rattle.std.specs.Prelude.{◌==◌, codes, decimal, nat_lt}
use Rattle.std.specs.List.{flat_map}
use Rattle.std.proofs.lemmas.Bool.{eqb-false}
use Rattle.std.proofs.lemmas.Fmt.{decimal_by_steps, decimal_injective}
use Rattle.std.proofs.lemmas.List.{append_cancel_left, length-append}
use Rattle.sha2.specs.Sha256.{sha256}
use Rattle.sha2.proofs.Facts256.{length-sha256}
use Rattle.hex.specs.Hex.{encode_lower, lower_digits}
use Rattle.byte_text.specs.Digits.{digit_of}
use Rattle.byte_text.specs.Splitting.{NoByte}
use Rattle.byte_text.proofs.SplitLemmas.{same_front}
use Rattle.vcs_inputs.specs.declared.input.Input.{Input}
use Rattle.tas_movie.specs.Content.{MovieContent, most_inputs}
use Rattle.tas_movie.specs.Runs.{run_inputs, runs_of, AreLongest}
use Rattle.tas_movie.specs.Text.{line, frame_text, count_text, run_text, run_line, head_text2, digest_text, text2}
use Rattle.tas_movie.specs.declared.edit.Edit.{Edit}
use Rattle.tas_movie.specs.declared.edit.Edit.TheVariants as edit
use Rattle.tas_movie.specs.declared.run.FrameRun.{FrameRun}
use Rattle.tas_movie.proofs.PrintLemmas.{hex_length, digest_length, count_length}
use Rattle.tas_movie.proofs.RunLemmas.{length-runs, runs_made, runs_longest}
use Rattle.tas_movie.proofs.TextLemmas.{NoBreak, NoBreak-append, NoBreak-push, frame_no_break}
use Rattle.tas_movie.proofs.TwoTexts.{same_text2}
use Rattle.tas_language.specs.declared.change.Change.TheVariants as change
use Rattle.tas_language.specs.declared.command.Command.TheVariants as command
use Rattle.tas_language.specs.declared.image.Image.TheVariants.{Large, Small}
use Rattle.tas_language.specs.Commands.{IsNumber}
use Rattle.tas_language.specs.History.{image_of, load_text, some_runs_of}
use Rattle.tas_language.specs.Parts.{hex_text}
use Rattle.tas_language.proofs.OneCommand.{number_same}
use Rattle.tas_language.proofs.WordLemmas.{decimal_no_space}
use Rattle.tas_journal.specs.Text.{run_words, frames_words, edit_text, entry_front, entry_text, entry_lines, format_line, profile_line, movie_line, head_text, journal_text, Entry, Fits, IsSeat, AreEntries}
use Rattle.tas_journal.specs.Recovery.{head_of}
use Rattle.tas_journal.proofs.ReadingLemmas.{some_runs, run_same, frames_begin, place_cut, place_spaced, loads_said, load_first, loaded, same_bytes, load_read, delete_read, insert_read, replace_read, other_read, entry_rest, same_long, some_same}

-- ---- no newline stands in an entry

pub no_byte : (xs : List ℕ) → NoBreak xs → NoByte 10 xs
no_byte [] h = tt
no_byte (x ∷ xs) h = (h.0, no_byte xs h.1)

decimal_no_break : (n : ℕ) → n < 2 ^ 64 → NoBreak (decimal n)
decimal_no_break n lt = decimal_by_steps (λ m ds. NoBreak ds)
    (λ m small. ((λ (e : 48 + m ≡ 10). omega arith), tt))
    (λ m ds big h. NoBreak-push ds (48 + m % 10) h (λ (e : 48 + m % 10 ≡ 10). omega arith)) n lt

run_no_break : (run : FrameRun) → IsNumber run.count → NoBreak (run_words run)
run_no_break run small =
    let frame : NoBreak (32 ∷ frame_text run.input) = (eqb-false 32 10 refl, frame_no_break run.input) in
    (eqb-false 32 10 refl, NoBreak-append (decimal run.count) (32 ∷ frame_text run.input) (decimal_no_break run.count (omega (arith, small))) frame)

runs_no_break : (rs : List FrameRun) → length (flat_map run_inputs rs) ≤ most_inputs → NoBreak (flat_map run_words rs)
runs_no_break [] few = tt
runs_no_break (r ∷ rs) few =
    let all = length-runs r rs in
    NoBreak-append (run_words r) (flat_map run_words rs) (run_no_break r (omega (arith, all, few))) (runs_no_break rs (omega (arith, all, few)))

frames_no_break : (inputs : List Input) → length inputs ≤ most_inputs → NoBreak (frames_words inputs)
frames_no_break inputs few = let e = ap length (some_runs inputs) in runs_no_break (some_runs_of inputs) (omega (arith, e, few))

digit_no_break : (n : ℕ) → digit_of n ≡ 10 → ⊥
digit_no_break n = go (nat_lt n 10)
  where
    go : (small : Bool) → cond small (48 + n) (55 + n) ≡ 10 → ⊥
    go true e = omega (arith, e)
    go false e = omega (arith, e)

hex_no_break : (bytes : List ℕ) → NoBreak (hex_text bytes)
unfolding hex_text
hex_no_break [] = tt
hex_no_break (b ∷ bytes) = (digit_no_break (b / 16), (digit_no_break (b % 16), hex_no_break bytes))

load_no_break : (cart : List ℕ) → NoBreak (load_text (image_of cart))
load_no_break cart = go (length cart == 2048)
  where
    part : NoBreak (32 ∷ 48 ∷ 48 ∷ 48 ∷ 61 ∷ hex_text cart)
    part = (eqb-false 32 10 refl, (eqb-false 48 10 refl, (eqb-false 48 10 refl, (eqb-false 48 10 refl, (eqb-false 61 10 refl, hex_no_break cart)))))

    go : (small : Bool) → NoBreak (load_text (cond small (Small cart) (Large cart)))
    go true = (eqb-false 108 10 refl, (eqb-false 111 10 refl, (eqb-false 97 10 refl, (eqb-false 100 10 refl, (eqb-false 50 10 refl, part)))))
    go false = (eqb-false 108 10 refl, (eqb-false 111 10 refl, (eqb-false 97 10 refl, (eqb-false 100 10 refl, part))))

insert_no_break : NoBreak (codes "insert ")
insert_no_break = (eqb-false 105 10 refl, (eqb-false 110 10 refl, (eqb-false 115 10 refl, (eqb-false 101 10 refl, (eqb-false 114 10 refl, (eqb-false 116 10 refl, (eqb-false 32 10 refl, tt)))))))

replace_no_break : NoBreak (codes "replace ")
replace_no_break = (eqb-false 114 10 refl, (eqb-false 101 10 refl, (eqb-false 112 10 refl, (eqb-false 108 10 refl, (eqb-false 97 10 refl, (eqb-false 99 10 refl, (eqb-false 101 10 refl, (eqb-false 32 10 refl, tt))))))))

delete_no_break : NoBreak (codes "delete ")
delete_no_break = (eqb-false 100 10 refl, (eqb-false 101 10 refl, (eqb-false 108 10 refl, (eqb-false 101 10 refl, (eqb-false 116 10 refl, (eqb-false 101 10 refl, (eqb-false 32 10 refl, tt)))))))

placed_no_break : (at : ℕ) (inputs : List Input) → IsNumber at → length inputs ≤ most_inputs → NoBreak (decimal at ++ frames_words inputs)
placed_no_break at inputs small few = NoBreak-append (decimal at) (frames_words inputs) (decimal_no_break at (omega (arith, small))) (frames_no_break inputs few)

edit_no_break : {A : Type 0} (asked : Edit A) → Fits asked → NoBreak (edit_text asked)
edit_no_break (edit.Load cart) fits = load_no_break cart
edit_no_break (edit.Insert at inputs) fits = NoBreak-append (codes "insert ") (decimal at ++ frames_words inputs) insert_no_break (placed_no_break at inputs fits.0 fits.1)
edit_no_break (edit.Replace at inputs) fits = NoBreak-append (codes "replace ") (decimal at ++ frames_words inputs) replace_no_break (placed_no_break at inputs fits.0 fits.1)
edit_no_break (edit.Delete at count) fits =
    let second : NoBreak (32 ∷ decimal count) = (eqb-false 32 10 refl, decimal_no_break count (omega (arith, fits.1))) in
    NoBreak-append (codes "delete ") (decimal at ++ 32 ∷ decimal count) delete_no_break (NoBreak-append (decimal at) (32 ∷ decimal count) (decimal_no_break at (omega (arith, fits.0))) second)

space_no_break : NoBreak (codes " ")
space_no_break = (eqb-false 32 10 refl, tt)

pub entry_no_break : {A : Type 0} (number seat : ℕ) (asked : Edit A) → number < 2 ^ 64 → IsSeat seat → Fits asked → NoBreak (entry_text number seat asked)
entry_no_break number seat asked lt small fits =
    NoBreak-append (entry_front number seat) (edit_text asked)
    (NoBreak-append (decimal number ++ codes " " ++ decimal seat) (codes " ")
    (NoBreak-append (decimal number ++ codes " ") (decimal seat) (NoBreak-append (decimal number) (codes " ") (decimal_no_break number lt) space_no_break) (decimal_no_break seat (omega (arith, small)))) space_no_break)
    (edit_no_break asked fits)

-- ---- one text has one edit

words_same : (rs qs : List FrameRun) → length (flat_map run_inputs rs) ≤ most_inputs → length (flat_map run_inputs qs) ≤ most_inputs → flat_map run_words rs ≡ flat_map run_words qs → rs ≡ qs
words_same [] [] few less e = refl
words_same [] (q ∷ qs) few less e = absurd cc
words_same (r ∷ rs) [] few less e = absurd cc
words_same (r ∷ rs) (q ∷ qs) few less e =
    let more = length-runs r rs in
    let others = length-runs q qs in
    let both = run_same r q (flat_map run_words rs) (flat_map run_words qs) (omega (arith, more, few)) (omega (arith, others, less)) e in
    ap (λ (x : FrameRun). x ∷ rs) both.0 ∙ ap (λ (l : List FrameRun). q ∷ l) (words_same rs qs (omega (arith, more, few)) (omega (arith, others, less)) both.1)

frames_same : (a b : List Input) → length a ≤ most_inputs → length b ≤ most_inputs → frames_words a ≡ frames_words b → a ≡ b
frames_same a b few less e =
    let one = ap length (some_runs a) in
    let other = ap length (some_runs b) in
    sym (some_runs a) ∙ ap (flat_map run_inputs) (words_same (some_runs_of a) (some_runs_of b) (omega (arith, one, few)) (omega (arith, other, less)) e) ∙ some_runs b

placed_same : (at n : ℕ) (a b : List Input) → IsNumber at → IsNumber n → length a ≤ most_inputs → length b ≤ most_inputs → decimal at ++ frames_words a ≡ decimal n ++ frames_words b → (at ≡ n) × (a ≡ b)
placed_same at n a b small other few less e =
    let begun = frames_begin a in
    let spaced : decimal at ++ frames_words a ≡ decimal at ++ 32 ∷ begun.0 = ap (λ (l : List ℕ). decimal at ++ l) begun.1 in
    let cut = place_cut (decimal at ++ frames_words a) (decimal at) begun.0 n b spaced (decimal_no_space at (omega (arith, small))) other e in
    (number_same at n small other cut.0, frames_same a b few less (begun.1 ∙ cut.1))

insert_of : {A : Type 0} (at n : ℕ) (a b : List Input) → at ≡ n → a ≡ b → ◌≡◌ {A = Option (Edit A)} (Some (edit.Insert at a)) (Some (edit.Insert n b))
insert_of at n a b p q = cc

replace_of : {A : Type 0} (at n : ℕ) (a b : List Input) → at ≡ n → a ≡ b → ◌≡◌ {A = Option (Edit A)} (Some (edit.Replace at a)) (Some (edit.Replace n b))
replace_of at n a b p q = cc

abbrev get_first : List ℕ → ℕ
get_first text = get_or text 0 0

first_apart : (text rest : List ℕ) (a b : ℕ) → get_first text ≡ a → text ≡ b ∷ rest → (a ≡ b → ⊥) → ⊥
first_apart text rest a b e is ne = ne (sym e ∙ ap get_first is)

some_edit_same : {A : Type 0} (a b : Edit A) → Fits a → Fits b → edit_text a ≡ edit_text b → ◌≡◌ {A = Option (Edit A)} (Some a) (Some b)
some_edit_same {A} (edit.Load cart) b fits less e =
    other_read (Some (edit.Load cart)) (load_text (image_of cart)) b less (λ rest is. first_apart _ _ 108 105 (load_first cart) is (λ (e : ◌≡◌ {A = ℕ} 108 105). omega (arith, e))) (λ rest is. first_apart _ _ 108 114 (load_first cart) is (λ (e : ◌≡◌ {A = ℕ} 108 114). omega (arith, e))) e
    (λ image cartridge is. load_read A (Some (edit.Load cart)) (load_text (image_of cart)) image (command.Load (image_of cart)) (loads_said cart fits) (sym (ap (loaded A) (same_bytes cart))) cartridge is)
    (λ at count small few is. delete_read A (Some (edit.Load cart)) (load_text (image_of cart)) at count (command.Load (image_of cart)) (loads_said cart fits) (sym (ap (loaded A) (same_bytes cart))) small few is)
some_edit_same {A} (edit.Insert at inputs) b fits less e =
    insert_read (Some (edit.Insert at inputs)) (codes "insert " ++ (decimal at ++ frames_words inputs)) (decimal at ++ frames_words inputs) b less refl e
    (λ n others small few is. let both = placed_same at n inputs others fits.0 small fits.1 few is in insert_of at n inputs others both.0 both.1)
some_edit_same {A} (edit.Replace at inputs) b fits less e =
    replace_read (Some (edit.Replace at inputs)) (codes "replace " ++ (decimal at ++ frames_words inputs)) (decimal at ++ frames_words inputs) b less refl e
    (λ n others small few is. let both = placed_same at n inputs others fits.0 small fits.1 few is in replace_of at n inputs others both.0 both.1)
some_edit_same {A} (edit.Delete at count) b fits less e =
    other_read (Some (edit.Delete at count)) (edit_text {A = A} (edit.Delete at count)) b less (λ rest is. first_apart _ _ 100 105 refl is (λ (e : ◌≡◌ {A = ℕ} 100 105). omega (arith, e))) (λ rest is. first_apart _ _ 100 114 refl is (λ (e : ◌≡◌ {A = ℕ} 100 114). omega (arith, e))) e
    (λ image cartridge is. load_read A (Some (edit.Delete at count)) _ image (command.Edit (change.Delete at count)) (refl, (fits.0, fits.1)) refl cartridge is)
    (λ n others small few is. delete_read A (Some (edit.Delete at count)) _ n others (command.Edit (change.Delete at count)) (refl, (fits.0, fits.1)) refl small few is)

pub edit_same : {A : Type 0} (a b : Edit A) → Fits a → Fits b → edit_text a ≡ edit_text b → a ≡ b
edit_same a b fits less e = some_same a b (some_edit_same a b fits less e)

entry_by_fields : {A : Type 0} (s t : ℕ) (a b : Edit A) → s ≡ t → a ≡ b → ◌≡◌ {A = Entry A} (record { seat = s; edit = a }) (record { seat = t; edit = b })
entry_by_fields s t a b p q = cc

-- a line is the entry of one seat and one edit
pub entry_same : {A : Type 0} (number : ℕ) (a b : Entry A) → IsSeat a.seat → IsSeat b.seat → Fits a.edit → Fits b.edit → entry_text number a.seat a.edit ≡ entry_text number b.seat b.edit → a ≡ b
entry_same {A} number a b small other fits less e =
    let rest : List ℕ = decimal a.seat ++ 32 ∷ edit_text a.edit in
    let whole : entry_text number a.seat a.edit ≡ decimal number ++ 32 ∷ rest = simp append_assoc in
    let tail : rest ≡ decimal b.seat ++ 32 ∷ edit_text b.edit = entry_rest A number b.seat (entry_text number a.seat a.edit) rest b.edit whole e in
    let both = same_front 32 (decimal a.seat) (decimal b.seat) (edit_text a.edit) (edit_text b.edit) (decimal_no_space a.seat (omega (arith, small))) (decimal_no_space b.seat (omega (arith, other))) tail in
    let seat : a.seat ≡ b.seat = decimal_injective a.seat b.seat (omega (arith, small)) (omega (arith, other)) both.0 in
    entry_by_fields a.seat b.seat a.edit b.edit seat (edit_same a.edit b.edit fits less both.1)

-- ---- one text has one list of entries

pub line_is : (said rest : List ℕ) → line said ++ rest ≡ said ++ 10 ∷ rest
line_is said rest = append_assoc said (10 ∷ []) rest

pub lines_same : {A : Type 0} (number : ℕ) (es fs : List (Entry A)) → number + length es < 2 ^ 64 → number + length fs < 2 ^ 64 → AreEntries es → AreEntries fs → entry_lines number es ≡ entry_lines number fs → es ≡ fs
unfolding AreEntries
lines_same {A} number [] [] lt less fit are e = refl
lines_same {A} number [] (f ∷ fs) lt less fit are e =
    let n = ap length (e ∙ line_is (entry_text number f.seat f.edit) (entry_lines (number + 1) fs)) in
    absurd (omega (arith, n, length-append (entry_text number f.seat f.edit) (10 ∷ entry_lines (number + 1) fs)))
lines_same {A} number (a ∷ es) [] lt less fit are e =
    let n = ap length (sym e ∙ line_is (entry_text number a.seat a.edit) (entry_lines (number + 1) es)) in
    absurd (omega (arith, n, length-append (entry_text number a.seat a.edit) (10 ∷ entry_lines (number + 1) es)))
lines_same {A} number (a ∷ es) (f ∷ fs) lt less fit are e =
    let whole : entry_text number a.seat a.edit ++ 10 ∷ entry_lines (number + 1) es ≡ entry_text number f.seat f.edit ++ 10 ∷ entry_lines (number + 1) fs =
    sym (line_is (entry_text number a.seat a.edit) (entry_lines (number + 1) es)) ∙ e ∙ line_is (entry_text number f.seat f.edit) (entry_lines (number + 1) fs) in
    let both = same_front 10 (entry_text number a.seat a.edit) (entry_text number f.seat f.edit) _ _ (no_byte _ (entry_no_break number a.seat a.edit (omega (arith, lt)) fit.0 fit.1)) (no_byte _ (entry_no_break number f.seat f.edit (omega (arith, less)) are.0 are.1)) whole in
    let first : a ≡ f = entry_same number a f fit.0 are.0 fit.1 are.1 both.0 in
    let rest : es ≡ fs = lines_same (number + 1) es fs (omega (arith, lt)) (omega (arith, less)) fit.2 are.2 both.1 in
    ap (λ (x : Entry A). x ∷ es) first ∙ ap (λ (l : List (Entry A)). f ∷ l) rest

-- ---- one text has one head

runs_length : (rs : List FrameRun) → AreLongest rs → length (flat_map run_inputs rs) ≤ most_inputs → length (flat_map run_line rs) ≤ 27 * length (flat_map run_inputs rs)
unfolding AreLongest
runs_length [] longest few = omega arith
runs_length (r ∷ rs) longest few =
    let all = length-runs r rs in
    let ih = runs_length rs longest.2 (omega (arith, all, few)) in
    let count = count_length r.count (omega (arith, all, few)) in
    let joined = length-append (run_line r) (flat_map run_line rs) in
    let ended = length-append (run_text r) (10 ∷ []) in
    let begun = length-append (frame_text r.input) (count_text r.count) in
    omega (arith, all, ih, count, joined, ended, begun, longest.0)

pub text_short : (movie : MovieContent) → length movie.inputs ≤ most_inputs → length (text2 movie) < 2 ^ 64
text_short movie few =
    let made = ap length (runs_made movie.inputs) in
    let lines = runs_length (runs_of movie.inputs) (runs_longest movie.inputs) (omega (arith, made, few)) in
    let rest : List ℕ = flat_map run_line (runs_of movie.inputs) in
    let whole = length-append (line head_text2) (line (digest_text movie.cart) ++ rest) in
    let behind = length-append (line (digest_text movie.cart)) rest in
    let named = length-append (digest_text movie.cart) (10 ∷ []) in
    omega (arith, made, few, lines, whole, behind, named, digest_length movie.cart)

abbrev head_front : List ℕ
head_front = format_line ++ (profile_line ++ codes "movie ")

joined : (a b c d e f g h : List ℕ) → a ++ (b ++ ((c ++ d ++ e ++ f ++ g) ++ h)) ≡ (a ++ (b ++ c)) ++ (d ++ (e ++ (f ++ (g ++ h))))
joined a b c d e f g h = simp append_assoc

head_parted : (text more : List ℕ) → head_of text more ≡ head_front ++ (decimal (length text) ++ 32 ∷ (encode_lower (sha256 text) ++ 10 ∷ (text ++ more)))
unfolding movie_line
head_parted text more = joined format_line profile_line (codes "movie ") (decimal (length text)) (codes " ") (encode_lower (sha256 text)) (codes "\n") (text ++ more)

-- a head has one text for its movie's
pub texts_same : (t u more other : List ℕ) → length t < 2 ^ 64 → length u < 2 ^ 64 → head_of t more ≡ head_of u other → (t ≡ u) × (more ≡ other)
texts_same t u more other few less e =
    let counted = append_cancel_left head_front _ _ (sym (head_parted t more) ∙ e ∙ head_parted u other) in
    let first = same_front 32 (decimal (length t)) (decimal (length u)) _ _ (decimal_no_space (length t) few) (decimal_no_space (length u) less) counted in
    let long : length t ≡ length u = decimal_injective (length t) (length u) few less first.0 in
    let hex : length (encode_lower (sha256 t)) ≡ length (encode_lower (sha256 u)) =
    omega (arith, hex_length lower_digits (sha256 t), hex_length lower_digits (sha256 u), length-sha256 t, length-sha256 u) in
    let second = same_long (encode_lower (sha256 t)) (encode_lower (sha256 u)) (10 ∷ (t ++ more)) (10 ∷ (u ++ other)) hex first.1 in
    same_long t u more other long (ap (drop 1) second.1)

together : (a b c d e : List ℕ) → (a ++ (b ++ (c ++ d))) ++ e ≡ a ++ (b ++ (c ++ (d ++ e)))
together a b c d e = simp append_assoc

-- a movie's head and what follows it
pub head_of_movie : (movie : MovieContent) (more : List ℕ) → head_text movie ++ more ≡ head_of (text2 movie) more
head_of_movie movie more = together format_line profile_line (movie_line (text2 movie)) (text2 movie) more

pub heads_same : (m n : MovieContent) (more other : List ℕ) → m.cart ≡ n.cart → length m.inputs ≤ most_inputs → length n.inputs ≤ most_inputs → head_of (text2 m) more ≡ head_of (text2 n) other → (m ≡ n) × (more ≡ other)
heads_same m n more other same few less e =
    let both = texts_same (text2 m) (text2 n) more other (text_short m few) (text_short n less) e in
    (same_text2 m n same few less both.0, both.1)

pub one_journal : (A : Type 0) (m n : MovieContent) (es fs : List (Entry A)) → m.cart ≡ n.cart → length m.inputs ≤ most_inputs → length n.inputs ≤ most_inputs → length es < 2 ^ 64 → length fs < 2 ^ 64 → AreEntries es → AreEntries fs
    → journal_text m es ≡ journal_text n fs → (m ≡ n) × (es ≡ fs)
one_journal A m n es fs same few less short brief fit are e =
    let both = heads_same m n (entry_lines 0 es) (entry_lines 0 fs) same few less (sym (head_of_movie m (entry_lines 0 es)) ∙ e ∙ head_of_movie n (entry_lines 0 fs)) in
    (both.0, lines_same 0 es fs (omega (arith, short)) (omega (arith, brief)) fit are both.1)
