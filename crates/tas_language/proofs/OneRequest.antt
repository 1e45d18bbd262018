-- A line is the text of at most one request. Two requests of one line have the same first word, numbers and frame, and these make the
-- request: so a further request needs its rows, and none for each pair.
use Rattle.std.proofs.Common.{◌≡◌, ℕ, suc, ◌+◌, ◌%◌, ◌≤◌, ◌⊎◌, inl, inr, List, [], ◌∷◌, ◌++◌, length, drop, get_or, Bool, true, false, Option, Some, None, refl, sym, ap, subst, ◌∙◌, arith, append_assoc}
use Rattle.std.proofs.lemmas.List.{append-nil}
use Rattle.std.proofs.lemmas.Fmt.{decimal_by_steps}
use Rattle.std.proofs.lemmas.Bool.{false≢true, eq-eqb}
use Rattle.std.specs.Prelude.{codes, decimal, ◌==◌, if◌then◌else◌}
use Rattle.vcs_inputs.specs.Input.{no_input}
use Rattle.vcs_inputs.specs.declared.input.Input.{Input}
use Rattle.tas_movie.specs.Text.{frame_text, mark}
use Rattle.tas_language.specs.declared.command.Command.{Command}
use Rattle.tas_language.specs.declared.command.Command.TheVariants.{Load, Edit, Length, InputAt, Shot, Work}
use Rattle.tas_language.specs.declared.change.Change.{Change}
use Rattle.tas_language.specs.declared.change.Change.TheVariants.{Insert, Replace, Delete}
use Rattle.tas_language.specs.declared.image.Image.TheVariants.{Large, Small}
use Rattle.tas_language.specs.declared.retouch.Retouch.{Retouch}
use Rattle.tas_language.specs.declared.retouch.Retouch.TheVariants.{Press, Release, Repeat, Copy}
use Rattle.tas_language.specs.declared.edit_line.EditLine.{EditLine}
use Rattle.tas_language.specs.declared.edit_line.EditLine.TheVariants as edit
use Rattle.tas_language.specs.declared.request.Request.{Request}
use Rattle.tas_language.specs.declared.request.Request.TheVariants.{Do, Picture, Pictures, Ram, Digest, Lag, Inputs, Movie, States, Share, History, Version, Begin, Commit, Drop, Quit}
use Rattle.tas_language.specs.declared.request.Request.TheVariants as request
use Rattle.byte_text.specs.Splitting.{NoByte}
use Rattle.tas_language.specs.Commands.{IsNumber, Says, IsChangeLine, pair_text, triple_text, frames_text}
use Rattle.tas_language.specs.Parts.{IsWordEnd}
use Rattle.tas_language.specs.Requests.{Asks}
use Rattle.tas_language.specs.Retouches.{IsEditLine, IsRetouchLine}
use Rattle.tas_language.specs.Unheard.{first_word, is_line_word}
use Rattle.tas_language.proofs.UnheardLemmas.{first_split, first_whole}
use Rattle.tas_language.proofs.WordLemmas.{decimal_no_space}
use Rattle.tas_language.proofs.PartLemmas.{same_word, end_of_parts}
use Rattle.tas_language.proofs.OneCommand.{number_same, number_before, frame_same, one_command}

-- ---- words

abbrev is_word : List ℕ → List ℕ → Bool
is_word [] [] = true
is_word [] (y ∷ ys) = false
is_word (x ∷ xs) [] = false
is_word (x ∷ xs) (y ∷ ys) = if x == y then is_word xs ys else false

-- no space is in the bytes
abbrev is_one_word : List ℕ → Bool
is_one_word [] = true
is_one_word (x ∷ xs) = if x == 32 then false else is_one_word xs

no_space : (word : List ℕ) → is_one_word word ≡ true → NoByte 32 word
no_space [] is = tt
no_space (x ∷ xs) is = go (x == 32) refl is (no_space xs)
  where
    go : (b : Bool) → (x == 32) ≡ b → (if b then false else is_one_word xs) ≡ true → (is_one_word xs ≡ true → NoByte 32 xs) → (x ≡ 32 → ⊥) × NoByte 32 xs
    go true same e rest = absurd (false≢true e)
    go false other e rest = ((λ (s : x ≡ 32). false≢true (sym other ∙ eq-eqb x 32 s)), rest e)

-- ---- what follows the first word

-- numbers, then at most one frame, each after one space
abbrev after_word : List ℕ → Option Input → List ℕ
after_word [] None = []
after_word [] (Some input) = 32 ∷ frame_text input
after_word (n ∷ numbers) frame = 32 ∷ (decimal n ++ after_word numbers frame)

abbrev AreNumbers : List ℕ → Type 0
AreNumbers [] = Unit {0}
AreNumbers (n ∷ numbers) = IsNumber n × AreNumbers numbers

word_ends : (numbers : List ℕ) (frame : Option Input) → IsWordEnd (after_word numbers frame)
unfolding IsWordEnd
word_ends [] None = tt
word_ends [] (Some input) = refl
word_ends (n ∷ numbers) frame = refl

-- a number begins with a digit, whatever follows it
pub record BeginsWithDigit (bytes : List ℕ) : Type 0 where
  pub least : 48 ≤ get_or bytes 0 0
  pub most : get_or bytes 0 0 ≤ 57

pub number_begins : (n : ℕ) (more : List ℕ) → IsNumber n → BeginsWithDigit (decimal n ++ more)
number_begins n more small = decimal_by_steps (λ m ds. (rest : List ℕ) → BeginsWithDigit (ds ++ rest))
    (λ m digit rest. record { least = omega arith; most = omega arith })
    (λ m ds big h rest. subst BeginsWithDigit (sym (append_assoc ds ((48 + m % 10) ∷ []) rest)) (h ((48 + m % 10) ∷ rest)))
    n (omega arith) more

no_frame_begins : (input : Input) (bytes : List ℕ) → BeginsWithDigit bytes → frame_text input ≡ bytes → ⊥
no_frame_begins input bytes digit is = go input.left.right (ap (λ (l : List ℕ). get_or l 0 0) is)
  where
    go : (right : Bool) → mark 82 right ≡ get_or bytes 0 0 → ⊥
    go true e = let low = digit.least in let high = digit.most in omega (arith, e, low, high)
    go false e = let low = digit.least in let high = digit.most in omega (arith, e, low, high)

after_word_same : (ns ms : List ℕ) (f g : Option Input) → AreNumbers ns → AreNumbers ms → after_word ns f ≡ after_word ms g → (ns ≡ ms) × (f ≡ g)
after_word_same [] [] None None an am e = (refl, refl)
after_word_same [] [] None (Some j) an am e = let l : 0 ≡ suc (length (frame_text j)) = ap length e in absurd (omega (arith, l))
after_word_same [] [] (Some i) None an am e = let l : suc (length (frame_text i)) ≡ 0 = ap length e in absurd (omega (arith, l))
after_word_same [] [] (Some i) (Some j) an am e = (refl, ap (λ (k : Input). Some k) (frame_same i j (ap (drop 1) e)))
after_word_same [] (m ∷ ms) None g an am e = let l : 0 ≡ suc (length (decimal m ++ after_word ms g)) = ap length e in absurd (omega (arith, l))
after_word_same [] (m ∷ ms) (Some i) g an am e = absurd (no_frame_begins i (decimal m ++ after_word ms g) (number_begins m (after_word ms g) am.0) (ap (drop 1) e))
after_word_same (n ∷ ns) [] f None an am e = let l : suc (length (decimal n ++ after_word ns f)) ≡ 0 = ap length e in absurd (omega (arith, l))
after_word_same (n ∷ ns) [] f (Some j) an am e = absurd (no_frame_begins j (decimal n ++ after_word ns f) (number_begins n (after_word ns f) an.0) (ap (drop 1) (sym e)))
after_word_same (n ∷ ns) (m ∷ ms) f g an am e =
    let tails : decimal n ++ after_word ns f ≡ decimal m ++ after_word ms g = ap (drop 1) e in
    let both = same_word (decimal n) (decimal m) (after_word ns f) (after_word ms g)
    (decimal_no_space n (omega (arith, an.0))) (decimal_no_space m (omega (arith, am.0))) (word_ends ns f) (word_ends ms g) tails in
    let rest = after_word_same ns ms f g an.1 am.1 both.1 in
    let first : n ≡ m = number_same n m an.0 am.0 both.0 in
    (ap (λ (k : ℕ). k ∷ ns) first ∙ ap (λ (ks : List ℕ). m ∷ ks) rest.0, rest.1)

-- ---- requests that a script doesn't have

-- a line's first word, its numbers and its frame
record Words : Type 0 where
  pub word : List ℕ
  pub numbers : List ℕ
  pub frame : Option Input

abbrev input_of : Option Input → Input
input_of None = no_input
input_of (Some input) = input

-- of a script's line none are asked for
abbrev words_of : Request → Words
words_of (Do command) = record { word = []; numbers = []; frame = None }
words_of (request.Retouch (Press at count input)) = record { word = codes "press"; numbers = at ∷ count ∷ []; frame = Some input }
words_of (request.Retouch (Release at count input)) = record { word = codes "release"; numbers = at ∷ count ∷ []; frame = Some input }
words_of (request.Retouch (Repeat at count times)) = record { word = codes "repeat"; numbers = at ∷ count ∷ times ∷ []; frame = None }
words_of (request.Retouch (Copy from count at)) = record { word = codes "copy"; numbers = from ∷ count ∷ at ∷ []; frame = None }
words_of (Picture frame) = record { word = codes "picture"; numbers = frame ∷ []; frame = None }
words_of (Pictures from to) = record { word = codes "pictures"; numbers = from ∷ to ∷ []; frame = None }
words_of (Ram frames) = record { word = codes "ram"; numbers = frames ∷ []; frame = None }
words_of (Digest frame) = record { word = codes "digest"; numbers = frame ∷ []; frame = None }
words_of (Lag from to) = record { word = codes "lag"; numbers = from ∷ to ∷ []; frame = None }
words_of (Inputs from to) = record { word = codes "inputs"; numbers = from ∷ to ∷ []; frame = None }
words_of Movie = record { word = codes "movie"; numbers = []; frame = None }
words_of States = record { word = codes "states"; numbers = []; frame = None }
words_of Share = record { word = codes "share"; numbers = []; frame = None }
words_of (History from) = record { word = codes "history"; numbers = from ∷ []; frame = None }
words_of Version = record { word = codes "version"; numbers = []; frame = None }
words_of Begin = record { word = codes "begin"; numbers = []; frame = None }
words_of Commit = record { word = codes "commit"; numbers = []; frame = None }
words_of Drop = record { word = codes "drop"; numbers = []; frame = None }
words_of Quit = record { word = codes "quit"; numbers = []; frame = None }

-- the request of such words
abbrev request_of : Words → Request
request_of w =
    let a : ℕ = get_or w.numbers 0 0 in
    let b : ℕ = get_or w.numbers 1 0 in
    let c : ℕ = get_or w.numbers 2 0 in
    if is_word w.word (codes "press") then request.Retouch (Press a b (input_of w.frame))
    else if is_word w.word (codes "release") then request.Retouch (Release a b (input_of w.frame))
    else if is_word w.word (codes "repeat") then request.Retouch (Repeat a b c)
    else if is_word w.word (codes "copy") then request.Retouch (Copy a b c)
    else if is_word w.word (codes "picture") then Picture a
    else if is_word w.word (codes "pictures") then Pictures a b
    else if is_word w.word (codes "ram") then Ram a
    else if is_word w.word (codes "digest") then Digest a
    else if is_word w.word (codes "lag") then Lag a b
    else if is_word w.word (codes "inputs") then Inputs a b
    else if is_word w.word (codes "movie") then Movie
    else if is_word w.word (codes "states") then States
    else if is_word w.word (codes "share") then Share
    else if is_word w.word (codes "history") then History a
    else if is_word w.word (codes "version") then Version
    else if is_word w.word (codes "begin") then Begin
    else if is_word w.word (codes "commit") then Commit
    else if is_word w.word (codes "drop") then Drop
    else Quit

-- a line of a script has another first word
abbrev is_script_word : List ℕ → Bool
is_script_word word =
    if is_word word (codes "load") then true
    else if is_word word (codes "load2") then true
    else if is_word word (codes "insert") then true
    else if is_word word (codes "replace") then true
    else if is_word word (codes "delete") then true
    else if is_word word (codes "len") then true
    else if is_word word (codes "input") then true
    else if is_word word (codes "shot") then true
    else is_word word (codes "work")

record HasWords (line : List ℕ) (asked : Request) : Type 0 where
  pub text : line ≡ (words_of asked).word ++ after_word (words_of asked).numbers (words_of asked).frame
  pub numbers : AreNumbers (words_of asked).numbers
  pub one : is_one_word (words_of asked).word ≡ true
  pub makes : request_of (words_of asked) ≡ asked
  pub other : is_script_word (words_of asked).word ≡ false
  pub listed : is_line_word (words_of asked).word ≡ true

-- the line is a script's, or has its words
abbrev Known : List ℕ → Request → Type 0
Known line asked = ((command : Command) × (asked ≡ Do command) × Says line command) ⊎ HasWords line asked

one_number : (front : List ℕ) (n : ℕ) → front ++ 32 ∷ decimal n ≡ front ++ after_word (n ∷ []) None
one_number front n = ap (λ (l : List ℕ). front ++ 32 ∷ l) (sym (append-nil (decimal n)))

two_numbers : (front : List ℕ) (m n : ℕ) → front ++ 32 ∷ (decimal m ++ 32 ∷ decimal n) ≡ front ++ after_word (m ∷ n ∷ []) None
two_numbers front m n = ap (λ (l : List ℕ). front ++ 32 ∷ (decimal m ++ 32 ∷ l)) (sym (append-nil (decimal n)))

three_numbers : (front : List ℕ) (k m n : ℕ) → front ++ 32 ∷ (decimal k ++ 32 ∷ (decimal m ++ 32 ∷ decimal n)) ≡ front ++ after_word (k ∷ m ∷ n ∷ []) None
three_numbers front k m n = ap (λ (l : List ℕ). front ++ 32 ∷ (decimal k ++ 32 ∷ (decimal m ++ 32 ∷ l))) (sym (append-nil (decimal n)))

known : (line : List ℕ) (asked : Request) → Asks line asked → Known line asked
known line (Do command) p = inl (command, refl, p)
known line (request.Retouch (Press at count input)) p = inr (record { text = p.0; numbers = (p.1.0, (p.1.1, tt)); one = refl; makes = refl; other = refl; listed = refl })
known line (request.Retouch (Release at count input)) p = inr (record { text = p.0; numbers = (p.1.0, (p.1.1, tt)); one = refl; makes = refl; other = refl; listed = refl })
known line (request.Retouch (Repeat at count times)) p = inr (record { text = p.0 ∙ three_numbers (codes "repeat") at count times; numbers = (p.1.0, (p.1.1, (p.1.2, tt))); one = refl; makes = refl; other = refl; listed = refl })
known line (request.Retouch (Copy from count at)) p = inr (record { text = p.0 ∙ three_numbers (codes "copy") from count at; numbers = (p.1.0, (p.1.1, (p.1.2, tt))); one = refl; makes = refl; other = refl; listed = refl })
known line (Picture frame) p = inr (record { text = p.0 ∙ one_number (codes "picture") frame; numbers = (p.1, tt); one = refl; makes = refl; other = refl; listed = refl })
known line (Pictures from to) p = inr (record { text = p.0 ∙ two_numbers (codes "pictures") from to; numbers = (p.1, (p.2, tt)); one = refl; makes = refl; other = refl; listed = refl })
known line (Ram frames) p = inr (record { text = p.0 ∙ one_number (codes "ram") frames; numbers = (p.1, tt); one = refl; makes = refl; other = refl; listed = refl })
known line (Digest frame) p = inr (record { text = p.0 ∙ one_number (codes "digest") frame; numbers = (p.1, tt); one = refl; makes = refl; other = refl; listed = refl })
known line (Lag from to) p = inr (record { text = p.0 ∙ two_numbers (codes "lag") from to; numbers = (p.1, (p.2, tt)); one = refl; makes = refl; other = refl; listed = refl })
known line (Inputs from to) p = inr (record { text = p.0 ∙ two_numbers (codes "inputs") from to; numbers = (p.1, (p.2, tt)); one = refl; makes = refl; other = refl; listed = refl })
known line Movie p = inr (record { text = p ∙ sym (append-nil (codes "movie")); numbers = tt; one = refl; makes = refl; other = refl; listed = refl })
known line States p = inr (record { text = p ∙ sym (append-nil (codes "states")); numbers = tt; one = refl; makes = refl; other = refl; listed = refl })
known line Share p = inr (record { text = p ∙ sym (append-nil (codes "share")); numbers = tt; one = refl; makes = refl; other = refl; listed = refl })
known line (History from) p = inr (record { text = p.0 ∙ one_number (codes "history") from; numbers = (p.1, tt); one = refl; makes = refl; other = refl; listed = refl })
known line Version p = inr (record { text = p ∙ sym (append-nil (codes "version")); numbers = tt; one = refl; makes = refl; other = refl; listed = refl })
known line Begin p = inr (record { text = p ∙ sym (append-nil (codes "begin")); numbers = tt; one = refl; makes = refl; other = refl; listed = refl })
known line Commit p = inr (record { text = p ∙ sym (append-nil (codes "commit")); numbers = tt; one = refl; makes = refl; other = refl; listed = refl })
known line Drop p = inr (record { text = p ∙ sym (append-nil (codes "drop")); numbers = tt; one = refl; makes = refl; other = refl; listed = refl })
known line Quit p = inr (record { text = p ∙ sym (append-nil (codes "quit")); numbers = tt; one = refl; makes = refl; other = refl; listed = refl })

-- ---- the first word of a script's line

record HasScriptWord (line : List ℕ) : Type 0 where
  pub word : List ℕ
  pub rest : List ℕ
  pub text : line ≡ word ++ rest
  pub ends : IsWordEnd rest
  pub one : is_one_word word ≡ true
  pub is : is_script_word word ≡ true
  pub listed : is_line_word word ≡ true

scripted : (line : List ℕ) (command : Command) → Says line command → HasScriptWord line
unfolding IsWordEnd
scripted line (Load (Large image)) p = record { word = codes "load"; rest = p.0; text = p.1; ends = subst IsWordEnd (sym p.2.text) (end_of_parts p.2.parts); one = refl; is = refl; listed = refl }
scripted line (Load (Small image)) p = record { word = codes "load2"; rest = p.0; text = p.1; ends = subst IsWordEnd (sym p.2.text) (end_of_parts p.2.parts); one = refl; is = refl; listed = refl }
scripted line (Edit (Insert at count input)) p = record { word = codes "insert"; rest = 32 ∷ frames_text at count input; text = p.0; ends = refl; one = refl; is = refl; listed = refl }
scripted line (Edit (Replace at count input)) p = record { word = codes "replace"; rest = 32 ∷ frames_text at count input; text = p.0; ends = refl; one = refl; is = refl; listed = refl }
scripted line (Edit (Delete at count)) p = record { word = codes "delete"; rest = 32 ∷ pair_text at count; text = p.0; ends = refl; one = refl; is = refl; listed = refl }
scripted line Length p = record { word = codes "len"; rest = []; text = p ∙ sym (append-nil (codes "len")); ends = tt; one = refl; is = refl; listed = refl }
scripted line (InputAt frame) p = record { word = codes "input"; rest = 32 ∷ decimal frame; text = p.0; ends = refl; one = refl; is = refl; listed = refl }
scripted line (Shot frame) p = record { word = codes "shot"; rest = 32 ∷ decimal frame; text = p.0; ends = refl; one = refl; is = refl; listed = refl }
scripted line (Work frame) p = record { word = codes "work"; rest = 32 ∷ decimal frame; text = p.0; ends = refl; one = refl; is = refl; listed = refl }

-- ---- one request a line

not_script : (line : List ℕ) (command : Command) (asked : Request) → Says line command → HasWords line asked → ⊥
not_script line command asked says has =
    let script = scripted line command says in
    let w = words_of asked in
    let same = (same_word script.word w.word script.rest (after_word w.numbers w.frame) (no_space script.word script.one) (no_space w.word has.one)
    script.ends (word_ends w.numbers w.frame) (sym script.text ∙ has.text)).0 in
    false≢true (sym has.other ∙ ap is_script_word (sym same) ∙ script.is)

words_same : (line : List ℕ) (a b : Request) → HasWords line a → HasWords line b → a ≡ b
words_same line a b ha hb =
    let v = words_of a in
    let w = words_of b in
    let split = same_word v.word w.word (after_word v.numbers v.frame) (after_word w.numbers w.frame) (no_space v.word ha.one) (no_space w.word hb.one)
    (word_ends v.numbers v.frame) (word_ends w.numbers w.frame) (sym ha.text ∙ hb.text) in
    let rest = after_word_same v.numbers w.numbers v.frame w.frame ha.numbers hb.numbers split.1 in
    sym ha.makes
    ∙ ap (λ (l : List ℕ). let r : Words = record { word = l; numbers = v.numbers; frame = v.frame } in request_of r) split.0
    ∙ ap (λ (l : List ℕ). let r : Words = record { word = w.word; numbers = l; frame = v.frame } in request_of r) rest.0
    ∙ ap (λ (f : Option Input). let r : Words = record { word = w.word; numbers = w.numbers; frame = f } in request_of r) rest.1
    ∙ hb.makes

both_known : (line : List ℕ) (a b : Request) → Known line a → Known line b → a ≡ b
both_known line a b (inl p) (inl q) = p.1 ∙ ap Do (one_command line p.0 q.0 p.2 q.2) ∙ sym q.1
both_known line a b (inl p) (inr q) = absurd (not_script line p.0 b p.2 q)
both_known line a b (inr p) (inl q) = absurd (not_script line q.0 a q.2 p)
both_known line a b (inr p) (inr q) = words_same line a b p q

pub one_request : (line : List ℕ) (a b : Request) → Asks line a → Asks line b → a ≡ b
one_request line a b p q = both_known line a b (known line a p) (known line b q)

-- ---- the first word of a line that is understood

-- what stands before a space or the end
first_of : (word rest : List ℕ) → NoByte 32 word → IsWordEnd rest → first_word (word ++ rest) ≡ word
unfolding IsWordEnd
first_of word [] none ends = ap first_word (append-nil word) ∙ first_whole word none
first_of word (byte ∷ bytes) none ends = ap (λ (b : ℕ). first_word (word ++ b ∷ bytes)) ends ∙ first_split word bytes none

begins_known : (line : List ℕ) (asked : Request) → Known line asked → is_line_word (first_word line) ≡ true
begins_known line asked (inl p) =
    let script = scripted line p.0 p.2 in
    ap is_line_word (ap first_word script.text ∙ first_of script.word script.rest (no_space script.word script.one) script.ends) ∙ script.listed
begins_known line asked (inr has) =
    let w = words_of asked in
    ap is_line_word (ap first_word has.text ∙ first_of w.word (after_word w.numbers w.frame) (no_space w.word has.one) (word_ends w.numbers w.frame)) ∙ has.listed

pub begins_with_word : (line : List ℕ) (asked : Request) → Asks line asked → is_line_word (first_word line) ≡ true
begins_with_word line asked p = begins_known line asked (known line asked p)

-- ---- one line of `tas edit`

triple_same : (a b c a' b' c' : ℕ) → IsNumber a → IsNumber b → IsNumber c → IsNumber a' → IsNumber b' → IsNumber c' → triple_text a b c ≡ triple_text a' b' c'
    → (a ≡ a') × (b ≡ b') × (c ≡ c')
triple_same a b c a' b' c' la lb lc la' lb' lc' e =
    let first = number_before a a' (pair_text b c) (pair_text b' c') la la' e in
    let second = number_before b b' (decimal c) (decimal c') lb lb' first.1 in
    (first.0, second.0, number_same c c' lc lc' second.1)

-- the sixth byte is a letter, where a line of another kind has a digit or begins with another letter
other_is_no_change : (line more : List ℕ) (change : Change) → line ≡ codes "copy other " ++ more → IsChangeLine line change → ⊥
other_is_no_change line more (Insert at count input) is p = let e : ◌≡◌ {A = ℕ} 99 105 = ap (λ (l : List ℕ). get_or l 0 0) (sym is ∙ p.0) in omega (arith, e)
other_is_no_change line more (Replace at count input) is p = let e : ◌≡◌ {A = ℕ} 99 114 = ap (λ (l : List ℕ). get_or l 0 0) (sym is ∙ p.0) in omega (arith, e)
other_is_no_change line more (Delete at count) is p = let e : ◌≡◌ {A = ℕ} 99 100 = ap (λ (l : List ℕ). get_or l 0 0) (sym is ∙ p.0) in omega (arith, e)

other_is_no_retouch : (line more : List ℕ) (retouch : Retouch) → line ≡ codes "copy other " ++ more → IsRetouchLine line retouch → ⊥
other_is_no_retouch line more (Press at count input) is p = let e : ◌≡◌ {A = ℕ} 99 112 = ap (λ (l : List ℕ). get_or l 0 0) (sym is ∙ p.0) in omega (arith, e)
other_is_no_retouch line more (Release at count input) is p = let e : ◌≡◌ {A = ℕ} 99 114 = ap (λ (l : List ℕ). get_or l 0 0) (sym is ∙ p.0) in omega (arith, e)
other_is_no_retouch line more (Repeat at count times) is p = let e : ◌≡◌ {A = ℕ} 99 114 = ap (λ (l : List ℕ). get_or l 0 0) (sym is ∙ p.0) in omega (arith, e)
other_is_no_retouch line more (Copy from count at) is p =
    let high = (number_begins from (32 ∷ pair_text count at) p.1.0).most in
    let e : 111 ≡ get_or (decimal from ++ 32 ∷ pair_text count at) 0 0 = ap (λ (l : List ℕ). get_or l 5 0) (sym is ∙ p.0) in
    omega (arith, e, high)

pub one_edit_line : (line : List ℕ) (a b : EditLine) → IsEditLine line a → IsEditLine line b → a ≡ b
one_edit_line line (edit.Change change) (edit.Change change') p q = let e : Edit change ≡ Edit change' = one_command line (Edit change) (Edit change') p q in cc
one_edit_line line (edit.Change change) (edit.Retouch retouch') p q = let e : Do (Edit change) ≡ request.Retouch retouch' = one_request line (Do (Edit change)) (request.Retouch retouch') p q in cc
one_edit_line line (edit.Change change) (edit.CopyOther from' count' at') p q = absurd (other_is_no_change line (triple_text from' count' at') change q.0 p)
one_edit_line line (edit.Retouch retouch) (edit.Change change') p q = let e : request.Retouch retouch ≡ Do (Edit change') = one_request line (request.Retouch retouch) (Do (Edit change')) p q in cc
one_edit_line line (edit.Retouch retouch) (edit.Retouch retouch') p q = let e : request.Retouch retouch ≡ request.Retouch retouch' = one_request line (request.Retouch retouch) (request.Retouch retouch') p q in cc
one_edit_line line (edit.Retouch retouch) (edit.CopyOther from' count' at') p q = absurd (other_is_no_retouch line (triple_text from' count' at') retouch q.0 p)
one_edit_line line (edit.CopyOther from count at) (edit.Change change') p q = absurd (other_is_no_change line (triple_text from count at) change' p.0 q)
one_edit_line line (edit.CopyOther from count at) (edit.Retouch retouch') p q = absurd (other_is_no_retouch line (triple_text from count at) retouch' p.0 q)
one_edit_line line (edit.CopyOther from count at) (edit.CopyOther from' count' at') p q =
    let same = triple_same from count at from' count' at' p.1.0 p.1.1 p.1.2 q.1.0 q.1.1 q.1.2 (ap (λ (l : List ℕ). drop 11 l) (sym p.0 ∙ q.0)) in
    ap (λ (n : ℕ). edit.CopyOther n count at) same.0 ∙ ap (λ (n : ℕ). edit.CopyOther from' n at) same.1 ∙ ap (λ (n : ℕ). edit.CopyOther from' count' n) same.2
