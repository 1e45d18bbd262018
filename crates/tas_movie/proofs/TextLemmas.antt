-- Lines of bytes, and the frames among them; the older text.
use Rattle.std.proofs.Common.{◌≡◌, ℕ, zero, suc, ◌+◌, ◌/◌, ◌%◌, ◌<◌, ◌≤◌, ◌&&◌, ◌||◌, Bool, true, false, not, cond, eqb, List, [], ◌∷◌, ◌++◌, length, get_or, take, drop, Option, None, refl, sym, ap, subst, ◌∙◌, arith, append_assoc}
use Rattle.std.specs.Prelude.{codes}
use Rattle.std.specs.List.{flat_map}
use Rattle.std.specs.Str.{bytes_eq}
use Rattle.std.proofs.lemmas.Bool.{ne_eqb, eq-eqb, eqb-true, eqb-false, false≢true, le-leb, lt-leb, and_parts, and_from, not-true}
use Rattle.std.proofs.lemmas.List.{append_cancel_left, append-nil, length-append, take_more, take_all, drop_more, take-append-drop, flat_map_more}
use Rattle.std.proofs.lemmas.Slice.Eq.{bytes_eq-Decides}
use Rattle.std.proofs.Math.Seq.{get_or-append_seam}
use Rattle.sha2.specs.Sha256.{sha256}
use Rattle.hex.specs.Hex.{encode_with, encode_lower, lower_digits}
use Rattle.vcs_inputs.specs.declared.input.Input.{Input}
use Rattle.vcs_inputs.specs.declared.input.Stick.{Stick}
use Rattle.tas_movie.specs.declared.error.TextError.{TextError}
use Rattle.tas_movie.specs.declared.error.TextErrorKind.TheVariants.{Digest, Frame, End, TooMany}
use Rattle.tas_movie.specs.Content.{MovieContent}
use Rattle.tas_movie.specs.Text.{line, mark, stick_text, frame_text, frame_line, head_text1, head_text2, digest_text, text1, most_frames1}
use Rattle.tas_movie.specs.Fault.{SplitLines, split_lines, shown_input, frame_letters, may_stand, stand_for, is_frame, fault_at, frames_fault, head_fault, fault_by, fault}

-- ---- lines

-- no newline stands in the bytes
abbrev pub NoBreak : List ℕ → Type 0
NoBreak [] = Unit {0}
NoBreak (b ∷ bytes) = (b ≡ 10 → ⊥) × NoBreak bytes

pub NoBreak-push : (xs : List ℕ) (b : ℕ) → NoBreak xs → (b ≡ 10 → ⊥) → NoBreak (xs ++ b ∷ [])
NoBreak-push [] b h ne = (ne, tt)
NoBreak-push (x ∷ xs) b h ne = (h.0, NoBreak-push xs b h.1 ne)

pub NoBreak-append : (xs ys : List ℕ) → NoBreak xs → NoBreak ys → NoBreak (xs ++ ys)
NoBreak-append [] ys h k = k
NoBreak-append (x ∷ xs) ys h k = (h.0, NoBreak-append xs ys h.1 k)

-- bytes with no newline are a rest
pub split_lines-rest : (xs : List ℕ) → NoBreak xs → split_lines xs ≡ record { lines = []; rest = xs }
unfolding split_lines
split_lines-rest [] h = refl
split_lines-rest (x ∷ xs) h =
    let ih = split_lines-rest xs h.1 in
    rw (ne_eqb x 10 h.0, ih) refl

-- a line is the first one
pub split_lines-line : (xs rest : List ℕ) → NoBreak xs → split_lines (xs ++ 10 ∷ rest) ≡ record { lines = xs ∷ (split_lines rest).lines; rest = (split_lines rest).rest }
unfolding split_lines
split_lines-line [] rest h = refl
split_lines-line (x ∷ xs) rest h =
    let ih = split_lines-line xs rest h.1 in
    rw (ne_eqb x 10 h.0, ih) refl

pub no_break_more : (bytes : List ℕ) (at : ℕ) → at < length bytes → (get_or bytes at 0 ≡ 10 → ⊥) → NoBreak (take at bytes) → NoBreak (take (at + 1) bytes)
no_break_more bytes at lt ne h = subst NoBreak (sym (take_more bytes at 0 lt)) (NoBreak-push (take at bytes) (get_or bytes at 0) h ne)

pub no_break_all : (bytes : List ℕ) (at : ℕ) → length bytes ≤ at → NoBreak (take at bytes) → NoBreak bytes
no_break_all bytes at le h = subst NoBreak (take_all at bytes le) h

pub split_at_newline : (bytes : List ℕ) (at : ℕ) (tail : List ℕ) → at < length bytes → get_or bytes at 0 ≡ 10 → NoBreak (take at bytes) → tail ≡ drop (at + 1) bytes
    → split_lines bytes ≡ record { lines = take at bytes ∷ (split_lines tail).lines; rest = (split_lines tail).rest }
split_at_newline bytes at tail lt is h tail-is =
    let parts : bytes ≡ take at bytes ++ 10 ∷ tail = sym (take-append-drop at bytes) ∙ ap (λ (r : List ℕ). take at bytes ++ r) (drop_more bytes at 0 lt ∙ rw (is, tail-is) refl) in
    ap split_lines parts ∙ split_lines-line (take at bytes) tail h

-- what follows a line is shorter
pub shorter : (rest l after : List ℕ) → rest ≡ line l ++ after → length after < length rest
shorter rest l after is = let e : length rest ≡ length (line l ++ after) = ap length is in omega (arith, e, length-append (line l) after, length-append l (10 ∷ []))

-- where no byte is left, all was read
pub all_read : (bytes made rest : List ℕ) → bytes ≡ made ++ rest → length rest ≡ 0 → bytes ≡ made
all_read bytes made [] is none = is ∙ append-nil made
all_read bytes made (b ∷ rest) is none = absurd (omega arith)

-- ---- frames, one after the other

abbrev pub rest_fault : ℕ → List ℕ → Option TextError
rest_fault n bytes = fault_by (frames_fault n) bytes

pub frames_go_on : (n : ℕ) (rest l after : List ℕ) → split_lines rest ≡ record { lines = l ∷ (split_lines after).lines; rest = (split_lines after).rest } → n < most_frames1 → is_frame l ≡ true
    → rest_fault n rest ≡ rest_fault (n + 1) after
unfolding frames_fault
frames_go_on n rest l after is lt frame =
    ap (λ (x : SplitLines). frames_fault n x.lines x.rest) is ∙ rw (lt-leb most_frames1 n lt, frame) refl

pub frames_too_many : (n : ℕ) (rest l after : List ℕ) → split_lines rest ≡ record { lines = l ∷ (split_lines after).lines; rest = (split_lines after).rest } → most_frames1 ≤ n
    → rest_fault n rest ≡ fault_at (n + 3) TooMany
unfolding frames_fault
frames_too_many n rest l after is le =
    ap (λ (x : SplitLines). frames_fault n x.lines x.rest) is ∙ rw (le-leb most_frames1 n le) refl

pub frames_wrong : (n : ℕ) (rest l after : List ℕ) → split_lines rest ≡ record { lines = l ∷ (split_lines after).lines; rest = (split_lines after).rest } → n < most_frames1 → is_frame l ≡ false
    → rest_fault n rest ≡ fault_at (n + 3) Frame
unfolding frames_fault
frames_wrong n rest l after is lt frame =
    ap (λ (x : SplitLines). frames_fault n x.lines x.rest) is ∙ rw (lt-leb most_frames1 n lt, frame) refl

pub frames_unended : (n : ℕ) (rest : List ℕ) → split_lines rest ≡ record { lines = []; rest = rest } → (length rest ≡ 0 → ⊥) → rest_fault n rest ≡ fault_at (n + 3) End
unfolding frames_fault
frames_unended n [] is ne = absurd (ne refl)
frames_unended n (b ∷ rest) is ne = ap (λ (x : SplitLines). frames_fault n x.lines x.rest) is

pub frames_end : (n : ℕ) (rest : List ℕ) → length rest ≡ 0 → rest_fault n rest ≡ None
unfolding frames_fault split_lines
frames_end n [] e = refl
frames_end n (b ∷ rest) e = absurd (omega arith)

pub frames_read : (bytes : List ℕ) (old new : List Input) (rest l after : List ℕ) (i : Input) → bytes ≡ flat_map frame_line old ++ rest → rest ≡ line l ++ after → l ≡ frame_text i
    → new ≡ old ++ i ∷ [] → bytes ≡ flat_map frame_line new ++ after
frames_read bytes old new rest l after i is rest-is l-is new-is =
    is ∙ ap (λ (r : List ℕ). flat_map frame_line old ++ r) (rest-is ∙ ap (λ (x : List ℕ). line x ++ after) l-is)
    ∙ sym (append_assoc (flat_map frame_line old) (frame_line i) after)
    ∙ ap (λ (r : List ℕ). r ++ after) (flat_map_more frame_line [] old i ∙ ap (flat_map frame_line) (sym new-is))

-- ---- what is written is read

-- two joysticks are equal where their parts are
sticks : (a b c d e a' b' c' d' e' : Bool) → a ≡ a' → b ≡ b' → c ≡ c' → d ≡ d' → e ≡ e'
    → ◌≡◌ {A = Stick} (record { right = a; left = b; down = c; up = d; fire = e }) (record { right = a'; left = b'; down = c'; up = d'; fire = e' })
sticks a b c d e a' b' c' d' e' p q r s t = cc

-- two inputs are equal where their parts are
inputs : (a b a' b' : Stick) (c d e f g c' d' e' f' g' : Bool) → a ≡ a' → b ≡ b' → c ≡ c' → d ≡ d' → e ≡ e' → f ≡ f' → g ≡ g'
    → ◌≡◌ {A = Input} (record { left = a; right = b; reset = c; select = d; mono = e; left_a = f; right_a = g }) (record { left = a'; right = b'; reset = c'; select = d'; mono = e'; left_a = f'; right_a = g' })
inputs a b a' b' c d e f g c' d' e' f' g' p q r s t u v = cc

mark_read : (letter : ℕ) (b : Bool) → eqb 46 letter ≡ false → eqb (mark letter b) letter ≡ b
mark_read letter true ne = eq-eqb letter letter refl
mark_read letter false ne = ne

stick_read : (s : Stick) → ◌≡◌ {A = Stick} (record { right = eqb (mark 82 s.right) 82; left = eqb (mark 76 s.left) 76; down = eqb (mark 68 s.down) 68; up = eqb (mark 85 s.up) 85; fire = eqb (mark 70 s.fire) 70 }) s
stick_read s = sticks _ _ _ _ _ _ _ _ _ _ (mark_read 82 s.right refl) (mark_read 76 s.left refl) (mark_read 68 s.down refl) (mark_read 85 s.up refl) (mark_read 70 s.fire refl)

pub input_read : (i : Input) (rest : List ℕ) → shown_input (frame_text i ++ rest) ≡ i
input_read i rest = inputs _ _ _ _ _ _ _ _ _ _ _ _ _ _ (stick_read i.left) (stick_read i.right) (mark_read 114 i.reset refl) (mark_read 115 i.select refl) (mark_read 98 i.mono refl) (mark_read 65 i.left_a refl) (mark_read 66 i.right_a refl)

pub bytes_same : (xs ys : List ℕ) → xs ≡ ys → bytes_eq xs ys ≡ true
bytes_same xs ys e = (bytes_eq-Decides xs ys).1 e

-- ---- which lines are frames

mark_stands : (letter : ℕ) (b : Bool) → may_stand letter letter ≡ true → may_stand letter 46 ≡ true → may_stand letter (mark letter b) ≡ true
mark_stands letter true own dot = own
mark_stands letter false own dot = dot

frame_is : (i : Input) → is_frame (frame_text i) ≡ true
unfolding stand_for
frame_is i =
    and_from _ _ (mark_stands 82 i.left.right refl refl) (and_from _ _ (mark_stands 76 i.left.left refl refl) (and_from _ _ (mark_stands 68 i.left.down refl refl) (and_from _ _ (mark_stands 85 i.left.up refl refl)
    (and_from _ _ (mark_stands 70 i.left.fire refl refl) (and_from _ _ refl
    (and_from _ _ (mark_stands 82 i.right.right refl refl) (and_from _ _ (mark_stands 76 i.right.left refl refl) (and_from _ _ (mark_stands 68 i.right.down refl refl) (and_from _ _ (mark_stands 85 i.right.up refl refl)
    (and_from _ _ (mark_stands 70 i.right.fire refl refl) (and_from _ _ refl
    (and_from _ _ (mark_stands 114 i.reset refl refl) (and_from _ _ (mark_stands 115 i.select refl refl) (and_from _ _ (mark_stands 98 i.mono refl refl) (and_from _ _ (mark_stands 65 i.left_a refl refl)
    (and_from _ _ (mark_stands 66 i.right_a refl refl) refl))))))))))))))))

-- what stands in the places of some letters, the first of them at the k-th place of a line, where each is read as its letter or a dot
abbrev marks_at : ℕ → List ℕ → List ℕ → List ℕ
marks_at k [] l = []
marks_at k (letter ∷ letters) l = cond (eqb letter 32) 32 (mark letter (eqb (get_or l k 0) letter)) ∷ marks_at (k + 1) letters l

mark_back : (letter b : ℕ) (space is dot : Bool) → eqb letter 32 ≡ space → eqb b letter ≡ is → eqb b 46 ≡ dot → (is || (not space && dot)) ≡ true → cond space 32 (mark letter is) ≡ b
mark_back letter b true true dot s i d h = sym (eqb-true letter 32 s) ∙ sym (eqb-true b letter i)
mark_back letter b false true dot s i d h = sym (eqb-true b letter i)
mark_back letter b true false dot s i d h = absurd (false≢true h)
mark_back letter b false false true s i d h = sym (eqb-true b 46 d)
mark_back letter b false false false s i d h = absurd (false≢true h)

marks_back : (letters before l : List ℕ) → stand_for letters l ≡ true → marks_at (length before) letters (before ++ l) ≡ l
unfolding stand_for
marks_back [] before [] h = refl
marks_back [] before (b ∷ l) h = absurd (false≢true h)
marks_back (x ∷ letters) before [] h = absurd (false≢true h)
marks_back (x ∷ letters) before (b ∷ l) h =
    let both = and_parts (may_stand x b) (stand_for letters l) h in
    let here : get_or (before ++ b ∷ l) (length before) 0 ≡ b = get_or-append_seam before b l 0 in
    let first : cond (eqb x 32) 32 (mark x (eqb (get_or (before ++ b ∷ l) (length before) 0) x)) ≡ b =
    ap (λ (c : ℕ). cond (eqb x 32) 32 (mark x (eqb c x))) here ∙ mark_back x b _ _ _ refl refl refl both.0 in
    let place : length before + 1 ≡ length (before ++ b ∷ []) = omega (arith, length-append before (b ∷ [])) in
    let rest : marks_at (length before + 1) letters (before ++ b ∷ l) ≡ l =
    ap (λ (n : ℕ). marks_at n letters (before ++ b ∷ l)) place
    ∙ ap (marks_at (length (before ++ b ∷ [])) letters) (sym (append_assoc before (b ∷ []) l))
    ∙ marks_back letters (before ++ b ∷ []) l both.1 in
    ap (λ (c : ℕ). c ∷ marks_at (length before + 1) letters (before ++ b ∷ l)) first ∙ ap (λ (r : List ℕ). b ∷ r) rest

-- a frame is the text of the input that its letters show
pub frame_shown : (l : List ℕ) → is_frame l ≡ true → frame_text (shown_input l) ≡ l
frame_shown l h = marks_back frame_letters [] l h

-- a frame's text shows its input
pub shown_input-frame : (l : List ℕ) (i : Input) → l ≡ frame_text i → shown_input l ≡ i
shown_input-frame l i e = ap shown_input e ∙ input_read i []

-- an input's text is a frame
pub is_frame-frame : (l : List ℕ) (i : Input) → l ≡ frame_text i → is_frame l ≡ true
is_frame-frame l i e = ap is_frame e ∙ frame_is i

-- one text has one list of frames
pub frames_same : (a b : List Input) → flat_map frame_line a ≡ flat_map frame_line b → a ≡ b
frames_same [] [] e = refl
frames_same [] (y ∷ ys) e = absurd cc
frames_same (x ∷ xs) [] e = absurd cc
frames_same (x ∷ xs) (y ∷ ys) e =
    let heads : x ≡ y = sym (input_read x (10 ∷ flat_map frame_line xs)) ∙ ap shown_input e ∙ input_read y (10 ∷ flat_map frame_line ys) in
    let tails : flat_map frame_line xs ≡ flat_map frame_line ys = ap (drop 18) e in
    let rest = frames_same xs ys tails in
    rw (heads, rest) refl

pub movie_by_fields : (c d : List ℕ) (xs ys : List Input) → c ≡ d → xs ≡ ys → ◌≡◌ {A = MovieContent} (record { cart = c; inputs = xs }) (record { cart = d; inputs = ys })
movie_by_fields c d xs ys p q = cc

pub same_text1 : (a b : MovieContent) → a.cart ≡ b.cart → text1 a ≡ text1 b → a ≡ b
same_text1 a b same e =
    let body : line (digest_text a.cart) ++ flat_map frame_line a.inputs ≡ line (digest_text b.cart) ++ flat_map frame_line b.inputs = append_cancel_left (line head_text1) _ _ e in
    let frames : flat_map frame_line a.inputs ≡ flat_map frame_line b.inputs = append_cancel_left (line (digest_text b.cart)) _ _ (ap (λ (cart : List ℕ). line (digest_text cart) ++ flat_map frame_line a.inputs) (sym same) ∙ body) in
    movie_by_fields a.cart b.cart a.inputs b.inputs same (frames_same a.inputs b.inputs frames)

-- ---- a text has no fault

all_apart : List ℕ → Bool
all_apart [] = true
all_apart (b ∷ bytes) = not (eqb b 10) && all_apart bytes

apart_no_break : (xs : List ℕ) → all_apart xs ≡ true → NoBreak xs
unfolding all_apart
apart_no_break [] e = tt
apart_no_break (x ∷ xs) e =
    let both = and_parts (not (eqb x 10)) (all_apart xs) e in
    (eqb-false x 10 (not-true (eqb x 10) both.0), apart_no_break xs both.1)

at_no_break : (xs : List ℕ) (k : ℕ) → NoBreak xs → get_or xs k 0 ≡ 10 → ⊥
at_no_break [] k h e = omega arith
at_no_break (x ∷ xs) zero h e = h.0 e
at_no_break (x ∷ xs) (suc k) h e = at_no_break xs k h.1 e

digits_no_break : (t xs : List ℕ) → NoBreak t → NoBreak (encode_with t xs)
unfolding encode_with
digits_no_break t [] h = tt
digits_no_break t (b ∷ xs) h = (at_no_break t (b / 16) h, (at_no_break t (b % 16) h, digits_no_break t xs h))

pub digest_no_break : (cart : List ℕ) → NoBreak (digest_text cart)
unfolding digest_text all_apart
digest_no_break cart = NoBreak-append (codes "cart ") (encode_lower (sha256 cart)) (apart_no_break (codes "cart ") refl) (digits_no_break lower_digits (sha256 cart) (apart_no_break lower_digits refl))

mark_no_break : (letter : ℕ) (b : Bool) → eqb letter 10 ≡ false → mark letter b ≡ 10 → ⊥
mark_no_break letter true ne = eqb-false letter 10 ne
mark_no_break letter false ne = eqb-false 46 10 refl

stick_no_break : (s : Stick) → NoBreak (stick_text s)
stick_no_break s = (mark_no_break 82 s.right refl, (mark_no_break 76 s.left refl, (mark_no_break 68 s.down refl, (mark_no_break 85 s.up refl, (mark_no_break 70 s.fire refl, tt)))))

switches_text : Input → List ℕ
switches_text i = 32 ∷ mark 114 i.reset ∷ mark 115 i.select ∷ mark 98 i.mono ∷ mark 65 i.left_a ∷ mark 66 i.right_a ∷ []

switches_no_break : (i : Input) → NoBreak (switches_text i)
unfolding switches_text
switches_no_break i = (eqb-false 32 10 refl, (mark_no_break 114 i.reset refl, (mark_no_break 115 i.select refl, (mark_no_break 98 i.mono refl, (mark_no_break 65 i.left_a refl, (mark_no_break 66 i.right_a refl, tt))))))

pub frame_no_break : (i : Input) → NoBreak (frame_text i)
unfolding switches_text
frame_no_break i =
    let second : NoBreak (32 ∷ stick_text i.right) = (eqb-false 32 10 refl, stick_no_break i.right) in
    NoBreak-append (stick_text i.left) ((32 ∷ stick_text i.right) ++ switches_text i) (stick_no_break i.left)
    (NoBreak-append (32 ∷ stick_text i.right) (switches_text i) second (switches_no_break i))

frames_right : (n : ℕ) (inputs : List Input) → n + length inputs ≤ most_frames1 → rest_fault n (flat_map frame_line inputs) ≡ None
frames_right n [] le = frames_end n [] refl
frames_right n (x ∷ xs) le =
    frames_go_on n (flat_map frame_line (x ∷ xs)) (frame_text x) (flat_map frame_line xs) (split_lines-line (frame_text x) (flat_map frame_line xs) (frame_no_break x)) (omega arith) (frame_is x)
    ∙ frames_right (n + 1) xs (omega arith)

head1_no_break : NoBreak head_text1
unfolding all_apart
head1_no_break = apart_no_break head_text1 refl

pub head2_no_break : NoBreak head_text2
unfolding all_apart
head2_no_break = apart_no_break head_text2 refl

-- the lines of a text with this head are its two first ones and those that follow
pub text_lines : (head cart further : List ℕ) → NoBreak head → (split_lines (line head ++ (line (digest_text cart) ++ further))
    ≡ record { lines = head ∷ digest_text cart ∷ (split_lines further).lines; rest = (split_lines further).rest })
text_lines head cart further apart =
    let body : List ℕ = line (digest_text cart) ++ further in
    let first : split_lines (line head ++ body) ≡ record { lines = head ∷ (split_lines body).lines; rest = (split_lines body).rest } =
    ap split_lines (append_assoc head (10 ∷ []) body) ∙ split_lines-line head body apart in
    let second : split_lines body ≡ record { lines = digest_text cart ∷ (split_lines further).lines; rest = (split_lines further).rest } =
    ap split_lines (append_assoc (digest_text cart) (10 ∷ []) further) ∙ split_lines-line (digest_text cart) further (digest_no_break cart) in
    first ∙ ap (λ (x : SplitLines). let y : SplitLines = record { lines = head ∷ x.lines; rest = x.rest } in y) second

pub text1_right : (movie : MovieContent) → length movie.inputs ≤ most_frames1 → fault (text1 movie) movie.cart ≡ None
text1_right movie le =
    ap (λ (x : SplitLines). head_fault movie.cart x.lines x.rest) (text_lines head_text1 movie.cart (flat_map frame_line movie.inputs) head1_no_break)
    ∙ ap (λ (b : Bool). cond b (rest_fault 0 (flat_map frame_line movie.inputs)) (fault_at 2 Digest)) (bytes_same (digest_text movie.cart) (digest_text movie.cart) refl)
    ∙ frames_right 0 movie.inputs (omega arith)
