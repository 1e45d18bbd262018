-- A line is the text of at most one command.
use Rattle.std.proofs.Common.{◌≡◌, ℕ, suc, ◌+◌, ◌*◌, ◌/◌, ◌%◌, ◌<◌, ◌≤◌, List, [], ◌∷◌, ◌++◌, length, drop, get_or, refl, sym, ap, subst, ◌∙◌, arith}
use Rattle.std.proofs.lemmas.Fmt.{decimal_injective}
use Rattle.std.specs.Prelude.{codes, decimal, replicate}
use Rattle.std.specs.List.{flat_map}
use Rattle.vcs_inputs.specs.declared.input.Input.{Input}
use Rattle.tas_movie.specs.Text.{frame_text}
use Rattle.tas_movie.proofs.TextLemmas.{shown_input-frame}
use Rattle.tas_language.specs.declared.command.Command.{Command}
use Rattle.tas_language.specs.declared.command.Command.TheVariants.{Load, Edit, Length, InputAt, Shot, Work}
use Rattle.tas_language.specs.declared.change.Change.TheVariants.{Insert, Replace, Delete}
use Rattle.tas_language.specs.declared.image.Image.{Image}
use Rattle.tas_language.specs.declared.image.Image.TheVariants.{Large, Small}
use Rattle.tas_language.specs.Commands.{Says, Loads, IsNumber, pair_text, frames_text}
use Rattle.byte_text.specs.Digits.{digit_of}
use Rattle.tas_language.specs.Parts.{Part, IsPart, AreParts, IsBytes, IsImageOf, hex_text, word_text, part_text, overwritten_by_all}
use Rattle.tas_language.proofs.PartLemmas.{digit_same, offset_same, same_word, word_no_space, end_of_parts, parts_begin}
use Rattle.tas_language.proofs.WordLemmas.{decimal_no_space}
use Rattle.byte_text.proofs.SplitLemmas.{same_front}

-- ---- images

bytes_same : (a b : List ℕ) → IsBytes a → IsBytes b → hex_text a ≡ hex_text b → a ≡ b
unfolding hex_text
bytes_same [] [] ha hb e = refl
bytes_same [] (y ∷ b) ha hb e = let l : 0 ≡ suc (length (digit_of (y % 16) ∷ hex_text b)) = ap length e in absurd (omega (arith, l))
bytes_same (x ∷ a) [] ha hb e = let l : suc (length (digit_of (x % 16) ∷ hex_text a)) ≡ 0 = ap length e in absurd (omega (arith, l))
bytes_same (x ∷ a) (y ∷ b) ha hb e =
    let lx : x < 256 = ha 0 in
    let ly : y < 256 = hb 0 in
    let h = digit_same (x / 16) (y / 16) (ap (λ (l : List ℕ). get_or l 0 0) e) (omega arith) (omega arith) in
    let l = digit_same (x % 16) (y % 16) (ap (λ (l : List ℕ). get_or l 1 0) e) (omega arith) (omega arith) in
    let same : x ≡ y = omega arith in
    ap (λ (n : ℕ). n ∷ a) same ∙ ap (λ (r : List ℕ). y ∷ r) (bytes_same a b (λ k. ha (suc k)) (λ k. hb (suc k)) (ap (λ (r : List ℕ). drop 2 r) e))

part_same : (size : ℕ) (p q : Part) → size ≤ 4096 → IsPart size p → IsPart size q → word_text p ≡ word_text q → p ≡ q
part_same size p q most ip iq e =
    let o = offset_same p.offset q.offset (omega (arith, ip.some, ip.within)) (omega (arith, iq.some, iq.within)) (ap (λ (l : List ℕ). get_or l 0 0 ∷ get_or l 1 0 ∷ get_or l 2 0 ∷ []) e) in
    let b = bytes_same p.bytes q.bytes ip.bytes iq.bytes (ap (λ (l : List ℕ). drop 4 l) e) in
    ap (λ (n : ℕ). let r : Part = record { offset = n; bytes = p.bytes } in r) o ∙ ap (λ (l : List ℕ). let r : Part = record { offset = q.offset; bytes = l } in r) b

parts_same : (size : ℕ) (ps qs : List Part) → size ≤ 4096 → AreParts size ps → AreParts size qs → flat_map part_text ps ≡ flat_map part_text qs → ps ≡ qs
unfolding AreParts
parts_same size [] [] most hp hq e = refl
parts_same size [] (q ∷ qs) most hp hq e = let l : 0 ≡ suc (length (word_text q ++ flat_map part_text qs)) = ap length e in absurd (omega (arith, l))
parts_same size (p ∷ ps) [] most hp hq e = let l : suc (length (word_text p ++ flat_map part_text ps)) ≡ 0 = ap length e in absurd (omega (arith, l))
parts_same size (p ∷ ps) (q ∷ qs) most hp hq e =
    let tails : word_text p ++ flat_map part_text ps ≡ word_text q ++ flat_map part_text qs = ap (drop 1) e in
    let both = same_word (word_text p) (word_text q) (flat_map part_text ps) (flat_map part_text qs) (word_no_space p) (word_no_space q) (end_of_parts ps) (end_of_parts qs) tails in
    ap (λ (r : Part). r ∷ ps) (part_same size p q most hp.0 hq.0 both.0) ∙ ap (λ (r : List Part). q ∷ r) (parts_same size ps qs most hp.1 hq.1 both.1)

image_same : (size : ℕ) (said a b : List ℕ) → size ≤ 4096 → IsImageOf size said a → IsImageOf size said b → a ≡ b
image_same size said a b most ia ib = ia.image_is ∙ ap (overwritten_by_all (replicate size 0)) (parts_same size ia.parts ib.parts most ia.are_parts ib.are_parts (sym ia.text ∙ ib.text)) ∙ sym ib.image_is

-- a line that `load2` begins is none that `load` begins
pub sizes_apart : (line small large : List ℕ) (image : List ℕ) → codes "load" ++ large ≡ codes "load2" ++ small → IsImageOf 4096 large image → ⊥
sizes_apart line small large image e is =
    let digit : get_or large 0 0 ≡ 50 = ap (λ (l : List ℕ). get_or l 4 0) e in
    let space : get_or large 0 0 ≡ 32 = ap (λ (l : List ℕ). get_or l 0 0) is.text ∙ parts_begin is.parts is.some in
    omega (arith, digit, space)

-- ---- numbers and frames

pub number_same : (m n : ℕ) → IsNumber m → IsNumber n → decimal m ≡ decimal n → m ≡ n
number_same m n lm ln e = decimal_injective m n (omega arith) (omega arith) e

pub number_before : (m n : ℕ) (x y : List ℕ) → IsNumber m → IsNumber n → decimal m ++ 32 ∷ x ≡ decimal n ++ 32 ∷ y → (m ≡ n) × (x ≡ y)
number_before m n x y lm ln e =
    let both = same_front 32 (decimal m) (decimal n) x y (decimal_no_space m (omega arith)) (decimal_no_space n (omega arith)) e in
    (number_same m n lm ln both.0, both.1)

pub frame_same : (i j : Input) → frame_text i ≡ frame_text j → i ≡ j
frame_same i j e = sym (shown_input-frame (frame_text j) i (sym e)) ∙ shown_input-frame (frame_text j) j refl

frames_same : (at count at' count' : ℕ) (input input' : Input) → IsNumber at → IsNumber count → IsNumber at' → IsNumber count' → frames_text at count input ≡ frames_text at' count' input'
    → (at ≡ at') × (count ≡ count') × (input ≡ input')
frames_same at count at' count' input input' la lc la' lc' e =
    let a = number_before at at' (decimal count ++ 32 ∷ frame_text input) (decimal count' ++ 32 ∷ frame_text input') la la' e in
    let c = number_before count count' (frame_text input) (frame_text input') lc lc' a.1 in
    (a.0, c.0, frame_same input input' c.1)

-- ---- commands

-- two letters of a line that tell the commands apart
abbrev letters : List ℕ → ℕ
letters line = 256 * get_or line 0 0 + get_or line 2 0

load_letters : (line : List ℕ) (image : Image) → Loads line image → letters line ≡ 27745
load_letters line (Large image) p = ap letters p.1
load_letters line (Small image) p = ap letters p.1

load_same : (line : List ℕ) (image image' : Image) → Loads line image → Loads line image' → image ≡ image'
load_same line (Large image) (Large image') p q =
    let same : p.0 ≡ q.0 = ap (λ (l : List ℕ). drop 4 l) (sym p.1 ∙ q.1) in
    ap Large (image_same 4096 q.0 image image' (omega arith) (subst (λ (l : List ℕ). IsImageOf 4096 l image) same p.2) q.2)
load_same line (Small image) (Small image') p q =
    let same : p.0 ≡ q.0 = ap (λ (l : List ℕ). drop 5 l) (sym p.1 ∙ q.1) in
    ap Small (image_same 2048 q.0 image image' (omega arith) (subst (λ (l : List ℕ). IsImageOf 2048 l image) same p.2) q.2)
load_same line (Large image) (Small image') p q = absurd (sizes_apart line q.0 p.0 image (sym p.1 ∙ q.1) p.2)
load_same line (Small image) (Large image') p q = absurd (sizes_apart line p.0 q.0 image' (sym q.1 ∙ p.1) q.2)

pub one_command : (line : List ℕ) (a b : Command) → Says line a → Says line b → a ≡ b
one_command line (Load image) (Load image') p q = ap Load (load_same line image image' p q)
one_command line (Load image) (Edit (Insert at' count' input')) p q = let e : ◌≡◌ {A = ℕ} 27745 26995 = sym (load_letters line image p) ∙ ap letters q.0 in absurd (omega (arith, e))
one_command line (Load image) (Edit (Replace at' count' input')) p q = let e : ◌≡◌ {A = ℕ} 27745 29296 = sym (load_letters line image p) ∙ ap letters q.0 in absurd (omega (arith, e))
one_command line (Load image) (Edit (Delete at' count')) p q = let e : ◌≡◌ {A = ℕ} 27745 25708 = sym (load_letters line image p) ∙ ap letters q.0 in absurd (omega (arith, e))
one_command line (Load image) Length p q = let e : ◌≡◌ {A = ℕ} 27745 27758 = sym (load_letters line image p) ∙ ap letters q in absurd (omega (arith, e))
one_command line (Load image) (InputAt frame') p q = let e : ◌≡◌ {A = ℕ} 27745 26992 = sym (load_letters line image p) ∙ ap letters q.0 in absurd (omega (arith, e))
one_command line (Load image) (Shot frame') p q = let e : ◌≡◌ {A = ℕ} 27745 29551 = sym (load_letters line image p) ∙ ap letters q.0 in absurd (omega (arith, e))
one_command line (Load image) (Work frame') p q = let e : ◌≡◌ {A = ℕ} 27745 30578 = sym (load_letters line image p) ∙ ap letters q.0 in absurd (omega (arith, e))
one_command line (Edit (Insert at count input)) (Load image') p q = let e : ◌≡◌ {A = ℕ} 26995 27745 = sym (ap letters p.0) ∙ load_letters line image' q in absurd (omega (arith, e))
one_command line (Edit (Insert at count input)) (Edit (Insert at' count' input')) p q =
    let s = frames_same at count at' count' input input' p.1.0 p.1.1 q.1.0 q.1.1 (ap (λ (l : List ℕ). drop 7 l) (sym p.0 ∙ q.0)) in
    ap Edit (ap (λ (n : ℕ). Insert n count input) s.0 ∙ ap (λ (n : ℕ). Insert at' n input) s.1 ∙ ap (Insert at' count') s.2)
one_command line (Edit (Insert at count input)) (Edit (Replace at' count' input')) p q = let e : ◌≡◌ {A = ℕ} 26995 29296 = ap letters (sym p.0 ∙ q.0) in absurd (omega (arith, e))
one_command line (Edit (Insert at count input)) (Edit (Delete at' count')) p q = let e : ◌≡◌ {A = ℕ} 26995 25708 = ap letters (sym p.0 ∙ q.0) in absurd (omega (arith, e))
one_command line (Edit (Insert at count input)) Length p q = let e : ◌≡◌ {A = ℕ} 26995 27758 = ap letters (sym p.0 ∙ q) in absurd (omega (arith, e))
one_command line (Edit (Insert at count input)) (InputAt frame') p q = let e : ◌≡◌ {A = ℕ} 26995 26992 = ap letters (sym p.0 ∙ q.0) in absurd (omega (arith, e))
one_command line (Edit (Insert at count input)) (Shot frame') p q = let e : ◌≡◌ {A = ℕ} 26995 29551 = ap letters (sym p.0 ∙ q.0) in absurd (omega (arith, e))
one_command line (Edit (Insert at count input)) (Work frame') p q = let e : ◌≡◌ {A = ℕ} 26995 30578 = ap letters (sym p.0 ∙ q.0) in absurd (omega (arith, e))
one_command line (Edit (Replace at count input)) (Load image') p q = let e : ◌≡◌ {A = ℕ} 29296 27745 = sym (ap letters p.0) ∙ load_letters line image' q in absurd (omega (arith, e))
one_command line (Edit (Replace at count input)) (Edit (Insert at' count' input')) p q = let e : ◌≡◌ {A = ℕ} 29296 26995 = ap letters (sym p.0 ∙ q.0) in absurd (omega (arith, e))
one_command line (Edit (Replace at count input)) (Edit (Replace at' count' input')) p q =
    let s = frames_same at count at' count' input input' p.1.0 p.1.1 q.1.0 q.1.1 (ap (λ (l : List ℕ). drop 8 l) (sym p.0 ∙ q.0)) in
    ap Edit (ap (λ (n : ℕ). Replace n count input) s.0 ∙ ap (λ (n : ℕ). Replace at' n input) s.1 ∙ ap (Replace at' count') s.2)
one_command line (Edit (Replace at count input)) (Edit (Delete at' count')) p q = let e : ◌≡◌ {A = ℕ} 29296 25708 = ap letters (sym p.0 ∙ q.0) in absurd (omega (arith, e))
one_command line (Edit (Replace at count input)) Length p q = let e : ◌≡◌ {A = ℕ} 29296 27758 = ap letters (sym p.0 ∙ q) in absurd (omega (arith, e))
one_command line (Edit (Replace at count input)) (InputAt frame') p q = let e : ◌≡◌ {A = ℕ} 29296 26992 = ap letters (sym p.0 ∙ q.0) in absurd (omega (arith, e))
one_command line (Edit (Replace at count input)) (Shot frame') p q = let e : ◌≡◌ {A = ℕ} 29296 29551 = ap letters (sym p.0 ∙ q.0) in absurd (omega (arith, e))
one_command line (Edit (Replace at count input)) (Work frame') p q = let e : ◌≡◌ {A = ℕ} 29296 30578 = ap letters (sym p.0 ∙ q.0) in absurd (omega (arith, e))
one_command line (Edit (Delete at count)) (Load image') p q = let e : ◌≡◌ {A = ℕ} 25708 27745 = sym (ap letters p.0) ∙ load_letters line image' q in absurd (omega (arith, e))
one_command line (Edit (Delete at count)) (Edit (Insert at' count' input')) p q = let e : ◌≡◌ {A = ℕ} 25708 26995 = ap letters (sym p.0 ∙ q.0) in absurd (omega (arith, e))
one_command line (Edit (Delete at count)) (Edit (Replace at' count' input')) p q = let e : ◌≡◌ {A = ℕ} 25708 29296 = ap letters (sym p.0 ∙ q.0) in absurd (omega (arith, e))
one_command line (Edit (Delete at count)) (Edit (Delete at' count')) p q =
    let e : pair_text at count ≡ pair_text at' count' = ap (λ (l : List ℕ). drop 7 l) (sym p.0 ∙ q.0) in
    let s = number_before at at' (decimal count) (decimal count') p.1.0 q.1.0 e in
    ap Edit (ap (λ (n : ℕ). Delete n count) s.0 ∙ ap (Delete at') (number_same count count' p.1.1 q.1.1 s.1))
one_command line (Edit (Delete at count)) Length p q = let e : ◌≡◌ {A = ℕ} 25708 27758 = ap letters (sym p.0 ∙ q) in absurd (omega (arith, e))
one_command line (Edit (Delete at count)) (InputAt frame') p q = let e : ◌≡◌ {A = ℕ} 25708 26992 = ap letters (sym p.0 ∙ q.0) in absurd (omega (arith, e))
one_command line (Edit (Delete at count)) (Shot frame') p q = let e : ◌≡◌ {A = ℕ} 25708 29551 = ap letters (sym p.0 ∙ q.0) in absurd (omega (arith, e))
one_command line (Edit (Delete at count)) (Work frame') p q = let e : ◌≡◌ {A = ℕ} 25708 30578 = ap letters (sym p.0 ∙ q.0) in absurd (omega (arith, e))
one_command line Length (Load image') p q = let e : ◌≡◌ {A = ℕ} 27758 27745 = sym (ap letters p) ∙ load_letters line image' q in absurd (omega (arith, e))
one_command line Length (Edit (Insert at' count' input')) p q = let e : ◌≡◌ {A = ℕ} 27758 26995 = ap letters (sym p ∙ q.0) in absurd (omega (arith, e))
one_command line Length (Edit (Replace at' count' input')) p q = let e : ◌≡◌ {A = ℕ} 27758 29296 = ap letters (sym p ∙ q.0) in absurd (omega (arith, e))
one_command line Length (Edit (Delete at' count')) p q = let e : ◌≡◌ {A = ℕ} 27758 25708 = ap letters (sym p ∙ q.0) in absurd (omega (arith, e))
one_command line Length Length p q = refl
one_command line Length (InputAt frame') p q = let e : ◌≡◌ {A = ℕ} 27758 26992 = ap letters (sym p ∙ q.0) in absurd (omega (arith, e))
one_command line Length (Shot frame') p q = let e : ◌≡◌ {A = ℕ} 27758 29551 = ap letters (sym p ∙ q.0) in absurd (omega (arith, e))
one_command line Length (Work frame') p q = let e : ◌≡◌ {A = ℕ} 27758 30578 = ap letters (sym p ∙ q.0) in absurd (omega (arith, e))
one_command line (InputAt frame) (Load image') p q = let e : ◌≡◌ {A = ℕ} 26992 27745 = sym (ap letters p.0) ∙ load_letters line image' q in absurd (omega (arith, e))
one_command line (InputAt frame) (Edit (Insert at' count' input')) p q = let e : ◌≡◌ {A = ℕ} 26992 26995 = ap letters (sym p.0 ∙ q.0) in absurd (omega (arith, e))
one_command line (InputAt frame) (Edit (Replace at' count' input')) p q = let e : ◌≡◌ {A = ℕ} 26992 29296 = ap letters (sym p.0 ∙ q.0) in absurd (omega (arith, e))
one_command line (InputAt frame) (Edit (Delete at' count')) p q = let e : ◌≡◌ {A = ℕ} 26992 25708 = ap letters (sym p.0 ∙ q.0) in absurd (omega (arith, e))
one_command line (InputAt frame) Length p q = let e : ◌≡◌ {A = ℕ} 26992 27758 = ap letters (sym p.0 ∙ q) in absurd (omega (arith, e))
one_command line (InputAt frame) (InputAt frame') p q = ap InputAt (number_same frame frame' p.1 q.1 (ap (λ (l : List ℕ). drop 6 l) (sym p.0 ∙ q.0)))
one_command line (InputAt frame) (Shot frame') p q = let e : ◌≡◌ {A = ℕ} 26992 29551 = ap letters (sym p.0 ∙ q.0) in absurd (omega (arith, e))
one_command line (InputAt frame) (Work frame') p q = let e : ◌≡◌ {A = ℕ} 26992 30578 = ap letters (sym p.0 ∙ q.0) in absurd (omega (arith, e))
one_command line (Shot frame) (Load image') p q = let e : ◌≡◌ {A = ℕ} 29551 27745 = sym (ap letters p.0) ∙ load_letters line image' q in absurd (omega (arith, e))
one_command line (Shot frame) (Edit (Insert at' count' input')) p q = let e : ◌≡◌ {A = ℕ} 29551 26995 = ap letters (sym p.0 ∙ q.0) in absurd (omega (arith, e))
one_command line (Shot frame) (Edit (Replace at' count' input')) p q = let e : ◌≡◌ {A = ℕ} 29551 29296 = ap letters (sym p.0 ∙ q.0) in absurd (omega (arith, e))
one_command line (Shot frame) (Edit (Delete at' count')) p q = let e : ◌≡◌ {A = ℕ} 29551 25708 = ap letters (sym p.0 ∙ q.0) in absurd (omega (arith, e))
one_command line (Shot frame) Length p q = let e : ◌≡◌ {A = ℕ} 29551 27758 = ap letters (sym p.0 ∙ q) in absurd (omega (arith, e))
one_command line (Shot frame) (InputAt frame') p q = let e : ◌≡◌ {A = ℕ} 29551 26992 = ap letters (sym p.0 ∙ q.0) in absurd (omega (arith, e))
one_command line (Shot frame) (Shot frame') p q = ap Shot (number_same frame frame' p.1 q.1 (ap (λ (l : List ℕ). drop 5 l) (sym p.0 ∙ q.0)))
one_command line (Shot frame) (Work frame') p q = let e : ◌≡◌ {A = ℕ} 29551 30578 = ap letters (sym p.0 ∙ q.0) in absurd (omega (arith, e))
one_command line (Work frame) (Load image') p q = let e : ◌≡◌ {A = ℕ} 30578 27745 = sym (ap letters p.0) ∙ load_letters line image' q in absurd (omega (arith, e))
one_command line (Work frame) (Edit (Insert at' count' input')) p q = let e : ◌≡◌ {A = ℕ} 30578 26995 = ap letters (sym p.0 ∙ q.0) in absurd (omega (arith, e))
one_command line (Work frame) (Edit (Replace at' count' input')) p q = let e : ◌≡◌ {A = ℕ} 30578 29296 = ap letters (sym p.0 ∙ q.0) in absurd (omega (arith, e))
one_command line (Work frame) (Edit (Delete at' count')) p q = let e : ◌≡◌ {A = ℕ} 30578 25708 = ap letters (sym p.0 ∙ q.0) in absurd (omega (arith, e))
one_command line (Work frame) Length p q = let e : ◌≡◌ {A = ℕ} 30578 27758 = ap letters (sym p.0 ∙ q) in absurd (omega (arith, e))
one_command line (Work frame) (InputAt frame') p q = let e : ◌≡◌ {A = ℕ} 30578 26992 = ap letters (sym p.0 ∙ q.0) in absurd (omega (arith, e))
one_command line (Work frame) (Shot frame') p q = let e : ◌≡◌ {A = ℕ} 30578 29551 = ap letters (sym p.0 ∙ q.0) in absurd (omega (arith, e))
one_command line (Work frame) (Work frame') p q = ap Work (number_same frame frame' p.1 q.1 (ap (λ (l : List ℕ). drop 5 l) (sym p.0 ∙ q.0)))
