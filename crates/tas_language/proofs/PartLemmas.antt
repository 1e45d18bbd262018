-- Digits, bytes and parts of a `load` line.
use Rattle.std.proofs.Common.{◌≡◌, ℕ, zero, suc, ◌+◌, ◌*◌, ◌/◌, ◌%◌, ◌<◌, ◌≤◌, List, [], ◌∷◌, ◌++◌, length, take, drop, get_or, refl, sym, ap, subst, ◌∙◌, arith, append_assoc}
use Rattle.std.proofs.Math.ListN.{set}
use Rattle.std.proofs.lemmas.List.{take_more, take_all, take_more_set, append-nil, length-append, length-drop, length-replicate, length-take-le}
use Rattle.std.proofs.Math.Seq.{take-append_seam, drop-append_seam}
use Rattle.std.proofs.lemmas.Bool.Decides.{nat_tests}
use Rattle.std.proofs.lemmas.List.{take-append-drop}
use Rattle.std.proofs.lemmas.Slice.{take-put_mid, drop-put_mid}
use borrow.Rule.Slice.PartMut.{put_mid}
use Rattle.std.proofs.lemmas.Grind.{common_steps}
use Rattle.std.specs.Prelude.{◌≢◌, replicate}
use Rattle.std.specs.List.{flat_map}
use Rattle.byte_text.specs.Splitting.{NoByte}
use Rattle.byte_text.specs.Digits.{digit_of}
use Rattle.tas_language.specs.Parts.{Part, IsPart, AreParts, IsBytes, IsWordEnd, IsImageOf, AreWritten, hex_text, offset_text, word_text, part_text, overwritten, overwritten_by_all}

-- ---- bytes of two digits

pub pair_read : (byte first second : ℕ) → hex_text (byte ∷ []) ≡ first ∷ second ∷ [] → (first ≡ digit_of (byte / 16)) × (second ≡ digit_of (byte % 16))
unfolding hex_text
pair_read byte first second is =
    let a : digit_of (byte / 16) ≡ first = ap (λ (l : List ℕ). get_or l 0 0) is in
    let b : digit_of (byte % 16) ≡ second = ap (λ (l : List ℕ). get_or l 1 0) is in
    (sym a, sym b)

pub pair_made : (high low first second : ℕ) → high < 16 → low < 16 → first ≡ digit_of high → second ≡ digit_of low → hex_text ((high * 16 + low) ∷ []) ≡ first ∷ second ∷ []
unfolding hex_text
pair_made high low first second lh ll a b =
    let h : (high * 16 + low) / 16 ≡ high = omega arith in
    let l : (high * 16 + low) % 16 ≡ low = omega arith in
    ap (λ (n : ℕ). digit_of n ∷ digit_of ((high * 16 + low) % 16) ∷ []) h
    ∙ ap (λ (n : ℕ). digit_of high ∷ digit_of n ∷ []) l
    ∙ ap (λ (n : ℕ). n ∷ digit_of low ∷ []) (sym a)
    ∙ ap (λ (n : ℕ). first ∷ n ∷ []) (sym b)

pub length-hex_text : (bytes : List ℕ) → length (hex_text bytes) ≡ 2 * length bytes
unfolding hex_text
length-hex_text [] = refl
length-hex_text (b ∷ bytes) = let ih = length-hex_text bytes in omega (arith, ih)

pub hex_text-append : (a b : List ℕ) → hex_text (a ++ b) ≡ hex_text a ++ hex_text b
unfolding hex_text
hex_text-append [] b = refl
hex_text-append (x ∷ a) b = ap (λ (l : List ℕ). digit_of (x / 16) ∷ digit_of (x % 16) ∷ l) (hex_text-append a b)

-- the k-th byte's digits are the 2 * k-th and the next
hex_at : (bytes : List ℕ) (k j : ℕ) → j ≡ 2 * k → k < length bytes → hex_text (get_or bytes k 0 ∷ []) ≡ get_or (hex_text bytes) j 0 ∷ get_or (hex_text bytes) (suc j) 0 ∷ []
unfolding hex_text
hex_at [] k j is lt = absurd (omega arith)
hex_at (b ∷ bytes) zero zero is lt = refl
hex_at (b ∷ bytes) zero (suc j) is lt = absurd (omega arith)
hex_at (b ∷ bytes) (suc k) zero is lt = absurd (omega arith)
hex_at (b ∷ bytes) (suc k) (suc zero) is lt = absurd (omega arith)
hex_at (b ∷ bytes) (suc k) (suc (suc j)) is lt = hex_at bytes k j (omega arith) (omega arith)

pub byte_read : (digits bytes : List ℕ) (k : ℕ) → digits ≡ hex_text bytes → k < length bytes
    → hex_text (get_or bytes k 0 ∷ []) ≡ get_or digits (2 * k) 0 ∷ get_or digits (2 * k + 1) 0 ∷ []
byte_read digits bytes k is lt =
    let next : suc (2 * k) ≡ 2 * k + 1 = omega arith in
    hex_at bytes k (2 * k) refl lt ∙ ap (λ (n : ℕ). get_or (hex_text bytes) (2 * k) 0 ∷ get_or (hex_text bytes) n 0 ∷ []) next
    ∙ ap (λ (l : List ℕ). get_or l (2 * k) 0 ∷ get_or l (2 * k + 1) 0 ∷ []) (sym is)

pub set_bytes : (room : List ℕ) (k byte : ℕ) → k < length room → IsBytes room → byte < 256 → IsBytes (set room k byte)
set_bytes room k byte lt h small = λ j. grind (arith, common_steps, h j)

-- one byte more was written
pub more_bytes : (digits room : List ℕ) (k byte : ℕ) → k < length room → 2 * k + 1 < length digits → take (2 * k) digits ≡ hex_text (take k room)
    → hex_text (byte ∷ []) ≡ get_or digits (2 * k) 0 ∷ get_or digits (2 * k + 1) 0 ∷ []
    → take (2 * (k + 1)) digits ≡ hex_text (take (k + 1) (set room k byte))
more_bytes digits room k byte lt le done is =
    let two : 2 * (k + 1) ≡ 2 * k + 1 + 1 = omega arith in
    let a = take_more digits (2 * k + 1) 0 le in
    let b = take_more digits (2 * k) 0 (omega arith) in
    ap (λ (n : ℕ). take n digits) two ∙ a ∙ ap (λ (l : List ℕ). l ++ get_or digits (2 * k + 1) 0 ∷ []) (b ∙ ap (λ (l : List ℕ). l ++ get_or digits (2 * k) 0 ∷ []) done)
    ∙ append_assoc (hex_text (take k room)) (get_or digits (2 * k) 0 ∷ []) (get_or digits (2 * k + 1) 0 ∷ [])
    ∙ ap (λ (l : List ℕ). hex_text (take k room) ++ l) (sym is)
    ∙ sym (hex_text-append (take k room) (byte ∷ []))
    ∙ ap hex_text (sym (take_more_set room k byte lt))

pub all_bytes : (digits room : List ℕ) (k : ℕ) → length digits ≡ 2 * length room → length room ≤ k → take (2 * k) digits ≡ hex_text (take k room) → digits ≡ hex_text room
all_bytes digits room k len le done = sym (take_all (2 * k) digits (omega arith)) ∙ done ∙ ap hex_text (take_all k room le)

-- ---- words

-- what is parted after the first word begins with the space
pub word_end_at : (bytes word more rest : List ℕ) → bytes ≡ word ++ 32 ∷ more → rest ≡ drop (length word) bytes → IsWordEnd rest
unfolding IsWordEnd
word_end_at bytes word more rest is r = rw (r, is, drop-append_seam word (32 ∷ more)) refl

pub word_at : (bytes word more front : List ℕ) → bytes ≡ word ++ 32 ∷ more → NoByte 32 word → front ≡ take (length word) bytes → NoByte 32 front
word_at bytes word more front is none f = rw (f, is, take-append_seam word (32 ∷ more)) none

pub word_end_none : (rest : List ℕ) → length rest ≡ 0 → IsWordEnd rest
unfolding IsWordEnd
word_end_none [] e = tt
word_end_none (b ∷ rest) e = absurd (omega arith)

pub digit_same : (a b : ℕ) → digit_of a ≡ digit_of b → a < 16 → b < 16 → a ≡ b
digit_same a b is la lb = grind (arith, nat_tests)

digit_no_space : (n : ℕ) → digit_of n ≡ 32 → ⊥
digit_no_space n is = grind (arith, nat_tests)

hex_no_space : (bytes : List ℕ) → NoByte 32 (hex_text bytes)
unfolding hex_text
hex_no_space [] = tt
hex_no_space (b ∷ bytes) = (digit_no_space (b / 16), (digit_no_space (b % 16), hex_no_space bytes))

pub word_no_space : (part : Part) → NoByte 32 (word_text part)
word_no_space part =
    let mark : 61 ≡ 32 → ⊥ = (λ (e : ◌≡◌ {A = ℕ} 61 32). omega (arith, e)) in
    (digit_no_space (part.offset / 256), (digit_no_space (part.offset % 256 / 16), (digit_no_space (part.offset % 16), (mark, hex_no_space part.bytes))))

pub offset_same : (a b : ℕ) → a < 4096 → b < 4096 → offset_text a ≡ offset_text b → a ≡ b
offset_same a b la lb is =
    let h = digit_same (a / 256) (b / 256) (ap (λ (l : List ℕ). get_or l 0 0) is) (omega arith) (omega arith) in
    let m = digit_same (a % 256 / 16) (b % 256 / 16) (ap (λ (l : List ℕ). get_or l 1 0) is) (omega arith) (omega arith) in
    let l = digit_same (a % 16) (b % 16) (ap (λ (l : List ℕ). get_or l 2 0) is) (omega arith) (omega arith) in
    omega arith

pub length-word_text : (part : Part) → length (word_text part) ≡ 4 + 2 * length part.bytes
length-word_text part = let l = length-hex_text part.bytes in omega (arith, l)

-- the offset and the digits of a word
pub word_read : (word digits : List ℕ) (part : Part) → word ≡ word_text part → digits ≡ drop 4 word
    → (offset_text part.offset ≡ get_or word 0 0 ∷ get_or word 1 0 ∷ get_or word 2 0 ∷ []) × (get_or word 3 0 ≡ 61) × (digits ≡ hex_text part.bytes)
word_read word digits part is d = (
  sym (ap (λ (l : List ℕ). get_or l 0 0 ∷ get_or l 1 0 ∷ get_or l 2 0 ∷ []) is),
  ap (λ (l : List ℕ). get_or l 3 0) is,
  d ∙ ap (λ (l : List ℕ). drop 4 l) is,
)

four_more : (word : List ℕ) → 4 < length word → word ≡ get_or word 0 0 ∷ get_or word 1 0 ∷ get_or word 2 0 ∷ get_or word 3 0 ∷ drop 4 word
four_more [] lt = absurd (omega arith)
four_more (a ∷ []) lt = absurd (omega arith)
four_more (a ∷ b ∷ []) lt = absurd (omega arith)
four_more (a ∷ b ∷ c ∷ []) lt = absurd (omega arith)
four_more (a ∷ b ∷ c ∷ d ∷ rest) lt = refl

pub word_made : (word digits bytes : List ℕ) (offset : ℕ) → 4 < length word → digits ≡ drop 4 word → get_or word 3 0 ≡ 61 → offset_text offset ≡ get_or word 0 0 ∷ get_or word 1 0 ∷ get_or word 2 0 ∷ []
    → digits ≡ hex_text bytes → word ≡ word_text (record { offset = offset; bytes = bytes })
word_made word digits bytes offset lt d mark o is =
    four_more word lt
    ∙ ap (λ (n : ℕ). get_or word 0 0 ∷ get_or word 1 0 ∷ get_or word 2 0 ∷ n ∷ drop 4 word) mark
    ∙ ap (λ (l : List ℕ). get_or word 0 0 ∷ get_or word 1 0 ∷ get_or word 2 0 ∷ 61 ∷ l) (sym d ∙ is)
    ∙ ap (λ (l : List ℕ). l ++ 61 ∷ hex_text bytes) (sym o)

-- ---- a word and what follows it

pub same_word : (a b x y : List ℕ) → NoByte 32 a → NoByte 32 b → IsWordEnd x → IsWordEnd y → a ++ x ≡ b ++ y → (a ≡ b) × (x ≡ y)
unfolding IsWordEnd
same_word [] [] x y ha hb ex ey e = (refl, e)
same_word [] (k ∷ b) [] y ha hb ex ey e = cc
same_word [] (k ∷ b) (m ∷ x) y ha hb ex ey e = let t : k ≡ 32 = cc in absurd (hb.0 t)
same_word (k ∷ a) [] x [] ha hb ex ey e = cc
same_word (k ∷ a) [] x (m ∷ y) ha hb ex ey e = let t : k ≡ 32 = cc in absurd (ha.0 t)
same_word (k ∷ a) (m ∷ b) x y ha hb ex ey e =
    let head : k ≡ m = cc in
    let tail : a ++ x ≡ b ++ y = cc in
    let both = same_word a b x y ha.1 hb.1 ex ey tail in
    let front : a ≡ b = both.0 in
    let whole : k ∷ a ≡ m ∷ b = cc in
    (whole, both.1)

-- a word and its end, after a space
pub spaced : (text : List ℕ) (first : ℕ) (more word rest : List ℕ) → text ≡ first ∷ more → first ≡ 32 → more ≡ word ++ rest → text ≡ 32 ∷ word ++ rest
spaced text first more word rest whole is w = whole ∙ ap (λ (n : ℕ). n ∷ more) is ∙ ap (λ (l : List ℕ). 32 ∷ l) w

pub word_of : (text word rest more : List ℕ) (part : Part) → text ≡ 32 ∷ word ++ rest → NoByte 32 word → IsWordEnd rest → IsWordEnd more → text ≡ part_text part ++ more → word ≡ word_text part
word_of text word rest more part a n e e' b =
    let tails : word ++ rest ≡ word_text part ++ more = ap (drop 1) (sym a ∙ b) in
    (same_word word (word_text part) rest more n (word_no_space part) e e' tails).0

-- ---- parts

pub end_of_parts : (parts : List Part) → IsWordEnd (flat_map part_text parts)
unfolding IsWordEnd
end_of_parts [] = tt
end_of_parts (part ∷ parts) = refl

pub not_parts : (size : ℕ) (rest : List ℕ) (more : List Part) → 0 < length rest → AreParts size more → rest ≡ flat_map part_text more
    → ((part : Part) (after : List ℕ) → IsPart size part → IsWordEnd after → rest ≢ part_text part ++ after) → ⊥
unfolding AreParts
not_parts size rest [] lt are is never = let e : length rest ≡ 0 = ap length is in omega arith
not_parts size rest (part ∷ more) lt are is never = never part (flat_map part_text more) are.0 (end_of_parts more) is

pub next_parts : (size : ℕ) (rest after : List ℕ) (part : Part) (more : List Part) → IsWordEnd after → rest ≡ part_text part ++ after → AreParts size more → rest ≡ flat_map part_text more
    → (next : List Part) × AreParts size next × (after ≡ flat_map part_text next)
unfolding AreParts
next_parts size rest after part [] e is are r = let l : 0 ≡ suc (length (word_text part ++ after)) = ap length (sym r ∙ is) in absurd (omega arith)
next_parts size rest after part (first ∷ more) e is are r =
    let tails : word_text part ++ after ≡ word_text first ++ flat_map part_text more = ap (drop 1) (sym is ∙ r) in
    (more, are.1, (same_word (word_text part) (word_text first) after (flat_map part_text more) (word_no_space part) (word_no_space first) e (end_of_parts more) tails).1)

pub overwritten_more : (image : List ℕ) (parts : List Part) (part : Part) → overwritten_by_all image (parts ++ part ∷ []) ≡ overwritten part (overwritten_by_all image parts)
unfolding overwritten_by_all
overwritten_more image [] part = refl
overwritten_more image (first ∷ parts) part = overwritten_more (overwritten first image) parts part

-- a part that is written leaves as many bytes
pub length-overwritten : (part : Part) (image : List ℕ) → IsPart (length image) part → length (overwritten part image) ≡ length image
length-overwritten part image is =
    let n : ℕ = part.offset + length part.bytes in
    let front = length-take-le part.offset image (omega (arith, is.within)) in
    let behind = length-drop n image in
    let written = length-append (take part.offset image) part.bytes in
    let whole = length-append (take part.offset image ++ part.bytes) (drop n image) in
    omega (arith, front, behind, written, whole, is.within)

pub more_parts : (size : ℕ) (parts : List Part) (part : Part) → AreParts size parts → IsPart size part → AreParts size (parts ++ part ∷ [])
unfolding AreParts
more_parts size [] part are is = (is, tt)
more_parts size (first ∷ parts) part are is = (are.0, more_parts size parts part are.1 is)

pub more_text : (text rest after : List ℕ) (parts : List Part) (part : Part) → text ≡ flat_map part_text parts ++ rest → rest ≡ part_text part ++ after
    → text ≡ flat_map part_text (parts ++ part ∷ []) ++ after
more_text text rest after [] part is r = is ∙ r ∙ ap (λ (l : List ℕ). l ++ after) (sym (append-nil (part_text part)))
more_text text rest after (first ∷ parts) part is r =
    is ∙ append_assoc (part_text first) (flat_map part_text parts) rest
    ∙ ap (λ (l : List ℕ). part_text first ++ l) (more_text (flat_map part_text parts ++ rest) rest after parts part refl r)
    ∙ sym (append_assoc (part_text first) (flat_map part_text (parts ++ part ∷ [])) after)

pub no_parts_no_text : (text : List ℕ) (parts : List Part) → length text ≡ 0 → 0 < length parts → text ≡ flat_map part_text parts → ⊥
no_parts_no_text text [] len some is = omega arith
no_parts_no_text text (part ∷ parts) len some is = let l : length text ≡ suc (length (word_text part ++ flat_map part_text parts)) = ap length is in omega arith

pub all_written : (text rest old new : List ℕ) (parts : List Part) → (length text ≡ 0 → ⊥) → length rest ≡ 0 → AreParts (length old) parts → text ≡ flat_map part_text parts ++ rest
    → new ≡ overwritten_by_all old parts → AreWritten text old new
all_written text [] old new [] some none are is i = absurd (some (ap length is))
all_written text [] old new (part ∷ parts) some none are is i = record { parts = part ∷ parts; some = omega arith; are_parts = are; text = is ∙ append-nil (flat_map part_text (part ∷ parts)); image_is = i }
all_written text (b ∷ rest) old new parts some none are is i = absurd (omega arith)

-- the image of a whole text
pub image_of : (size : ℕ) (said old new : List ℕ) → old ≡ replicate size 0 → AreWritten said old new → IsImageOf size said new
image_of size said old new zeros p =
    let len : length old ≡ size = ap length zeros ∙ length-replicate size 0 in record {
      parts = p.parts;
      some = p.some;
      are_parts = subst (λ (n : ℕ). AreParts n p.parts) len p.are_parts;
      text = p.text;
      image_is = p.image_is ∙ ap (λ (l : List ℕ). overwritten_by_all l p.parts) zeros;
    }

pub no_image : (size : ℕ) (said old image : List ℕ) → old ≡ replicate size 0 → ((parts : List Part) → 0 < length parts → AreParts (length old) parts → said ≢ flat_map part_text parts) → IsImageOf size said image → ⊥
no_image size said old image zeros never is =
    let len : length old ≡ size = ap length zeros ∙ length-replicate size 0 in
    never is.parts is.some (subst (λ (n : ℕ). AreParts n is.parts) (sym len) is.are_parts) is.text

-- a text of parts begins with a space
pub parts_begin : (parts : List Part) → 0 < length parts → get_or (flat_map part_text parts) 0 0 ≡ 32
parts_begin [] some = absurd (omega arith)
parts_begin (part ∷ parts) some = refl

-- the image after a write to a part of it
pub image_over : (offset k : ℕ) (image bytes : List ℕ) → offset ≤ length image → length bytes ≡ k
    → put_mid offset k image bytes ≡ overwritten (record { offset = offset; bytes = bytes }) image
image_over offset k image bytes le len =
    let n : ℕ = offset + length bytes in
    sym (take-append-drop n (put_mid offset k image bytes))
    ∙ ap (λ (l : List ℕ). l ++ drop n (put_mid offset k image bytes)) (take-put_mid offset k image bytes n refl le)
    ∙ ap (λ (l : List ℕ). (take offset image ++ bytes) ++ l) (drop-put_mid offset k image bytes n (omega arith) le len)
