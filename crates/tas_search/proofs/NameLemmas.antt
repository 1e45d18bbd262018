-- Each name of a names file means its byte.
use Rattle.std.proofs.Common.{◌≡◌, ℕ, zero, suc, ◌+◌, ◌%◌, ◌^◌, ◌<◌, ◌≤◌, ◌&&◌, ◌||◌, Bool, true, false, List, [], ◌∷◌, ◌++◌, length, get_or, take, drop, Option, Some, None, refl, sym, ap, subst, ◌∙◌, arith, append_assoc}
use Rattle.std.specs.Prelude.{decimal, codes, is_none, not, if◌then◌else◌}
use Rattle.std.specs.Char.{is_ascii_digit}
use Rattle.std.specs.List.{list_all}
use Rattle.std.specs.Str.{bytes_eq}
use Rattle.std.proofs.lemmas.Fmt.{decimal_by_steps}
use Rattle.std.proofs.lemmas.Bool.{le-leb}
use Rattle.std.proofs.lemmas.Slice.Eq.{bytes_eq-Decides}
use Rattle.byte_text.specs.Splitting.{NoByte}
use Rattle.tas_engines.specs.Names.{Names, address_of, named}
use Rattle.tas_engines.specs.NamesFile.{is_name_byte, is_identifier, is_reserved, is_name, AreNew}
use Rattle.tas_search.specs.declared.word.Word.{Word}
use Rattle.tas_search.specs.declared.word.Word.TheVariants as word
use Rattle.tas_search.specs.Words.{AllMean, operator_words, sign_words, row_of, number_of, place_of, placed, word_of}
use Rattle.tas_search.proofs.TextLemmas.{number_none}

-- ---- tests

pub both : (a b : Bool) → (a && b) ≡ true → (a ≡ true) × (b ≡ true)
both true b e = (refl, e)
both false b e = absurd cc

none_is : {X : Type 0} (o : Option X) → is_none o ≡ true → o ≡ None
none_is None e = refl
none_is (Some x) e = absurd cc

is_not : (a : Bool) → not a ≡ true → a ≡ false
is_not false e = refl
is_not true e = absurd cc

none_of : (a b c : Bool) → (a || b || c) ≡ false → (a ≡ false) × (b ≡ false) × (c ≡ false)
none_of false false false e = (refl, refl, refl)
none_of false false true e = absurd cc
none_of false true c e = absurd cc
none_of true b c e = absurd cc

neither : (w : List ℕ) → is_reserved w ≡ false → (bytes_eq w (codes "not") ≡ false) × (bytes_eq w (codes "and") ≡ false) × (bytes_eq w (codes "or") ≡ false)
neither w h = none_of (bytes_eq w (codes "not")) (bytes_eq w (codes "and")) (bytes_eq w (codes "or")) h

-- ---- a name has no colon

not_colon : (b : ℕ) → is_name_byte b ≡ true → b ≡ 58 → ⊥
not_colon b h e = let bad : is_name_byte 58 ≡ true = subst (λ (n : ℕ). is_name_byte n ≡ true) e h in let worse : false ≡ true = bad in absurd cc

no_colon : (w : List ℕ) → list_all is_name_byte w ≡ true → NoByte 58 w
no_colon [] h = tt
no_colon (b ∷ w) h = let r = both (is_name_byte b) (list_all is_name_byte w) h in (not_colon b r.0, no_colon w r.1)

take_free : (c n : ℕ) (w : List ℕ) → NoByte c w → NoByte c (take n w)
take_free c zero w h = tt
take_free c (suc n) [] h = tt
take_free c (suc n) (b ∷ w) h = (h.0, take_free c n w h.1)

no_place : (names : Names) (begin w : List ℕ) → NoByte 58 w → (NoByte 58 begin → ⊥) → placed names begin w ≡ None
no_place names begin w none has = split (bytes_eq (take (length begin) w) begin) refl
  where
    split : (b : Bool) → bytes_eq (take (length begin) w) begin ≡ b → (if b then place_of names (drop (length begin) w) else None) ≡ None
    split false e = refl
    split true e = absurd (has (subst (NoByte 58) ((bytes_eq-Decides (take (length begin) w) begin).0 e) (take_free 58 (length begin) w none)))

-- ---- a name is no number

digit_is : (b : ℕ) → 48 ≤ b → b ≤ 57 → is_ascii_digit b ≡ true
digit_is b low high = let l = le-leb 48 b low in let h = le-leb b 57 high in rw (l, h) refl

number_begins : (n : ℕ) → n < 2 ^ 64 → is_ascii_digit (get_or (decimal n ++ []) 0 0) ≡ true
number_begins n lt = decimal_by_steps (λ m ds. (rest : List ℕ) → is_ascii_digit (get_or (ds ++ rest) 0 0) ≡ true)
    (λ m digit rest. digit_is (48 + m) (omega arith) (omega arith))
    (λ m ds big h rest. subst (λ (r : List ℕ). is_ascii_digit (get_or r 0 0) ≡ true) (sym (append_assoc ds ((48 + m % 10) ∷ []) rest)) (h ((48 + m % 10) ∷ rest)))
    n lt []

nothing_after : (a : List ℕ) → a ++ [] ≡ a
nothing_after [] = refl
nothing_after (b ∷ a) = ap (λ (r : List ℕ). b ∷ r) (nothing_after a)

no_number : (b : ℕ) (bytes : List ℕ) → is_ascii_digit b ≡ false → number_of (b ∷ bytes) ≡ None
no_number b bytes h = number_none (b ∷ bytes) (λ n lt is.
    let first : is_ascii_digit b ≡ true = subst (λ (r : List ℕ). is_ascii_digit (get_or r 0 0) ≡ true) (nothing_after (decimal n) ∙ sym is) (number_begins n lt) in
    let bad : false ≡ true = sym h ∙ first in
    absurd cc)

-- ---- a name means its byte

named_there : (before after : Names) (n : List ℕ × ℕ) → named before n.0 ≡ None → named (before ++ n ∷ after) n.0 ≡ Some n.1
named_there [] after n h = let same : bytes_eq n.0 n.0 ≡ true = (bytes_eq-Decides n.0 n.0).1 refl in rw same refl
named_there (m ∷ before) after n h = go (bytes_eq m.0 n.0) (named_there before after n) h
  where
    go : (b : Bool) → (named before n.0 ≡ None → named (before ++ n ∷ after) n.0 ≡ Some n.1) → (if b then Some m.1 else named before n.0) ≡ None → (if b then Some m.1 else named (before ++ n ∷ after) n.0) ≡ Some n.1
    go true deeper e = absurd cc
    go false deeper e = deeper e

means : (names : Names) (w : List ℕ) (at : ℕ) → is_identifier w ≡ true → row_of sign_words w ≡ None → row_of operator_words w ≡ None → named names w ≡ Some at → word_of names w ≡ word.Byte at
means names [] at is sign operator there = let bad : false ≡ true = is in absurd cc
means names (b ∷ bytes) at is sign operator there =
    let r = both (not (is_ascii_digit b)) (list_all is_name_byte (b ∷ bytes)) is in
    let free = no_colon (b ∷ bytes) r.1 in
    let number = no_number b bytes (is_not (is_ascii_digit b) r.0) in
    let byte = no_place names (codes "byte:") (b ∷ bytes) free (λ h. h.1.1.1.1.0 refl) in
    let bcd = no_place names (codes "bcd:") (b ∷ bytes) free (λ h. h.1.1.1.0 refl) in
    let pair = no_place names (codes "pair:") (b ∷ bytes) free (λ h. h.1.1.1.1.0 refl) in
    rw (sign, operator, number, byte, bcd, pair, there) refl

-- a word that is no identifier is none of these
no_word : (w said : List ℕ) → is_identifier w ≡ true → is_identifier said ≡ false → bytes_eq w said ≡ false
no_word w said is other = go (bytes_eq w said) refl
  where
    go : (b : Bool) → bytes_eq w said ≡ b → b ≡ false
    go false e = refl
    go true e = let same : is_identifier said ≡ true = subst (λ (r : List ℕ). is_identifier r ≡ true) ((bytes_eq-Decides w said).0 e) is in let bad : false ≡ true = sym other ∙ same in absurd cc

-- each word of a table is other than this one
abbrev AreOther : List ℕ → List (List ℕ × Word) → Type 0
AreOther w [] = Unit {0}
AreOther w (row ∷ rows) = (bytes_eq w row.0 ≡ false) × AreOther w rows

no_row : (w : List ℕ) (rows : List (List ℕ × Word)) → AreOther w rows → row_of rows w ≡ None
no_row w [] h = refl
no_row w (row ∷ rows) h = rw h.0 (no_row w rows h.1)

no_sign : (w : List ℕ) → is_identifier w ≡ true → is_reserved w ≡ false → row_of sign_words w ≡ None
no_sign w is free = no_row w sign_words (no_word w (codes "(") is refl, (no_word w (codes ")") is refl, ((neither w free).0, tt)))

no_operator : (w : List ℕ) → is_identifier w ≡ true → is_reserved w ≡ false → row_of operator_words w ≡ None
no_operator w is free =
    let n = neither w free in
    no_row w operator_words (n.2, (n.1, (no_word w (codes "==") is refl, (no_word w (codes "!=") is refl, (no_word w (codes "<") is refl, (no_word w (codes "<=") is refl, (no_word w (codes ">") is refl, (no_word w (codes ">=") is refl, (no_word w (codes "+") is refl, (no_word w (codes "-") is refl, (no_word w (codes "*") is refl, tt)))))))))))

record Parts (names : Names) (w : List ℕ) : Type 0 where
  identifier : is_identifier w ≡ true
  free : is_reserved w ≡ false
  new : named names w ≡ None

parts_of : (names : Names) (w : List ℕ) → is_name names w ≡ true → Parts names w
parts_of names w h =
    let a = both (is_identifier w && not (is_reserved w) && is_none (address_of w)) (is_none (named names w)) h in
    let b = both (is_identifier w && not (is_reserved w)) (is_none (address_of w)) a.0 in
    let c = both (is_identifier w) (not (is_reserved w)) b.0 in
    record { identifier = c.0; free = is_not (is_reserved w) c.1; new = none_is (named names w) a.1 }

pub identifier_of : (names : Names) (w : List ℕ) → is_name names w ≡ true → is_identifier w ≡ true
identifier_of names w h = let p = parts_of names w h in p.identifier

all_mean : (before names : Names) → AreNew before names → AllMean (before ++ names) names
all_mean before [] h = tt
all_mean before (n ∷ more) h =
    let p = parts_of before n.0 h.0.is in (
      means (before ++ n ∷ more) n.0 n.1 p.identifier (no_sign n.0 p.identifier p.free) (no_operator n.0 p.identifier p.free) (named_there before more n p.new),
      subst (λ (ns : Names). AllMean ns more) (append_assoc before (n ∷ []) more) (all_mean (before ++ n ∷ []) more h.1),
    )

pub names_mean : (names : Names) → AreNew [] names → AllMean names names
names_mean names h = all_mean [] names h
