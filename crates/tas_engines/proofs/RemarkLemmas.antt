-- The words of a line.
use Rattle.std.proofs.Common.{◌≡◌, ℕ, List, [], ◌∷◌, ◌++◌, length, false, refl, sym, ap, ◌∙◌}
use Rattle.std.specs.Prelude.{◌==◌, Option, Some, None, option_map}
use Rattle.std.proofs.lemmas.Bool.{ne_eqb}
use Rattle.byte_text.specs.Splitting.{NoByte}
use Rattle.tas_engines.specs.Remarks.{before_mark, put_before, trimmed, words_by, words_of}

-- a space at the end is left out
pub trimmed_space : (xs : List ℕ) → trimmed (xs ++ 32 ∷ []) ≡ trimmed xs
trimmed_space [] = refl
trimmed_space (x ∷ xs) = ap (put_before x) (trimmed_space xs)

put_more : (x : ℕ) (xs : List ℕ) (b : ℕ) → put_before x (xs ++ b ∷ []) ≡ x ∷ xs ++ b ∷ []
put_more x [] b = refl
put_more x (c ∷ xs) b = refl

-- where another byte is the last one, all stays
pub trimmed_other : (xs : List ℕ) (b : ℕ) → (b == 32) ≡ false → trimmed (xs ++ b ∷ []) ≡ xs ++ b ∷ []
trimmed_other [] b other = rw other refl
trimmed_other (x ∷ xs) b other = ap (put_before x) (trimmed_other xs b other) ∙ put_more x xs b

pub trim_stop : (rest front : List ℕ) (last : ℕ) → rest ≡ front ++ last ∷ [] → (last ≡ 32 → ⊥) → trimmed rest ≡ rest
trim_stop rest front last is other = rw is (trimmed_other front last (ne_eqb last 32 other))

pub trim_step : (rest front : List ℕ) (last : ℕ) → rest ≡ front ++ last ∷ [] → last ≡ 32 → trimmed rest ≡ trimmed front
trim_step rest front last is space = rw (is, space) (trimmed_space front)

pub trim_none : (rest : List ℕ) → length rest ≡ 0 → rest ≡ trimmed rest
trim_none [] none = refl
trim_none (b ∷ rest) none = cc

before_none : (bytes : List ℕ) → NoByte 35 bytes → before_mark bytes ≡ None
before_none [] none = refl
before_none (b ∷ bytes) none = rw (ne_eqb b 35 none.0) (ap (option_map (λ (front : List ℕ). b ∷ front)) (before_none bytes none.1))

before_some : (front rest : List ℕ) → NoByte 35 front → before_mark (front ++ 35 ∷ rest) ≡ Some front
before_some [] rest none = refl
before_some (b ∷ front) rest none = rw (ne_eqb b 35 none.0) (ap (option_map (λ (front : List ℕ). b ∷ front)) (before_some front rest none.1))

-- a line without a remark is its words
pub all_words : (line : List ℕ) → NoByte 35 line → line ≡ words_of line
all_words line none = sym (ap (words_by line) (before_none line none))

-- those of a line with one
pub words_before : (line front rest words : List ℕ) → line ≡ front ++ 35 ∷ rest → NoByte 35 front → words ≡ trimmed front → words ≡ words_of line
words_before line front rest words is none are = are ∙ sym (ap (words_by line) (ap before_mark is ∙ before_some front rest none))
