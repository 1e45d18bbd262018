-- The text of a part of a search's space.
use Rattle.std.proofs.Common.{◌≡◌, ℕ, ◌+◌, ◌<◌, ◌%◌, ◌^◌, List, ◌∷◌, ◌++◌, sym, subst, ◌∙◌, arith}
use Rattle.std.specs.Prelude.{◌≢◌, Option, IfNone, decimal}
use Rattle.std.proofs.lemmas.Fmt.{decimal_by_steps, decimal_injective}
use Rattle.byte_text.specs.Splitting.{NoByte}
use Rattle.byte_text.proofs.SplitLemmas.{no_parts, push_no_byte, same_front}
use Rattle.tas_language.proofs.WordLemmas.{none_then}
use Rattle.tas_words.specs.Task.{IsPart, part_text}
use Rattle.tas_words.specs.declared.task.PartWords.{PartWords}

-- a number's digits have no byte before the digits
decimal_without : (mark n : ℕ) → mark < 48 → n < 2 ^ 64 → NoByte mark (decimal n)
decimal_without mark n low lt = decimal_by_steps (λ m ds. NoByte mark ds)
    (λ m small. ((λ (e : 48 + m ≡ mark). omega (arith, low)), tt))
    (λ m ds big h. push_no_byte mark ds (48 + m % 10) h (λ (e : 48 + m % 10 ≡ mark). omega (arith, low))) n lt

-- a text without a '/' is no part's
pub no_slash : (text : List ℕ) (part : PartWords) → NoByte 47 text → text ≡ part_text part → ⊥
no_slash text part none is = no_parts 47 (decimal part.number) (decimal part.of) (subst (NoByte 47) is none)

-- a text that is a part's and is cut at its first '/' is cut into the part's numbers
pub cut_part : (text first second : List ℕ) (part : PartWords) → text ≡ first ++ 47 ∷ second → NoByte 47 first → IsPart part → text ≡ part_text part
    → (first ≡ decimal part.number) × (second ≡ decimal part.of)
cut_part text first second part cut none is same =
    same_front 47 first (decimal part.number) second (decimal part.of) none (decimal_without 47 part.number (omega arith) (omega (arith, is.0, is.1, is.2))) (sym cut ∙ same)

-- numbers that were read of the two pieces are a part's
pub read_numbers : (text first second : List ℕ) (number of : ℕ) (part : PartWords) → text ≡ first ++ 47 ∷ second → NoByte 47 first → first ≡ decimal number → second ≡ decimal of
    → number < 2 ^ 64 → of < 2 ^ 64 → IsPart part → text ≡ part_text part → (number ≡ part.number) × (of ≡ part.of)
read_numbers text first second number of part cut none a b la lb is same =
    let pieces = cut_part text first second part cut none is same in
    (decimal_injective number part.number la (omega (arith, is.0, is.1, is.2)) (sym a ∙ pieces.0), decimal_injective of part.of lb (omega (arith, is.0, is.1, is.2)) (sym b ∙ pieces.1))

-- where numbers that were read of the two pieces make no part, the text is none's
pub no_part_read : (text bytes first second : List ℕ) (number of : ℕ) (o : Option PartWords) → bytes ≡ text → bytes ≡ first ++ 47 ∷ second → NoByte 47 first → first ≡ decimal number → second ≡ decimal of
    → number < 2 ^ 64 → of < 2 ^ 64 → IfNone o ((part : PartWords) → part.number ≡ number → part.of ≡ of → IsPart part → ⊥) → IfNone o ((part : PartWords) → IsPart part → text ≢ part_text part)
no_part_read text bytes first second number of o whole cut none a b la lb made =
    none_then ((part : PartWords) → part.number ≡ number → part.of ≡ of → IsPart part → ⊥) ((part : PartWords) → IsPart part → text ≢ part_text part) o made
    (λ no part is same.
    let both = read_numbers bytes first second number of part cut none a b la lb is (whole ∙ same) in
    no part (sym both.0) (sym both.1) is)
