-- Words and numbers.
use Rattle.std.proofs.Common.{◌≡◌, ℕ, ◌+◌, ◌<◌, ◌≤◌, List, ◌∷◌, ◌++◌, Option, Some, None, sym, ◌∙◌, arith}
use Rattle.std.proofs.Common.{◌%◌, ◌^◌, append_assoc}
use Rattle.std.specs.Prelude.{[], decimal, MatchOption, IfSome, IfNone}
use Rattle.std.proofs.lemmas.Fmt.{decimal_by_steps, decimal_injective}
use Rattle.byte_text.specs.Splitting.{NoByte}
use Rattle.byte_text.proofs.SplitLemmas.{push_no_byte, same_front}
use Rattle.tas_language.specs.Commands.{IsNumber}

-- ---- what is said of both cases is said of each

pub if_there : {X : Type 0} (P : Type 0) (Q : X → Type 0) (o : Option X) → MatchOption o P Q → IfSome o Q
if_there P Q None both = tt
if_there P Q (Some x) both = both

pub if_none : {X : Type 0} (P : Type 0) (Q : X → Type 0) (o : Option X) → MatchOption o P Q → IfNone o P
if_none P Q None both = both
if_none P Q (Some x) both = tt

pub none_then : {X : Type 0} (P Q : Type 0) (o : Option X) → IfNone o P → (P → Q) → IfNone o Q
none_then P Q None holds follows = follows holds
none_then P Q (Some x) holds follows = tt

-- ---- numbers

pub decimal_no_space : (n : ℕ) → n < 2 ^ 64 → NoByte 32 (decimal n)
decimal_no_space n lt = decimal_by_steps (λ m ds. NoByte 32 ds)
    (λ m small. ((λ (e : 48 + m ≡ 32). omega arith), tt))
    (λ m ds big h. push_no_byte 32 ds (48 + m % 10) h (λ (e : 48 + m % 10 ≡ 32). omega arith)) n lt

-- a text that is cut at its first space and begins with a number and a space is cut after that number
pub number_first : (text first rest tail : List ℕ) (n : ℕ) → text ≡ first ++ 32 ∷ rest → NoByte 32 first → IsNumber n → text ≡ decimal n ++ 32 ∷ tail → (first ≡ decimal n) × (rest ≡ tail)
number_first text first rest tail n cut none small is = same_front 32 first (decimal n) rest tail none (decimal_no_space n (omega (arith, small))) (sym cut ∙ is)

-- a number past the greatest one isn't another one's text
pub past_most : (n m : ℕ) (word : List ℕ) → word ≡ decimal m → m < 2 ^ 64 → 9999999 < m → n ≤ 9999999 → word ≡ decimal n → ⊥
past_most n m word is lt over le same =
    let e : n ≡ m = decimal_injective n m (omega arith) lt (sym same ∙ is) in
    omega (arith, e)

pub none_some : {A : Type 0} (o : Option A) (x : A) → o ≡ None → o ≡ Some x → ⊥
none_some o x n s = cc

-- ---- a line of a place, a count and a frame, as it is written: its parts one after the other

pub frames_joined : (word place count frame : List ℕ) →
    ((word ++ 32 ∷ (place ++ 32 ∷ (count ++ 32 ∷ []))) ++ frame) ++ 10 ∷ [] ≡ (word ++ 32 ∷ (place ++ 32 ∷ (count ++ 32 ∷ frame))) ++ 10 ∷ []
frames_joined word place count frame = simp append_assoc
