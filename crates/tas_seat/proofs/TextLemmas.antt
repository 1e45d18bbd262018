-- An answer's bytes, or memory that was refused for them: for any claim of the answer, and any of the fault.
use Rattle.std.proofs.Common.{◌≡◌, List, ℕ, Option, Some, None, Result, Ok, Err, IfOk, ◌⊎◌, inl, inr, refl, sym, subst}
use Rattle.std.specs.Prelude.{MatchResult, IfSome, IfNone, IsSome, OnOk}
use Rattle.std.proofs.lemmas.Result.{MatchResult-weaker, IfOk-weaker}
use Rattle.tas_engines.specs.declared.fault.RunFault.{RunFault}
use Rattle.tas_engines.specs.declared.fault.RunFault.TheVariants.{Memory}
use Rattle.tas_language.specs.declared.reply.Reply.TheVariants.{OutOfMemory}
use Rattle.tas_language.specs.Replies.{reply_text}
use Rattle.tas_seat.specs.Inside.Looking.{HasText}

-- the answer's bytes, or memory was refused for them
pub text_or_memory : {X : Type 0} (P : List ℕ → Type 0) (Q : RunFault → Type 0) (text : List ℕ) (r : Result X RunFault) (bytes_of : X → List ℕ) → MatchResult r (λ bytes. bytes_of bytes ≡ text) (λ fault. fault ≡ Memory) → P text → (P text → Q Memory)
    → MatchResult r (λ bytes. P (bytes_of bytes)) Q
text_or_memory P Q text r bytes_of is told lost = MatchResult-weaker r is (λ bytes e. subst P (sym e) told) (λ fault e. subst Q (sym e) (lost told))

-- an answer was made, or memory was refused for it, and then for the line that says so
pub made_or_memory : {X E : Type 0} (P : List ℕ → Type 0) (Q : RunFault → Type 0) (answer : Result X E) (r : Result X RunFault) (bytes_of : X → List ℕ)
    → MatchResult answer (λ bytes. r ≡ Ok bytes) (λ fault. MatchResult r (λ bytes. bytes_of bytes ≡ reply_text OutOfMemory) (λ fault. fault ≡ Memory))
    → IfOk answer (λ bytes. P (bytes_of bytes)) → P (reply_text OutOfMemory) → (P (reply_text OutOfMemory) → Q Memory) → MatchResult r (λ bytes. P (bytes_of bytes)) Q
made_or_memory {X} P Q (Ok bytes) r bytes_of is told refused lost = subst (λ (x : Result X RunFault). MatchResult x (λ bytes. P (bytes_of bytes)) Q) (sym is) told
made_or_memory P Q (Err fault) r bytes_of is told refused lost = text_or_memory P Q (reply_text OutOfMemory) r bytes_of is refused lost

-- so the answer has the text that was found
pub text_made : {X E : Type 0} (found : Option (List ℕ)) (answer : Result X E) (r : Result X RunFault) (bytes_of : X → List ℕ)
    → MatchResult answer (λ bytes. r ≡ Ok bytes) (λ fault. MatchResult r (λ bytes. bytes_of bytes ≡ reply_text OutOfMemory) (λ fault. fault ≡ Memory)) → IfOk answer (λ bytes. found ≡ Some (bytes_of bytes)) → HasText r bytes_of found
text_made found answer r bytes_of is told =
    made_or_memory (λ (text : List ℕ). (found ≡ Some text) ⊎ (text ≡ reply_text OutOfMemory)) (λ (fault : RunFault). fault ≡ Memory) answer r bytes_of is (IfOk-weaker answer _ _ (λ bytes e. inl e) told) (inr refl) (λ lost. refl)

-- ---- what is there

-- where nothing is there one of two things isn't so, and both are
pub present : {X : Type 0} (o : Option X) (P Q : Type 0) → IfNone o (P → Q → ⊥) → P → Q → IsSome o
present (Some x) P Q none p q = refl
present None P Q none p q = absurd (none p q)

-- what is said of it is so where it is this
pub if_some : {X : Type 0} (P : X → Type 0) (o : Option X) (x : X) → o ≡ Some x → IfSome o P → P x
if_some {X} P o x is said = subst (λ (a : Option X). IfSome a P) is said

-- what is so is so after a good end
pub on_ok : {X E : Type 0} (r : Result X E) (P : Type 0) → P → OnOk r P
on_ok (Ok x) P so = so
on_ok (Err e) P so = tt
