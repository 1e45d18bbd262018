-- Which lines the fault `NoEntry` comes of.
use Rattle.std.proofs.Common.{◌≡◌, Result, Ok, Err, refl, sym, subst, ◌∙◌}
use Rattle.std.specs.Prelude.{MatchResult, IfErr}
use Rattle.std.proofs.lemmas.Result.{MatchResult-weaker}
use Rattle.tas_engines.specs.declared.fault.RunFault.{RunFault}
use Rattle.tas_engines.specs.declared.fault.RunFault.TheVariants.{NoEntry, Foreign, Memory}
use Rattle.tas_language.specs.declared.request.Request.{Request}
use Rattle.tas_language.specs.declared.request.Request.TheVariants.{Do, Retouch, Picture, Pictures, Ram, Digest, Lag, Inputs, Movie, States, Share, History, Version, Begin, Commit, Drop, Quit}
use Rattle.tas_seat.specs.declared.conversation.Subject.TheVariants.{Movie as AboutMovie}
use Rattle.tas_seat.specs.Subjects.{subject_of}
use Rattle.tas_seat.specs.Outcomes.{IsLook}

-- other faults than `NoEntry`
pub memory_no_entry : Memory ≡ NoEntry → ⊥
memory_no_entry is = cc is

pub foreign_no_entry : Foreign ≡ NoEntry → ⊥
foreign_no_entry is = cc is

-- where `Memory` is the one fault, it isn't `NoEntry`
pub memory_alone : {X : Type 0} (P : X → Type 0) (B : Type 0) (r : Result X RunFault) → MatchResult r P (λ fault. fault ≡ Memory) → IfErr r (λ fault. fault ≡ NoEntry → B)
memory_alone P B r is = MatchResult-weaker r is (λ _ _. tt) (λ fault e n. absurd (cc (sym e ∙ n)))

-- the same where it says what it leaves
pub memory_leaves : {X : Type 0} (P : X → Type 0) (Q B : Type 0) (r : Result X RunFault) → MatchResult r P (λ fault. (fault ≡ Memory) × Q) → IfErr r (λ fault. fault ≡ NoEntry → B)
memory_leaves P Q B r is = MatchResult-weaker r is (λ _ _. tt) (λ fault e n. absurd (cc (sym e.0 ∙ n)))

-- an edit, or a commit, of which the one fault is `Foreign`
pub foreign_alone : {X : Type 0} (P : X → Type 0) (Q B : Type 0) (r : Result X RunFault) → MatchResult r P (λ fault. (fault ≡ Foreign) × Q) → IfErr r (λ fault. fault ≡ NoEntry → B)
foreign_alone P Q B r is = MatchResult-weaker r is (λ _ _. tt) (λ fault e n. absurd (cc (sym e.0 ∙ n)))

-- an answer was made, or memory was refused for it, and then for the line that says so
pub answer_alone : {X E : Type 0} (P : X → Type 0) (B : Type 0) (answer : Result X E) (r : Result X RunFault) → MatchResult answer (λ bytes. r ≡ Ok bytes) (λ _. MatchResult r P (λ fault. fault ≡ Memory)) → IfErr r (λ fault. fault ≡ NoEntry → B)
answer_alone {X} P B (Ok bytes) r is = subst (λ (x : Result X RunFault). IfErr x (λ fault. fault ≡ NoEntry → B)) (sym is) tt
answer_alone P B (Err error) r is = memory_alone P B r is

-- a line that looks
pub known : {X B : Type 0} (r : Result X RunFault) → B → IfErr r (λ fault. fault ≡ NoEntry → B)
known (Ok x) b = tt
known (Err fault) b = λ _. b

-- what `NoEntry` shows, in other words
pub shows : {X B C : Type 0} (r : Result X RunFault) → (B → C) → IfErr r (λ fault. fault ≡ NoEntry → B) → IfErr r (λ fault. fault ≡ NoEntry → C)
shows r more is = MatchResult-weaker r is (λ _ _. tt) (λ fault b n. more (b n))

-- a look is about the movie
pub look_subject : (request : Request) → IsLook request → subject_of request ≡ AboutMovie
look_subject (Do command) look = refl
look_subject (Retouch retouch) look = refl
look_subject (Picture k) look = refl
look_subject (Pictures from to) look = refl
look_subject (Ram k) look = refl
look_subject (Digest k) look = refl
look_subject (Lag from to) look = refl
look_subject (Inputs a b) look = refl
look_subject Movie look = refl
look_subject States look = refl
look_subject Share look = absurd look
look_subject (History from) look = absurd look
look_subject Version look = refl
look_subject Begin look = absurd look
look_subject Commit look = absurd look
look_subject Drop look = absurd look
look_subject Quit look = absurd look
