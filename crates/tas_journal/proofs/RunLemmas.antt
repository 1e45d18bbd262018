-- A recovery over readers and a writer.
use Rattle.std.proofs.Common.{◌≡◌, ◌++◌, ℕ, List, [], length, true, Option, Some, None, Result, inr, IfSome, subst}
use Rattle.std.specs.Prelude.{drop}
use Rattle.std.specs.Io.KnownBytes.{Consumes, IsAtEnd}
use Rattle.vcs_inputs.specs.Cart.{is_cart_size}
use Rattle.tas_movie.specs.Text.{text2}
use Rattle.tas_engines.specs.Input.{IsReadWhole}
use Rattle.tas_journal.specs.declared.error.JournalError.{JournalError}
use Rattle.tas_journal.specs.declared.fault.RecoveryFault.{RecoveryFault}
use Rattle.tas_journal.specs.declared.fault.RecoveryFault.TheVariants.{Journal}
use Rattle.tas_journal.specs.declared.recovering.Recovered.{Recovered}
use Rattle.tas_journal.specs.Recovery.{IsRecovered, IsUnrecovered}
use Rattle.tas_journal.specs.RecoveryRun.{Ends, IsJournalRead, IsRecoveredText, IsRecoveryFault, IsRecoveryRun}

-- what was put after no bytes are all of a journal
all_of : (old : Option (List ℕ)) (after : List ℕ) → IfSome old (λ xs. after ≡ xs) → (bytes : List ℕ) → old ≡ Some bytes → after ≡ bytes
all_of None after all bytes is = absurd (cc is)
all_of (Some xs) after all bytes is = cc

pub journal_read : (old new : Option (List ℕ)) (before after : List ℕ) → before ≡ [] → IfSome old (λ xs. after ≡ before ++ xs) → IsAtEnd new → Consumes old new (drop (length before) after)
    → IsJournalRead old new after
journal_read old new before after empty all end consumed = record {
  left_reader = subst (λ (b : List ℕ). Consumes old new (drop (length b) after)) empty consumed;
  none_is_left = end;
  are_all = all_of old after (subst (λ (b : List ℕ). IfSome old (λ xs. after ≡ b ++ xs)) empty all);
}

-- the text of the movie that was recovered with a cartridge, which is an image
pub text_made : (A : Type 0) (until : ℕ) (image cart bytes text : List ℕ) (found : Recovered A) → is_cart_size (length image) ≡ true → cart ≡ image
    → IsRecovered A bytes cart until found.movie found.edits found.cut → text ≡ text2 found.movie → IsRecoveredText A until image bytes text found
text_made A until image cart bytes text found size is recovered text_is = record {
  size = size;
  recovered = subst (λ (c : List ℕ). IsRecovered A bytes c until found.movie found.edits found.cut) is recovered;
  text_is = text_is;
}

-- a fault of a journal whose cartridge is an image
pub journal_wrong : (A : Type 0) (until : ℕ) (image cart bytes : List ℕ) (error : JournalError) → is_cart_size (length image) ≡ true → cart ≡ image → IsUnrecovered A bytes cart until error → IsRecoveryFault A until image bytes (Journal error)
journal_wrong A until image cart bytes error size is wrong = (size, subst (λ (c : List ℕ). IsUnrecovered A bytes c until error) is wrong)

-- a recovery over inputs that were read whole
pub run_ended : (A : Type 0) (until : ℕ) (cart cart' input input' output output' : Option (List ℕ)) (image image' bytes bytes' : List ℕ) (result : Result (Recovered A) RecoveryFault) → image ≡ image' → bytes ≡ bytes'
    → IsReadWhole cart cart' image' → IsJournalRead input input' bytes' → Ends A until image bytes output output' result → IsRecoveryRun A until cart cart' input input' output output' result
run_ended A until cart cart' input input' output output' image image' bytes bytes' result is is' whole read ends =
    inr (image', bytes', whole, read, subst (λ (i : List ℕ). Ends A until i bytes' output output' result) is (subst (λ (b : List ℕ). Ends A until image b output output' result) is' ends))
