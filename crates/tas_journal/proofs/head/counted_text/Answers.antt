use Rattle.std.proofs.Common.{◌++◌, ◌∷◌, length, arith, subst}
use Rattle.std.specs.Prelude.{decimal}
use Rattle.hex.specs.Hex.{encode_lower}
use Rattle.sha2.specs.Sha256.{sha256}
use Rattle.byte_text.specs.Splitting.{NoByte}
use Rattle.byte_text.proofs.SplitLemmas.{no_parts}
use Rattle.tas_journal.proofs.HeadLemmas.{has_word, words_are, count_cut, size_is, text_after, text_long, text_taken}
use Rattle.tas_journal.proofs.head.counted_text.Goals as goal

pub returns-in_err-words-clause-none : goal.returns-in_err-words-clause-none
returns-in_err-words-clause-none c = rw c.from_residual.ensures (λ text rest short is. c.in_err-words.ensures.none _ (has_word c.args.bytes.now text rest is))

pub returns-in_err-count-clause-none : goal.returns-in_err-count-clause-none
returns-in_err-count-clause-none c =
    rw c.from_residual-in_err-count.ensures
    (λ text rest short is. no_parts 32 (decimal (length text)) (encode_lower (sha256 text) ++ 10 ∷ (text ++ rest)) (subst (NoByte 32) (words_are c.args.bytes.now c.in_ok-words.words.now text rest c.in_ok-words.ensures.some is) c.in_err-count.ensures.none))

pub returns-in_err-size-clause-none : goal.returns-in_err-size-clause-none
returns-in_err-size-clause-none c =
    rw c.from_residual-in_err-size.ensures
    (λ text rest short is.
    let words = words_are c.args.bytes.now c.in_ok-words.words.now text rest c.in_ok-words.ensures.some is in
    c.in_err-size.ensures.none (length text) short (count_cut _ _ _ text rest c.in_ok-count.ensures.some.0 c.in_ok-count.ensures.some.1 short words).0)

pub returns-in_err-after-clause-none : goal.returns-in_err-after-clause-none
returns-in_err-after-clause-none c =
    rw c.from_residual-in_err-after.ensures
    (λ text rest short is.
    let words = words_are c.args.bytes.now c.in_ok-words.words.now text rest c.in_ok-words.ensures.some is in
    let both = count_cut _ _ _ text rest c.in_ok-count.ensures.some.0 c.in_ok-count.ensures.some.1 short words in
    no_parts 10 (encode_lower (sha256 text)) (text ++ rest) (subst (NoByte 10) both.1 c.in_err-after.ensures.none))

pub returns-then-size-after-clause-none : goal.returns-then-size-after-clause-none
returns-then-size-after-clause-none c = λ text rest short is.
    let words = words_are c.args.bytes.now c.in_ok-words.words.now text rest c.in_ok-words.ensures.some is in
    let both = count_cut _ _ _ text rest c.in_ok-count.ensures.some.0 c.in_ok-count.ensures.some.1 short words in
    let size = size_is _ text c.in_ok-size.size c.in_ok-size.ensures.some (omega arith) short both.0 in
    let behind = text_after _ _ c.in_ok-after.after.now text rest c.in_ok-after.ensures.some.0 c.in_ok-after.ensures.some.1 both.1 in
    let long = text_long _ text rest behind in
    omega (arith, size, long, c.if-size-after.true)

pub returns-clause-some : goal.returns-clause-some
returns-clause-some c = λ text rest short is.
    let words = words_are c.args.bytes.now c.in_ok-words.words.now text rest c.in_ok-words.ensures.some is in
    let both = count_cut _ _ _ text rest c.in_ok-count.ensures.some.0 c.in_ok-count.ensures.some.1 short words in
    let size = size_is _ text c.in_ok-size.size c.in_ok-size.ensures.some (omega arith) short both.0 in
    let behind = text_after _ _ c.in_ok-after.after.now text rest c.in_ok-after.ensures.some.0 c.in_ok-after.ensures.some.1 both.1 in
    text_taken _ text rest _ c.in_ok-size.size behind size c.split_at.ensures.front
