use Rattle.std.proofs.Common.{arith}
use Rattle.std.proofs.lemmas.Grind.{common_steps}
use Rattle.std.specs.Str.Parse.{ParsesUnsigned, ExplainsUnsignedError, HasUnsignedDigitsIfOk}
use Rattle.clap.specs.Words.{found_of}
use Rattle.tas_words.proofs.CommandLineLemmas.{number_read}
use Rattle.tas_words.proofs.words.number_of.Goals as goal

pub returns-then-n-most : goal.returns-then-n-most
returns-then-n-most c =
    number_read (λ bs r. ParsesUnsigned 32 10 bs r × ExplainsUnsignedError 10 bs r × HasUnsignedDigitsIfOk bs r) (found_of c.args.matches.now) c.args.name.now c.args.least c.args.most c.get_one.result c.in_ok-n.n
    c.get_one.ensures.none c.get_one.ensures.value (λ t v gives. (gives.0.0.0, gives.0.1)) c.in_ok-n.was c.if-least-n.true c.if-n-most.true

pub returns-in_err-n : goal.returns-in_err-n
returns-in_err-n c = grind (arith, common_steps)
