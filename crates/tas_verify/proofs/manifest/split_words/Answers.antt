use Rattle.std.proofs.Common.{arith}
use Rattle.std.proofs.lemmas.Grind.{common_steps}
use Rattle.tas_verify.proofs.ManifestLemmas.{clash, refused_words, unsplit_first, unsplit_second}
use Rattle.tas_verify.proofs.manifest.split_words.Goals as goal

pub returns-in_default-clause-none : goal.returns-in_default-clause-none
returns-in_default-clause-none c = λ row is. unsplit_first c.args.mark c.args.bytes.now row c.in_default.ensures.none is

pub returns-in_default-split_once-clause-none : goal.returns-in_default-split_once-clause-none
returns-in_default-split_once-clause-none c = λ row is.
    unsplit_second c.args.mark c.args.bytes.now c.in-Some.movie.now c.in-Some.rest.now row c.in-Some.ensures.some.0 c.in-Some.ensures.some.1 c.in_default-split_once.ensures.none is

pub returns-then-not-are_words-clause-none : goal.returns-then-not-are_words-clause-none
returns-then-not-are_words-clause-none c =
    refused_words c.args.mark c.args.bytes.now c.in-Some.movie.now c.in-Some.rest.now c.in-Some-split_once.cart.now c.in-Some-split_once.digest.now c.in-Some.ensures.some.0 c.in-Some.ensures.some.1 c.in-Some-split_once.ensures.some.0
    c.in-Some-split_once.ensures.some.1 (λ w. clash c.are_words.result c.if-not-are_words.true (c.are_words.ensures.1 w))

pub returns-clause-some : goal.returns-clause-some
returns-clause-some c = grind (arith, common_steps)
