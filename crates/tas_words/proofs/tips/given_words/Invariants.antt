use Rattle.std.proofs.Common.{◌≡◌, take, string_bytes}
use Rattle.std.specs.Prelude.{fold}
use Rattle.tas_words.specs.Guides.{flags_of, given_of, nothing_given, with_text}
use Rattle.tas_words.proofs.tips.given_words.Given as goal

abbrev pub invariant-loop-text : goal.invariant-loop-text
invariant-loop-text g l = given_of l.given ≡ fold (λ given text. with_text (flags_of l.words) given (string_bytes text)) nothing_given (take l.text-index l.texts)
