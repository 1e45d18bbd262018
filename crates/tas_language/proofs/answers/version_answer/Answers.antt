use Rattle.std.proofs.Common.{◌++◌, ◌∙◌, List, ℕ, ap, append_assoc, sym}
use Rattle.std.specs.Prelude.{codes, decimal}
use Rattle.tas_language.specs.Answers.{words_with_bytes}
use Rattle.tas_language.proofs.answers.version_answer.Goals as goal

pub returns : goal.returns
returns g c =
    let number = decimal c.args.profile in
    let format = codes " format 1 bytes " in
    let joined = append_assoc (number ++ format) words_with_bytes (codes "\n") ∙ append_assoc number format (words_with_bytes ++ codes "\n") in
    rw (c.into_bytes.ensures.value, c.in_ok-text.ensures.ok) (ap (λ (l : List ℕ). codes "version 0.3.0 profile " ++ l) (sym joined))
