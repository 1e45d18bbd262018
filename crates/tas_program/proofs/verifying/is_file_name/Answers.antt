use Rattle.std.proofs.Common.{sym, ◌∙◌}
use Rattle.std.proofs.lemmas.Bool.{false≢true}
use Rattle.tas_program.proofs.VerifyLemmas.{has_slash}
use Rattle.tas_program.proofs.verifying.is_file_name.Goals as goal

pub returns-in-Some : goal.returns-in-Some
returns-in-Some c = (
  λ is. absurd (false≢true is),
  λ none. absurd (has_slash c.args.name.now c.in-Some.field-0.0.now c.in-Some.field-0.1.now (sym c.as_bytes.ensures.value ∙ c.in-Some.ensures.some.0) none),
)
