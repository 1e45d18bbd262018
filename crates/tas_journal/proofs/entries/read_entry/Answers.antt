use Rattle.std.proofs.lemmas.Grind.{common_steps}
use Rattle.std.proofs.Common.{◌∙◌, arith}
use Rattle.tas_journal.proofs.ReadingLemmas.{front_left}
use Rattle.tas_journal.proofs.entries.read_entry.Goals as goal

pub returns-in_default-after_prefix-clause-none : goal.returns-in_default-after_prefix-clause-none
returns-in_default-after_prefix-clause-none g c = λ is.
    c.in_default-after_prefix.ensures.none is.0 (front_left c.args.number c.args.said.now is.0 _ is.1 (c.as_slice.ensures.value ∙ c.in-Ok.ensures))

pub read_seated-requires : goal.read_seated-requires
read_seated-requires g c = grind (arith, common_steps)

pub returns-in-Ok-None-clause-none : goal.returns-in-Ok-None-clause-none
returns-in-Ok-None-clause-none g c = grind (arith, common_steps)
