use Rattle.std.proofs.lemmas.Grind.{common_steps}
use Rattle.std.proofs.Common.{sym, ◌∙◌, arith}
use Rattle.tas_engines.specs.Names.{names_of}
use Rattle.tas_engines.proofs.NameLemmas.{gives}
use Rattle.tas_engines.proofs.names.split_name.Goals as goal

pub returns-clause-name : goal.returns-clause-name
returns-clause-name g c =
    gives (names_of c.args.names.now) c.args.line.now c.in-Some.name.now c.in-Some.digits.now c.in-Some-address_of.address c.in-Some.ensures.some.0 (sym c.in-Some-address_of.ensures) (sym c.is_name.ensures ∙ c.if-not-is_name.false)

pub returns-then-not-is_name-clause-fault : goal.returns-then-not-is_name-clause-fault
returns-then-not-is_name-clause-fault g c = grind (arith, common_steps)
