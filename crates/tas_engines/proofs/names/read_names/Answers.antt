use Rattle.std.proofs.lemmas.Grind.{common_steps}
use Rattle.std.proofs.Common.{◌≡◌, ◌+◌, length, arith}
use Rattle.std.proofs.lemmas.Result.{err_from_is_err_and}
use Rattle.tas_engines.specs.Names.{names_of}
use Rattle.tas_engines.specs.Inside.NameLines.{Gives}
use Rattle.tas_engines.proofs.NameLemmas.{names_fault, names_length, name_read}
use Rattle.tas_engines.proofs.names.read_names.Goals as goal

pub returns-in_err-name-clause-fault : goal.returns-in_err-name-clause-fault
returns-in_err-name-clause-fault g c =
    let names = c.loop-rest.names in
    let p = err_from_is_err_and c.from_residual.result c.from_residual.ensures.1 in
    let place : c.len-number.result + 1 ≡ length (names_of names.items) + 1 = omega (arith, c.len-number.ensures, names.ok.0, names_length names.items) in
    rw (p.1, p.2) (names_fault c.args.text.now c.loop-rest.rest.now c.in-Some.line.now c.in-Some.after.now (names_of names.items) (c.len-number.result + 1) c.in_err-name.field-0.0 c.loop-rest.invariant.read c.loop-rest.invariant.new place
    c.in-Some.ensures.some.0 c.in-Some.ensures.some.1 (rw c.as_slice.ensures.value at c.in_err-name.ensures.fault))

pub loop-rest-preserved : goal.loop-rest-preserved
loop-rest-preserved g c =
    let names = c.loop-rest.names in
    let gives : Gives (names_of names.items) c.in-Some.line.now c.in_ok-text.text.items c.in_ok-name.address =
    rw c.in_ok-text.ensures.items (rw c.as_slice.ensures.value at c.in_ok-name.ensures.name) in
    let both = name_read c.args.text.now c.loop-rest.rest.now c.in-Some.line.now c.in-Some.after.now names.items c.push.new.self.items _ c.loop-rest.invariant.read c.loop-rest.invariant.new c.in-Some.ensures.some.0 gives
    c.in_ok-push.ensures.items in
    record { read = both.0; new = both.1 }

pub loop-rest-smaller : goal.loop-rest-smaller
loop-rest-smaller g c = grind (arith, common_steps)

pub returns-clause-read : goal.returns-clause-read
returns-clause-read g c = grind (arith, common_steps)

pub returns-in_default-clause-fault : goal.returns-in_default-clause-fault
returns-in_default-clause-fault g c = grind (arith, common_steps)
