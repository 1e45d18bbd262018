use Rattle.std.proofs.lemmas.Grind.{common_steps}
use Rattle.std.proofs.Common.{◌++◌, take, arith, length-take}
use Rattle.std.proofs.KnownBytes.{Consumes-trans}
use Rattle.tas_engines.proofs.ReadLengths.{length-append_take, length-append_take-le}
use Rattle.tas_engines.proofs.reading.read_input.Goals as goal

pub returns-then-n-left-clause-fault : goal.returns-then-n-left-clause-fault
returns-then-n-left-clause-fault g c =
    let before = c.loop-bytes.invariant in
    (c.loop-bytes.bytes.items ++ take c.in-Some.n c.read_some.new.buffer, Consumes-trans _ _ _ _ _ before.bytes c.in-Some.ensures.bytes, length-append_take _ c.read_some.new.buffer _ _ c.in-Some.ensures.bound (omega (arith, c.loop-bytes.bytes.ok.0)))

pub returns-then-is_err-clause-fault : goal.returns-then-is_err-clause-fault
returns-then-is_err-clause-fault g c =
    let before = c.loop-bytes.invariant in
    (c.loop-bytes.bytes.items ++ take c.in-Some.n c.read_some.new.buffer, Consumes-trans _ _ _ _ _ before.bytes c.in-Some.ensures.bytes, length-append_take-le _ c.read_some.new.buffer _ _ c.in-Some.ensures.bound (omega (arith, c.loop-bytes.bytes.ok.0, c.in-Some.ensures.bound, c.in-Some.ensures.len, length-take c.min-most.result c.loop-bytes.buffer)))

pub slice_bounds-extend_from_slice-end : goal.slice_bounds-extend_from_slice-end
slice_bounds-extend_from_slice-end g c = grind (arith, common_steps)

pub loop-bytes-preserved : goal.loop-bytes-preserved
loop-bytes-preserved g c = grind (arith, common_steps)

pub returns-in-Some-eq0-clause-whole : goal.returns-in-Some-eq0-clause-whole
returns-in-Some-eq0-clause-whole g c = grind (arith, common_steps)

pub loop-bytes-smaller : goal.loop-bytes-smaller
loop-bytes-smaller g c = grind (arith, common_steps)

pub returns-in-None-clause-fault : goal.returns-in-None-clause-fault
returns-in-None-clause-fault g c = grind (arith, common_steps)
