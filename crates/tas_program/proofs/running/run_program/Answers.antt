use Rattle.std.proofs.Common.{map, string_bytes, subst}
use Rattle.tas_words.specs.Invocations.{IsInvocation}
use Rattle.tas_program.proofs.ProgramLemmas.{asked_by, no_task_asked_by}
use Rattle.tas_program.proofs.running.run_program.Goals as goal

pub returns-in-Ok : goal.returns-in-Ok
returns-in-Ok g c =
    let invocation = c.read_invocation-invocation.result in
    let asks = subst (λ words. IsInvocation (map string_bytes words) invocation) c.as_slice.ensures.value c.read_invocation-invocation.ensures in
    (invocation, asked_by _ _ _ c.in-Ok.ensures.words asks, c.carry_out.ensures)

pub returns-in-Err : goal.returns-in-Err
returns-in-Err g c = (c.in-Err.invocation, no_task_asked_by _ _ c.in-Err.ensures.none, c.carry_out-in-Err.ensures)
