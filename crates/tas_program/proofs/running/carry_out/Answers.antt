use Rattle.std.proofs.Common.{arith}
use Rattle.std.proofs.lemmas.Grind.{common_steps}
use Rattle.tas_program.proofs.ProgramLemmas.{task_ends}
use Rattle.tas_program.proofs.running.carry_out.Goals as goal

pub returns-in-Do : goal.returns-in-Do
returns-in-Do g c = rw (c.in-Do.is, c.report.ensures, c.streams.view_is) (task_ends _ _ _ _ _ _ c.run_task-end.ensures)

pub returns-in-Show : goal.returns-in-Show
returns-in-Show g c = grind (arith, common_steps)
