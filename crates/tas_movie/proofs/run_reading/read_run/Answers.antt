use Rattle.std.proofs.Common.{arith}
use Rattle.tas_movie.proofs.RunLemmas.{none_some}
use Rattle.tas_movie.proofs.RunTextLemmas.{run_made, run_parts, run_length-ge}
use Rattle.tas_movie.proofs.run_reading.read_run.Goals as goal

pub returns-then-line-lt-FRAME_TEXT_SIZE-clause-none : goal.returns-then-line-lt-FRAME_TEXT_SIZE-clause-none
returns-then-line-lt-FRAME_TEXT_SIZE-clause-none c = λ run said. let long = run_length-ge c.args.line.now run said.0 in omega (arith, long)

pub returns-in_err-input-clause-none : goal.returns-in_err-input-clause-none
returns-in_err-input-clause-none c = rw c.from_residual.ensures (λ run said.
    let parts = run_parts c.args.line.now c.split_at.result.0.now c.split_at.result.1.now run c.split_at.ensures.front c.split_at.ensures.back said.0 in
    none_some run.input (c.in_err-input.ensures.all run.input parts.0))

pub returns-in_err-count-clause-none : goal.returns-in_err-count-clause-none
returns-in_err-count-clause-none c = rw c.from_residual-in_err-count.ensures (λ run said.
    let parts = run_parts c.args.line.now c.split_at.result.0.now c.split_at.result.1.now run c.split_at.ensures.front c.split_at.ensures.back said.0 in
    c.in_err-count.ensures.none run.count said.1 said.2 parts.1)

pub returns-clause-some : goal.returns-clause-some
returns-clause-some c = (
  run_made c.args.line.now c.split_at.result.0.now c.split_at.result.1.now c.in_ok-input.input c.in_ok-count.count c.split_at.ensures.front c.split_at.ensures.back c.in_ok-input.ensures.some c.in_ok-count.ensures.some.0,
  c.in_ok-count.ensures.some.1,
  c.in_ok-count.ensures.some.2,
)
