use Rattle.std.proofs.Common.{sym, ◌∙◌, arith}
use Rattle.tas_movie.proofs.RunTextLemmas.{run_too_many, run_wrong, run_repeated, run_over, run_right}
use Rattle.tas_movie.proofs.run_reading.next_run.Goals as goal

pub returns-then-before-ge-MAX_FRAMES-clause-fault : goal.returns-then-before-ge-MAX_FRAMES-clause-fault
returns-then-before-ge-MAX_FRAMES-clause-fault c = run_too_many c.args.before.now c.args.line.now (omega arith)

pub returns-in_default-clause-fault : goal.returns-in_default-clause-fault
returns-in_default-clause-fault c = run_wrong c.args.before.now c.args.line.now (omega arith) c.in_default.ensures.none

pub returns-then-is_repeated-clause-fault : goal.returns-then-is_repeated-clause-fault
returns-then-is_repeated-clause-fault c = run_repeated c.args.before.now c.args.line.now c.in-Some.run' (omega arith) c.in-Some.ensures.some (sym c.is_repeated.ensures ∙ c.if-is_repeated.true)

pub returns-then-run-room-clause-fault : goal.returns-then-run-room-clause-fault
returns-then-run-room-clause-fault c =
    run_over c.args.before.now c.args.line.now c.in-Some.run' (omega arith) c.in-Some.ensures.some (sym c.is_repeated.ensures ∙ c.if-is_repeated.false) (omega arith)

pub returns-clause-fault : goal.returns-clause-fault
returns-clause-fault c =
    run_right c.args.before.now c.args.line.now c.in-Some.run' c.in-Some.ensures.some (sym c.is_repeated.ensures ∙ c.if-is_repeated.false) (omega arith)
