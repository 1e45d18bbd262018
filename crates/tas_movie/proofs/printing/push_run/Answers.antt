use Rattle.std.proofs.Common.{ap, List, ℕ, length, arith}
use Rattle.tas_movie.specs.Text.{count_text}
use Rattle.byte_text.proofs.Sendings.{pushed_length}
use Rattle.tas_movie.proofs.PrintLemmas.{run_line_length, pushed_run}
use Rattle.tas_movie.proofs.printing.push_run.Goals as goal

pub push-requires : goal.push-requires
push-requires c =
    let frame = ap (λ (l : List ℕ). length l) c.print_frame.ensures in
    omega (arith, frame, c.requires.room)

pub push_count-requires-clause-room : goal.push_count-requires-clause-room
push_count-requires-clause-room c =
    let frame = ap (λ (l : List ℕ). length l) c.print_frame.ensures in
    let grown = pushed_length c.args.out.now c.push.new.self c.print_frame.result c.push.ensures in
    omega (arith, frame, grown, c.requires.room)

pub push-requires-2 : goal.push-requires-2
push-requires-2 c =
    let frame = ap (λ (l : List ℕ). length l) c.print_frame.ensures in
    let grown = pushed_length c.args.out.now c.push.new.self c.print_frame.result c.push.ensures in
    let counted = pushed_length c.push.new.self c.push_count.new.out (count_text c.args.run.count) c.push_count.ensures.waits in
    omega (arith, frame, grown, counted, c.push_count.ensures.short, c.requires.room)

pub returns-clause-waits : goal.returns-clause-waits
returns-clause-waits c =
    pushed_run c.args.out.now c.push.new.self c.push_count.new.out c.push-2.new.self c.print_frame.result c.args.run c.print_frame.ensures c.push.ensures c.push_count.ensures.waits c.push-2.ensures

pub returns-clause-short : goal.returns-clause-short
returns-clause-short c = run_line_length c.args.run c.requires.few
